-- The front of a text is the same for its own bytes alone, and no word goes on after it.
use Rattle.std.proofs.Common.{◌≡◌, ℕ, ◌+◌, ◌-◌, ◌<◌, Bool, true, false, not, cond, eqb, List, [], ◌∷◌, ◌&&◌, length}
use Rattle.std.proofs.Common.{take, drop, Option, Some, None, refl, sym, ap, subst, zero, suc, ◌∙◌, arith, inl, inr}
use Rattle.std.specs.Prelude.{nat_lt, nat_eq, IfSome, slice_index}
use Rattle.std.specs.List.{list_all, prefix_len, starts_with}
use Rattle.std.proofs.lemmas.Bool.{lt-ltb, ltb-true, eqb-true, ne_eqb, cases_eq, cases_lt, and_parts}
use Rattle.std.proofs.lemmas.List.{get_or_past, get_or-take, length-take-le}
use Rattle.std.proofs.Math.ListN.{get_or-append}
use Rattle.std.proofs.Math.Seq.{take-append_seam, take-length}
use Rattle.std.proofs.lemmas.List.Sums.{prefix_len-le-length, prefix_len_stops, prefix_len_passes, prefix_len_is}
use Rattle.st_lex.specs.declared.fault.LexFault.{LexFault}
use Rattle.st_lex.specs.declared.fault.LexFault.TheVariants as faults
use Rattle.st_lex.specs.declared.keyword.Keyword.TheVariants as k
use Rattle.st_lex.specs.declared.token.TokenKind.{TokenKind}
use Rattle.st_lex.specs.declared.token.TokenKind.TheVariants as kinds
use Rattle.st_lex.specs.declared.mark.Mark.{Mark}
use Rattle.st_lex.specs.declared.front.Front.{Front}
use Rattle.st_lex.specs.declared.front.Front.TheVariants as fronts
use Rattle.st_lex.specs.Characters.{begins, is_word_character, is_allowed, is_space}
use Rattle.st_lex.specs.Comments.{before, to_close, to_open, comment_front}
use Rattle.st_lex.specs.Words.{word_length, word_front, read_as, with_percent, must_be_literal, identifier, literal_of}
use Rattle.st_lex.specs.Marks.{leading, marks, longest_mark, read_mark, mark_front}
use Rattle.st_lex.specs.Fronts.{front_of}
use Rattle.st_lex.proofs.Within.{by_test, by_tests, starts, word_length_bound}

abbrev pub IsCut : List ℕ → ℕ → Type 0
IsCut text n = is_word_character (slice_index text (n - 1)) && is_word_character (slice_index text n) ≡ false

abbrev pub IsSound : List ℕ → Front → Type 0
IsSound text fronts.End = Unit {0}
IsSound text (fronts.Blank n) = IsCut text n
IsSound text (fronts.Token kind n) = IsCut text n × (front_of (take n text) ≡ fronts.Token kind n)
IsSound text (fronts.Fault fault n) = Unit {0}

cut_before : (text : List ℕ) (n : ℕ) → is_word_character (slice_index text (n - 1)) ≡ false → IsCut text n
cut_before text n e = rw e refl

cut_behind : (text : List ℕ) (n : ℕ) → is_word_character (slice_index text n) ≡ false → IsCut text n
cut_behind text n e =
    elim (is_word_character (slice_index text (n - 1))) as (λ x. x && is_word_character (slice_index text n) ≡ false) [
      | true ↦ e
      | false ↦ refl
    ]

-- spaces

space_parts : (b : ℕ) → is_space b ≡ true → is_word_character b ≡ false
space_parts b h = elim (cases_eq b 32) [
  | inl e ↦ rw e refl
  | inr n1 ↦ elim (cases_eq b 9) [
    | inl e ↦ rw e refl
    | inr n2 ↦ elim (cases_eq b 10) [
      | inl e ↦ rw e refl
      | inr n3 ↦ elim (cases_eq b 13) [
        | inl e ↦ rw e refl
        | inr n4 ↦ let e : false ≡ true = rw (ne_eqb b 32 n1, ne_eqb b 9 n2, ne_eqb b 10 n3, ne_eqb b 13 n4) at h in
            absurd (cc)
      ]
    ]
  ]
]

-- comments

reads_step : (b c y m : ℕ) (bs : List ℕ) (t : Bool) → (t ≡ true → c ≡ y)
    → (m < length (c ∷ bs) → slice_index (c ∷ bs) (m + 1) ≡ y)
    → cond t 0 (m + 1) < length (b ∷ c ∷ bs) → slice_index (b ∷ c ∷ bs) (cond t 0 (m + 1) + 1) ≡ y
reads_step b c y m bs true = λ here there h. here refl
reads_step b c y m bs false =
    λ here there h. let e : m + 1 + 1 ≡ suc (m + 1) = omega arith in rw e (there (omega arith))

before_reads : (x y : ℕ) (text : List ℕ) → before x y text < length text → slice_index text (before x y text + 1) ≡ y
before_reads x y [] = λ h. absurd (omega arith)
before_reads x y (b ∷ []) = λ h. absurd (omega arith)
before_reads x y (b ∷ c ∷ bs) = reads_step b c y (before x y (c ∷ bs)) bs (begins x y (b ∷ c ∷ bs))
    (λ e. eqb-true c y (and_parts (eqb b x) (eqb c y) e).1) (before_reads x y (c ∷ bs))

comment_sound : (b c : ℕ) (inside : List ℕ) → IsSound (b ∷ c ∷ inside) (comment_front inside)
unfolding comment_front
comment_sound b c inside =
    by_tests (IsSound (b ∷ c ∷ inside)) (not (list_all is_allowed (take (to_close inside) inside)))
    (nat_lt (to_open inside) (to_close inside)) (nat_lt (to_close inside) (length inside))
    (fronts.Fault faults.Byte 0) (fronts.Fault faults.Comment (2 + to_open inside))
    (fronts.Blank (2 + to_close inside + 2)) (fronts.Fault faults.Comment 0)
    (λ _. tt) (λ _ _. tt)
    (λ _ _ h. let e = before_reads 42 41 inside (ltb-true (to_close inside) (length inside) h) in
    let i : 2 + to_close inside + 2 - 1 ≡ suc (suc (to_close inside + 1)) = omega arith in
    let f : slice_index (b ∷ c ∷ inside) (2 + to_close inside + 2 - 1) ≡ 41 = rw i e in
    cut_before (b ∷ c ∷ inside) (2 + to_close inside + 2) (ap is_word_character f))
    (λ _ _ _. tt)

-- words

abbrev pub run : List ℕ → ℕ
run text = prefix_len is_word_character text

run_again : (text : List ℕ) → run (take (run text) text) ≡ run text
run_again text =
    let len = length-take-le (run text) text (prefix_len-le-length is_word_character text) in
    prefix_len_is is_word_character (take (run text) text) (run text) 0 (omega (arith, len))
    (λ i h. rw (get_or-take (run text) text i 0 h) (prefix_len_passes is_word_character text i 0 h))
    (λ h. absurd (omega (arith, len)))

run_stops : (text : List ℕ) → is_word_character (slice_index text (run text)) ≡ false
run_stops text = elim (cases_lt (run text) (length text)) [
  | inl lt ↦ prefix_len_stops is_word_character text 0 lt
  | inr le ↦ rw (get_or_past text (run text) 0 le) refl
]

percent_some : (m : ℕ) → (m ≡ 0 → ⊥) → with_percent m ≡ suc m
percent_some m n = rw (ne_eqb m 0 n) (omega arith)

percent_again : (bs : List ℕ) → word_length (take (word_length (37 ∷ bs)) (37 ∷ bs)) ≡ word_length (37 ∷ bs)
percent_again bs = elim (cases_eq (run bs) 0) [
  | inl z ↦ let w : with_percent (run bs) ≡ 0 = rw z refl in
      let e : word_length (take (with_percent (run bs)) (37 ∷ bs)) ≡ with_percent (run bs) = rw w refl in e
  | inr n ↦ let w = percent_some (run bs) n in
      let f : with_percent (run (take (run bs) bs)) ≡ suc (run bs) = rw (run_again bs) w in
      let e : word_length (take (with_percent (run bs)) (37 ∷ bs)) ≡ with_percent (run bs) = rw w f in e
]

plain : (b : ℕ) (bs : List ℕ) (n : ℕ) → eqb b 37 ≡ false → word_length (take n (b ∷ bs)) ≡ run (take n (b ∷ bs))
plain b bs zero e = refl
plain b bs (suc n) e = rw e refl

plain_length : (b : ℕ) (bs : List ℕ) → eqb b 37 ≡ false → word_length (b ∷ bs) ≡ run (b ∷ bs)
plain_length b bs e = rw e refl

word_again : (text : List ℕ) → word_length (take (word_length text) text) ≡ word_length text
word_again [] = refl
word_again (b ∷ bs) = elim (cases_eq b 37) [
  | inl e ↦ subst (λ x. word_length (take (word_length (x ∷ bs)) (x ∷ bs)) ≡ word_length (x ∷ bs)) (sym e)
      (percent_again bs)
  | inr n ↦ let e = plain_length b bs (ne_eqb b 37 n) in
      let f : word_length (take (run (b ∷ bs)) (b ∷ bs)) ≡ run (b ∷ bs) = plain b bs (run (b ∷ bs)) (ne_eqb b 37 n)
      ∙ run_again (b ∷ bs) in
      subst (λ m. word_length (take m (b ∷ bs)) ≡ m) (sym e) f
]

percent_cut : (bs : List ℕ) → 0 < word_length (37 ∷ bs)
    → is_word_character (slice_index (37 ∷ bs) (word_length (37 ∷ bs))) ≡ false
percent_cut bs = elim (cases_eq (run bs) 0) [
  | inl z ↦ λ h. let w : with_percent (run bs) ≡ 0 = rw z refl in let k : 0 < with_percent (run bs) = h in
      absurd (omega (arith, w))
  | inr n ↦ λ h.
      subst (λ m. is_word_character (slice_index (37 ∷ bs) m) ≡ false) (sym (percent_some (run bs) n)) (run_stops bs)
]

word_cut : (text : List ℕ) → 0 < word_length text → IsCut text (word_length text)
word_cut [] h = absurd (omega arith)
word_cut (b ∷ bs) h = cut_behind (b ∷ bs) (word_length (b ∷ bs)) (elim (cases_eq b 37) [
  | inl e ↦ subst
      (λ x. 0 < word_length (x ∷ bs) → is_word_character (slice_index (x ∷ bs) (word_length (x ∷ bs))) ≡ false) (sym e)
      (percent_cut bs) h
  | inr n ↦ subst (λ m. is_word_character (slice_index (b ∷ bs) m) ≡ false) (sym (plain_length b bs (ne_eqb b 37 n)))
      (run_stops (b ∷ bs))
])

no_star : (bs : List ℕ) → 0 < word_length (40 ∷ bs) → ⊥
no_star bs h = let e : 0 < 0 = h in omega arith

no_parenthesis : (b : ℕ) (bs : List ℕ) → 0 < word_length (b ∷ bs) → eqb b 40 ≡ false
no_parenthesis b bs h = elim (cases_eq b 40) [
  | inl e ↦ absurd (subst (λ x. 0 < word_length (x ∷ bs) → ⊥) (sym e) (no_star bs) h)
  | inr n ↦ ne_eqb b 40 n
]

no_opening : (b : ℕ) (bs : List ℕ) → eqb b 40 ≡ false → begins 40 42 (b ∷ bs) ≡ false
no_opening b [] = λ h. refl
no_opening b (c ∷ bs) = λ h. rw h refl

third : (p q r : Bool) (a b c d : Front) → p ≡ false → q ≡ false → r ≡ true → cond p a (cond q b (cond r c d)) ≡ c
third p q r a b c d e f g = rw (e, f, g) refl

word_alone : (b : ℕ) (bs : List ℕ) → is_space b ≡ false → 0 < word_length (b ∷ bs)
    → word_length (b ∷ bs) ≡ length (b ∷ bs) → front_of (b ∷ bs) ≡ word_front (b ∷ bs)
unfolding front_of
word_alone b bs e h w =
    let whole : take (word_length (b ∷ bs)) (b ∷ bs) ≡ b ∷ bs = ap (λ n. take n (b ∷ bs)) w ∙ take-length (b ∷ bs) in
    third (is_space b) (begins 40 42 (b ∷ bs)) (nat_lt 0 (word_length (b ∷ bs))) (fronts.Blank 1)
    (comment_front (drop 2 (b ∷ bs))) (word_front (take (word_length (b ∷ bs)) (b ∷ bs))) (mark_front (b ∷ bs))
    e (no_opening b bs (no_parenthesis b bs h)) (lt-ltb 0 (word_length (b ∷ bs)) h) ∙ ap word_front whole

taken_alone : (b : ℕ) (bs : List ℕ) (n : ℕ) → 0 < n → is_space b ≡ false → word_length (take n (b ∷ bs)) ≡ n
    → length (take n (b ∷ bs)) ≡ n → front_of (take n (b ∷ bs)) ≡ word_front (take n (b ∷ bs))
taken_alone b bs zero h e w l = absurd (omega arith)
taken_alone b bs (suc n) h e w l =
    word_alone b (take n bs) e (let k : word_length (b ∷ take n bs) ≡ suc n = w in omega (arith, k)) (w ∙ sym l)

read_sound : (text : List ℕ) (n : ℕ) (fault : LexFault) (kind : Option TokenKind) → IsCut text n
    → front_of (take n text) ≡ read_as fault n kind → IsSound text (read_as fault n kind)
read_sound text n fault None = λ cut e. tt
read_sound text n fault (Some kind) = λ cut e. (cut, e)

either_sound : (text : List ℕ) (f : Front) (test : Bool) (a b : Front) → (f ≡ a → IsSound text a)
    → (f ≡ b → IsSound text b) → f ≡ cond test a b → IsSound text (cond test a b)
either_sound text f true a b = λ yes no e. yes e
either_sound text f false a b = λ yes no e. no e

word_sound : (text word : List ℕ) → IsCut text (length word) → front_of (take (length word) text) ≡ word_front word
    → IsSound text (word_front word)
unfolding word_front
word_sound text word cut e = either_sound text (front_of (take (length word) text)) (must_be_literal word)
    (read_as faults.Literal (length word) (literal_of word)) (read_as faults.Identifier (length word) (identifier word))
    (read_sound text (length word) faults.Literal (literal_of word) cut)
    (read_sound text (length word) faults.Identifier (identifier word) cut) e

worded : (b : ℕ) (bs : List ℕ) → is_space b ≡ false → 0 < word_length (b ∷ bs)
    → IsSound (b ∷ bs) (word_front (take (word_length (b ∷ bs)) (b ∷ bs)))
worded b bs e h =
    let n = word_length (b ∷ bs) in
    let len : length (take n (b ∷ bs)) ≡ n = length-take-le n (b ∷ bs) (word_length_bound (b ∷ bs)) in
    let alone : front_of (take n (b ∷ bs)) ≡ word_front (take n (b ∷ bs)) =
    taken_alone b bs n h e (word_again (b ∷ bs)) len in
    word_sound (b ∷ bs) (take n (b ∷ bs)) (subst (IsCut (b ∷ bs)) (sym len) (word_cut (b ∷ bs) h))
    (ap (λ m. front_of (take m (b ∷ bs))) len ∙ alone)

-- marks

abbrev pub EachRow : (List ℕ × Mark → Type 0) → List (List ℕ × Mark) → Type 0
EachRow P [] = Unit {0}
EachRow P (row ∷ rows) = P row × EachRow P rows

-- a mark alone is read as itself, and it doesn't end like a word
abbrev pub IsMark : List ℕ × Mark → Type 0
IsMark row = (front_of row.0 ≡ fronts.Token (kinds.Mark row.1) (length row.0))
    × (is_word_character (slice_index row.0 (length row.0 - 1)) ≡ false) × (0 < length row.0)

marks_are : EachRow IsMark marks
unfolding front_of longest_mark
marks_are = (
  (refl, refl, omega arith),
  (
    (refl, refl, omega arith),
    (
      (refl, refl, omega arith),
      (
        (refl, refl, omega arith),
        (
          (refl, refl, omega arith),
          (
            (refl, refl, omega arith),
            (
              (refl, refl, omega arith),
              (
                (refl, refl, omega arith),
                (
                  (refl, refl, omega arith),
                  (
                    (refl, refl, omega arith),
                    (
                      (refl, refl, omega arith),
                      (
                        (refl, refl, omega arith),
                        (
                          (refl, refl, omega arith),
                          (
                            (refl, refl, omega arith),
                            (
                              (refl, refl, omega arith),
                              (
                                (refl, refl, omega arith),
                                (
                                  (refl, refl, omega arith),
                                  (
                                    (refl, refl, omega arith),
                                    (
                                      (refl, refl, omega arith),
                                      ((refl, refl, omega arith), ((refl, refl, omega arith), tt)),
                                    ),
                                  ),
                                ),
                              ),
                            ),
                          ),
                        ),
                      ),
                    ),
                  ),
                ),
              ),
            ),
          ),
        ),
      ),
    ),
  ),
)

abbrev pub IsReadAlone : List ℕ → Option (Mark × ℕ) → Type 0
IsReadAlone text found = IfSome found (λ f. IsSound text (fronts.Token (kinds.Mark f.0) f.1))

by_match : (text : List ℕ) (test : Bool) (a b : Option (Mark × ℕ)) → (test ≡ true → IsReadAlone text a)
    → IsReadAlone text b → IsReadAlone text (cond test a b)
by_match text true a b = λ yes no. yes refl
by_match text false a b = λ yes no. no

row_read : (row : List ℕ × Mark) (text : List ℕ) → IsMark row → starts_with nat_eq text row.0 ≡ true
    → IsSound text (fronts.Token (kinds.Mark row.1) (length row.0))
row_read row text m h =
    let e = starts row.0 text h in
    let f : take (length row.0) text ≡ row.0 = ap (take (length row.0)) e
    ∙ take-append_seam row.0 (drop (length row.0) text) in
    let g : slice_index text (length row.0 - 1) ≡ slice_index row.0 (length row.0 - 1) =
    ap (λ x. slice_index x (length row.0 - 1)) e
    ∙ get_or-append row.0 (drop (length row.0) text) 0 (length row.0 - 1) (omega (arith, m.2)) in
    (cut_before text (length row.0) (ap is_word_character g ∙ m.1), ap front_of f ∙ m.0)

rows_read : (rows : List (List ℕ × Mark)) (text : List ℕ) → EachRow IsMark rows → IsReadAlone text (leading rows text)
rows_read [] text = λ h. tt
rows_read (row ∷ rows) text = λ h. by_match text (starts_with nat_eq text row.0) (Some (row.1, length row.0))
    (leading rows text) (row_read row text h.0) (rows_read rows text h.1)

mark_read : (text : List ℕ) → IsReadAlone text (longest_mark text)
unfolding longest_mark
mark_read text = rows_read marks text marks_are

mark_sound : (text : List ℕ) (found : Option (Mark × ℕ)) → IsReadAlone text found → IsSound text (read_mark found)
mark_sound text None = λ h. tt
mark_sound text (Some f) = λ h. h

and_alone : front_of (38 ∷ []) ≡ fronts.Token (kinds.Keyword k.And) 1
unfolding front_of
and_alone = refl

and_sound : (b : ℕ) (bs : List ℕ) → b ≡ 38 → IsSound (b ∷ bs) (fronts.Token (kinds.Keyword k.And) 1)
and_sound b bs e = subst (λ x. IsSound (x ∷ bs) (fronts.Token (kinds.Keyword k.And) 1)) (sym e)
    (cut_before (38 ∷ bs) 1 refl, and_alone)

marked : (b : ℕ) (bs : List ℕ) → IsSound (b ∷ bs) (mark_front (b ∷ bs))
marked b bs =
    by_test (IsSound (b ∷ bs)) (eqb b 38) (fronts.Token (kinds.Keyword k.And) 1) (read_mark (longest_mark (b ∷ bs)))
    (λ h. and_sound b bs (eqb-true b 38 h)) (λ _. mark_sound (b ∷ bs) (longest_mark (b ∷ bs)) (mark_read (b ∷ bs)))

opened : (b : ℕ) (bs : List ℕ) → begins 40 42 (b ∷ bs) ≡ true → IsSound (b ∷ bs) (comment_front (drop 2 (b ∷ bs)))
opened b [] = λ h. absurd (cc)
opened b (c ∷ bs) = λ h. comment_sound b c bs

pub front_sound : (text : List ℕ) → IsSound text (front_of text)
unfolding front_of
front_sound [] = tt
front_sound (b ∷ bs) =
    by_tests (IsSound (b ∷ bs)) (is_space b) (begins 40 42 (b ∷ bs)) (nat_lt 0 (word_length (b ∷ bs)))
    (fronts.Blank 1) (comment_front (drop 2 (b ∷ bs))) (word_front (take (word_length (b ∷ bs)) (b ∷ bs)))
    (mark_front (b ∷ bs))
    (λ h. cut_before (b ∷ bs) 1 (space_parts b h)) (λ _ h. opened b bs h)
    (λ e _ h. worded b bs e (ltb-true 0 (word_length (b ∷ bs)) h)) (λ _ _ _. marked b bs)
