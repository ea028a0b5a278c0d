-- The front of a text is within the text.
use Rattle.std.proofs.Common.{◌≡◌, ℕ, ◌+◌, ◌<◌, ◌≤◌, Bool, true, false, not, cond, eqb, List, [], ◌∷◌, length, take}
use Rattle.std.proofs.Common.{drop, Option, Some, None, refl, sym, ap, arith, ◌++◌}
use Rattle.std.proofs.Math.ListN.{length-take, length-append}
use Rattle.std.specs.Prelude.{nat_lt, nat_eq, IfSome, IfOk, Result, Ok, Err}
use Rattle.std.specs.declared.alloc.AllocError.{AllocError}
use Rattle.std.specs.List.{list_all, prefix_len, starts_with}
use Rattle.std.proofs.lemmas.Bool.{ltb-true, and_parts}
use Rattle.std.proofs.lemmas.Bool.Decides.{Decides-eqb}
use Rattle.std.proofs.lemmas.Slice.Eq.{starts_is}
use Rattle.std.proofs.lemmas.List.Sums.{prefix_len-le-length}
use Rattle.st_lex.specs.declared.fault.LexFault.{LexFault}
use Rattle.st_lex.specs.declared.fault.LexFault.TheVariants as faults
use Rattle.st_lex.specs.declared.keyword.Keyword.TheVariants as k
use Rattle.st_lex.specs.declared.token.TokenKind.{TokenKind}
use Rattle.st_lex.specs.declared.token.TokenKind.TheVariants as kinds
use Rattle.st_lex.specs.declared.mark.Mark.{Mark}
use Rattle.st_lex.specs.declared.front.Front.{Front}
use Rattle.st_lex.specs.declared.front.Front.TheVariants as fronts
use Rattle.st_lex.specs.Characters.{begins, is_word_character, is_allowed, is_space}
use Rattle.st_lex.specs.Comments.{before, to_close, to_open, comment_front}
use Rattle.st_lex.specs.Words.{word_length, word_front, read_as, with_percent, must_be_literal, identifier, literal_of}
use Rattle.st_lex.specs.Marks.{leading, marks, longest_mark, read_mark, mark_front}
use Rattle.st_lex.specs.Fronts.{IsWithin, front_of}

-- a property of a front by one test, and by three
pub by_test : (P : Front → Type 0) (p : Bool) (a b : Front) → (p ≡ true → P a) → (p ≡ false → P b) → P (cond p a b)
by_test P true a b = λ yes no. yes refl
by_test P false a b = λ yes no. no refl

pub by_tests : (P : Front → Type 0) (p q r : Bool) (a b c d : Front) → (p ≡ true → P a) → (p ≡ false → q ≡ true → P b)
    → (p ≡ false → q ≡ false → r ≡ true → P c) → (p ≡ false → q ≡ false → r ≡ false → P d)
    → P (cond p a (cond q b (cond r c d)))
by_tests P p q r a b c d = λ f g h i. by_test P p a (cond q b (cond r c d)) f
    (λ x. by_test P q b (cond r c d) (g x) (λ y. by_test P r c d (h x y) (i x y)))

pub before_bound : (x y : ℕ) (text : List ℕ) → before x y text ≤ length text
before_bound x y [] = omega arith
before_bound x y (b ∷ bs) = elim (begins x y (b ∷ bs)) as (λ t. cond t 0 (before x y bs + 1) ≤ length (b ∷ bs)) [
  | true ↦ omega arith
  | false ↦ let e = before_bound x y bs in omega arith
]

pub before_found : (x y : ℕ) (text : List ℕ) → before x y text < length text → before x y text + 2 ≤ length text
before_found x y [] = λ h. absurd (omega arith)
before_found x y (b ∷ []) = λ h. absurd (omega arith)
before_found x y (b ∷ c ∷ bs) = elim (begins x y (b ∷ c ∷ bs)) as (λ t. cond t 0 (before x y (c ∷ bs) + 1)
    < length (b ∷ c ∷ bs) → cond t 0 (before x y (c ∷ bs) + 1) + 2 ≤ length (b ∷ c ∷ bs)) [
      | true ↦ λ h. omega arith
      | false ↦
          λ h. let e : before x y (c ∷ bs) + 2 ≤ length (c ∷ bs) = before_found x y (c ∷ bs) (omega arith) in
          omega arith
    ]

comment_within : (inside : List ℕ) (n : ℕ) → n ≡ length inside + 2 → IsWithin n (comment_front inside)
unfolding comment_front
comment_within inside n e =
    let bound : to_close inside ≤ length inside = before_bound 42 41 inside in
    by_tests (IsWithin n) (not (list_all is_allowed (take (to_close inside) inside)))
    (nat_lt (to_open inside) (to_close inside)) (nat_lt (to_close inside) (length inside))
    (fronts.Fault faults.Byte 0) (fronts.Fault faults.Comment (2 + to_open inside))
    (fronts.Blank (2 + to_close inside + 2)) (fronts.Fault faults.Comment 0)
    (λ _. omega arith)
    (λ _ h. let before_it = ltb-true (to_open inside) (to_close inside) h in omega arith)
    (λ _ _ h. let found = before_found 42 41 inside (ltb-true (to_close inside) (length inside) h) in
    (omega arith, omega arith))
    (λ _ _ _. omega arith)

read_within : (fault : LexFault) (n m : ℕ) (kind : Option TokenKind) → 0 < n → n ≤ m → IsWithin m (read_as fault n kind)
read_within fault n m None = λ some le. omega arith
read_within fault n m (Some kind) = λ some le. (some, le)

word_within : (word : List ℕ) (m : ℕ) → 0 < length word → length word ≤ m → IsWithin m (word_front word)
unfolding word_front
word_within word m some le = by_test (IsWithin m) (must_be_literal word)
    (read_as faults.Literal (length word) (literal_of word)) (read_as faults.Identifier (length word) (identifier word))
    (λ _. read_within faults.Literal (length word) m (literal_of word) some le)
    (λ _. read_within faults.Identifier (length word) m (identifier word) some le)

with_percent_bound : (n m : ℕ) → n ≤ m → with_percent n ≤ m + 1
with_percent_bound n m le = elim (eqb n 0) as (λ t. cond t 0 (n + 1) ≤ m + 1) [
  | true ↦ omega arith
  | false ↦ omega arith
]

pub word_length_bound : (text : List ℕ) → word_length text ≤ length text
word_length_bound [] = omega arith
word_length_bound (b ∷ bs) = elim (eqb b 37) as (λ t.
    cond t (with_percent (prefix_len is_word_character bs)) (prefix_len is_word_character (b ∷ bs)) ≤ length (b ∷ bs)) [
      | true ↦ let e = with_percent_bound _ _ (prefix_len-le-length is_word_character bs) in omega arith
      | false ↦ prefix_len-le-length is_word_character (b ∷ bs)
    ]

pub starts : (word text : List ℕ) → starts_with nat_eq text word ≡ true → text ≡ word ++ drop (length word) text
starts word text h = (starts_is Decides-eqb text word true (sym h)).0 refl

-- a text that starts with a word is as long
starts_within : (word text : List ℕ) → starts_with nat_eq text word ≡ true → length word ≤ length text
starts_within word text h =
    let e = starts word text h in
    let f : length text ≡ length (word ++ drop (length word) text) = ap length e in
    omega (arith, f, length-append word (drop (length word) text))

abbrev pub HasLength : ℕ → Option (Mark × ℕ) → Type 0
HasLength n found = IfSome found (λ f. (0 < f.1) × (f.1 ≤ n))

has_length : (n : ℕ) (test : Bool) (a b : Option (Mark × ℕ)) → (test ≡ true → HasLength n a) → HasLength n b
    → HasLength n (cond test a b)
has_length n true a b = λ yes no. yes refl
has_length n false a b = λ yes no. no

leading_within : (rows : List (List ℕ × Mark)) (text : List ℕ) → list_all (λ row. nat_lt 0 (length row.0)) rows ≡ true
    → HasLength (length text) (leading rows text)
leading_within [] text = λ h. tt
leading_within (row ∷ rows) text =
    λ h. let parts = and_parts (nat_lt 0 (length row.0)) (list_all (λ row. nat_lt 0 (length row.0)) rows) h in
    has_length (length text) (starts_with nat_eq text row.0) (Some (row.1, length row.0)) (leading rows text)
    (λ e. (ltb-true 0 (length row.0) parts.0, starts_within row.0 text e)) (leading_within rows text parts.1)

marks_within : (text : List ℕ) → HasLength (length text) (longest_mark text)
unfolding longest_mark
marks_within text = leading_within marks text refl

read_mark_within : (n : ℕ) (found : Option (Mark × ℕ)) → 0 < n → HasLength n found → IsWithin n (read_mark found)
read_mark_within n None = λ some h. some
read_mark_within n (Some f) = λ some h. h

mark_within : (b : ℕ) (bs : List ℕ) → IsWithin (length (b ∷ bs)) (mark_front (b ∷ bs))
mark_within b bs = by_test (IsWithin (length (b ∷ bs))) (eqb b 38) (fronts.Token (kinds.Keyword k.And) 1)
    (read_mark (longest_mark (b ∷ bs)))
    (λ _. (omega arith, omega arith))
    (λ _. read_mark_within (length (b ∷ bs)) (longest_mark (b ∷ bs)) (omega arith) (marks_within (b ∷ bs)))

opened : (b : ℕ) (bs : List ℕ) → begins 40 42 (b ∷ bs) ≡ true
    → IsWithin (length (b ∷ bs)) (comment_front (drop 2 (b ∷ bs)))
opened b [] = λ h. absurd (cc)
opened b (c ∷ bs) = λ h. comment_within bs (length (b ∷ c ∷ bs)) (omega arith)

worded : (text : List ℕ) → 0 < word_length text → IsWithin (length text) (word_front (take (word_length text) text))
worded text h = let le = word_length_bound text in let e = length-take (word_length text) text in
    word_within (take (word_length text) text) (length text) (omega (arith, e)) (omega (arith, e))

pub front_within : (text : List ℕ) → IsWithin (length text) (front_of text)
unfolding front_of
front_within [] = tt
front_within (b ∷ bs) =
    by_tests (IsWithin (length (b ∷ bs))) (is_space b) (begins 40 42 (b ∷ bs)) (nat_lt 0 (word_length (b ∷ bs)))
    (fronts.Blank 1) (comment_front (drop 2 (b ∷ bs))) (word_front (take (word_length (b ∷ bs)) (b ∷ bs)))
    (mark_front (b ∷ bs))
    (λ _. (omega arith, omega arith)) (λ _ h. opened b bs h)
    (λ _ _ h. worded (b ∷ bs) (ltb-true 0 (word_length (b ∷ bs)) h)) (λ _ _ _. mark_within b bs)

pub ok_within : (text : List ℕ) (r : Result Front AllocError) → IfOk r (λ front. front ≡ front_of text)
    → IfOk r (λ front. IsWithin (length text) front)
ok_within text (Ok front) e = rw e (front_within text)
ok_within text (Err x) e = tt
