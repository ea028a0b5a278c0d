-- A line and its value that are read are those that were written, and those that were written can be read again.
use Rattle.std.proofs.Common.{◌≡◌, ℕ, zero, suc, ◌-◌, ◌^◌, ◌<◌, ◌≤◌, Bool, true, false, cond, List, [], ◌∷◌, ◌++◌}
use Rattle.std.proofs.Common.{length, map, Some, None, refl, sym, ap, subst, ◌∙◌, append_assoc, arith, inl, inr}
use Rattle.std.specs.Prelude.{◌==◌, ◌&&◌, ◌||◌, not, if◌then◌else◌, ℤ, pos, negsuc, bytes_eq, nat_le, Option}
use Rattle.std.specs.List.{find, list_all, flat_map, AllByRecursion}
use Rattle.std.specs.Int.{Width, w8, w16, w32, w64, byte_len, to_be_bytes, cast_signed, cast_unsigned}
use Rattle.std.proofs.lemmas.Bool.{and_parts, and_from, leb-true, le-leb, lt-ltb, ltb-true, ne_eqb, eqb-true, eq-eqb}
use Rattle.std.proofs.lemmas.Bool.{not-true, not_from_false}
use Rattle.std.proofs.lemmas.Bool.Decides.{nat_tests}
use Rattle.std.proofs.lemmas.Int.{to_z-of_z, of_z-to_z, ints}
use Rattle.std.proofs.Common.{lit<}
use Rattle.std.specs.Prelude.{int_le, int_lt, ◌<ℤ◌}
use lib.Signed.{mag}
use mir.Val.{bits, hbits}
use Rattle.std.proofs.lemmas.Slice.Eq.{bytes_eq-Decides}
use Rattle.std.proofs.lemmas.List.{length-append}
use Rattle.st_types.specs.declared.kind.Kind.{Kind}
use Rattle.st_types.specs.declared.kind.Kind.TheVariants.{Sint, Int, Dint, Lint, Usint, Uint, Udint, Ulint, Byte, Word}
use Rattle.st_types.specs.declared.kind.Kind.TheVariants.{Dword, Lword, Time, Bool as Boolean, Enumerated}
use Rattle.st_types.specs.Kinds.{row_of, holds, width_of}
use Rattle.st_types.specs.Values.{Datum, IsHeld}
use Rattle.retain_records.specs.Records.{Line, line_text, text_of, is_visible, is_path_text, has_keyword, IsLine}
use Rattle.st_types.specs.UpperNames.{is_upper_name, is_letter, joined}
use Rattle.retain_records.specs.Records.{SpellsKind, by_keyword, by_names, IsEnumeration, is_byte_place}
use Rattle.st_types.specs.UpperNames.{is_letter_or_digit, is_spaced}
use Rattle.retain_records.specs.Splits.{parted, onto_first, names_counted, ◌>>=◌, split_at}
use Rattle.retain_records.specs.Enumerations.{before_last, enumeration_in}
use Rattle.retain_records.specs.Reading.{kind_spelled}
use Rattle.retain_records.specs.Records.{wide_of, value_bytes}
use Rattle.retain_records.specs.Reading.{number_at, all_kinds, kind_of, line_at, number_of, value_at}
use Rattle.retain_records.specs.Reading.{RecordedVariable, variable_at, variables_in}
use Rattle.retain_records.specs.FieldLaws.{IsBytes, TakesBytes, IsWide, wide8, wide16}
use Rattle.retain_records.specs.SplitLaws.{bind_some, when_kept, has_no, split_takes, split_again, chosen}
use Rattle.retain_records.specs.FieldLaws.{wide32, wide64, number_takes, number_again}
use Rattle.std.proofs.lemmas.Option.{same_Some, cond_some}
use Rattle.st_meaning.specs.Operators.{or_kind}

-- ---- types

-- a result of a search passes the test
found_passes : {X : Type 0} (test : X → Bool) (xs : List X) (x : X) → find test xs ≡ Some x → test x ≡ true
found_passes test [] x e = absurd cc
found_passes {X} test (y ∷ ys) x e = elim (chosen (test y) (Some y) (find test ys) (Some x) e) [
  | inl here ↦ subst (λ (z : X). test z ≡ true) (same_Some y x here.1) here.0
  | inr later ↦ found_passes test ys x later.1
]

pub kind_of_keyword : (k : Kind) → has_keyword k ≡ true → kind_of (row_of k).keyword ≡ Some k
unfolding kind_of
kind_of_keyword Sint named = refl
kind_of_keyword Int named = refl
kind_of_keyword Dint named = refl
kind_of_keyword Lint named = refl
kind_of_keyword Usint named = refl
kind_of_keyword Uint named = refl
kind_of_keyword Udint named = refl
kind_of_keyword Ulint named = refl
kind_of_keyword Byte named = refl
kind_of_keyword Word named = refl
kind_of_keyword Dword named = refl
kind_of_keyword Lword named = refl
kind_of_keyword Time named = refl
kind_of_keyword Boolean named = refl
kind_of_keyword (Enumerated names number) named = absurd cc

pub kind_of_takes : (word : List ℕ) (k : Kind) → kind_of word ≡ Some k → word ≡ (row_of k).keyword
unfolding kind_of
kind_of_takes word k e = sym
    ((bytes_eq-Decides (row_of k).keyword word).0 (found_passes (λ l. bytes_eq (row_of l).keyword word) all_kinds k e))

-- a result of a search is in the list
found_among : {X : Type 0} (P : X → Type 0) (test : X → Bool) (xs : List X) (x : X) → AllByRecursion P xs
    → find test xs ≡ Some x → P x
found_among P test [] x all e = absurd cc
found_among {X} P test (y ∷ ys) x all e = elim (chosen (test y) (Some y) (find test ys) (Some x) e) [
  | inl here ↦ subst P (same_Some y x here.1) all.0
  | inr later ↦ found_among P test ys x all.1 later.1
]

pub kind_of_named : (word : List ℕ) (k : Kind) → kind_of word ≡ Some k → has_keyword k ≡ true
unfolding kind_of
kind_of_named word k e =
    found_among (λ (l : Kind). has_keyword l ≡ true) (λ l. bytes_eq (row_of l).keyword word) all_kinds k
    (refl, (refl, (refl, (refl, (refl, (refl, (refl, (refl, (refl, (refl, (refl, (refl, (refl, (refl, tt)))))))))))))) e

-- a letter or a digit isn't a mark
letter_is_high : (b : ℕ) → is_letter b ≡ true → 48 ≤ b
letter_is_high b h = grind (arith, nat_tests, eqb-true)

character_is_high : (b : ℕ) → is_letter_or_digit b ≡ true → 48 ≤ b
character_is_high b h = grind (arith, nat_tests, eqb-true)

pub keyword_in_line : (k : Kind) → has_no 10 (row_of k).keyword ≡ true
keyword_in_line Sint = refl
keyword_in_line Int = refl
keyword_in_line Dint = refl
keyword_in_line Lint = refl
keyword_in_line Usint = refl
keyword_in_line Uint = refl
keyword_in_line Udint = refl
keyword_in_line Ulint = refl
keyword_in_line Byte = refl
keyword_in_line Word = refl
keyword_in_line Dword = refl
keyword_in_line Lword = refl
keyword_in_line Time = refl
keyword_in_line Boolean = refl
keyword_in_line (Enumerated names number) = refl

-- ---- enumerated types

parts_are_some : (mark : ℕ) (bytes : List ℕ) → (x : List ℕ) × (xs : List (List ℕ)) × (parted mark bytes ≡ x ∷ xs)
parts_are_some mark [] = ([], [], refl)
parts_are_some mark (b ∷ bytes) = by_mark (b == mark) (parts_are_some mark bytes)
  where
    by_mark : (t : Bool) → (x : List ℕ) × (xs : List (List ℕ)) × (parted mark bytes ≡ x ∷ xs)
        → (x : List ℕ) × (xs : List (List ℕ))
        × ((if t then [] ∷ parted mark bytes else onto_first b (parted mark bytes)) ≡ x ∷ xs)
    by_mark true p = ([], parted mark bytes, refl)
    by_mark false p = (b ∷ p.0, p.1, ap (onto_first b) p.2)

-- a text that is split and joined again is as it was
joined_first : (b : ℕ) (x : List ℕ) (xs : List (List ℕ)) → joined ((b ∷ x) ∷ xs) ≡ b ∷ joined (x ∷ xs)
joined_first b x [] = refl
joined_first b x (y ∷ ys) = refl

joined_again : (bytes : List ℕ) → joined (parted 44 bytes) ≡ bytes
joined_again [] = refl
joined_again (b ∷ bytes) = by_mark (b == 44) refl (parts_are_some 44 bytes) (joined_again bytes)
  where
    by_mark : (t : Bool) → (b == 44) ≡ t → (x : List ℕ) × (xs : List (List ℕ)) × (parted 44 bytes ≡ x ∷ xs)
        → joined (parted 44 bytes) ≡ bytes
        → joined (if t then [] ∷ parted 44 bytes else onto_first b (parted 44 bytes)) ≡ b ∷ bytes
    by_mark true e p h =
        let is : b ≡ 44 = eqb-true b 44 e in
        ap (λ ys. joined ([] ∷ ys)) p.2 ∙ ap (λ (x : List ℕ). 44 ∷ x) (ap joined (sym p.2) ∙ h)
        ∙ ap (λ (n : ℕ). n ∷ bytes) (sym is)
    by_mark false e p h =
        ap (λ ys. joined (onto_first b ys)) p.2 ∙ joined_first b p.0 p.1
        ∙ ap (λ (x : List ℕ). b ∷ x) (ap joined (sym p.2) ∙ h)

-- names have no commas, so their joined text is split into them
parted_alone : (x : List ℕ) → has_no 44 x ≡ true → parted 44 x ≡ x ∷ []
parted_alone [] h = refl
parted_alone (b ∷ x) h =
    let p = and_parts (not (b == 44)) (has_no 44 x) h in
    rw (not-true (b == 44) p.0, parted_alone x p.1) refl

parted_then : (x rest : List ℕ) → has_no 44 x ≡ true → parted 44 (x ++ 44 ∷ rest) ≡ x ∷ parted 44 rest
parted_then [] rest h = refl
parted_then (b ∷ x) rest h =
    let p = and_parts (not (b == 44)) (has_no 44 x) h in
    rw (not-true (b == 44) p.0, parted_then x rest p.1) refl

parted_again : (x : List ℕ) (xs : List (List ℕ)) → list_all (has_no 44) (x ∷ xs) ≡ true
    → parted 44 (joined (x ∷ xs)) ≡ x ∷ xs
parted_again x [] h = parted_alone x (and_parts (has_no 44 x) true h).0
parted_again x (y ∷ ys) h =
    let p = and_parts (has_no 44 x) (list_all (has_no 44) (y ∷ ys)) h in
    parted_then x (joined (y ∷ ys)) p.0 ∙ ap (λ (zs : List (List ℕ)). x ∷ zs) (parted_again y ys p.1)

-- the last byte, and the bytes before it
before_last_takes : (mark : ℕ) (bytes x : List ℕ) → before_last mark bytes ≡ Some x → bytes ≡ x ++ mark ∷ []
before_last_takes mark [] x e = absurd cc
before_last_takes mark (b ∷ []) x e =
    let h = cond_some (b == mark) [] x e in
    subst (λ (y : List ℕ). b ∷ [] ≡ y ++ mark ∷ []) h.1 (ap (λ (n : ℕ). n ∷ []) (eqb-true b mark h.0))
before_last_takes mark (b ∷ c ∷ bytes) x e =
    let a = bind_some (before_last mark (c ∷ bytes)) (λ y. Some (b ∷ y)) x e in
    subst (λ (y : List ℕ). b ∷ c ∷ bytes ≡ y ++ mark ∷ []) (same_Some (b ∷ a.0) x a.2)
    (ap (λ (y : List ℕ). b ∷ y) (before_last_takes mark (c ∷ bytes) a.0 a.1))

before_last_again : (mark : ℕ) (x : List ℕ) → before_last mark (x ++ mark ∷ []) ≡ Some x
before_last_again mark [] = let same : (mark == mark) ≡ true = eq-eqb mark mark refl in rw same refl
before_last_again mark (b ∷ []) = let same : (mark == mark) ≡ true = eq-eqb mark mark refl in rw same refl
before_last_again mark (b ∷ c ∷ x) = rw (before_last_again mark (c ∷ x)) refl

-- a byte of a name isn't one of the marks
name_has_no : (mark : ℕ) → (mark < 48) → (x : List ℕ) → is_upper_name x ≡ true → has_no mark x ≡ true
name_has_no mark low [] h = absurd cc
name_has_no mark low (b ∷ x) h =
    let p = and_parts (is_letter b && list_all is_letter_or_digit x && is_spaced (b ∷ x)) _ h in
    let q = and_parts (is_letter b && list_all is_letter_or_digit x) (is_spaced (b ∷ x)) p.0 in
    let r = and_parts (is_letter b) (list_all is_letter_or_digit x) q.0 in
    and_from (not (b == mark)) (has_no mark x) (other b (letter_is_high b r.0)) (all_others x r.1)
  where
    other : (b : ℕ) → 48 ≤ b → not (b == mark) ≡ true
    other b high = not_from_false (b == mark) (ne_eqb b mark (λ e. omega (arith, e)))

    all_others : (y : List ℕ) → list_all is_letter_or_digit y ≡ true → has_no mark y ≡ true
    all_others [] h = refl
    all_others (c ∷ y) h =
        let p = and_parts (is_letter_or_digit c) (list_all is_letter_or_digit y) h in
        and_from (not (c == mark)) (has_no mark y) (other c (character_is_high c p.0)) (all_others y p.1)

-- ---- types as they are spelled

enumeration_made : (bytes x : List ℕ) (n : ℕ) → bytes ≡ x ++ 41 ∷ [] → names_counted (parted 44 x) ≡ Some n
    → IsEnumeration (40 ∷ bytes) n
enumeration_made bytes x n last counted =
    let h = cond_some (list_all is_upper_name (parted 44 x) && nat_le (length (parted 44 x)) 65535)
    (length (parted 44 x)) n counted in
    let p = and_parts (list_all is_upper_name (parted 44 x)) (nat_le (length (parted 44 x)) 65535) h.0 in
    let some = parts_are_some 44 x in
    record {
      names = parted 44 x;
      spelled = ap (λ (y : List ℕ). 40 ∷ y) (last ∙ ap (λ (y : List ℕ). y ++ 41 ∷ []) (sym (joined_again x)));
      each = p.0;
      some = omega (arith, ap length some.2);
      most = leb-true (length (parted 44 x)) 65535 p.1;
      count = h.1;
    }

enumeration_spells : (word : List ℕ) (k : Kind) → enumeration_in word ≡ Some k → SpellsKind word k
enumeration_spells [] k e = absurd cc
enumeration_spells (b ∷ bytes) k e =
    let h = when_kept (b == 40)
    (before_last 41 bytes >>= λ x. names_counted (parted 44 x) >>= λ n. Some (Enumerated n 0)) k e in
    let x = bind_some (before_last 41 bytes)
    (λ x. names_counted (parted 44 x) >>= λ n. Some (Enumerated n 0)) k h.1 in
    let n = bind_some (names_counted (parted 44 x.0)) (λ n. Some (Enumerated n 0)) k x.2 in
    let first : b ≡ 40 = eqb-true b 40 h.0 in
    let recorded_variable = enumeration_made bytes x.0 n.0 (before_last_takes 41 bytes x.0 x.1) n.1 in
    by_names n.0 (sym (same_Some (Enumerated n.0 0) k n.2))
    (subst (λ (c : ℕ). IsEnumeration (c ∷ bytes) n.0) (sym first) recorded_variable)

-- ---- types as they are spelled

pub kind_spelled_spells : (word : List ℕ) (k : Kind) → kind_spelled word ≡ Some k → SpellsKind word k
unfolding kind_spelled
kind_spelled_spells word k e = by_kind (kind_of word) refl e
  where
    by_kind : (o : Option Kind) → kind_of word ≡ o → or_kind o (enumeration_in word) ≡ Some k → SpellsKind word k
    by_kind (Some l) p e = subst (λ (j : Kind). SpellsKind word j) (same_Some l k e)
        (by_keyword (kind_of_named word l p) (kind_of_takes word l p))
    by_kind None p e = enumeration_spells word k e

no_keyword : (bytes : List ℕ) → kind_of (40 ∷ bytes) ≡ None
unfolding kind_of
no_keyword bytes = refl

names_have_no_commas : (names : List (List ℕ)) → list_all is_upper_name names ≡ true
    → list_all (has_no 44) names ≡ true
names_have_no_commas [] h = refl
names_have_no_commas (x ∷ xs) h =
    let p = and_parts (is_upper_name x) (list_all is_upper_name xs) h in
    and_from (has_no 44 x) (list_all (has_no 44) xs) (name_has_no 44 (lit< tt) x p.0) (names_have_no_commas xs p.1)

enumeration_again : (names : List (List ℕ)) → list_all is_upper_name names ≡ true → 0 < length names
    → length names ≤ 65535 → enumeration_in (40 ∷ joined names ++ 41 ∷ []) ≡ Some (Enumerated (length names) 0)
enumeration_again [] each some most = absurd (omega (arith, some))
enumeration_again (x ∷ xs) each some most =
    rw (
      before_last_again 41 (joined (x ∷ xs)),
      parted_again x xs (names_have_no_commas (x ∷ xs) each),
      each,
      le-leb (length (x ∷ xs)) 65535 most,
    ) refl

pub kind_spelled_again : (word : List ℕ) (k : Kind) → SpellsKind word k → kind_spelled word ≡ Some k
unfolding kind_spelled
kind_spelled_again word k (by_keyword named is) = rw (is, kind_of_keyword k named) refl
kind_spelled_again word k (by_names n is e) =
    rw (
      e.spelled,
      no_keyword (joined e.names ++ 41
          ∷ []),
      enumeration_again e.names e.each e.some e.most,
      is,
      e.count,
    ) refl

-- a name has no line feed, and neither have names with commas
pub has_no_in_both : (mark : ℕ) (x y : List ℕ) → has_no mark x ≡ true → has_no mark y ≡ true → has_no mark (x ++ y) ≡ true
has_no_in_both mark [] y h k = k
has_no_in_both mark (b ∷ x) y h k =
    let p = and_parts (not (b == mark)) (has_no mark x) h in
    and_from (not (b == mark)) (has_no mark (x ++ y)) p.0 (has_no_in_both mark x y p.1 k)

joined_in_line : (names : List (List ℕ)) → list_all is_upper_name names ≡ true → has_no 10 (joined names) ≡ true
joined_in_line [] h = refl
joined_in_line (x ∷ []) h = name_has_no 10 (lit< tt) x (and_parts (is_upper_name x) true h).0
joined_in_line (x ∷ y ∷ ys) h =
    let p = and_parts (is_upper_name x) (list_all is_upper_name (y ∷ ys)) h in
    has_no_in_both 10 x (44 ∷ joined (y ∷ ys)) (name_has_no 10 (lit< tt) x p.0) (joined_in_line (y ∷ ys) p.1)

pub spelling_in_line : (word : List ℕ) (k : Kind) → SpellsKind word k → has_no 10 word ≡ true
spelling_in_line word k (by_keyword named is) = ap (has_no 10) is ∙ keyword_in_line k
spelling_in_line word k (by_names n is e) =
    ap (has_no 10) e.spelled
    ∙ has_no_in_both 10 (40 ∷ joined e.names) (41 ∷ []) (joined_in_line e.names e.each) refl

-- ---- lines

visible_has_no_space : (bytes : List ℕ) → list_all is_visible bytes ≡ true → has_no 32 bytes ≡ true
visible_has_no_space [] h = refl
visible_has_no_space (b ∷ bytes) h =
    let p = and_parts (is_visible b) (list_all is_visible bytes) h in
    let q = and_parts (nat_le 33 b) (nat_le b 126) p.0 in
    let other : (b == 32) ≡ false = ne_eqb b 32 (λ e. let low : 33 ≤ b = leb-true 33 b q.0 in omega arith) in
    rw (other, visible_has_no_space bytes p.1) refl

pub path_has_no_space : (path : List ℕ) → is_path_text path ≡ true → has_no 32 path ≡ true
path_has_no_space [] h = absurd cc
path_has_no_space (b ∷ bytes) h = visible_has_no_space (b ∷ bytes) h

-- a line and what follows it, as the reader meets them
pub line_parts : (l : Line) (rest : List ℕ)
    → line_text l ++ rest ≡ l.path ++ 32 ∷ (l.spelling ++ 10 ∷ rest)
line_parts l rest = simp append_assoc

abbrev line_so : List ℕ → List ℕ → Kind → Line
line_so path word k = record { path = path; spelling = word; kind = k }

line_made : (text path after word rest : List ℕ) (k : Kind) (p : Line × List ℕ) → split_at 32 text ≡ Some (path, after)
    → split_at 10 after ≡ Some (word, rest) → kind_spelled word ≡ Some k → is_path_text path ≡ true
    → (line_so path word k, rest) ≡ p
    → (text ≡ line_text p.0 ++ p.1) × IsLine p.0
line_made text path after word rest k p first second named sound is =
    let whole : text ≡ line_text (line_so path word k) ++ rest = split_takes 32 text (path, after) first
    ∙ ap (λ (r : List ℕ). path ++ 32 ∷ r) (split_takes 10 after (word, rest) second)
    ∙ sym (line_parts (line_so path word k) rest) in
    subst (λ (q : Line × List ℕ). (text ≡ line_text q.0 ++ q.1) × IsLine q.0) is
    (whole, record { path = sound; spells = kind_spelled_spells word k named })

pub line_takes : (text : List ℕ) (p : Line × List ℕ) → line_at text ≡ Some p
    → (text ≡ line_text p.0 ++ p.1) × IsLine p.0
unfolding line_at
line_takes text p e =
    let a = bind_some (split_at 32 text) (λ word. split_at 10 word.1 >>= λ line. kind_spelled line.0 >>=
    λ k. cond (is_path_text word.0) (Some (line_so word.0 line.0 k, line.1)) None) p e in
    let b = bind_some (split_at 10 a.0.1) (λ line. kind_spelled line.0 >>=
    λ k. cond (is_path_text a.0.0) (Some (line_so a.0.0 line.0 k, line.1)) None) p a.2 in
    let c = bind_some (kind_spelled b.0.0)
    (λ k. cond (is_path_text a.0.0) (Some (line_so a.0.0 b.0.0 k, b.0.1)) None) p b.2 in
    let d = cond_some (is_path_text a.0.0) (line_so a.0.0 b.0.0 c.0, b.0.1) p c.2 in
    line_made text a.0.0 a.0.1 b.0.0 b.0.1 c.0 p a.1 b.1 c.1 d.0 d.1

pub line_again : (l : Line) (rest : List ℕ) → IsLine l → line_at (line_text l ++ rest) ≡ Some (l, rest)
unfolding line_at
line_again l rest sound =
    ap line_at (line_parts l rest)
    ∙ rw (
      split_again 32 l.path (l.spelling ++ 10 ∷ rest) (path_has_no_space l.path sound.path),
      split_again 10 l.spelling rest (spelling_in_line l.spelling l.kind sound.spells),
      kind_spelled_again l.spelling l.kind sound.spells,
      sound.path,
    ) refl

-- ---- values

abbrev pub datum : Kind → ℤ → Datum
datum k z = record { kind = k; number = z }

-- the spelling of a type's values as bytes
pub record IsSpelledType (k : Kind) : Type 0 where
  pub limit : ℕ
  pub wide : IsWide (wide_of k) limit
  pub len : byte_len (wide_of k) ≡ width_of k
  -- the bits of a number are below the limit, and stand for it
  pub fits : (z : ℤ) → holds k z ≡ true → is_byte_place (datum k z) ≡ true → cast_unsigned (wide_of k) z < limit
  pub there : (z : ℤ) → holds k z ≡ true → is_byte_place (datum k z) ≡ true
      → number_of k (cast_unsigned (wide_of k) z) ≡ z
  pub placed : (n : ℕ) → n < limit → is_byte_place (datum k (number_of k n)) ≡ true
  pub back : (n : ℕ) → n < limit → cast_unsigned (wide_of k) (number_of k n) ≡ n
  pub near : (z : ℤ) → holds k z ≡ true → is_byte_place (datum k z) ≡ true → mag z < 2 ^ bits (wide_of k)

-- the range of a type, as bounds
signed_magnitude : (n : ℕ) (z : ℤ) → (int_le (negsuc n) z && int_le z (pos n)) ≡ true → mag z ≤ n
signed_magnitude n (pos m) h = leb-true m n (and_parts (int_le (negsuc n) (pos m)) (int_le (pos m) (pos n)) h).1
signed_magnitude n (negsuc m) h =
    leb-true m n (and_parts (int_le (negsuc n) (negsuc m)) (int_le (negsuc m) (pos n)) h).0

unsigned_natural : (n : ℕ) (z : ℤ) → (int_le (pos 0) z && int_le z (pos n)) ≡ true → (m : ℕ) × (z ≡ pos m) × (m ≤ n)
unsigned_natural n (pos m) h = (m, refl, leb-true m n (and_parts (int_le (pos 0) (pos m)) (int_le (pos m) (pos n)) h).1)
unsigned_natural n (negsuc m) h = absurd cc

below_limit : (w : Width) (n limit : ℕ) (z : ℤ) → n < limit → 2 ^ bits w ≡ limit → mag z ≤ n → cast_unsigned w z < limit
below_limit w n limit (pos m) lt e h = omega arith
below_limit w n limit (negsuc m) lt e h = rw e (omega arith)

natural_below : (w : Width) (n limit : ℕ) (z : ℤ) → n < limit → (m : ℕ) × (z ≡ pos m) × (m ≤ n)
    → cast_unsigned w z < limit
natural_below w n limit z lt p = rw p.1 (omega (arith, p.2))

natural_there : (w : Width) (n : ℕ) (z : ℤ) → (m : ℕ) × (z ≡ pos m) × (m ≤ n) → pos (cast_unsigned w z) ≡ z
natural_there w n z p = rw p.1 refl

natural_near : (n limit size : ℕ) (z : ℤ) → n < limit → size ≡ limit → (m : ℕ) × (z ≡ pos m) × (m ≤ n) → mag z < size
natural_near n limit size z lt same p = rw p.1 (omega (arith, p.2))

-- a signed type, and an unsigned one
signed_type : (k : Kind) (w : Width) (n limit : ℕ) → wide_of k ≡ w → IsWide w limit → byte_len w ≡ width_of k
    → 2 ^ bits w ≡ limit → n < limit → n < 2 ^ hbits w
    → ((z : ℤ) → holds k z ≡ (int_le (negsuc n) z && int_le z (pos n))) → ((m : ℕ) → number_of k m ≡ cast_signed w m)
    → ((z : ℤ) → is_byte_place (datum k z) ≡ true)
    → IsSpelledType k
signed_type k w n limit is wide len same lt half range sign placed = record {
  placed = λ m below. placed (number_of k m);
  limit = limit;
  wide = rw is wide;
  len = rw is len;
  fits = λ z h placed. rw is (below_limit w n limit z lt same (signed_magnitude n z (sym (range z) ∙ h)));
  there = λ z h placed. rw (sign (cast_unsigned (wide_of k) z), is)
      (to_z-of_z w z (record { sfits = omega (arith, signed_magnitude n z (sym (range z) ∙ h)) }));
  back = λ m below. rw (sign m, is) (of_z-to_z w m (omega (arith, same)));
  near = λ z h placed. rw is (omega (arith, same, signed_magnitude n z (sym (range z) ∙ h)));
}

unsigned_type : (k : Kind) (w : Width) (n limit : ℕ) → wide_of k ≡ w → IsWide w limit → byte_len w ≡ width_of k
    → 2 ^ bits w ≡ limit → n < limit
    → ((z : ℤ) → holds k z ≡ (int_le (pos 0) z && int_le z (pos n))) → ((m : ℕ) → number_of k m ≡ pos m)
    → ((z : ℤ) → is_byte_place (datum k z) ≡ true)
    → IsSpelledType k
unsigned_type k w n limit is wide len same lt range sign placed = record {
  placed = λ m below. placed (number_of k m);
  limit = limit;
  wide = rw is wide;
  len = rw is len;
  fits = λ z h placed. rw is (natural_below w n limit z lt (unsigned_natural n z (sym (range z) ∙ h)));
  there = λ z h placed.
      rw (sign (cast_unsigned (wide_of k) z), is) (natural_there w n z (unsigned_natural n z (sym (range z) ∙ h)));
  back = λ m below. rw (sign m) refl;
  near = λ z h placed. rw is (natural_near n limit (2 ^ bits w) z lt same (unsigned_natural n z (sym (range z) ∙ h)));
}

pub type_of : (k : Kind) → has_keyword k ≡ true → IsSpelledType k
type_of Sint named = signed_type Sint w8 (2 ^ 7 - 1) (2 ^ 8) refl wide8 refl refl (lit< tt) (lit< tt) (λ z. refl) (λ
    m. refl) (λ z. refl)
type_of Int named =
    signed_type Int w16 (2 ^ 15 - 1) (2 ^ 16) refl wide16 refl refl (lit< tt) (lit< tt) (λ z. refl) (λ m. refl) (λ z.
    refl)
type_of Dint named =
    signed_type Dint w32 (2 ^ 31 - 1) (2 ^ 32) refl wide32 refl refl (lit< tt) (lit< tt) (λ z. refl) (λ m. refl) (λ
    z. refl)
type_of Lint named =
    signed_type Lint w64 (2 ^ 63 - 1) (2 ^ 64) refl wide64 refl refl (lit< tt) (lit< tt) (λ z. refl) (λ m. refl) (λ
    z. refl)
type_of Usint named = unsigned_type Usint w8 (2 ^ 8 - 1) (2 ^ 8) refl wide8 refl refl (lit< tt) (λ z. refl) (λ m.
    refl) (λ z. refl)
type_of Uint named = unsigned_type Uint w16 (2 ^ 16 - 1) (2 ^ 16) refl wide16 refl refl (lit< tt) (λ z. refl) (λ m.
    refl) (λ z. refl)
type_of Udint named = unsigned_type Udint w32 (2 ^ 32 - 1) (2 ^ 32) refl wide32 refl refl (lit< tt) (λ z. refl) (λ m.
    refl) (λ z. refl)
type_of Ulint named = unsigned_type Ulint w64 (2 ^ 64 - 1) (2 ^ 64) refl wide64 refl refl (lit< tt) (λ z. refl) (λ m.
    refl) (λ z. refl)
type_of Byte named = unsigned_type Byte w8 (2 ^ 8 - 1) (2 ^ 8) refl wide8 refl refl (lit< tt) (λ z. refl) (λ m. refl)
    (λ z. refl)
type_of Word named = unsigned_type Word w16 (2 ^ 16 - 1) (2 ^ 16) refl wide16 refl refl (lit< tt) (λ z. refl) (λ m.
    refl) (λ z. refl)
type_of Dword named = unsigned_type Dword w32 (2 ^ 32 - 1) (2 ^ 32) refl wide32 refl refl (lit< tt) (λ z. refl) (λ m.
    refl) (λ z. refl)
type_of Lword named = unsigned_type Lword w64 (2 ^ 64 - 1) (2 ^ 64) refl wide64 refl refl (lit< tt) (λ z. refl) (λ m.
    refl) (λ z. refl)
type_of Time named =
    signed_type Time w64 (2 ^ 63 - 1) (2 ^ 64) refl wide64 refl refl (lit< tt) (lit< tt) (λ z. refl) (λ m. refl) (λ
    z. refl)
type_of Boolean named = unsigned_type Boolean w8 1 (2 ^ 8) refl wide8 refl refl (lit< tt) (λ z. refl) (λ m. refl) (λ
    z. refl)
type_of (Enumerated names number) named = absurd cc

-- a place that takes one byte
byte_is : (n : ℕ) (z : ℤ) → 0 < n → is_byte_place (datum (Enumerated n 0) z) ≡ true → int_lt z (pos 256) ≡ true
byte_is n z some h =
    let names : (n == 0) ≡ false = ne_eqb n 0 (λ e. omega (arith, e)) in rw names at h

byte_placed : (n m : ℕ) → m < 2 ^ 8 → is_byte_place (datum (Enumerated n 0) (pos m)) ≡ true
byte_placed n m below = rw (lt-ltb m 256 below) (or_true (n == 0))
  where
    or_true : (t : Bool) → (t || true) ≡ true
    or_true true = refl
    or_true false = refl

natural_below_byte : (z : ℤ) → int_lt z (pos 256) ≡ true → (n m : ℕ) → z ≡ pos m → m < 256
natural_below_byte z h n m is = ltb-true m 256 (ap (λ (y : ℤ). int_lt y (pos 256)) (sym is) ∙ h)

natural_byte : (n : ℕ) (z : ℤ) → 0 < n → (m : ℕ) × (z ≡ pos m) × (m ≤ n - 1)
    → is_byte_place (datum (Enumerated n 0) z) ≡ true → cast_unsigned w8 z < 2 ^ 8
natural_byte n z some p placed = rw p.1 (natural_below_byte z (byte_is n z some placed) n p.0 p.1)

natural_small : (n : ℕ) (z : ℤ) → 0 < n → (m : ℕ) × (z ≡ pos m) × (m ≤ n - 1)
    → is_byte_place (datum (Enumerated n 0) z) ≡ true → mag z < 2 ^ 8
natural_small n z some p placed = rw p.1 (natural_below_byte z (byte_is n z some placed) n p.0 p.1)

natural_same : {n : ℕ} (z : ℤ) → (m : ℕ) × (z ≡ pos m) × (m ≤ n) → pos (cast_unsigned w8 z) ≡ z
natural_same z p = rw p.1 refl

-- an enumerated type: a place of one byte
pub enumerated_type : (n : ℕ) → 0 < n → IsSpelledType (Enumerated n 0)
enumerated_type n some = record {
  limit = 2 ^ 8;
  wide = wide8;
  len = refl;
  fits = λ z h placed. natural_byte n z some (unsigned_natural (n - 1) z h) placed;
  there = λ z h placed. natural_same z (unsigned_natural (n - 1) z h);
  placed = λ m below. byte_placed n m below;
  back = λ m below. refl;
  near = λ z h placed. natural_small n z some (unsigned_natural (n - 1) z h) placed;
}

pub type_spelled : (word : List ℕ) (k : Kind) → SpellsKind word k → IsSpelledType k
type_spelled word k (by_keyword named is) = type_of k named
type_spelled word k (by_names n is e) =
    subst IsSpelledType (sym is) (enumerated_type n (omega (arith, e.some, e.count)))

-- a negative number of a type has fewer bits than the type
pub near_of : (k : Kind) (z : ℤ) → holds k z ≡ true → z <ℤ pos 0 → mag z < 2 ^ bits (wide_of k)
near_of (Enumerated names number) z held below =
    let n = unsigned_natural (names - 1) z held in absurd (omega (arith, ints, n.1))
near_of Sint z held below = (type_of Sint refl).near z held refl
near_of Int z held below = (type_of Int refl).near z held refl
near_of Dint z held below = (type_of Dint refl).near z held refl
near_of Lint z held below = (type_of Lint refl).near z held refl
near_of Usint z held below = (type_of Usint refl).near z held refl
near_of Uint z held below = (type_of Uint refl).near z held refl
near_of Udint z held below = (type_of Udint refl).near z held refl
near_of Ulint z held below = (type_of Ulint refl).near z held refl
near_of Byte z held below = (type_of Byte refl).near z held refl
near_of Word z held below = (type_of Word refl).near z held refl
near_of Dword z held below = (type_of Dword refl).near z held refl
near_of Lword z held below = (type_of Lword refl).near z held refl
near_of Time z held below = (type_of Time refl).near z held refl
near_of Boolean z held below = (type_of Boolean refl).near z held refl

length_by_kind : (k : Kind) (z : ℤ) → length (to_be_bytes (wide_of k) (cast_unsigned (wide_of k) z)) ≡ width_of k
length_by_kind Sint z = wide8.len (cast_unsigned w8 z)
length_by_kind Int z = wide16.len (cast_unsigned w16 z)
length_by_kind Dint z = wide32.len (cast_unsigned w32 z)
length_by_kind Lint z = wide64.len (cast_unsigned w64 z)
length_by_kind Usint z = wide8.len (cast_unsigned w8 z)
length_by_kind Uint z = wide16.len (cast_unsigned w16 z)
length_by_kind Udint z = wide32.len (cast_unsigned w32 z)
length_by_kind Ulint z = wide64.len (cast_unsigned w64 z)
length_by_kind Byte z = wide8.len (cast_unsigned w8 z)
length_by_kind Word z = wide16.len (cast_unsigned w16 z)
length_by_kind Dword z = wide32.len (cast_unsigned w32 z)
length_by_kind Lword z = wide64.len (cast_unsigned w64 z)
length_by_kind Time z = wide64.len (cast_unsigned w64 z)
length_by_kind Boolean z = wide8.len (cast_unsigned w8 z)
length_by_kind (Enumerated names number) z = wide8.len (cast_unsigned w8 z)

pub value_length : (d : Datum) → length (value_bytes d) ≡ width_of d.kind
value_length d = length_by_kind d.kind d.number

pub value_takes : (k : Kind) (bytes : List ℕ) (p : Datum × List ℕ) → IsSpelledType k → IsBytes bytes
    → value_at k bytes ≡ Some p
    → TakesBytes bytes (value_bytes p.0) p.1 × (p.0.kind ≡ k) × IsHeld p.0 × (is_byte_place p.0 ≡ true)
unfolding value_at
value_takes k bytes p t fits e =
    let a = bind_some (number_at (wide_of k) bytes)
    (λ n. cond (holds k (number_of k n.0)) (Some (record { kind = k; number = number_of k n.0 }, n.1)) None) p e in
    let b = cond_some (holds k (number_of k a.0.0)) (record { kind = k; number = number_of k a.0.0 }, a.0.1) p a.2 in
    let n = number_takes (wide_of k) t.limit t.wide bytes a.0 fits a.1 in
    let recorded_variable : TakesBytes bytes (to_be_bytes (wide_of k) (cast_unsigned (wide_of k) (number_of k a.0.0))) a.0.1 =
    rw (t.back a.0.0 n.1) n.0 in
    subst (λ (q : Datum × List ℕ). TakesBytes bytes (value_bytes q.0) q.1 × (q.0.kind ≡ k) × IsHeld q.0
    × (is_byte_place q.0 ≡ true)) b.1 (recorded_variable, refl, b.0, t.placed a.0.0 n.1)

pub value_again : (d : Datum) (rest : List ℕ) → IsSpelledType d.kind → IsHeld d → is_byte_place d ≡ true
    → value_at d.kind (value_bytes d ++ rest) ≡ Some (d, rest)
unfolding value_at
value_again d rest t held placed =
    rw (
      number_again (wide_of d.kind) t.limit t.wide (cast_unsigned (wide_of d.kind) d.number) rest
          (t.fits d.number held placed),
      t.there d.number held placed,
      held,
    ) refl

-- ---- lines with their values

-- the line of a variable
abbrev pub line_of : RecordedVariable → Line
line_of v = line_so v.path v.spelling v.value.kind

-- the conditions on a variable of a record
pub record IsSoundVariable (v : RecordedVariable) : Type 0 where
  pub line : IsLine (line_of v)
  pub value : IsHeld v.value
  pub place : is_byte_place v.value ≡ true

abbrev pub recorded_variable : Line → Datum → RecordedVariable
recorded_variable l d = record { path = l.path; spelling = l.spelling; value = d }

variable_made : (l : Line) (d : Datum) → IsLine l → d.kind ≡ l.kind → IsHeld d → is_byte_place d ≡ true
    → IsSoundVariable (recorded_variable l d)
variable_made l d sound same held placed = record {
  line = record {
    path = sound.path;
    spells = subst (λ (k : Kind). SpellsKind l.spelling k) (sym same) sound.spells;
  };
  value = held;
  place = placed;
}

pub variable_takes : (text bytes : List ℕ) (p : RecordedVariable × List ℕ × List ℕ) → IsBytes bytes
    → variable_at text bytes ≡ Some p
    → (text ≡ line_text (line_of p.0) ++ p.1) × TakesBytes bytes (value_bytes p.0.value) p.2 × IsSoundVariable p.0
unfolding variable_at
variable_takes text bytes p fits e =
    let a = bind_some (line_at text) (λ line. value_at line.0.kind bytes >>=
    λ value. Some (recorded_variable line.0 value.0, line.1, value.1)) p e in
    let b = bind_some (value_at a.0.0.kind bytes)
    (λ value. Some (recorded_variable a.0.0 value.0, a.0.1, value.1)) p a.2 in
    let l = line_takes text a.0 a.1 in
    let v = value_takes a.0.0.kind bytes b.0 (type_spelled a.0.0.spelling a.0.0.kind l.1.spells) fits b.1 in
    subst (λ (q : RecordedVariable × List ℕ × List ℕ). (text ≡ line_text (line_of q.0) ++ q.1)
    × TakesBytes bytes (value_bytes q.0.value) q.2 × IsSoundVariable q.0)
    (same_Some (recorded_variable a.0.0 b.0.0, a.0.1, b.0.1) p b.2) (l.0, v.0, variable_made a.0.0 b.0.0 l.1 v.1 v.2 v.3)

pub variable_again : (l : Line) (d : Datum) (text bytes : List ℕ) → IsLine l → IsHeld d → is_byte_place d ≡ true
    → l.kind ≡ d.kind → variable_at (line_text l ++ text) (value_bytes d ++ bytes) ≡ Some (recorded_variable l d, text, bytes)
unfolding variable_at
variable_again l d text bytes sound held placed same =
    let t = subst IsSpelledType same (type_spelled l.spelling l.kind sound.spells) in
    rw (line_again l text sound, same, value_again d bytes t held placed) refl

-- a line is not empty: the text after it is shorter than the whole
line_is_some : (l : Line) (rest : List ℕ)
    → (c : ℕ) × (text : List ℕ) × (line_text l ++ rest ≡ c ∷ text) × (length rest ≤ length text)
line_is_some l rest = from l.path refl
  where
    from : (path : List ℕ) → l.path ≡ path
        → (c : ℕ) × (text : List ℕ) × (line_text l ++ rest ≡ c ∷ text) × (length rest ≤ length text)
    from [] is = (
      32,
      l.spelling ++ 10 ∷ rest,
      line_parts l rest
          ∙ ap (λ (p : List ℕ). p ++ 32 ∷ (l.spelling ++ 10 ∷ rest)) is,
      omega (arith, length-append l.spelling (10 ∷ rest)),
    )
    from (c ∷ path) is = (
      c,
      path ++ 32 ∷ (l.spelling ++ 10 ∷ rest),
      line_parts l rest
          ∙ ap (λ (p : List ℕ). p ++ 32 ∷ (l.spelling ++ 10 ∷ rest)) is,
      omega (
        arith,
        length-append path
            (32 ∷ (l.spelling ++ 10 ∷ rest)),
        length-append l.spelling (10 ∷ rest),
      ),
    )

abbrev pub texts : List RecordedVariable → List ℕ
texts vs = flat_map (λ v. line_text (line_of v)) vs

abbrev pub values_bytes : List RecordedVariable → List ℕ
values_bytes vs = flat_map (λ v. value_bytes v.value) vs

pub variables_take : (most : ℕ) (text bytes : List ℕ) (vs : List RecordedVariable) → IsBytes bytes
    → variables_in most text bytes ≡ Some vs
    → (text ≡ texts vs) × (bytes ≡ values_bytes vs) × AllByRecursion IsSoundVariable vs
unfolding variables_in
variables_take most [] [] vs fits e =
    subst (λ (ws : List RecordedVariable). ([] ≡ texts ws) × ([] ≡ values_bytes ws) × AllByRecursion IsSoundVariable ws)
    (same_Some [] vs e) (refl, refl, tt)
variables_take most [] (b ∷ bytes) vs fits e = absurd cc
variables_take zero (c ∷ text) bytes vs fits e = absurd cc
variables_take (suc most) (c ∷ text) bytes vs fits e =
    let a = bind_some (variable_at (c ∷ text) bytes)
    (λ first. variables_in most first.1 first.2 >>= λ others. Some (first.0 ∷ others)) vs e in
    let b = bind_some (variables_in most a.0.1 a.0.2) (λ others. Some (a.0.0 ∷ others)) vs a.2 in
    let f = variable_takes (c ∷ text) bytes a.0 fits a.1 in
    let r = variables_take most a.0.1 a.0.2 b.0 f.1.rest_fits b.1 in
    let whole : c ∷ text ≡ texts (a.0.0 ∷ b.0) = f.0 ∙ ap (λ (x : List ℕ). line_text (line_of a.0.0) ++ x) r.0 in
    let all : bytes ≡ values_bytes (a.0.0 ∷ b.0) = f.1.parts ∙ ap (λ (x : List ℕ). value_bytes a.0.0.value ++ x) r.1 in
    subst (λ (ws : List RecordedVariable). (c ∷ text ≡ texts ws) × (bytes ≡ values_bytes ws)
    × AllByRecursion IsSoundVariable ws)
    (same_Some (a.0.0 ∷ b.0) vs b.2) (whole, all, (f.2, r.2))

abbrev pub paths_of : List RecordedVariable → List (List ℕ)
paths_of vs = map (λ v. v.path) vs

-- the lines and values of the same types, as they are read
pub record AreRead (most : ℕ) (lines : List Line) (values : List Datum) : Type 0 where
  pub vs : List RecordedVariable
  pub read : variables_in most (text_of lines) (flat_map value_bytes values) ≡ Some vs
  pub paths : paths_of vs ≡ map (λ l. l.path) lines
  pub found : map (λ v. v.value) vs ≡ values

heads_alike : (k l : Kind) (ks ls : List Kind) → k ∷ ks ≡ l ∷ ls → (k ≡ l) × (ks ≡ ls)
heads_alike k l ks ls e = (cc, cc)

variables_again_at : (l : Line) (d : Datum) (lines : List Line) (values : List Datum) (most : ℕ)
    → IsLine l → IsHeld d → is_byte_place d ≡ true → l.kind ≡ d.kind → AreRead most lines values
    → AreRead (suc most) (l ∷ lines) (d ∷ values)
unfolding variables_in
variables_again_at l d lines values most sound held placed same rest =
    let s = line_is_some l (text_of lines) in
    let here : variable_at (s.0 ∷ s.1) (value_bytes d ++ flat_map value_bytes values)
    ≡ Some (recorded_variable l d, text_of lines, flat_map value_bytes values) =
    ap (λ (x : List ℕ). variable_at x (value_bytes d ++ flat_map value_bytes values)) (sym s.2)
    ∙ variable_again l d (text_of lines) (flat_map value_bytes values) sound held placed same in
    record {
      vs = recorded_variable l d ∷ rest.vs;
      read = ap (λ (x : List ℕ). variables_in (suc most) x (value_bytes d ++ flat_map value_bytes values)) s.2
          ∙ rw (here, rest.read) refl;
      paths = ap (λ (ps : List (List ℕ)). l.path ∷ ps) rest.paths;
      found = ap (λ (ds : List Datum). d ∷ ds) rest.found;
    }

pub variables_again : (lines : List Line) (values : List Datum) (most : ℕ)
    → map (λ d. d.kind) values ≡ map (λ l. l.kind) lines → AllByRecursion IsLine lines
    → AllByRecursion IsHeld values → AllByRecursion (λ d. is_byte_place d ≡ true) values
    → length (text_of lines) ≤ most → AreRead most lines values
unfolding variables_in
variables_again [] [] most same sound held placed fits = record { vs = []; read = refl; paths = refl; found = refl }
variables_again [] (d ∷ values) most same sound held placed fits = absurd cc
variables_again (l ∷ lines) [] most same sound held placed fits = absurd cc
variables_again (l ∷ lines) (d ∷ values) zero same sound held placed fits = let s = line_is_some l (text_of lines) in
    absurd (omega (arith, ap length s.2))
variables_again (l ∷ lines) (d ∷ values) (suc most) same sound held placed fits =
    let s = line_is_some l (text_of lines) in
    let h = heads_alike d.kind l.kind (map (λ x. x.kind) values) (map (λ x. x.kind) lines) same in
    variables_again_at l d lines values most sound.0 held.0 placed.0 (sym h.0)
    (variables_again lines values most h.1 sound.1 held.1 placed.1 (omega (arith, ap length s.2)))
