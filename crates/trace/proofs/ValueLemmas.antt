-- Values, read back.
use Rattle.std.proofs.Common.{◌≡◌, ◌∙◌, ap, sym, refl, subst, ℕ, suc, zero, ◌+◌, ◌*◌, ◌/◌, ◌%◌, ◌<◌, ◌≤◌, ◌^◌, ◌==◌}
use Rattle.std.proofs.Common.{Bool, true, false, not, List, [], ◌∷◌, ◌++◌, Option, Some, None, IfSome, IfNone, arith}
use Rattle.std.proofs.Common.{append-nil, length, length-append, lit<, if◌then◌else◌, ℤ, pos, negsuc, unsigned_abs, inl, inr}
use Rattle.std.specs.Prelude.{codes, nat_lt, int_le, ◌≤ℤ◌, ◌⊎◌}
use Rattle.std.specs.Int.Signed.{le_z_yes}
use Rattle.std.specs.Result.{result_ok}
use Rattle.std.proofs.lemmas.Int.{ints}
use Rattle.std.proofs.lemmas.Float.{T_from_true}
use Rattle.std.specs.Fmt.{digit_glyph, signed_decimal}
use Rattle.std.proofs.lemmas.Bool.{and_parts, cases_Bool}
use Rattle.std.proofs.lemmas.Bool.Decides.{nat_tests}
use Rattle.std.proofs.Math.Nat.{pow-le-pow_right, pow-suc}
use Rattle.std.proofs.lemmas.List.{append_cancel_right}
use Rattle.st_types.specs.declared.kind.Kind.{Kind}
use Rattle.st_types.specs.declared.kind.Kind.TheVariants.{Sint, Int, Dint, Lint, Usint, Uint, Udint, Ulint, Byte, Word}
use Rattle.st_types.specs.declared.kind.Kind.TheVariants.{Dword, Lword, Time, Bool as Boolean, Enumerated}
use Rattle.st_types.specs.declared.kind.Sort.{Sort}
use Rattle.st_types.specs.declared.kind.Sort.TheVariants.{Signed, Unsigned, Bits, Duration, Truth, Place}
use Rattle.st_types.specs.Kinds.{holds, names_in, row_of, same_kind}
use Rattle.st_types.proofs.KindLemmas.{same_kind_is, same_kind-refl}
use Rattle.st_types.specs.Values.{Datum, IsHeld, in_range}
use Rattle.retain_records.specs.SplitLaws.{has_no}
use Rattle.st_print.specs.Spelling.{hexadecimal, name_of, named_or, number_text, value_text}
use Rattle.st_print.specs.Numbers.{SpellsValue}
use Rattle.st_print.proofs.NumberLemmas.{held_short, one_number}
use Rattle.trace.specs.Reads.{FieldSpells}
use Rattle.trace.proofs.ReadLemmas.{low_mark, plain_decimal}
use Rattle.retain_records.specs.LineLaws.{has_no_in_both}
use Rattle.trace.proofs.RestLemmas.{head_is}

-- ---- a value has no name

no_name : (k : Kind) (z : ℤ) → name_of [] k z ≡ None
no_name (Enumerated names number) (pos n) = refl
no_name (Enumerated names number) (negsuc n) = refl
no_name Sint z = refl
no_name Int z = refl
no_name Dint z = refl
no_name Lint z = refl
no_name Usint z = refl
no_name Uint z = refl
no_name Udint z = refl
no_name Ulint z = refl
no_name Byte z = refl
no_name Word z = refl
no_name Dword z = refl
no_name Lword z = refl
no_name Time z = refl
no_name Boolean z = refl

abbrev pub spelled : Datum → List ℕ
spelled v = number_text (row_of v.kind).sort (row_of v.kind).bits v.number

pub text_is : (v : Datum) → value_text [] v ≡ spelled v
text_is v = ap (λ n. named_or n (spelled v)) (no_name v.kind v.number)

-- ---- without LF

glyph_is : (d : ℕ) → d < 16 → not (digit_glyph true d == 10) ≡ true
glyph_is d small = elim (cases_Bool (nat_lt d 10)) [
  | inl low ↦ grind (arith, nat_tests)
  | inr high ↦ grind (arith, nat_tests)
]

plain_glyph : (d : ℕ) → d < 16 → has_no 10 (digit_glyph true d ∷ []) ≡ true
plain_glyph d small = rw (glyph_is d small) refl

plain_hexadecimal : (count n : ℕ) → has_no 10 (hexadecimal count n) ≡ true
plain_hexadecimal zero n = refl
plain_hexadecimal (suc count) n = has_no_in_both 10 (hexadecimal count (n / 16)) (digit_glyph true (n % 16) ∷ [])
    (plain_hexadecimal count (n / 16)) (plain_glyph (n % 16) (omega arith))

plain_signed : (z : ℤ) → unsigned_abs z < 2 ^ 64 → has_no 10 (signed_decimal z) ≡ true
plain_signed (pos n) short = plain_decimal 10 n (low_mark 10 (omega arith)) short
plain_signed (negsuc n) short = plain_decimal 10 (suc n) (low_mark 10 (omega arith)) short

plain_truth : (b : Bool) → has_no 10 (if b then codes "FALSE" else codes "TRUE") ≡ true
plain_truth true = refl
plain_truth false = refl

plain_number : (s : Sort) (bits : ℕ) (z : ℤ) → unsigned_abs z < 2 ^ 64 → has_no 10 (number_text s bits z) ≡ true
plain_number Signed bits z short = plain_signed z short
plain_number Unsigned bits z short = plain_signed z short
plain_number Bits bits z short =
    has_no_in_both 10 (codes "16#") (hexadecimal (bits / 4) (unsigned_abs z)) refl (plain_hexadecimal (bits / 4) (unsigned_abs z))
plain_number Duration bits z short = has_no_in_both 10 (signed_decimal z) (codes "ms") (plain_signed z short) refl
plain_number Truth bits z short = plain_truth (unsigned_abs z == 0)
plain_number Place bits z short = plain_signed z short

pub plain_value : (v : Datum) → names_in v.kind < 2 ^ 16 → IsHeld v → has_no 10 (value_text [] v) ≡ true
plain_value v few held = ap (has_no 10) (text_is v)
    ∙ plain_number (row_of v.kind).sort (row_of v.kind).bits v.number (held_short v.kind v.number few held)

pub few_of : (kind k : Kind) → k ≡ kind → names_in kind < 2 ^ 16 → names_in k < 2 ^ 16
few_of kind k same few = subst (λ x. names_in x < 2 ^ 16) (sym same) few

-- ---- decimal numbers, and the text after them

abbrev pub MayBe : Kind → Datum → Type 0
MayBe kind v = (v.kind ≡ kind) × IsHeld v

pub spells_tail : (kind : Kind) (field digits tail : List ℕ) (o : Option Datum) → names_in kind < 2 ^ 16
    → ((z : ℤ) → number_text (row_of kind).sort (row_of kind).bits z ≡ signed_decimal z ++ tail)
    → field ≡ digits ++ tail → IfSome o (SpellsValue kind digits)
    → IfNone o ((v : Datum) → SpellsValue kind digits v → ⊥) → FieldSpells (MayBe kind) (value_text []) field o
spells_tail kind field digits tail o few is whole some none = (there o some, λ w may e. only o some none w may e)
  where
    text_of : (v : Datum) → v.kind ≡ kind → value_text [] v ≡ signed_decimal v.number ++ tail
    text_of v same = text_is v
        ∙ ap (λ k. number_text (row_of k).sort (row_of k).bits v.number) same ∙ is v.number

    there : (u : Option Datum) → IfSome u (SpellsValue kind digits)
        → IfSome u (λ v. MayBe kind v × (field ≡ value_text [] v))
    there None h = tt
    there (Some v) h =
        let same : v.kind ≡ kind = sym (same_kind_is kind v.kind h.0) in
        ((same, h.1), whole ∙ ap (λ x. x ++ tail) h.2 ∙ sym (text_of v same))

    decided : (u : Option Datum) → IfSome u (SpellsValue kind digits)
        → IfNone u ((v : Datum) → SpellsValue kind digits v → ⊥) → (w : Datum) → MayBe kind w
        → SpellsValue kind digits w → u ≡ Some w
    decided None s n w may told = absurd (n w told)
    decided (Some v) s n w may told =
        let same : v.kind ≡ kind = sym (same_kind_is kind v.kind s.0) in
        let number : v.number ≡ w.number = one_number v.number w.number
        (held_short v.kind v.number (few_of kind v.kind same few) s.1) (held_short w.kind w.number (few_of kind w.kind may.0 few) may.1)
        (sym s.2 ∙ told.2) in
        let kinds : v.kind ≡ w.kind = same ∙ sym may.0 in
        ap (λ k. Some record { kind = k; number = v.number }) kinds
        ∙ ap (λ z. Some record { kind = w.kind; number = z }) number

    only : (u : Option Datum) → IfSome u (SpellsValue kind digits)
        → IfNone u ((v : Datum) → SpellsValue kind digits v → ⊥) → (w : Datum) → MayBe kind w
        → field ≡ value_text [] w → u ≡ Some w
    only u s n w may e =
        let digits_are : digits ≡ signed_decimal w.number =
        append_cancel_right digits (signed_decimal w.number) tail (sym whole ∙ e ∙ text_of w may.0) in
        let told : SpellsValue kind digits w =
        (subst (λ k. same_kind kind k ≡ true) (sym may.0) (same_kind-refl kind), may.1, digits_are) in
        decided u s n w may told

-- ---- hexadecimal digits

pub pow_room : (k : ℕ) → k ≤ 15 → 16 ^ k * 16 ≤ 2 ^ 64
pow_room k small =
    let room : 16 ^ k ≤ 16 ^ 15 = pow-le-pow_right (lit< tt) small in omega (arith, room)

pow_next : (k : ℕ) → 16 ^ (suc k) ≡ 16 ^ k * 16
pow_next k = pow-suc 16 k

one_is : (a b : ℕ) (xs ys : List ℕ) → a ∷ xs ≡ b ∷ ys → (a ≡ b) × (xs ≡ ys)
one_is a b xs ys e = (cc, cc)

front_is : (xs ys : List ℕ) (x y : ℕ) → xs ++ x ∷ [] ≡ ys ++ y ∷ [] → (xs ≡ ys) × (x ≡ y)
front_is [] [] x y e = (refl, (one_is x y [] [] e).0)
front_is [] (b ∷ ys) x y e = absurd (omega (arith, ap length e, length-append ys (y ∷ [])))
front_is (a ∷ xs) [] x y e = absurd (omega (arith, ap length e, length-append xs (x ∷ [])))
front_is (a ∷ xs) (b ∷ ys) x y e =
    let first = one_is a b (xs ++ x ∷ []) (ys ++ y ∷ []) e in
    let rest = front_is xs ys x y first.1 in
    (ap (λ h. h ∷ xs) first.0 ∙ ap (λ t. b ∷ t) rest.0, rest.1)

pub hexadecimal_more : (k number digit last : ℕ) (field front : List ℕ) → field ≡ front ++ last ∷ []
    → FieldSpells (λ (n : ℕ). n < 16 ^ k) (hexadecimal k) front (Some number)
    → FieldSpells (λ (d : ℕ). d < 16) (λ d. digit_glyph true d ∷ []) (last ∷ []) (Some digit)
    → FieldSpells (λ (n : ℕ). n < 16 ^ suc k) (hexadecimal (suc k)) field (Some (number * 16 + digit))
hexadecimal_more k number digit last field front whole low high =
    let n = number * 16 + digit in
    let small : digit < 16 = high.0.0 in
    let less : number < 16 ^ k = low.0.0 in
    let quotient : n / 16 ≡ number = omega arith in
    let rest : n % 16 ≡ digit = omega arith in
    let within : n < 16 ^ suc k = rw (pow_next k) (omega arith) in
    let glyph : last ≡ digit_glyph true digit = (one_is last (digit_glyph true digit) [] [] high.0.1).0 in
    let text : field ≡ hexadecimal (suc k) n =
    whole ∙ ap (λ xs. xs ++ last ∷ []) low.0.1 ∙ ap (λ b. hexadecimal k number ++ b ∷ []) glyph
    ∙ ap (λ m. hexadecimal k m ++ digit_glyph true digit ∷ []) (sym quotient)
    ∙ ap (λ d. hexadecimal k (n / 16) ++ digit_glyph true d ∷ []) (sym rest) in
    ((within, text), only)
  where
    only : (m : ℕ) → m < 16 ^ suc k → field ≡ hexadecimal (suc k) m → Some (number * 16 + digit) ≡ Some m
    only m inside e =
        let parts = front_is front (hexadecimal k (m / 16)) last (digit_glyph true (m % 16)) (sym whole ∙ e) in
        let bound : m < 16 ^ k * 16 = rw (← pow_next k) inside in
        let above : m / 16 < 16 ^ k = omega arith in
        let first = low.1 (m / 16) above parts.0 in
        let second = high.1 (m % 16) (omega arith) (ap (λ b. b ∷ []) parts.1) in
        let a : number ≡ m / 16 = number_is number (m / 16) first in
        let b : digit ≡ m % 16 = number_is digit (m % 16) second in
        ap Some (omega arith)
      where
        number_is : (x y : ℕ) → ◌≡◌ {A = Option ℕ} (Some x) (Some y) → x ≡ y
        number_is x y h = cc

-- ---- sorts

pub plain_sort : (s : Sort) (bits : ℕ) (z : ℤ) → (s ≡ Signed) ⊎ ((s ≡ Unsigned) ⊎ (s ≡ Place))
    → number_text s bits z ≡ signed_decimal z ++ []
plain_sort s bits z (inl is) = ap (λ t. number_text t bits z) is ∙ sym (append-nil (signed_decimal z))
plain_sort s bits z (inr (inl is)) = ap (λ t. number_text t bits z) is ∙ sym (append-nil (signed_decimal z))
plain_sort s bits z (inr (inr is)) = ap (λ t. number_text t bits z) is ∙ sym (append-nil (signed_decimal z))

truth_kind : (k : Kind) → (row_of k).sort ≡ Truth → k ≡ Boolean
truth_kind Boolean e = refl
truth_kind Sint e = absurd (cc)
truth_kind Int e = absurd (cc)
truth_kind Dint e = absurd (cc)
truth_kind Lint e = absurd (cc)
truth_kind Usint e = absurd (cc)
truth_kind Uint e = absurd (cc)
truth_kind Udint e = absurd (cc)
truth_kind Ulint e = absurd (cc)
truth_kind Byte e = absurd (cc)
truth_kind Word e = absurd (cc)
truth_kind Dword e = absurd (cc)
truth_kind Lword e = absurd (cc)
truth_kind Time e = absurd (cc)
truth_kind (Enumerated names number) e = absurd (cc)

abbrev truth_of : ℤ → Datum
truth_of z = record { kind = Boolean; number = z }

only_truth : (z : ℤ) → holds Boolean z ≡ true → codes "TRUE" ≡ value_text [] (truth_of z)
    → ◌≡◌ {A = Option Datum} (Some (truth_of (pos 1))) (Some (truth_of z))
only_truth (pos zero) h e = let bad = head_is 84 70 _ _ e in absurd (omega arith)
only_truth (pos (suc zero)) h e = refl
only_truth (pos (suc (suc n))) h e =
    let high = (and_parts (int_le (pos 0) (pos (suc (suc n)))) (int_le (pos (suc (suc n))) (pos 1)) h).1 in
    let low : pos (suc (suc n)) ≤ℤ pos 1 = le_z_yes (T_from_true (int_le (pos (suc (suc n))) (pos 1)) high) in
    absurd (omega (arith, ints))
only_truth (negsuc n) h e =
    let low = (and_parts (int_le (pos 0) (negsuc n)) (int_le (negsuc n) (pos 1)) h).0 in
    let bad : pos 0 ≤ℤ negsuc n = le_z_yes (T_from_true (int_le (pos 0) (negsuc n)) low) in
    absurd (omega (arith, ints))

only_of : (field : List ℕ) → field ≡ codes "TRUE" → (w : Datum) → MayBe Boolean w → field ≡ value_text [] w
    → ◌≡◌ {A = Option Datum} (Some (truth_of (pos 1))) (Some w)
only_of field is w may e =
    let whole : truth_of w.number ≡ w = ap (λ k. record { kind = k; number = w.number }) (sym may.0) in
    let held : holds Boolean w.number ≡ true = subst (λ k. holds k w.number ≡ true) may.0 may.1 in
    only_truth w.number held (sym is ∙ e ∙ ap (value_text []) (sym whole)) ∙ ap Some whole

pub truth_told : (kind : Kind) (field : List ℕ) → (row_of kind).sort ≡ Truth → field ≡ codes "TRUE"
    → FieldSpells (MayBe kind) (value_text []) field (result_ok (in_range kind (pos 1)))
truth_told kind field sort is =
    subst (λ k. FieldSpells (MayBe k) (value_text []) field (result_ok (in_range k (pos 1)))) (sym (truth_kind kind sort))
    (((refl, refl), is), only_of field is)
