-- Decimal numbers, read and spelled.
use Rattle.std.proofs.Common.{◌≡◌, ◌≢◌, ◌∙◌, subst, sym, refl, ap, ℕ, suc, zero, ◌+◌, ◌-◌, ◌<◌, ◌≤◌, ◌^◌, ℤ, pos, negsuc, List}
use Rattle.std.proofs.Common.{[], ◌∷◌, length, take, drop, get_or, Bool, true, false, ◌&&◌, ◌==◌, Option, Some, None}
use Rattle.std.proofs.Common.{IfSome, IfNone, Result, Ok, Err, IfOk, arith, unsigned_abs}
use Rattle.std.specs.Result.{result_ok}
use Rattle.std.specs.Prelude.{◌≤ℤ◌, neg_ℤ, int_le, if◌then◌else◌}
use Rattle.std.specs.Int.Signed.{le_z_yes}
use Rattle.std.proofs.lemmas.Int.{ints}
use Rattle.std.proofs.lemmas.Bool.{and_parts}
use Rattle.std.proofs.lemmas.Float.{T_from_true}
use Rattle.st_types.specs.declared.kind.Kind.{Kind}
use Rattle.st_types.specs.declared.kind.Kind.TheVariants.{Sint, Int, Dint, Lint, Usint, Uint, Udint, Ulint, Byte, Word}
use Rattle.st_types.specs.declared.kind.Kind.TheVariants.{Dword, Lword, Time, Bool as Boolean, Enumerated}
use Rattle.st_types.specs.declared.fault.Fault.{Fault}
use Rattle.st_types.specs.declared.fault.Fault.TheVariants.{Range}
use Rattle.st_types.specs.Kinds.{holds, least, greatest, names_in, same_kind}
use Rattle.st_types.proofs.KindLemmas.{same_kind_is, same_kind-refl}
use Rattle.st_types.specs.Values.{Datum}
use Rattle.std.specs.Str.{IsUtf8}
use Rattle.std.specs.Str.Parse.{AllDigits, digits_value, ParsesUnsigned}
use Rattle.std.specs.Fmt.{decimal, signed_decimal}
use Rattle.std.proofs.lemmas.Str.{IsUtf8-from_ascii}
use Rattle.std.proofs.lemmas.Str.Parse.{IsNumeralModel, numerals_by_value, tells_digits, parse_plain, digit_at}
use Rattle.std.proofs.lemmas.Fmt.{decimal-digits_value, parse-decimal, decimal_is_IsNumeral, first_decimal}
use Rattle.std.proofs.lemmas.Fmt.{decimal_digit, IsAscii-decimal, decimal_injective}
use Rattle.std.proofs.lemmas.Bool.Decides.{nat_tests}
use Rattle.std.proofs.lemmas.Grind.{common_steps}
use Rattle.st_print.specs.Numbers.{may_begin, SpellsValue}

own : IsNumeralModel (AllDigits 10) (digits_value 10)
own = numerals_by_value (AllDigits 10) tells_digits

-- a field that begins like a number doesn't begin with a sign
no_plus : (bs : List ℕ) → may_begin bs ≡ true → get_or bs 0 0 ≢ 43
no_plus [] h = absurd (cc)
no_plus (b ∷ bs) h = grind (arith, nat_tests)

-- a field that begins with a 0 is a 0
alone : (bs : List ℕ) → may_begin bs ≡ true → get_or bs 0 0 ≡ 48 → length bs ≡ 1
alone [] h e = absurd (cc)
alone (b ∷ bs) h e = grind (arith, nat_tests)

-- a field that is parsed is the spelling of its number
pub spelled_number : {E : Type 0} (bs : List ℕ) (r : Result ℕ E) → may_begin bs ≡ true → ParsesUnsigned 64 10 bs r
    → IfOk r (λ n. bs ≡ decimal n)
spelled_number {E} bs (Ok n) h p =
    let (digits, is) = parse_plain own {E = E} 64 bs (Ok n) p (no_plus bs h) in
    let back = decimal-digits_value own bs digits.0 digits.1 (alone bs h) digits.2 in
    sym back ∙ ap decimal (sym is)
spelled_number {E} bs (Err e) h p = tt

-- the spelling of a number is parsed
pub number_parsed : {E : Type 0} (bs : List ℕ) (r : Result ℕ E) → ParsesUnsigned 64 10 bs r → (n : ℕ) → n < 2 ^ 64
    → bs ≡ decimal n → r ≡ Ok n
number_parsed bs r p n small e = parse-decimal 64 n bs r small small e p

begins_at : (bs : List ℕ) → 0 < length bs → 48 < get_or bs 0 0 → get_or bs 0 0 ≤ 57 → may_begin bs ≡ true
begins_at [] h a b = absurd (omega arith)
begins_at (c ∷ bs) h a b = grind (arith, nat_tests)

pub begins_decimal : (n : ℕ) → n < 2 ^ 64 → may_begin (decimal n) ≡ true
begins_decimal zero small = rw (decimal_digit 0 (omega arith)) refl
begins_decimal (suc n) small =
    let numeral = (decimal_is_IsNumeral (suc n) small).0 in
    begins_at (decimal (suc n)) numeral.0 (first_decimal (suc n) (omega arith) small)
    (digit_at (decimal (suc n)) 0 numeral.1 numeral.0).1

pub utf8_decimal : (n : ℕ) → n < 2 ^ 64 → IsUtf8 (decimal n)
utf8_decimal n small = IsUtf8-from_ascii (decimal n) (IsAscii-decimal n small)

-- a fact for no value, from another one
pub map_none : {X : Type 0} {A B : Type 0} (o : Option X) → (A → B) → IfNone o A → IfNone o B
map_none None f a = f a
map_none (Some x) f a = tt

-- the same for the value of a result
pub ok_some : {X E : Type 0} (P : X → Type 0) (r : Result X E) → IfOk r P → IfSome (result_ok r) P
ok_some P (Ok x) h = h
ok_some P (Err e) h = tt

-- if nothing was parsed, nothing is spelled
pub none_spelled : {E : Type 0} (bs : List ℕ) (r : Result ℕ E) → ((n : ℕ) → n < 2 ^ 64 → bs ≡ decimal n → r ≡ Ok n)
    → IfNone (result_ok r) ((n : ℕ) → n < 2 ^ 64 → bs ≢ decimal n)
none_spelled bs (Ok n) h = tt
none_spelled bs (Err e) h = λ n small is. let impossible = h n small is in cc

-- a decimal number begins with a digit
no_minus : (n : ℕ) → n < 2 ^ 64 → (bs : List ℕ) → 45 ∷ bs ≢ decimal n
no_minus n small bs e =
    let numeral = (decimal_is_IsNumeral n small).0 in
    let first = (digit_at (decimal n) 0 numeral.1 numeral.0).0 in
    let is : get_or (decimal n) 0 0 ≡ 45 = rw (← e) refl in
    absurd (omega arith)

same_rest : (b : ℕ) (bs : List ℕ) → take (length (b ∷ bs) - 1) (drop 1 (b ∷ bs)) ≡ bs
same_rest b bs = grind (arith, common_steps)

-- the digits after a minus
pub none_behind_minus : (bs : List ℕ) → 1 ≤ length bs → get_or bs 0 0 ≡ 45
    → ((n : ℕ) → n + 1 < 2 ^ 64 → take (length bs - 1) (drop 1 bs) ≢ decimal (n + 1))
    → (z : ℤ) → unsigned_abs z < 2 ^ 64 → bs ≢ signed_decimal z
none_behind_minus [] some first none z short e = absurd (omega arith)
none_behind_minus (b ∷ bs) some first none (pos n) short e = no_minus n short bs (rw (← first) e)
none_behind_minus (b ∷ bs) some first none (negsuc n) short e =
    let rest : bs ≡ decimal (suc n) = cc in
    let next : suc n ≡ n + 1 = omega arith in
    none n (omega arith) (same_rest b bs ∙ (rest ∙ ap decimal next))

-- a type's numbers are short
held_within : (low high z : ℤ) → neg_ℤ (pos (2 ^ 63)) ≤ℤ low → high ≤ℤ pos (2 ^ 64 - 1)
    → (int_le low z && int_le z high) ≡ true → unsigned_abs z < 2 ^ 64
held_within low high z a b h =
    let parts = and_parts (int_le low z) (int_le z high) h in
    let above : low ≤ℤ z = le_z_yes (T_from_true (int_le low z) parts.0) in
    let below : z ≤ℤ high = le_z_yes (T_from_true (int_le z high) parts.1) in
    short z (omega (arith, ints)) (omega (arith, ints))
  where
    short : (y : ℤ) → neg_ℤ (pos (2 ^ 63)) ≤ℤ y → y ≤ℤ pos (2 ^ 64 - 1) → unsigned_abs y < 2 ^ 64
    short (pos n) low high = omega (arith, ints)
    short (negsuc n) low high = omega (arith, ints)

least_is : (k : Kind) → neg_ℤ (pos (2 ^ 63)) ≤ℤ least k
least_is Sint = le_z_yes tt
least_is Int = le_z_yes tt
least_is Dint = le_z_yes tt
least_is Lint = le_z_yes tt
least_is Usint = le_z_yes tt
least_is Uint = le_z_yes tt
least_is Udint = le_z_yes tt
least_is Ulint = le_z_yes tt
least_is Byte = le_z_yes tt
least_is Word = le_z_yes tt
least_is Dword = le_z_yes tt
least_is Lword = le_z_yes tt
least_is Time = le_z_yes tt
least_is Boolean = le_z_yes tt
least_is (Enumerated names number) = le_z_yes tt

greatest_is : (k : Kind) → names_in k < 2 ^ 16 → greatest k ≤ℤ pos (2 ^ 64 - 1)
greatest_is Sint few = le_z_yes tt
greatest_is Int few = le_z_yes tt
greatest_is Dint few = le_z_yes tt
greatest_is Lint few = le_z_yes tt
greatest_is Usint few = le_z_yes tt
greatest_is Uint few = le_z_yes tt
greatest_is Udint few = le_z_yes tt
greatest_is Ulint few = le_z_yes tt
greatest_is Byte few = le_z_yes tt
greatest_is Word few = le_z_yes tt
greatest_is Dword few = le_z_yes tt
greatest_is Lword few = le_z_yes tt
greatest_is Time few = le_z_yes tt
greatest_is Boolean few = le_z_yes tt
greatest_is (Enumerated names number) few = omega (arith, ints)

pub held_short : (k : Kind) (z : ℤ) → names_in k < 2 ^ 16 → holds k z ≡ true → unsigned_abs z < 2 ^ 64
held_short k z few h = held_within (least k) (greatest k) z (least_is k) (greatest_is k few) h

-- a spelling has one number
pub one_number : (y z : ℤ) → unsigned_abs y < 2 ^ 64 → unsigned_abs z < 2 ^ 64 → signed_decimal y ≡ signed_decimal z
    → y ≡ z
one_number (pos m) (pos n) a b e = ap pos (decimal_injective m n a b e)
one_number (pos m) (negsuc n) a b e = absurd (no_minus m a (decimal (suc n)) (sym e))
one_number (negsuc m) (pos n) a b e = absurd (no_minus n b (decimal (suc m)) e)
one_number (negsuc m) (negsuc n) a b e =
    let digits : decimal (suc m) ≡ decimal (suc n) = cc in
    let same = decimal_injective (suc m) (suc n) a b digits in
    let less : m ≡ n = omega arith in
    ap negsuc less

abbrev pub made : Kind → ℤ → Bool → Result Datum Fault
made k z b = if b then Ok (record { kind = k; number = z }) else Err Range

pub value_spelled : (k : Kind) (field : List ℕ) (z : ℤ) (b : Bool) → b ≡ holds k z → field ≡ signed_decimal z
    → IfSome (result_ok (made k z b)) (SpellsValue k field)
value_spelled k field z true h e = (same_kind-refl k, sym h, e)
value_spelled k field z false h e = tt

pub value_refused : (k : Kind) (field : List ℕ) (z : ℤ) (b : Bool) → names_in k < 2 ^ 16 → b ≡ holds k z → unsigned_abs z < 2 ^ 64
    → field ≡ signed_decimal z
    → IfNone (result_ok (made k z b)) ((v : Datum) → SpellsValue k field v → ⊥)
value_refused k field z true few h short e = tt
value_refused k field z false few h short e = λ v spells.
    let kind = same_kind_is k v.kind spells.0 in
    let number = one_number z v.number short (held_short v.kind v.number (subst (λ (l : Kind). names_in l < 2 ^ 16) kind few) spells.1) (sym e ∙ spells.2) in
    let held : holds k z ≡ true = rw (kind, number) spells.1 in
    cc
