-- Writing a record's fields one after the other.
use Rattle.std.proofs.Common.{subst, ◌≡◌, ℕ, suc, ◌+◌, ◌-◌, ◌<◌, ◌≤◌, ◌^◌, ◌++◌, [], List, length, take, drop, get_or}
use Rattle.std.proofs.Common.{refl}
use Rattle.std.proofs.Common.{sym, ap, ◌∙◌, arith, append_assoc}
use Rattle.std.specs.Int.{Width, w64, w128, to_be_bytes, cast_unsigned}
use Rattle.std.specs.Prelude.{ℤ, pos, negsuc, ◌+ℤ◌, ◌<ℤ◌, ◌≤ℤ◌, neg_ℤ, true}
use lib.Signed.{mag, lt_z}
use lib.IntN.{nat_abs}
use mir.Val.{bits, SFits, to_z, of_z}
use Rattle.std.specs.List.{flat_map}
use Rattle.std.proofs.lemmas.List.{flat_map_more, take_more, drop_more, length-append, take-append-drop}
use Rattle.std.proofs.lemmas.Int.{ints, to_z-of_z}
use Rattle.std.proofs.lemmas.List.Concat.{flat_map-append}
use Rattle.st_types.specs.declared.kind.Kind.{Kind}
use Rattle.st_types.specs.declared.kind.Kind.TheVariants.{Sint, Int, Dint, Lint, Usint, Uint, Udint, Ulint, Byte, Word}
use Rattle.st_types.specs.declared.kind.Kind.TheVariants.{Dword, Lword, Time, Bool as Boolean, Enumerated}
use Rattle.st_types.specs.Values.{Datum}
use Rattle.st_types.specs.Kinds.{holds, width_of}
use Rattle.retain_records.specs.LineLaws.{near_of}
use Rattle.retain_records.specs.Records.{wide_of, value_bytes}

-- the last bytes of eight
last_bytes : (k : Kind) (n : ℕ)
    → take (8 - (8 - width_of k)) (drop (8 - width_of k) (to_be_bytes w64 n)) ≡ to_be_bytes (wide_of k) n
last_bytes Sint n = refl
last_bytes Int n = refl
last_bytes Dint n = refl
last_bytes Lint n = refl
last_bytes Usint n = refl
last_bytes Uint n = refl
last_bytes Udint n = refl
last_bytes Ulint n = refl
last_bytes Byte n = refl
last_bytes Word n = refl
last_bytes Dword n = refl
last_bytes Lword n = refl
last_bytes Time n = refl
last_bytes Boolean n = refl
last_bytes (Enumerated names number) n = refl

pub value_written : (d : Datum) (k : Kind) (width n : ℕ) (bytes before after : List ℕ) → k ≡ d.kind → width ≡ width_of k
    → n ≡ cast_unsigned (wide_of d.kind) d.number → bytes ≡ to_be_bytes w64 n
    → after ≡ before ++ take (8 - (8 - width)) (drop (8 - width) bytes) → after ≡ before ++ value_bytes d
value_written d k width n bytes before after kind is bits spelled put =
    put ∙ ap (λ (x : List ℕ). before ++ x)
    (rw (is, kind, spelled, bits) (last_bytes d.kind (cast_unsigned (wide_of d.kind) d.number)))

-- the bytes of the values so far, of the next and of the others are those of all
pub values_split : (values : List Datum) (i : ℕ) (d : Datum) → i < length values
    → length (flat_map value_bytes (take i values))
    + (length (value_bytes (get_or values i d)) + length (flat_map value_bytes (drop (i + 1) values)))
    ≡ length (flat_map value_bytes values)
values_split values i d lt =
    let e : flat_map value_bytes values ≡ flat_map value_bytes (take i values)
    ++ (value_bytes (get_or values i d) ++ flat_map value_bytes (drop (i + 1) values)) =
    ap (flat_map value_bytes) (sym (take-append-drop i values))
    ∙ flat_map-append value_bytes (take i values) (drop i values)
    ∙ ap (λ (vs : List Datum). flat_map value_bytes (take i values) ++ flat_map value_bytes vs)
    (drop_more values i d lt) in
    omega (
      arith,
      ap length e,
      length-append (flat_map value_bytes (take i values))
          (value_bytes (get_or values i d) ++ flat_map value_bytes (drop (i + 1) values)),
      length-append (value_bytes (get_or values i d)) (flat_map value_bytes (drop (i + 1) values)),
    )

-- one more value
pub values_more : (values : List Datum) (i : ℕ) (d : Datum) → i < length values
    → flat_map value_bytes (take (i + 1) values) ≡ flat_map value_bytes (take i values)
    ++ value_bytes (get_or values i d)
values_more values i d lt =
    rw (take_more values i d lt) (sym (flat_map_more value_bytes [] (take i values) (get_or values i d)))

-- a negative number counted from the other end of its type's bits
counted : (s n : ℕ) → n < s → negsuc n +ℤ pos s ≡ pos (s - suc n)
counted s n lt = omega (arith, ints)

complement : (w : Width) (z : ℤ) → mag z < 2 ^ bits w → z <ℤ pos 0 → nat_abs (z +ℤ pos (2 ^ bits w)) ≡ cast_unsigned w z
complement w (pos n) low negative = absurd (omega (arith, ints))
complement w (negsuc n) low negative = ap nat_abs (counted (2 ^ bits w) n low)

negative_from : (z : ℤ) → lt_z z (pos 0) ≡ true → z <ℤ pos 0
negative_from z h = grind (arith, ints)

sum_fits : (z : ℤ) (s : ℤ) → neg_ℤ (pos (2 ^ 63)) ≤ℤ z → z <ℤ pos 0 → pos 0 ≤ℤ s → s ≤ℤ pos (2 ^ 64)
    → SFits w128 (z +ℤ s)
sum_fits z s low negative up high = omega (arith, ints)

pub bits_are : (d : Datum) (k : Kind) (number span : ℤ) → number ≡ d.number → holds d.kind d.number ≡ true → k ≡ d.kind
    → span ≡ pos (2 ^ bits (wide_of k)) → neg_ℤ (pos (2 ^ 63)) ≤ℤ number → span ≤ℤ pos (2 ^ 64)
    → SFits w128 number → SFits w128 span → lt_z (to_z w128 (of_z w128 number)) (pos 0) ≡ true
    → nat_abs (to_z w128 (of_z w128 (to_z w128 (of_z w128 number) +ℤ to_z w128 (of_z w128 span))))
    ≡ cast_unsigned (wide_of d.kind) d.number
bits_are d k number span is held kind exact low high number_fits span_fits test =
    let plain : to_z w128 (of_z w128 number) ≡ number = to_z-of_z w128 number number_fits in
    let plain_span : to_z w128 (of_z w128 span) ≡ span = to_z-of_z w128 span span_fits in
    let negative : number <ℤ pos 0 = negative_from number (ap (λ (z : ℤ). lt_z z (pos 0)) (sym plain) ∙ test) in
    let up : pos 0 ≤ℤ span = rw exact (omega (arith, ints)) in
    let sum : SFits w128 (number +ℤ span) = sum_fits number span low negative up high in
    let near : mag number < 2 ^ bits (wide_of d.kind) = rw is (near_of d.kind d.number held (subst (λ (z : ℤ). z <ℤ
    pos 0) is negative)) in
    let whole : nat_abs (to_z w128 (of_z w128 (to_z w128 (of_z w128 number) +ℤ to_z w128 (of_z w128 span))))
    ≡ nat_abs (number +ℤ span) = rw (plain, plain_span, to_z-of_z w128 (number +ℤ span) sum) refl in
    let wide : nat_abs (number +ℤ span) ≡ nat_abs (number +ℤ pos (2 ^ bits (wide_of d.kind))) =
    ap (λ (s : ℤ). nat_abs (number +ℤ s)) exact
    ∙ ap (λ (l : Kind). nat_abs (number +ℤ pos (2 ^ bits (wide_of l)))) kind in
    whole ∙ wide ∙ complement (wide_of d.kind) number near negative
    ∙ ap (λ (z : ℤ). cast_unsigned (wide_of d.kind) z) is

-- there is room for the next value
pub room_left : (values : List Datum) (i : ℕ) (v : Datum) (at end room now : ℕ) → i < length values
    → v ≡ get_or values i v → at + length (flat_map value_bytes values) ≤ room → now ≡ room
    → end ≡ at + length (flat_map value_bytes (take i values)) → end + length (value_bytes v) ≤ now
room_left values i v at end room now lt is fits same offset =
    let s : length (flat_map value_bytes (take i values))
    + (length (value_bytes v) + length (flat_map value_bytes (drop (i + 1) values)))
    ≡ length (flat_map value_bytes values) = ap (λ (d : Datum). length (flat_map value_bytes (take i values))
    + (length (value_bytes d) + length (flat_map value_bytes (drop (i + 1) values)))) is
    ∙ values_split values i v lt in
    omega (arith, s)

-- and after it the values so far and this one are written
pub value_behind : (values : List Datum) (i : ℕ) (v : Datum) (old front after : List ℕ) (at end next : ℕ)
    → i < length values → v ≡ get_or values i v → front ≡ old ++ flat_map value_bytes (take i values)
    → after ≡ front ++ value_bytes v
    → end ≡ at + length (flat_map value_bytes (take i values)) → next ≡ end + length (value_bytes v)
    → (next ≡ at + length (flat_map value_bytes (take (i + 1) values)))
    × (after ≡ old ++ flat_map value_bytes (take (i + 1) values))
value_behind values i v old front after at end next lt is so_far put offset ends =
    let more : flat_map value_bytes (take (i + 1) values) ≡ flat_map value_bytes (take i values) ++ value_bytes v =
    values_more values i v lt
    ∙ ap (λ (d : Datum). flat_map value_bytes (take i values) ++ value_bytes d) (sym is) in (
      omega (arith, ap length more, length-append (flat_map value_bytes (take i values)) (value_bytes v)),
      rw (put, so_far, more) (append_assoc old (flat_map value_bytes (take i values)) (value_bytes v)),
    )
