-- Consecutive slots.
use Rattle.std.proofs.Common.{◌≡◌, ℕ, zero, suc, ◌+◌, ◌<◌, ◌≤◌, ◌-◌, List, [], ◌∷◌, length, take, drop, refl, ap}
use Rattle.std.proofs.Common.{◌∙◌, arith, Option, Some, None, Ok, Err, option_map, Bool, true, false}
use Rattle.std.proofs.Common.{if◌then◌else◌, ◌&&◌, get_or}
use Rattle.std.proofs.lemmas.Option.{slice_get_past}
use Rattle.std.specs.Prelude.{ℤ, option_and_then, slice_get, slice_set}
use Rattle.st_types.specs.Kinds.{holds, same_kind}
use Rattle.st_types.specs.declared.kind.Kind.{Kind}
use Rattle.st_types.specs.declared.fault.Fault.{Fault}
use Rattle.st_types.specs.declared.fault.Fault.TheVariants.{Range}
use Rattle.st_types.specs.Values.{Datum, IsHeld, in_range}
use Rattle.st_meaning.specs.Failures.{ill_typed}
use Rattle.slot_trees.specs.SlotExecution.{stored_at, stored_over}
use Rattle.st_meaning.specs.Ticks.{proceed}
use Rattle.std_blocks.specs.Members.{all_stored, values_from}

front_is : (vs : List Datum) (k n : ℕ) (v : Datum) → slice_get vs k ≡ Some v → take (suc n) (drop k vs) ≡ v
    ∷ take n (drop (suc k) vs)
front_is [] k n v e = absurd cc
front_is (x ∷ vs) zero n v e = let same : x ≡ v = cc in rw same refl
front_is (x ∷ vs) (suc k) n v e = front_is vs k n v e

there_at : (vs : List Datum) (k : ℕ) → k < length vs → (v : Datum) × (slice_get vs k ≡ Some v)
there_at [] k h = absurd (omega (arith, h))
there_at (x ∷ vs) zero h = (x, refl)
there_at (x ∷ vs) (suc k) h = there_at vs k (omega (arith, h))

abbrev datum : Kind → ℤ → Datum
datum k z = record { kind = k; number = z }

pub values_so : (vs : List Datum) (at count : ℕ) → at + count ≤ length vs
    → values_from vs at count ≡ Some (take count (drop at vs))
unfolding values_from
values_so vs at zero h = refl
values_so vs at (suc n) h =
    let f = there_at vs at (omega (arith, h)) in
    rw (f.1, values_so vs (suc at) n (omega (arith, h)), front_is vs at n f.0 f.1) refl

pub values_there : (vs : List Datum) (at count : ℕ) → at + count ≤ length vs
    → values_from vs at count ≡ Some (take (at + count - at) (drop at vs))
values_there vs at count h =
    let e : at + count - at ≡ count = omega arith in rw e (values_so vs at count h)

pub values_beyond : (vs : List Datum) (at count : ℕ) → 0 < count → length vs < at + count
    → values_from vs at count ≡ None
unfolding values_from
values_beyond vs at zero some h = absurd (omega (arith, some))
values_beyond vs at (suc zero) some h = rw (slice_get_past vs at (omega (arith, h))) refl
values_beyond vs at (suc (suc n)) some h =
    rw (values_beyond vs (suc at) (suc n) (omega arith) (omega (arith, h))) (nothing (slice_get vs at))
  where
    nothing : (o : Option Datum) → option_and_then (λ v. option_map (λ (xs : List Datum). v ∷ xs) None) o ≡ None
    nothing None = refl
    nothing (Some v) = refl

pub stored_where : (vs : List Datum) (k : ℕ) (old v : Datum) → slice_get vs k ≡ Some old
    → same_kind old.kind v.kind ≡ true → IsHeld v → stored_at vs k v ≡ Ok (slice_set vs k v)
stored_where vs k old v there same held =
    ap (λ o. stored_over o vs k v) there ∙ by_tests (same_kind old.kind v.kind) (holds v.kind v.number) same held
  where
    by_tests : (a b : Bool) → a ≡ true → b ≡ true
        → (if a && b then Ok (slice_set vs k v) else Err ill_typed) ≡ Ok (slice_set vs k v)
    by_tests a b p q = rw (p, q) refl

pub not_stored : (vs : List Datum) (k : ℕ) (old v : Datum) → slice_get vs k ≡ Some old
    → same_kind old.kind v.kind ≡ false → stored_at vs k v ≡ Err ill_typed
not_stored vs k old v there same =
    ap (λ o. stored_over o vs k v) there ∙ by_test (same_kind old.kind v.kind) same
  where
    by_test : (a : Bool) → a ≡ false
        → (if a && holds v.kind v.number then Ok (slice_set vs k v) else Err ill_typed) ≡ Err ill_typed
    by_test a p = rw p refl

-- the values after one that is stored
pub stored_on : (vs us : List Datum) (k : ℕ) (x : Datum) (xs : List Datum) → stored_at vs k x ≡ Ok us
    → all_stored vs k (x ∷ xs) ≡ all_stored us (k + 1) xs
unfolding all_stored
stored_on vs us k x xs e =
    let next : suc k ≡ k + 1 = omega arith in
    ap (λ r. proceed r (λ us. all_stored us (suc k) xs)) e ∙ ap (λ j. all_stored us j xs) next

-- a list by its elements
pub six : (xs : List Datum) (a b c d e f : Datum) → length xs ≡ 6 → a ≡ get_or xs 0 a → b ≡ get_or xs 1 b
    → c ≡ get_or xs 2 c → d ≡ get_or xs 3 d → e ≡ get_or xs 4 e → f ≡ get_or xs 5 f
    → xs ≡ a ∷ b ∷ c ∷ d ∷ e ∷ f ∷ []
six [] a b c d e f l p q r s t m = absurd (omega (arith, l))
six (x ∷ []) a b c d e f l p q r s t m = absurd (omega (arith, l))
six (x ∷ y ∷ []) a b c d e f l p q r s t m = absurd (omega (arith, l))
six (x ∷ y ∷ z ∷ []) a b c d e f l p q r s t m = absurd (omega (arith, l))
six (x ∷ y ∷ z ∷ u ∷ []) a b c d e f l p q r s t m = absurd (omega (arith, l))
six (x ∷ y ∷ z ∷ u ∷ v ∷ []) a b c d e f l p q r s t m = absurd (omega (arith, l))
six (x ∷ y ∷ z ∷ u ∷ v ∷ w ∷ []) a b c d e f l p q r s t m = rw (p, q, r, s, t, m) refl
six (x ∷ y ∷ z ∷ u ∷ v ∷ w ∷ k ∷ xs) a b c d e f l p q r s t m = absurd (omega (arith, l))

pub ten : (xs : List Datum) (a b c d e f g h i j : Datum) → length xs ≡ 10
    → a ≡ get_or xs 0 a
    → b ≡ get_or xs 1 b
    → c ≡ get_or xs 2 c
    → d ≡ get_or xs 3 d
    → e ≡ get_or xs 4 e
    → f ≡ get_or xs 5 f
    → g ≡ get_or xs 6 g
    → h ≡ get_or xs 7 h
    → i ≡ get_or xs 8 i
    → j ≡ get_or xs 9 j
    → xs ≡ a ∷ b ∷ c ∷ d ∷ e ∷ f ∷ g ∷ h ∷ i ∷ j ∷ []
ten [] a b c d e f g h i j l e0 e1 e2 e3 e4 e5 e6 e7 e8 e9 = absurd (omega (arith, l))
ten (x0 ∷ []) a b c d e f g h i j l e0 e1 e2 e3 e4 e5 e6 e7 e8 e9 = absurd (omega (arith, l))
ten (x0 ∷ x1 ∷ []) a b c d e f g h i j l e0 e1 e2 e3 e4 e5 e6 e7 e8 e9 = absurd (omega (arith, l))
ten (x0 ∷ x1 ∷ x2 ∷ []) a b c d e f g h i j l e0 e1 e2 e3 e4 e5 e6 e7 e8 e9 = absurd (omega (arith, l))
ten (x0 ∷ x1 ∷ x2 ∷ x3 ∷ []) a b c d e f g h i j l e0 e1 e2 e3 e4 e5 e6 e7 e8 e9 = absurd (omega (arith, l))
ten (x0 ∷ x1 ∷ x2 ∷ x3 ∷ x4 ∷ []) a b c d e f g h i j l e0 e1 e2 e3 e4 e5 e6 e7 e8 e9 = absurd (omega (arith, l))
ten (x0 ∷ x1 ∷ x2 ∷ x3 ∷ x4 ∷ x5 ∷ []) a b c d e f g h i j l e0 e1 e2 e3 e4 e5 e6 e7 e8 e9 = absurd (omega (arith, l))
ten (x0 ∷ x1 ∷ x2 ∷ x3 ∷ x4 ∷ x5 ∷ x6 ∷ []) a b c d e f g h i j l e0 e1 e2 e3 e4 e5 e6 e7 e8 e9 = absurd (omega
    (arith, l))
ten (x0 ∷ x1 ∷ x2 ∷ x3 ∷ x4 ∷ x5 ∷ x6 ∷ x7
    ∷ []) a b c d e f g h i j l e0 e1 e2 e3 e4 e5 e6 e7 e8 e9 = absurd (omega (arith, l))
ten (x0 ∷ x1 ∷ x2 ∷ x3 ∷ x4 ∷ x5 ∷ x6 ∷ x7 ∷ x8
    ∷ []) a b c d e f g h i j l e0 e1 e2 e3 e4 e5 e6 e7 e8 e9 = absurd (omega (arith, l))
ten (x0 ∷ x1 ∷ x2 ∷ x3 ∷ x4 ∷ x5 ∷ x6 ∷ x7 ∷ x8 ∷ x9 ∷ []) a b c d e f g h i j l e0 e1 e2 e3 e4 e5 e6 e7 e8 e9 =
    rw (e0, e1, e2, e3, e4, e5, e6, e7, e8, e9) refl
ten (x0 ∷ x1 ∷ x2 ∷ x3 ∷ x4 ∷ x5 ∷ x6 ∷ x7 ∷ x8 ∷ x9 ∷ y
    ∷ xs) a b c d e f g h i j l e0 e1 e2 e3 e4 e5 e6 e7 e8 e9 = absurd (omega (arith, l))

-- a number that is one of the type is its value, and there is none of another
pub value_of : (k : Kind) (z : ℤ) (v : Datum) → in_range k z ≡ Ok v → v ≡ record { kind = k; number = z }
value_of k z v = by_test (holds k z)
  where
    by_test : (t : Bool) → (if t then Ok (datum k z) else Err Range) ≡ Ok v → v ≡ datum k z
    by_test true e = cc
    by_test false e = absurd cc

pub no_value : (k : Kind) (z : ℤ) (f : Fault) → in_range k z ≡ Err f → holds k z ≡ false
no_value k z f = by_test (holds k z)
  where
    by_test : (t : Bool) → (if t then Ok (datum k z) else Err Range) ≡ Err f → t ≡ false
    by_test true e = absurd cc
    by_test false e = refl
