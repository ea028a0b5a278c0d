-- Sums of milliseconds.
use Rattle.std.proofs.Common.{◌≡◌, ℕ, ◌+◌, ◌-◌, ◌^◌, List, [], ◌∷◌, length, take, drop, get_or, Bool, ◌∙◌, ◌≤◌, Option}
use Rattle.std.proofs.Common.{Some, None, cond, ltb, true, false, refl, sym, arith, inl, inr}
use Rattle.std.proofs.lemmas.Bool.{lt-ltb, cases_lt, le-ltb}
use Rattle.std.proofs.lemmas.List.{take_all}
use Rattle.st_lex.specs.declared.time_unit.TimeUnit.{TimeUnit}
use Rattle.st_lex.specs.declared.time_unit.TimeUnit.TheVariants.{Day}
use Rattle.st_lex.specs.Durations.{sum, fits, parts, part_milliseconds, is_part_in, after_part, over_underscore}

-- a sum is too large if a part of it is
pub fits_sum : (a b : Option ℕ) → fits (sum (fits a) (fits b)) ≡ fits (sum a b)
fits_sum None b = refl
fits_sum (Some n) None = elim (ltb n (2 ^ 63)) as (λ x. fits (sum (cond x (Some n) None) None) ≡ None) [
  | true ↦ refl
  | false ↦ refl
]
fits_sum (Some n) (Some m) = elim (cases_lt n (2 ^ 63)) [
  | inl a ↦ elim (cases_lt m (2 ^ 63)) [
    | inl b ↦ rw (lt-ltb n (2 ^ 63) a, lt-ltb m (2 ^ 63) b) refl
    | inr b ↦ rw (lt-ltb n (2 ^ 63) a, le-ltb m (2 ^ 63) b, le-ltb (n + m) (2 ^ 63) (omega arith)) refl
  ]
  | inr a ↦ rw (le-ltb n (2 ^ 63) a, le-ltb (n + m) (2 ^ 63) (omega arith)) refl
]

-- a part in the first of the units, and the rest in the smaller ones
pub with_part :
    (units : List TimeUnit) (is_first is_part : Bool) (text front rest : List ℕ) (part smaller whole : Option ℕ)
    → 1 ≤ length units → front ≡ over_underscore is_first text → rest ≡ after_part front
    → is_part ≡ is_part_in (get_or units 0 Day) front → is_part ≡ true
    → part ≡ fits (part_milliseconds (get_or units 0 Day) is_first front)
    → smaller ≡ fits (parts (take (length units - 1) (drop 1 units)) false rest)
    → whole ≡ fits (sum part smaller) → whole ≡ fits (parts units is_first text)
with_part [] is_first is_part text front rest part smaller whole some f r p t m s w = absurd (omega arith)
with_part (unit ∷ units) is_first is_part text front rest part smaller whole some f r p t m s w =
    let q : is_part_in unit (over_underscore is_first text) ≡ true = rw (sym f) (sym p ∙ t) in
    let u : take (length (unit ∷ units) - 1) (drop 1 (unit ∷ units)) ≡ units =
    take_all (length (unit ∷ units) - 1) units (omega arith) in
    let v : whole ≡ fits (sum (part_milliseconds unit is_first front) (parts units false rest)) = w
    ∙ rw (m, s, u) (fits_sum (part_milliseconds unit is_first front) (parts units false rest)) in
    rw q (v ∙ rw (r, f) refl)
