-- Declared facts about parts.
use Rattle.std.proofs.Common.{◌≡◌, refl, ap, arith, ℕ, suc, ◌+◌, ◌-◌, ◌<◌, List, [], ◌∷◌, ◌++◌, Bool, true, false}
use Rattle.std.proofs.Common.{Option, Some, None}
use Rattle.st_types.specs.declared.data_type.ArrayType.{ArrayType}
use Rattle.st_types.specs.declared.data_type.VariableType.{VariableType}
use Rattle.st_types.specs.Initials.{Initial}
use Rattle.st_types.specs.declared.declaration.Retention.{Retention}
use Rattle.st_types.specs.declared.declaration.Retention.TheVariants.{Retain, NonRetain}
use Rattle.st_meaning.specs.Plans.{is_retained_by, retained_so_far}
use Rattle.layout.specs.Types as made
use Rattle.layout.specs.KeptSites.{KeptSite, kept, element_part, element_parts}

pub retained_appended : (so : Bool) (xs ys : List (Option Retention))
    → retained_so_far so (xs ++ ys) ≡ retained_so_far (retained_so_far so xs) ys
retained_appended so [] ys = refl
retained_appended so (None ∷ xs) ys = retained_appended so xs ys
retained_appended so (Some Retain ∷ xs) ys = retained_appended true xs ys
retained_appended so (Some NonRetain ∷ xs) ys = retained_appended false xs ys

pub elements_more : (s : made.Site) (a : ArrayType) (n k : ℕ) → k < n
    → element_parts s a k (n - k) ≡ element_part s a k ∷ element_parts s a (k + 1) (n - (k + 1))
elements_more s a n k h = ap (element_parts s a k) (one_less n k h)
  where
    one_less : (n k : ℕ) → k < n → n - k ≡ suc (n - (k + 1))
    one_less n k h = omega (arith, h)

-- a variable with only its declaration's word
pub kept_alone : (t : VariableType) (i : Option Initial) (b : Bool) (rs : List (Option Retention))
    → b ≡ is_retained_by rs
    → ◌≡◌ {A = KeptSite} (record { declared = t; initial = i; retained = b })
    (kept (record { declared = t; initial = i; retentions = rs }))
kept_alone t i b rs h = ap (λ c. record { declared = t; initial = i; retained = c }) h
