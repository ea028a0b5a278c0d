-- Consequences of a name not being a wrong type.
use Rattle.std.proofs.Common.{◌≡◌, refl, ℕ, Bool, true, false, ◌||◌, if◌then◌else◌, List, [], ◌∷◌}
use Rattle.st_rules.specs.declared.reason.Reason.TheVariants.{Undeclared, NotType, NoInstanceAllowed}
use Rattle.st_rules.specs.declared.rule.Broken.{Broken}
use Rattle.st_rules.specs.Faults.{breaking, unless}

-- the faults of a name by whether it is a type's, a block's and another unit's, and whether an instance is allowed there
abbrev pub named_faults : Bool → Bool → Bool → Bool → ℕ → List Broken
named_faults type block other may at =
    if type then [] else if block then breaking NoInstanceAllowed (unless may at)
    else if other then breaking NotType (at ∷ []) else breaking Undeclared (at ∷ [])

-- it is a type's or a block's
pub named_something : (type block other may : Bool) (at : ℕ) → named_faults type block other may at ≡ []
    → (type || block) ≡ true
named_something true block other may at h = refl
named_something false true other may at h = refl
named_something false false true may at h = absurd (cc)
named_something false false false may at h = absurd (cc)

-- if no instance is allowed it isn't a block's, provided that no type has a block's name
pub no_block_named : (type block other : Bool) (at : ℕ) → named_faults type block other false at ≡ []
    → (type ≡ true → block ≡ false) → block ≡ false
no_block_named true block other at h f = f refl
no_block_named false true other at h f = absurd (cc)
no_block_named false false other at h f = refl

-- if it is a block's an instance is allowed
pub may_stand : (type block other may : Bool) (at : ℕ) → named_faults type block other may at ≡ [] → block ≡ true
    → (type ≡ true → block ≡ false) → may ≡ true
may_stand true true other may at h is f = absurd (let e = f refl in cc)
may_stand true false other may at h is f = absurd (cc)
may_stand false true other true at h is f = refl
may_stand false true other false at h is f = absurd (cc)
may_stand false false other may at h is f = absurd (cc)
