-- The origin of a chain of parts that may be missing.
use Rattle.std.proofs.Common.{◌≡◌, Bool, true, false, if◌then◌else◌, Option, Some, None, option_map}
use Rattle.std.proofs.Common.{◌⊎◌, inl, inr, refl}

pub either_some : {A : Type 0} (b : Bool) (o p : Option A) (y : A) → (if b then o else p) ≡ Some y
    → (o ≡ Some y) ⊎ (p ≡ Some y)
either_some true o p y h = inl h
either_some false o p y h = inr h

pub unless_some : {A : Type 0} (b : Bool) (o : Option A) (y : A) → (if b then None else o) ≡ Some y → o ≡ Some y
unless_some true o y h = absurd (cc)
unless_some false o y h = h
