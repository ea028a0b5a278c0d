-- Where the result of a chain of optional parts came from.
use Rattle.std.proofs.Common.{◌≡◌, Bool, true, false, if◌then◌else◌, Option, Some, None, option_and_then, refl}

pub not_some : {A : Type 0} (b : Bool) (o : Option A) (y : A) → (if b then None else o) ≡ Some y
    → (b ≡ false) × (o ≡ Some y)
not_some true o y h = absurd (cc)
not_some false o y h = (refl, h)
