-- Names with their numbers.
use Rattle.std.proofs.Common.{◌≡◌, refl, Option, Some, None, Bool, true, false}
use Rattle.std.specs.Prelude.{if◌then◌else◌}
use Rattle.symbols.specs.Found.{or_found}

-- an entry added after the others, with those that follow it
pub or_step : {T : Type 0} (f : Option T) (b : Bool) (v : T) (r : Option T)
    → or_found (or_found f (if b then Some v else None)) r ≡ or_found f (if b then Some v else r)
or_step (Some x) b v r = refl
or_step None true v r = refl
or_step None false v r = refl
