-- A value that is found is there, in each view of it.
use Rattle.std.proofs.Common.{◌≡◌, refl, Option, Some, None}
use Rattle.std.specs.Prelude.{option_map, is_some}

pub is_some_seen : {A B : Type 0} (f : A → B) (o : Option A) → is_some (option_map f o) ≡ is_some o
is_some_seen f None = refl
is_some_seen f (Some x) = refl
