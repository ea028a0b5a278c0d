-- Rows as the definitions see them.
use Rattle.std.specs.Prelude.{ℕ, List}
use Rattle.st_types.specs.Values.{Datum}

-- a moment in milliseconds, with the values of the plan's inputs in declaration order
pub record Latch : Type 0 where
  pub moment : ℕ
  pub image : List Datum
