-- How many instructions compiled code has, and how much memory it needs.
use Rattle.std.specs.Prelude.{◌≤◌, ◌+◌, ℕ}
use Rattle.machine_code.specs.declared.limits.TheConstants.{MAX_INSTRUCTIONS, MAX_MEMORY}
use Rattle.st_compile.specs.declared.limits.TheConstants.{FUNCTION_PLACES}

-- The code of a program with this many slots is within the limits: it has few enough instructions, and its memory has
-- the program's slots, and those of the functions that run.
pub record IsWithinLimits (size instructions memory : ℕ) : Type 0 where
  pub few : instructions ≤ MAX_INSTRUCTIONS
  pub room : size ≤ memory
  pub near : memory ≤ size + FUNCTION_PLACES
  pub numbered : memory ≤ MAX_MEMORY
