-- The reads of code.
use Rattle.std.specs.Prelude.{◌≡◌, ℕ, List, Some, None, slice_get}
use Rattle.st_meaning.specs.Runs.{Program}
use Rattle.st_meaning.specs.Slots.{Slot}
use Rattle.machine_code.specs.Asking.{IsOnlyLookedUp}
use Rattle.slot_code.specs.Codes.{CodeView}
use Rattle.slot_code.specs.Meanings.{FailsEqually}

-- A program asks for all globals and inputs that a run of its code reads: no instruction takes their values as they are, and
-- the machine fails on the code as the program does.
pub record ReadsAsAsked (layout : List Slot) (code : CodeView) (p : Program) : Type 0 where
  pub looked_up : (k : ℕ) (l : Slot) → slice_get layout k ≡ Some l → l.path.owner ≡ None
      → IsOnlyLookedUp code.instrs k
  pub fails : FailsEqually layout code p
