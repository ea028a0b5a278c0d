-- The code of a program, and when a run of it ends as the program does.
use Rattle.std.specs.Prelude.{◌≡◌, ℕ, ◌≤◌, List, [], take, Result, Ok, Err}
use Rattle.st_types.specs.Values.{Datum}
use Rattle.st_types.specs.declared.fault.Fault.{Fault}
use Rattle.machine_code.specs.Machine.{Ending, finished, failed}
use Rattle.slot_trees.specs.SlotTrees.{SlotStmts, SlotLibrary}
use Rattle.slot_trees.specs.SlotExecution.{SlotEnd}
use Rattle.slot_trees.specs.SlotRuns.{state_of}
use Rattle.machine_code.specs.Growing.{Code}
use Rattle.machine_code.specs.UnitFrames.{UnitFrame}
use Rattle.machine_code.specs.Codes.{body_targets, stmts_code}
use Rattle.machine_code.specs.Calls.{units_code}
use Rattle.machine_code.specs.Fitting.{CallFitsWithin, StmtsFit}

-- a program's slots are the first ones of a memory
abbrev pub program_frame : ℕ → ℕ → UnitFrame
program_frame base size = record { start = 0; base = base; size = size }

-- The code of a program with its own variables from a slot on, over a number of slots, with calls at most n deep.
unfoldable pub program_code : SlotLibrary → ℕ → ℕ → SlotStmts → ℕ → Code
program_code library base size body n =
    stmts_code (units_code library n) (program_frame base size) body (body_targets 0) []

-- the program fits a memory
pub record ProgramFits (memory : ℕ) (library : SlotLibrary) (base size : ℕ) (body : SlotStmts) (n : ℕ) : Type 0 where
  pub numbered : memory ≤ 65536
  pub room : size ≤ memory
  pub body_fits : StmtsFit (CallFitsWithin memory library n) (program_frame base size) body

-- The machine ends as the program does: with the ticks that it leaves and its values in the first slots, or with its
-- fault.
abbrev pub MachineEndsAs : ℕ → Result (SlotEnd × ℕ) Fault → Ending (List Datum) → Type 0
MachineEndsAs size (Ok r) (finished m b) = (b ≡ r.1) × (take size m ≡ state_of r.0)
MachineEndsAs size (Err f) (failed m g) = g ≡ f
MachineEndsAs size (Ok r) (failed m g) = ⊥
MachineEndsAs size (Err f) (finished m b) = ⊥
