-- When a run of the machine that marks ends as a program over marked slots does.
use Rattle.std.specs.Prelude.{◌≡◌, ℕ, length, take, Result, Ok, Err}
use Rattle.st_types.specs.declared.fault.Fault.{Fault}
use Rattle.machine_code.specs.Machine.{Ending, finished, failed}
use Rattle.machine_code.specs.Tracking.{Tracked}
use Rattle.slot_trees.specs.SlotRuns.{state_of}
use Rattle.machine_code.specs.MarkedExecution.{MarkedEnd}

-- with the ticks that it leaves and its values and their marks in the first slots, one for each, or with its fault
abbrev pub MarkedEndsAs : ℕ → Result (MarkedEnd × ℕ) Fault → Ending Tracked → Type 0
MarkedEndsAs size (Ok r) (finished m b) =
    (b ≡ r.1) × (take size m.values ≡ (state_of r.0).values) × (take size m.marks ≡ (state_of r.0).marks)
    × (length (state_of r.0).marks ≡ size)
MarkedEndsAs size (Err f) (failed m g) = g ≡ f
MarkedEndsAs size (Ok r) (failed m g) = ⊥
MarkedEndsAs size (Err f) (finished m b) = ⊥
