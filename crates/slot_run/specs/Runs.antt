-- The run of code over the values of its slots, with its reads and writes.
use Rattle.std.specs.Prelude.{◌≡◌, ℕ, ◌≤◌, List, [], ◌++◌, length, take, replicate, false}
use Rattle.st_types.specs.Values.{Datum, bool_datum}
use Rattle.st_meaning.specs.declared.outcome.Outcome.{Outcome}
use Rattle.st_meaning.specs.declared.outcome.Outcome.TheVariants.{Done, Faulted}
use Rattle.st_meaning.specs.Failures.{in_runs}
use Rattle.st_meaning.specs.Slots.{Cell}
use Rattle.machine_code.specs.declared.mark.Mark.{Mark}
use Rattle.machine_code.specs.Machine.{Ending, finished, failed, runs}
use Rattle.machine_code.specs.Tracking.{Tracked, tracked, tracking, memory_of, are_read, are_assigned}
use Rattle.slot_code.specs.Codes.{CodeView}
use Rattle.slot_memory.specs.Cells.{picked}
use Rattle.slot_code.specs.Quick.{unmarked, unmarked_slots}

-- the memory with which a run begins: the values of the slots, and FALSE in each place after them
abbrev pub memory_over : List Datum → ℕ → List Datum
memory_over vs n = vs ++ replicate n (bool_datum false)

-- the run of the code at a moment, which marks the slots that it looks up before it assigns them, and those that it assigns
abbrev pub marked_run : CodeView → ℕ → List Datum → ℕ → Ending Tracked
marked_run code now vs budget =
    runs tracking in_runs now code.instrs (length code.instrs) [] (unmarked_slots (memory_over vs code.extra)) budget

-- the slots that it looked up before it assigned them, with the values with which it began
abbrev pub reads_of : Ending Tracked → List Datum → List Cell
reads_of e vs = picked (are_read (memory_of e).marks) 0 vs

-- the slots that it assigned, with the values at its end; a fault leaves none
abbrev pub writes_of : Ending Tracked → List Datum → List Cell
writes_of (finished m b) vs = picked (are_assigned m.marks) 0 (take (length vs) m.values)
writes_of (failed m f) vs = []

-- A run has this outcome, with this memory; after a fault only the slots looked up are reported.
abbrev pub EndsAs : Outcome → Ending Tracked → Tracked → Type 0
EndsAs Done (finished m b) n = n ≡ m
EndsAs Done (failed m f) n = ⊥
EndsAs (Faulted f) (failed m g) n = (g ≡ f) × (are_read m.marks ≡ are_read n.marks)
EndsAs (Faulted f) (finished m b) n = ⊥

-- at the end of the code the memory has at least `n` values
abbrev pub HasRoomFor : ℕ → Ending Tracked → Type 0
HasRoomFor n (finished m b) = n ≤ length m.values
HasRoomFor n (failed m f) = Unit {0}
