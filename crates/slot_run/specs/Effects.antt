-- The effect of a run, and when it is true.
use Rattle.std.specs.Prelude.{◌≡◌, ℕ, List, [], length, true}
use Rattle.st_types.specs.Values.{Datum}
use Rattle.st_types.specs.declared.fault.Fault.{Fault}
use Rattle.st_types.specs.declared.entry.Activation.{Activation}
use Rattle.st_meaning.specs.declared.outcome.Outcome.{Outcome}
use Rattle.st_meaning.specs.declared.outcome.Outcome.TheVariants.{Faulted}
use Rattle.st_meaning.specs.Runs.{Program, outcome_of, store_after}
use Rattle.st_meaning.specs.Slots.{Slot, Cell, AreOfTypes, variables_with, inputs_in, agrees, after_writes}
use Rattle.slot_code.specs.Codes.{CodeView}
use Rattle.slot_code.specs.Meanings.{Means}
use Rattle.slot_memory.specs.Cells.{AreAscending}

-- an execution: its code, its reads, its writes, and how it ended
pub record Effect : Type 0 where
  pub code : CodeView
  pub activation : Activation
  pub moment : ℕ
  pub budget : ℕ
  pub reads : List Cell
  pub writes : List Cell
  pub outcome : Outcome

-- Over every layout, each program that the code means ends so and leaves these writes, whatever values of their slots' types
-- are there, if the reads hold.
abbrev pub IsExecutionOf : CodeView → ℕ → ℕ → List Cell → List Cell → Outcome → Type 0
IsExecutionOf code moment budget reads writes outcome =
    (layout : List Slot) (program : Program) (vs : List Datum) → Means layout code program → AreOfTypes layout vs
    → agrees vs reads ≡ true
    → (outcome_of program budget (variables_with layout vs) (inputs_in layout vs) moment ≡ outcome)
    × (store_after program budget (variables_with layout vs) (inputs_in layout vs) moment
    ≡ variables_with layout (after_writes vs writes))

-- The effect of a run is true. Its reads and its writes are in the order of the code's slots, each slot at most once among
-- either; and a fault leaves no writes.
pub record IsTrueOf (code : CodeView) (moment budget : ℕ) (reads writes : List Cell)
    (outcome : Outcome) : Type 0 where
  pub run : IsExecutionOf code moment budget reads writes outcome
  pub reads_once : AreAscending 0 (length code.kinds) reads
  pub writes_once : AreAscending 0 (length code.kinds) writes
  pub none : (f : Fault) → outcome ≡ Faulted f → writes ≡ []
