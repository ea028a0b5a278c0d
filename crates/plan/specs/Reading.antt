-- The reads of an execution.
use Rattle.std.specs.Prelude.{◌≡◌, ℕ, List, ◌==◌, None, Some, slice_get, true}
use Rattle.std.specs.List.{list_any}
use Rattle.st_types.specs.SourceViews.{source_view}
use Rattle.st_types.specs.Values.{Datum}
use Rattle.st_meaning.specs.Asked.{IsAsked}
use Rattle.st_meaning.specs.Slots.{Slot, variables_with, inputs_in}
use Rattle.slot_run.specs.Effects.{Effect}
use Rattle.slot_run.specs.Executions.{IsEffectOf}
use Rattle.slot_run.specs.QuickExecutions.{IsQuickEffectOf}
use Rattle.slot_run.specs.declared.quick_snapshot.QuickSnapshot.{QuickSnapshot}
use Rattle.slot_run.specs.declared.snapshot.Snapshot.{Snapshot}
use Rattle.plan.specs.declared.plan.Plan.{Plan}
use Rattle.plan.specs.declared.task.ProgramInstance.{ProgramInstance}
use Rattle.plan.specs.Reads.{slots_of_plan}
use Rattle.plan.specs.Sources.{program_numbered}

-- the slot is one of its reads
abbrev pub Reads : Effect → ℕ → Type 0
Reads effect k = list_any (λ c. c.0 == k) effect.reads ≡ true

-- If an execution of the snapshot reads a global or an input, the program of this instance asks for it, over the
-- variables and inputs of the snapshot: it looks the value up before it has assigned it itself.
abbrev pub AsksForReads : Plan → ProgramInstance → Snapshot → Type 0
AsksForReads plan p snapshot = (effect : Effect) (k : ℕ) (l : Slot) → IsEffectOf snapshot effect
    → slice_get (slots_of_plan plan) k ≡ Some l → l.path.owner ≡ None → Reads effect k
    → IsAsked (program_numbered (source_view plan.text.value) p.number) snapshot.budget
    (variables_with (slots_of_plan plan) snapshot.slots.items) (inputs_in (slots_of_plan plan) snapshot.slots.items)
    snapshot.moment l.path

-- So does the program of its activation.
abbrev pub ReadsAreAskedFor : Plan → Snapshot → Type 0
ReadsAreAskedFor plan snapshot = (p : ProgramInstance)
    → slice_get plan.programs.items snapshot.activation.program ≡ Some p → AsksForReads plan p snapshot

-- The same for an execution of a quick snapshot, over the variables and inputs with these values of all slots.
abbrev pub AsksForQuickReads : Plan → ProgramInstance → List Datum → QuickSnapshot → Type 0
AsksForQuickReads plan p slots quick = (effect : Effect) (k : ℕ) (l : Slot) → IsQuickEffectOf quick effect
    → slice_get (slots_of_plan plan) k ≡ Some l → l.path.owner ≡ None → Reads effect k
    → IsAsked (program_numbered (source_view plan.text.value) p.number) quick.budget
    (variables_with (slots_of_plan plan) slots) (inputs_in (slots_of_plan plan) slots) quick.moment l.path

-- So does the program of its activation.
abbrev pub QuickReadsAreAskedFor : Plan → List Datum → QuickSnapshot → Type 0
QuickReadsAreAskedFor plan slots quick = (p : ProgramInstance)
    → slice_get plan.programs.items quick.activation.program ≡ Some p → AsksForQuickReads plan p slots quick
