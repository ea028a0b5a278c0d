-- The reads of executions of a plan's programs.
use Rattle.std.specs.Prelude.{◌≡◌, ℕ, List, Some, slice_get}
use Rattle.st_types.specs.SourceViews.{source_view}
use Rattle.st_meaning.specs.Slots.{IsLayout, Slot}
use Rattle.slot_code.specs.Codes.{code_view}
use Rattle.slot_code.specs.Reads.{ReadsAsAsked}
use Rattle.plan.specs.declared.plan.Plan.{Plan}
use Rattle.plan.specs.declared.task.ProgramInstance.{ProgramInstance}
use Rattle.plan.specs.SlotPlaces.{slots_among}
use Rattle.plan.specs.Sources.{program_numbered}

-- its variables and inputs in the order of the text
abbrev pub slots_of_plan : Plan → List Slot
slots_of_plan plan = slots_among plan.slots.items plan.variables.items plan.inputs.items

-- If the code of an instance reads a global or an input, its program asks for it; each path has one slot.
pub record ReadsWhatItAsksFor (plan : Plan) : Type 0 where
  pub distinct : IsLayout (slots_of_plan plan)
  pub codes : (k : ℕ) (p : ProgramInstance) → slice_get plan.programs.items k ≡ Some p
      → ReadsAsAsked (slots_of_plan plan) (code_view p.code.value)
      (program_numbered (source_view plan.text.value) p.number)
