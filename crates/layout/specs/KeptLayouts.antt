-- The slots of a layout, as the definitions of layouts and plans see them.
use Rattle.std.specs.Prelude.{◌≡◌, ◌≤◌, List, map, filter, length, Bool, true, not, ◌&&◌}
use Rattle.std.specs.List.{list_all}
use Rattle.st_types.specs.declared.limits.TheConstants.{MAX_PATHS}
use Rattle.st_types.specs.Sources.{Source}
use Rattle.st_meaning.specs.Slots.{Slot}
use Rattle.st_meaning.specs.Stores.{Store}
use Rattle.st_meaning.specs.declared.plan.PlanVariable.{PlanVariable}
use Rattle.st_meaning.specs.declared.plan.PlanInput.{PlanInput}
use Rattle.layout.specs.TextLayouts.{initial_image, instances_of_text, slots_of_text, plan_inputs_of_text}
use Rattle.layout.specs.TextLayouts.{plan_variables_of_text}
use Rattle.layout.specs.declared.limits.TheConstants.{MAX_INSTANCES}
use Rattle.layout.specs.declared.slots.LayoutSlot.{LayoutSlot}

abbrev pub slot_view : LayoutSlot → Slot
slot_view s = record { path = s.path; kind = s.initial.kind; is_input = s.is_input }

-- a slot of a variable, and one of an input
abbrev pub variable_of : LayoutSlot → PlanVariable
variable_of s = record { path = s.path; initial = s.initial; retained = s.retained }

abbrev pub input_of : LayoutSlot → PlanInput
input_of s = record { path = s.path; kind = s.initial.kind }

abbrev pub variables_among : List LayoutSlot → List PlanVariable
variables_among ss = map variable_of (filter (λ s. not s.is_input) ss)

abbrev pub inputs_among : List LayoutSlot → List PlanInput
inputs_among ss = map input_of (filter (λ s. s.is_input) ss)

-- inputs as they start, none of which is retained
abbrev pub image_among : List LayoutSlot → Store
image_among ss = map (λ s. (s.path, s.initial)) (filter (λ s. s.is_input) ss)

abbrev pub retains_no_input : List LayoutSlot → Bool
retains_no_input ss = list_all (λ s. not (s.is_input && s.retained)) ss

-- The slots are those of the text, with the initial values and the retention that it declares, and inputs as at the
-- start of a life; neither they nor the instances of blocks are too many.
pub record IsLayoutOf (source : Source) (ss : List LayoutSlot) : Type 0 where
  pub slots : map slot_view ss ≡ slots_of_text source
  pub variables : variables_among ss ≡ plan_variables_of_text source
  pub inputs : inputs_among ss ≡ plan_inputs_of_text source
  pub image : image_among ss ≡ initial_image (plan_inputs_of_text source)
  pub unretained : retains_no_input ss ≡ true
  pub room : length (slots_of_text source) ≤ MAX_PATHS
  pub few : instances_of_text source ≤ MAX_INSTANCES
