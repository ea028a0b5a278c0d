-- The parts of a plan that its layout gives.
use Rattle.std.specs.Prelude.{◌≡◌, List}
use Rattle.st_meaning.specs.declared.plan.PlanInput.{PlanInput}
use Rattle.st_meaning.specs.declared.plan.PlanVariable.{PlanVariable}
use Rattle.st_meaning.specs.Layouts.{Enumerations, layout_text}
use Rattle.layout.specs.Indexed.{LayoutView}
use Rattle.layout.specs.KeptLayouts.{inputs_among, variables_among}
use Rattle.plan.specs.NumberedSlots.{numbered_from}
use Rattle.plan.specs.declared.slots.SlotPlace.{SlotPlace}

-- Its variables and its inputs are those of the slots, each with its number, and the layout text is that of its
-- variables.
pub record IsLaidOut (types : Enumerations) (variables : List PlanVariable) (inputs : List PlanInput)
    (places : List SlotPlace) (layout : LayoutView) : Type 0 where
  pub variables_are : variables ≡ variables_among layout.slots
  pub inputs_are : inputs ≡ inputs_among layout.slots
  pub places_are : places ≡ numbered_from 0 0 layout.slots
  pub text : layout.text ≡ layout_text types variables
