-- The slots of a layout by the numbers of their variables and inputs.
use Rattle.std.specs.Prelude.{ℕ, suc, List, [], ◌∷◌, if◌then◌else◌}
use Rattle.plan.specs.declared.slots.SlotPlace.{SlotPlace}
use Rattle.plan.specs.declared.slots.SlotPlace.TheVariants.{Input, Variable}
use Rattle.layout.specs.declared.slots.LayoutSlot.{LayoutSlot}

-- variables and inputs are numbered in their order, from these numbers on
abbrev pub numbered_from : ℕ → ℕ → List LayoutSlot → List SlotPlace
numbered_from variables inputs [] = []
numbered_from variables inputs (s ∷ ss) = if s.is_input
    then Input inputs ∷ numbered_from variables (suc inputs) ss
    else Variable variables ∷ numbered_from (suc variables) inputs ss
