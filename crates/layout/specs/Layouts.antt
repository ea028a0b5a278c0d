-- The slots of a whole layout, and how variables add to it.
use Rattle.std.specs.Prelude.{◌≡◌, ℕ, ◌+◌, List, [], ◌∷◌, ◌++◌, Bool, true, ◌&&◌}
use Rattle.st_types.specs.Sources.{Source}
use Rattle.st_meaning.specs.NameTypes.{Declared, declared_in}
use Rattle.st_rules.specs.declared.limits.TheConstants.{MAX_TYPE_DEPTH}
use Rattle.layout.specs.Shapes.{is_sound, size}
use Rattle.layout.specs.LayoutVariables.{Owned, configurations_in, only_configuration, variables_of_configuration}
use Rattle.layout.specs.TextLayouts.{instances_of, variable_path, variable_shape}
use Rattle.layout.specs.Slots.{slots_within}
use Rattle.layout.specs.declared.growing.Growing.{Growing}
use Rattle.layout.specs.declared.slots.LayoutSlot.{LayoutSlot}

abbrev pub layout_slots : Declared → List Owned → List LayoutSlot
layout_slots text [] = []
layout_slots text (v ∷ vs) =
    slots_within MAX_TYPE_DEPTH text v.site v.is_input (variable_path v) ++ layout_slots text vs

abbrev pub layout_size : Declared → List Owned → ℕ
layout_size text [] = 0
layout_size text (v ∷ vs) = size (variable_shape text v) + layout_size text vs

-- No two parts of one whole have the same name.
abbrev pub are_expandable : Declared → List Owned → Bool
are_expandable text [] = true
are_expandable text (v ∷ vs) = is_sound (variable_shape text v) && are_expandable text vs

-- the variables of a text in which each literal has its type
abbrev pub owned_variables : Source → List Owned
owned_variables source = variables_of_configuration (declared_in source) (only_configuration (configurations_in source))

-- their slots after those that were there, and their instances added to them
pub record GrowsBy (text : Declared) (vs : List Owned) (old new : Growing) : Type 0 where
  pub slots : new.slots.items ≡ old.slots.items ++ layout_slots text vs
  pub instances : new.instances ≡ old.instances + instances_of text vs
