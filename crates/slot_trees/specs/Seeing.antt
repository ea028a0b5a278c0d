-- How a store of paths agrees with the values of slots.
use Rattle.std.specs.Prelude.{◌≡◌, ℕ, List, length, Bool, Some, slice_get}
use Rattle.st_types.specs.declared.kind.Kind.{Kind}
use Rattle.st_types.specs.Values.{Datum}
use Rattle.st_types.specs.Paths.{Path}
use Rattle.st_meaning.specs.Slots.{Slot, variables_with, inputs_in}
use Rattle.st_meaning.specs.Stores.{Store}
use Rattle.layout.specs.VariableSlots.{slot}

-- the variables of a store and the inputs of an image are the values in the slots
pub record Sees (layout : List Slot) (image s : Store) (vs : List Datum) : Type 0 where
  pub variables : s ≡ variables_with layout vs
  pub inputs : image ≡ inputs_in layout vs
  pub length : length layout ≡ length vs

-- an elementary variable or input has this slot
pub record IsSlotOf (layout : List Slot) (input : Bool) (p : Path) (k : ℕ) : Type 0 where
  pub kind : Kind
  pub there : slice_get layout k ≡ Some (slot p kind input)
