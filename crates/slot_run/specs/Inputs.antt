-- Slots of inputs.
use Rattle.std.specs.Prelude.{ℕ, List, Bool, false, Option, Some, None, slice_get}
use Rattle.st_meaning.specs.Slots.{Slot}

abbrev pub is_input_by : Option Slot → Bool
is_input_by (Some l) = l.is_input
is_input_by None = false

-- the slot is there, and its value comes from the plant
abbrev pub is_input_slot : List Slot → ℕ → Bool
is_input_slot layout k = is_input_by (slice_get layout k)
