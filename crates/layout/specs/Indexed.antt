-- The contents of a layout: its slots by their numbers, and the layout text of a record.
use Rattle.std.specs.Prelude.{ℕ, List, map, Bool, false, Option, Some, None, slice_get, option_map}
use Rattle.st_types.specs.Paths.{Path}
use Rattle.st_meaning.specs.Slots.{slot_of}
use Rattle.layout.specs.KeptLayouts.{slot_view}
use Rattle.layout.specs.declared.slots.LayoutSlot.{LayoutSlot}
use Rattle.layout.specs.declared.slots.SlotFacts.{SlotFacts}

pub record LayoutView : Type 0 where
  pub slots : List LayoutSlot
  pub text : List ℕ

-- a slot, by its path and its facts
abbrev pub slot_of_entry : Path × SlotFacts → LayoutSlot
slot_of_entry e = record { path = e.0; initial = e.1.initial; retained = e.1.retained; is_input = e.1.is_input }

abbrev pub facts_of : LayoutSlot → SlotFacts
facts_of s = record { initial = s.initial; retained = s.retained; is_input = s.is_input }

abbrev pub entry_of : LayoutSlot → Path × SlotFacts
entry_of s = (s.path, facts_of s)

-- the number of a path's slot
abbrev pub slot_number : List LayoutSlot → Path → Option ℕ
slot_number ss p = slot_of (map slot_view ss) p

-- the path of a slot by its number
abbrev pub path_numbered : List LayoutSlot → ℕ → Option Path
path_numbered ss n = option_map (λ s. s.path) (slice_get ss n)

-- whether it is retained; a slot that doesn't exist is not
abbrev pub is_retained : Option LayoutSlot → Bool
is_retained None = false
is_retained (Some s) = s.retained
