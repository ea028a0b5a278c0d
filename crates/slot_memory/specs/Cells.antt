-- Slots with values, and slots that are picked.
use Rattle.std.specs.Prelude.{ℕ, suc, ◌<◌, ◌≤◌, List, [], ◌∷◌, Bool, if◌then◌else◌}
use Rattle.st_types.specs.Values.{Datum}
use Rattle.st_meaning.specs.declared.outcome.Outcome.{Outcome}
use Rattle.st_meaning.specs.declared.outcome.Outcome.TheVariants.{Done, Faulted}
use Rattle.st_meaning.specs.Slots as slots
use Rattle.machine_code.specs.declared.mark.Mark.{Mark}
use Rattle.machine_code.specs.Tracking.{are_assigned}
use Rattle.slot_memory.specs.declared.cell.Cell.{Cell}

-- a slot's number with its value
abbrev pub cell_view : Cell → slots.Cell
cell_view c = (c.slot, c.value)

-- the slots that are picked, from a number on, each with its value
abbrev pub picked : List Bool → ℕ → List Datum → List slots.Cell
picked [] k vs = []
picked (b ∷ bs) k [] = []
picked (b ∷ bs) k (v ∷ vs) = if b then (k, v) ∷ picked bs (suc k) vs else picked bs (suc k) vs

-- the writes after a run that ends in this way, in slots with these values and marks: none if it faulted
abbrev pub writes_left : Outcome → List Datum → List Mark → List slots.Cell
writes_left Done vs marks = picked (are_assigned marks) 0 vs
writes_left (Faulted f) vs marks = []

-- The slots are in ascending order, each once, from one number on and below another.
abbrev pub AreAscending : ℕ → ℕ → List slots.Cell → Type 0
AreAscending first most [] = Unit {0}
AreAscending first most (c ∷ cells) = (first ≤ c.0) × (c.0 < most) × AreAscending (suc c.0) most cells
