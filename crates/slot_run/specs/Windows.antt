-- Slots of a window that are picked.
use Rattle.std.specs.Prelude.{ℕ, List, [], ◌∷◌, Bool, if◌then◌else◌}
use Rattle.st_types.specs.Values.{Datum}
use Rattle.st_meaning.specs.Slots.{Cell}

-- the slots of a window that are picked, each with its value
abbrev pub picked_in : List ℕ → List Bool → List Datum → List Cell
picked_in (k ∷ window) (b ∷ bs) (v ∷ vs) = if b then (k, v) ∷ picked_in window bs vs else picked_in window bs vs
picked_in _ _ _ = []
