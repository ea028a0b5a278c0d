-- Slots of a function's inputs, one by one.
use Rattle.std.proofs.Common.{◌≡◌, refl, ap, List, [], ◌∷◌, map}
use Rattle.std.specs.Prelude.{option_map, option_and_then}
use Rattle.st_meaning.specs.Scopes.{Name}
use Rattle.slot_trees.specs.Tables.{Symbol}
use Rattle.slot_trees.specs.TextLinks.{call_slot, call_slots}
use Rattle.st_link.proofs.Sequences.{traversed}

pub slots_traversed : (symbols : List Symbol) (xs : List Name)
    → call_slots symbols xs ≡ traversed (call_slot symbols) xs
slots_traversed symbols [] = refl
slots_traversed symbols (x ∷ xs) =
    ap (λ r. option_and_then (λ y. option_map (λ ys. y ∷ ys) r) (call_slot symbols x)) (slots_traversed symbols xs)

pub map_same : {A : Type 0} (xs : List A) → map (λ x. x) xs ≡ xs
map_same [] = refl
map_same (x ∷ xs) = ap (λ ys. x ∷ ys) (map_same xs)
