-- A function's variables lie as its declarations say.
use Rattle.std.proofs.Common.{◌≡◌, false, List, [], ◌∷◌, ◌++◌, None, map, refl, ap, ◌∙◌}
use Rattle.st_types.specs.declared.kind.Kind.{Kind}
use Rattle.st_types.specs.Paths.{Path}
use Rattle.st_meaning.specs.NameTypes.{Declared}
use Rattle.st_meaning.specs.Slots.{Slot}
use Rattle.st_meaning.specs.Stores.{Store, shape_of}
use Rattle.layout.specs.LayoutVariables.{owned_variable}
use Rattle.layout.specs.Libraries.{fresh_values}
use Rattle.layout.specs.Shapes.{Leaf}
use Rattle.layout.specs.VariableSlots.{slot}
use Rattle.layout.specs.TextLayouts.{slots_of, slot_of_leaf, leaves_of_variable, types_of_slots}
use Rattle.layout.specs.TextLayouts.{variable_slots}
use Rattle.layout.specs.Types.{NamedSite}
use Rattle.layout.proofs.StoreLemmas.{types_of_plan_variables}
use Rattle.slot_trees.specs.LinkedTexts.{layout_of_fresh}

-- the slot of a variable with this path and type
abbrev typed_slot : Path × Kind → Slot
typed_slot e = slot e.0 e.1 false

fresh_by_shape : (s : Store) → layout_of_fresh s ≡ map typed_slot (shape_of s)
fresh_by_shape [] = refl
fresh_by_shape (e ∷ s) = ap (λ ls. slot e.0 e.1.kind false ∷ ls) (fresh_by_shape s)

-- the slots of variables that aren't inputs come back from their paths and types
leaves_back : (d : NamedSite) (rest : List Slot) → map typed_slot (types_of_slots (variable_slots rest)) ≡ rest
    → (ls : List Leaf)
    → map typed_slot (types_of_slots (variable_slots (map (slot_of_leaf (owned_variable None d)) ls ++ rest)))
    ≡ map (slot_of_leaf (owned_variable None d)) ls ++ rest
leaves_back d rest h [] = h
leaves_back d rest h (l ∷ ls) =
    ap (λ xs. slot_of_leaf (owned_variable None d) l ∷ xs) (leaves_back d rest h ls)

slots_back : (text : Declared) (ds : List NamedSite)
    → map typed_slot (types_of_slots (variable_slots (slots_of text (map (owned_variable None) ds))))
    ≡ slots_of text (map (owned_variable None) ds)
slots_back text [] = refl
slots_back text (d ∷ ds) =
    leaves_back d (slots_of text (map (owned_variable None) ds)) (slots_back text ds)
    (leaves_of_variable text (owned_variable None d))

pub fresh_layout : (text : Declared) (ds : List NamedSite)
    → layout_of_fresh (fresh_values text ds) ≡ slots_of text (map (owned_variable None) ds)
fresh_layout text ds =
    fresh_by_shape (fresh_values text ds)
    ∙ ap (map typed_slot) (types_of_plan_variables text (map (owned_variable None) ds)) ∙ slots_back text ds
