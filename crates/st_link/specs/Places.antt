-- Where selectors have led so far.
use Rattle.std.specs.Prelude.{◌≡◌, ℕ, ◌+◌, ◌<◌, ◌≤◌, List, [], ◌∷◌, map, Option, option_map}
use Rattle.st_types.specs.declared.limits.TheConstants.{MAX_PATHS}
use Rattle.st_types.specs.Expressions.{Selectors}
use Rattle.st_meaning.specs.NameTypes.{Declared}
use Rattle.symbols.specs.PlaceTypes.{place_type_view}
use Rattle.layout.specs.Shapes.{Shape, array, size}
use Rattle.layout.specs.Types.{shape_of_type}
use Rattle.layout.specs.Sizes.{capped_size}
use Rattle.slot_trees.specs.Linking.{Selected, linked_selectors}
use Rattle.slot_trees.specs.SlotTrees.{Subscripts, subscript_then}
use Rattle.slot_trees.specs.Tables.{Table}
use Rattle.slot_trees.specs.Chains.{Subscript}
use Rattle.slot_trees.specs.ExpressionViews.{subscript_view}
use Rattle.st_link.specs.Shapes.{IsExpanded}
use Rattle.st_link.specs.declared.elements.Elements.{Elements}
use Rattle.st_link.specs.declared.places.Reached.{Reached}

-- these subscripts, and others after them
abbrev pub subscripts_before : List Subscript → Subscripts → Subscripts
subscripts_before [] rest = rest
subscripts_before (s ∷ ss) rest = subscript_then s.index s.lower s.count s.stride (subscripts_before ss rest)

-- the selected part after a number of slots and these subscripts; too many slots are capped
abbrev pub joined : ℕ → List Subscript → Selected → Selected
joined n ss s =
    record { offset = capped_size (n + s.offset); subscripts = subscripts_before ss s.subscripts; shape = s.shape }

-- The whole is selected if the rest is, from the part that was reached, for which there is room.
pub record LeadsOn (text : Declared) (t : Table) (whole : Option Selected) (r : Reached)
    (rest : Selectors) : Type 0 where
  pub is : option_map (joined 0 []) whole ≡ option_map (joined r.offset (map subscript_view r.subscripts.items))
      (linked_selectors t (shape_of_type text (place_type_view r.declared)) rest)
  pub expanded : IsExpanded text (place_type_view r.declared)
  pub room : r.offset + size (shape_of_type text (place_type_view r.declared)) ≤ MAX_PATHS

-- These are the elements of an array, and each of them takes this number of slots.
pub record HasElements (text : Declared) (sh : Shape) (e : Elements) : Type 0 where
  pub shape : sh ≡ array e.lower e.count (shape_of_type text (place_type_view e.declared))
  pub stride : e.stride ≡ size (shape_of_type text (place_type_view e.declared))
  pub room : 0 < e.stride
  pub some : 0 < e.count
  pub expanded : IsExpanded text (place_type_view e.declared)
