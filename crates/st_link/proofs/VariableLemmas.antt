-- Variables, by the symbols of a table.
use Rattle.std.proofs.Common.{◌≡◌, refl, sym, ap, subst, ◌∙◌, Option, Some, None, Bool, true, false, if◌then◌else◌}
use Rattle.std.specs.Prelude.{option_map, option_and_then}
use Rattle.st_types.specs.declared.identifier.Identifier.{Identifier}
use Rattle.st_types.specs.Expressions.{Selectors, variable}
use Rattle.st_meaning.specs.NameTypes.{Declared}
use Rattle.symbols.specs.Agreeing.{Agree}
use Rattle.symbols.specs.PlaceTypes.{place_type_view}
use Rattle.layout.specs.Types.{shape_of_type}
use Rattle.slot_trees.specs.SlotTrees.{Anchor, Place}
use Rattle.slot_trees.specs.Linking.{linked_selectors, linked_target, linked_variable, place_if_plain, target_of}
use Rattle.slot_trees.specs.Tables.{Symbol, Table, symbol_of}
use Rattle.slot_trees.specs.ExpressionViews.{anchor_view}
use Rattle.st_link.specs.Shapes.{IsExpanded}
use Rattle.std.proofs.Common.{◌≤◌, arith}
use Rattle.st_types.specs.declared.limits.TheConstants.{MAX_PATHS}
use Rattle.layout.specs.Shapes.{size}
use Rattle.st_link.specs.Rooms.{first_slot}
use Rattle.st_link.specs.BodyTables.{IsSymbol}
use Rattle.st_link.specs.declared.body_table.LinkSymbol.{LinkSymbol}

pub symbol_expanded : (text : Declared) (s : LinkSymbol) (o : Option Symbol) → Agree (IsSymbol text) (Some s) o
    → IsExpanded text (place_type_view s.declared)
symbol_expanded text s None a = absurd a
symbol_expanded text s (Some y) a = a.expanded

pub symbol_room : (text : Declared) (s : LinkSymbol) (o : Option Symbol) → Agree (IsSymbol text) (Some s) o
    → size (shape_of_type text (place_type_view s.declared)) ≤ MAX_PATHS
symbol_room text s None a = absurd a
symbol_room text s (Some y) a =
    let e = ap size a.shape in let r = a.room in omega (arith, e, r)

pub symbol_near : (text : Declared) (s : LinkSymbol) (o : Option Symbol) → Agree (IsSymbol text) (Some s) o
    → first_slot (anchor_view s.anchor) ≤ MAX_PATHS
symbol_near text s None a = absurd a
symbol_near text s (Some y) a =
    let e = ap first_slot a.anchor in let r = a.room in omega (arith, e, r)

-- where the selectors lead from the symbol
place_of : (text : Declared) (t : Table) (s : LinkSymbol) (y : Symbol) (xs : Selectors) → IsSymbol text s y
    → option_and_then (place_if_plain y.anchor) (linked_selectors t y.shape xs)
    ≡ option_and_then (place_if_plain (anchor_view s.anchor))
    (linked_selectors t (shape_of_type text (place_type_view s.declared)) xs)
place_of text t s y xs a =
    ap (λ b. option_and_then (place_if_plain b) (linked_selectors t y.shape xs)) (sym a.anchor)
    ∙ ap (λ sh. option_and_then (place_if_plain (anchor_view s.anchor)) (linked_selectors t sh xs)) a.shape

pub variable_linked : (text : Declared) (t : Table) (s : LinkSymbol) (x : Identifier) (xs : Selectors)
    (o : Option Place) → Agree (IsSymbol text) (Some s) (symbol_of t.symbols x.name)
    → option_and_then (place_if_plain (anchor_view s.anchor))
    (linked_selectors t (shape_of_type text (place_type_view s.declared)) xs) ≡ o
    → linked_variable t (variable x xs) ≡ o
variable_linked text t s x xs o there is = by_symbol (symbol_of t.symbols x.name) there
  where
    by_symbol : (y : Option Symbol) → Agree (IsSymbol text) (Some s) y → option_and_then
        (λ y. option_and_then (place_if_plain y.anchor) (linked_selectors t y.shape xs)) y ≡ o
    by_symbol None a = absurd a
    by_symbol (Some y) a = place_of text t s y xs a ∙ is

pub target_linked : (text : Declared) (t : Table) (s : LinkSymbol) (x : Identifier) (xs : Selectors)
    (o : Option Place) → Agree (IsSymbol text) (Some s) (symbol_of t.symbols x.name) → s.is_input ≡ false
    → option_and_then (place_if_plain (anchor_view s.anchor))
    (linked_selectors t (shape_of_type text (place_type_view s.declared)) xs) ≡ o
    → linked_target t (variable x xs) ≡ o
target_linked text t s x xs o there output is = by_symbol (symbol_of t.symbols x.name) there
  where
    by_symbol : (y : Option Symbol) → Agree (IsSymbol text) (Some s) y
        → option_and_then (λ y. target_of t y xs) y ≡ o
    by_symbol None a = absurd a
    by_symbol (Some y) a =
        ap (λ b. if b then None else option_and_then (place_if_plain y.anchor) (linked_selectors t y.shape xs))
        (sym a.input ∙ output) ∙ place_of text t s y xs a ∙ is
