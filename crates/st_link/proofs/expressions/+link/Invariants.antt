use Rattle.std.proofs.Common.{map, drop}
use Rattle.st_types.specs.Expressions as trees
use Rattle.st_types.specs.Expressions.{selectors_of}
use Rattle.st_types.specs.ExpressionViews.{expr_view, selector_view}
use Rattle.st_meaning.specs.NameTypes.{Declared}
use Rattle.symbols.specs.PlaceTypes.{place_type_view}
use Rattle.layout.specs.Types.{shape_of_type}
use Rattle.slot_trees.specs.ExpressionViews.{slot_expr_view}
use Rattle.slot_trees.specs.SlotTrees.{SlotExpr}
use Rattle.slot_trees.specs.Linking.{linked, linked_selectors}
use Rattle.slot_trees.specs.Tables.{Table}
use Rattle.std.proofs.Common.{◌≤◌}
use Rattle.st_types.specs.declared.limits.TheConstants.{MAX_PATHS}
use Rattle.layout.specs.Shapes.{size}
use Rattle.st_link.specs.Shapes.{IsExpanded}
use Rattle.st_link.specs.BodyTables.{ServesBody}
use Rattle.st_link.specs.Places.{LeadsOn}
use Rattle.st_link.proofs.Sequences.{Turned}
use Rattle.st_link.proofs.expressions.+link.Given as goal

abbrev pub invariant-link_all-loop-expression : goal.invariant-link_all-loop-expression
invariant-link_all-loop-expression l = (text : Declared) (t : Table) → ServesBody l.table text t
    → Turned trees.Expr SlotExpr (linked t) (map expr_view l.expressions) (map slot_expr_view l.linked.items)
    (map expr_view (drop l.expression-index l.expressions))

abbrev pub invariant-link_selectors-loop-selector : goal.invariant-link_selectors-loop-selector
invariant-link_selectors-loop-selector l = (text : Declared) (t : Table) → ServesBody l.table text t
    → IsExpanded text (place_type_view l.declared)
    → size (shape_of_type text (place_type_view l.declared)) ≤ MAX_PATHS → LeadsOn text t
    (linked_selectors t (shape_of_type text (place_type_view l.declared)) (selectors_of (map selector_view
    l.selectors)))
    l.reached (selectors_of (map selector_view (drop l.selector-index l.selectors)))
