use Rattle.std.proofs.Common.{◌≡◌, map, drop}
use Rattle.st_types.specs.Expressions.{selectors_of}
use Rattle.st_types.specs.ExpressionViews.{selector_view}
use Rattle.st_meaning.specs.NameTypes.{Declared, type_after_selectors}
use Rattle.symbols.specs.PlaceTypes.{place_type_view}
use Rattle.symbols.specs.Tables.{ServesTables}
use Rattle.st_typing.proofs.selections.type_after_selectors.Given as goal

abbrev pub invariant-loop-selector : goal.invariant-loop-selector
invariant-loop-selector l = (text : Declared) → ServesTables l.tables text
    → type_after_selectors text (selectors_of (map selector_view (drop l.selector-index l.selectors)))
    (place_type_view l.behind)
    ≡ type_after_selectors text (selectors_of (map selector_view l.selectors)) (place_type_view l.declared)
