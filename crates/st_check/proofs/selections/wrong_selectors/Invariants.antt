use Rattle.std.proofs.Common.{map}
use Rattle.std.specs.Prelude.{option_map}
use Rattle.st_types.specs.Expressions.{selectors_of}
use Rattle.st_types.specs.ExpressionViews.{selector_view}
use Rattle.st_meaning.specs.NameTypes.{Declared}
use Rattle.st_rules.specs.ExpressionRules.{wrong_selectors}
use Rattle.st_rules.proofs.CollectLemmas.{Searches}
use Rattle.symbols.specs.PlaceTypes.{place_type_view}
use Rattle.symbols.specs.Tables.{ServesTables}
use Rattle.st_typing.specs.Selections.{wrong_from}
use Rattle.st_typing.proofs.SelectionLemmas.{left}
use Rattle.st_check.proofs.selections.wrong_selectors.Given as goal

abbrev pub invariant-loop-selector : goal.invariant-loop-selector
invariant-loop-selector l = (text : Declared) → ServesTables l.tables text
    → Searches (wrong_selectors text l.place (place_type_view l.declared)
    (selectors_of (map selector_view l.selectors)))
    (wrong_from text l.place (option_map place_type_view l.found) (left l.selectors l.selector-index))
    l.initial.broken l.broken
