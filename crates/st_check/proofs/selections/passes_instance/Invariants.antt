use Rattle.std.proofs.Common.{◌≡◌, map, drop}
use Rattle.std.specs.Prelude.{option_map}
use Rattle.st_types.specs.Expressions.{selectors_of}
use Rattle.st_types.specs.ExpressionViews.{selector_view}
use Rattle.st_rules.specs.Environments.{Environment}
use Rattle.st_rules.specs.TargetRules.{passes_instance}
use Rattle.symbols.specs.PlaceTypes.{place_type_view}
use Rattle.symbols.specs.Tables.{ServesTables}
use Rattle.st_check.proofs.selections.passes_instance.Given as goal

abbrev pub invariant-loop-selector : goal.invariant-loop-selector
invariant-loop-selector l = (env : Environment) → ServesTables l.tables env.text
    → passes_instance env (option_map place_type_view l.behind)
    (selectors_of (map selector_view (drop l.selector-index l.selectors)))
    ≡ passes_instance env (option_map place_type_view l.declared) (selectors_of (map selector_view l.selectors))
