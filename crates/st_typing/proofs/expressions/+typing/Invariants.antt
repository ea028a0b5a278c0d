use Rattle.std.proofs.Common.{◌≡◌, ◌+◌, map, drop, Some, option_map, []}
use Rattle.std.specs.Prelude.{option_and_then}
use Rattle.st_types.specs.Expressions.{exprs_of, selectors_of}
use Rattle.st_types.specs.ExpressionViews.{expr_view, selector_view}
use Rattle.st_meaning.specs.NameTypes.{type_after_selectors}
use Rattle.st_rules.specs.Environments.{Environment}
use Rattle.st_rules.proofs.CollectLemmas.{Searches}
use Rattle.symbols.specs.PlaceTypes.{place_type_view}
use Rattle.symbols.specs.Serving.{Serves}
use Rattle.st_typing.specs.Arguments.{demands_of_inputs, demands_view, wrong_arguments}
use Rattle.st_typing.specs.Selections.{wrong_in_selectors}
use Rattle.st_typing.proofs.CallLemmas.{from_argument}
use Rattle.st_typing.proofs.SelectionLemmas.{left, all_nodes, Follows}
use Rattle.st_typing.proofs.expressions.+typing.Given as goal

abbrev pub invariant-select_all-loop-selector : goal.invariant-select_all-loop-selector
invariant-select_all-loop-selector l = (env : Environment) → Serves l.names env
    → Follows env l.place (place_type_view l.declared) l.selectors l.selector-index (option_map place_type_view l.found)
    l.initial.broken l.broken

abbrev pub invariant-wrong_subscripts-loop-selector : goal.invariant-wrong_subscripts-loop-selector
invariant-wrong_subscripts-loop-selector l = (env : Environment) → Serves l.names env
    → Searches (all_nodes env (left l.selectors 0)) (all_nodes env (left l.selectors l.selector-index)) l.initial.broken
    l.broken

abbrev pub invariant-wrong_arguments-loop-number : goal.invariant-wrong_arguments-loop-number
invariant-wrong_arguments-loop-number l = (env : Environment) → Serves l.names env
    → Searches (from_argument env (demands_of_inputs l.place l.inputs) l.arguments 0)
    (from_argument env (demands_of_inputs l.place l.inputs) l.arguments l.number) l.initial.broken l.broken

abbrev pub invariant-call_of_standard-loop-number : goal.invariant-call_of_standard-loop-number
invariant-call_of_standard-loop-number l = (env : Environment) → Serves l.names env
    → Searches (from_argument env (demands_view l.demands) l.arguments 1)
    (from_argument env (demands_view l.demands) l.arguments l.number) l.initial.broken l.broken

abbrev pub invariant-wrong_arguments_of_unknown-loop-argument : goal.invariant-wrong_arguments_of_unknown-loop-argument
invariant-wrong_arguments_of_unknown-loop-argument l = (env : Environment) → Serves l.names env
    → Searches (from_argument env [] l.arguments 0) (from_argument env [] l.arguments l.argument-index)
    l.initial.broken l.broken
