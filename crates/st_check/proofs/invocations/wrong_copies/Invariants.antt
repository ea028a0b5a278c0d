use Rattle.std.proofs.Common.{◌≡◌, map, drop, Some}
use Rattle.std.specs.List.{flat_map}
use Rattle.st_types.specs.StatementViews.{argument_view}
use Rattle.st_meaning.specs.Scopes.{Name}
use Rattle.st_rules.specs.Environments.{Environment, type_of_name}
use Rattle.st_rules.specs.CallRules.{wrong_copy}
use Rattle.st_rules.proofs.CollectLemmas.{Searches}
use Rattle.symbols.specs.PlaceTypes.{place_type_view}
use Rattle.symbols.specs.Serving.{Serves}
use Rattle.st_check.proofs.invocations.wrong_copies.Given as goal

abbrev pub invariant-loop-argument : goal.invariant-loop-argument
invariant-loop-argument l = (env : Environment) (instance : Name) → Serves l.names env
    → type_of_name env instance ≡ Some (place_type_view l.declared)
    → Searches (flat_map (wrong_copy env instance) (map argument_view l.arguments))
    (flat_map (wrong_copy env instance) (map argument_view (drop l.argument-index l.arguments))) l.initial.broken
    l.broken
