use Rattle.std.proofs.Common.{◌≡◌, [], List, map, drop, Some}
use Rattle.std.specs.Prelude.{is_some}
use Rattle.st_types.specs.StatementViews.{argument_view}
use Rattle.st_meaning.specs.Scopes.{Name, contains_name}
use Rattle.st_rules.specs.Environments.{Environment, type_of_name}
use Rattle.st_rules.specs.Reasons.{type_word}
use Rattle.st_rules.specs.CallRules.{wrong_arguments}
use Rattle.st_rules.proofs.CollectLemmas.{Searches}
use Rattle.symbols.specs.Found.{found}
use Rattle.symbols.specs.PlaceTypes.{place_type_view}
use Rattle.symbols.specs.Tables.{ServesTables}
use Rattle.st_check.proofs.invocations.wrong_arguments.Given as goal

abbrev pub invariant-loop-argument : goal.invariant-loop-argument
invariant-loop-argument l = (names : List Name)
    × ((q : Name) → is_some (found l.before q) ≡ contains_name names q)
    × ((env : Environment) (instance : Name) → ServesTables l.tables env.text
    → type_of_name env instance ≡ Some (place_type_view l.declared)
    → Searches (wrong_arguments env (type_word (place_type_view l.declared)) instance []
    (map argument_view l.arguments))
    (wrong_arguments env (type_word (place_type_view l.declared)) instance names
    (map argument_view (drop l.argument-index l.arguments))) l.initial.broken l.broken)
