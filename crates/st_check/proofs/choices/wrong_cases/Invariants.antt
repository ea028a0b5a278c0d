use Rattle.std.proofs.Common.{map, drop}
use Rattle.std.specs.List.{flat_map}
use Rattle.st_rules.specs.Environments.{Environment}
use Rattle.st_rules.specs.LabelRules.{wrong_case}
use Rattle.st_rules.proofs.CollectLemmas.{Searches}
use Rattle.symbols.specs.Serving.{Serves}
use Rattle.st_check.specs.Listings.{listed_view}
use Rattle.st_check.proofs.choices.wrong_cases.Given as goal

abbrev pub invariant-loop-listed : goal.invariant-loop-listed
invariant-loop-listed l = (env : Environment) → Serves l.names env
    → Searches (flat_map (λ x. wrong_case env x.statement) (map listed_view l.statements))
    (flat_map (λ x. wrong_case env x.statement) (map listed_view (drop l.listed-index l.statements)))
    l.initial.broken l.broken
