use Rattle.std.proofs.Common.{map, drop}
use Rattle.std.specs.List.{flat_map}
use Rattle.st_rules.specs.BodyRules.{wrong_exit}
use Rattle.st_rules.proofs.CollectLemmas.{Searches}
use Rattle.st_check.specs.Listings.{listed_view}
use Rattle.st_check.proofs.exits.wrong_exits.Given as goal

abbrev pub invariant-loop-listed : goal.invariant-loop-listed
invariant-loop-listed l = Searches (flat_map (λ x. wrong_exit x.in_loop x.statement) (map listed_view l.statements))
    (flat_map (λ x. wrong_exit x.in_loop x.statement) (map listed_view (drop l.listed-index l.statements)))
    l.initial.broken l.broken
