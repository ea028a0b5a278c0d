use Rattle.std.proofs.Common.{map, drop}
use Rattle.std.specs.List.{flat_map}
use Rattle.st_rules.specs.declared.reason.Reason.TheVariants.{StandardName}
use Rattle.st_rules.specs.Faults.{breaking, in_case}
use Rattle.st_rules.specs.TwiceDeclared.{is_standard}
use Rattle.st_rules.proofs.CollectLemmas.{Searches}
use Rattle.st_decl.proofs.twice_declared.standard_names.Given as goal

abbrev pub invariant-loop-name : goal.invariant-loop-name
invariant-loop-name l =
    Searches
    (flat_map (λ x. breaking StandardName (in_case (is_standard x.name) x.place)) (map (λ x. x.now) l.names))
    (flat_map (λ x. breaking StandardName (in_case (is_standard x.name) x.place))
    (map (λ x. x.now) (drop l.name-index l.names))) l.initial.broken l.broken
