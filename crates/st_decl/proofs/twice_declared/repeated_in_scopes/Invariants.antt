use Rattle.std.proofs.Common.{map, drop}
use Rattle.std.specs.List.{flat_map}
use Rattle.st_rules.specs.TwiceDeclared.{repeated}
use Rattle.st_rules.proofs.CollectLemmas.{Searches}
use Rattle.st_decl.proofs.twice_declared.repeated_in_scopes.Given as goal

abbrev pub invariant-loop-scope : goal.invariant-loop-scope
invariant-loop-scope l =
    Searches (flat_map repeated (map (λ s. map (λ x. x.now) s.items) l.scopes))
    (flat_map repeated (map (λ s. map (λ x. x.now) s.items) (drop l.scope-index l.scopes))) l.initial.broken l.broken
