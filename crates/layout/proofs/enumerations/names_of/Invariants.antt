use Rattle.std.proofs.Common.{◌≡◌, ◌++◌, drop, map}
use Rattle.layout.proofs.enumerations.names_of.Given as goal

abbrev pub invariant-loop-identifier : goal.invariant-loop-identifier
invariant-loop-identifier l =
    l.names.items ++ map (λ x. x.name) (drop l.identifier-index l.identifiers) ≡ map (λ x. x.name) l.identifiers
