use Rattle.std.proofs.Common.{◌≡◌, ◌++◌, map, drop}
use Rattle.st_link.proofs.called_functions.names_of.Given as goal

-- the elements so far and those still to come
abbrev pub invariant-loop-identifier : goal.invariant-loop-identifier
invariant-loop-identifier l = map (λ x. x.now) l.names.items
    ++ map (λ x. x.now.name) (drop l.identifier-index l.identifiers) ≡ map (λ x. x.now.name) l.identifiers
