use Rattle.std.proofs.Common.{◌≡◌, ◌++◌, map, drop}
use Rattle.st_meaning.specs.Bodies.{names_of}
use Rattle.st_link.proofs.declared_names.push_names.Given as goal

-- the elements so far and those still to come
abbrev pub invariant-loop-name : goal.invariant-loop-name
invariant-loop-name l = map (λ x. x.now.name) l.names.items ++ names_of (drop l.name-index l.declared)
    ≡ map (λ x. x.now.name) l.initial.names.items ++ names_of l.declared
