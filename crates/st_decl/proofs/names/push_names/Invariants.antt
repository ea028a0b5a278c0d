use Rattle.std.proofs.Common.{◌≡◌, ◌++◌, map, take}
use Rattle.st_decl.proofs.names.push_names.Given as goal

abbrev pub invariant-loop-name : goal.invariant-loop-name
invariant-loop-name l =
    map (λ x. x.now) l.scope.items ≡ map (λ x. x.now) l.initial.scope.items ++ take l.name-index l.names
