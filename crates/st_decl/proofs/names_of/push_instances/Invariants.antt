use Rattle.std.proofs.Common.{◌≡◌, ◌++◌, map, drop}
use Rattle.st_decl.proofs.names_of.push_instances.Given as goal

abbrev pub invariant-loop-instance : goal.invariant-loop-instance
invariant-loop-instance l = map (λ x. x.now) l.scope.items ++ map (λ i. i.name) (drop l.instance-index l.instances)
    ≡ map (λ x. x.now) l.initial.scope.items ++ map (λ i. i.name) l.instances
