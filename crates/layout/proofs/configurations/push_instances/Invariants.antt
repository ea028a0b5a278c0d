use Rattle.std.proofs.Common.{◌≡◌, ◌++◌, map, drop}
use Rattle.layout.specs.Instances.{instance_on, instance_view}
use Rattle.layout.proofs.configurations.push_instances.Given as goal

-- the elements so far and those still to come
abbrev pub invariant-loop-instance : goal.invariant-loop-instance
invariant-loop-instance l = map instance_view l.instances.items
    ++ map (instance_on l.resource) (drop l.instance-index l.declared)
    ≡ map instance_view l.initial.instances.items ++ map (instance_on l.resource) l.declared
