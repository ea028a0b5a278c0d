use Rattle.std.proofs.Common.{◌≡◌, ◌++◌, map, drop}
use Rattle.layout.specs.Instances.{instance_view}
use Rattle.st_link.specs.CalledFunctions.{programs_among}
use Rattle.st_link.proofs.called_functions.programs_of.Given as goal

-- the elements so far and those still to come
abbrev pub invariant-loop-instance : goal.invariant-loop-instance
invariant-loop-instance l = map (λ x. x.now) l.names.items
    ++ programs_among (map instance_view (drop l.instance-index l.instances))
    ≡ programs_among (map instance_view l.instances)
