use Rattle.std.proofs.Common.{◌≡◌, ◌++◌, map, drop}
use Rattle.st_types.specs.ConfigurationViews.{resource_view}
use Rattle.layout.specs.Instances.{instances_in, instance_view}
use Rattle.layout.proofs.configurations.instances_in.Given as goal

-- the elements so far and those still to come
abbrev pub invariant-loop-resource : goal.invariant-loop-resource
invariant-loop-resource l = map instance_view l.instances.items
    ++ instances_in (map resource_view (drop l.resource-index l.resources))
    ≡ instances_in (map resource_view l.resources)
