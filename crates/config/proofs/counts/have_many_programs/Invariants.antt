use Rattle.std.proofs.Common.{◌≡◌, ◌≤◌, ◌+◌, drop, map, length}
use Rattle.std.specs.List.{flat_map}
use Rattle.st_types.specs.declared.limits.TheConstants.{MAX_PROGRAMS}
use Rattle.st_types.specs.ConfigurationViews.{resource_view}
use Rattle.config.proofs.counts.have_many_programs.Given as goal

abbrev pub invariant-loop-resource : goal.invariant-loop-resource
invariant-loop-resource l = (l.programs ≤ MAX_PROGRAMS)
    × (l.programs + length (flat_map (λ r. r.instances) (map resource_view (drop l.resource-index l.resources)))
    ≡ length (flat_map (λ r. r.instances) (map resource_view l.resources)))
