use Rattle.std.proofs.Common.{◌≡◌, drop, map, length}
use Rattle.std.specs.Prelude.{nat_lt}
use Rattle.std.specs.List.{list_any}
use Rattle.st_types.specs.declared.limits.TheConstants.{MAX_TASKS}
use Rattle.st_types.specs.ConfigurationViews.{resource_view}
use Rattle.config.proofs.counts.have_many_tasks.Given as goal

abbrev pub invariant-loop-resource : goal.invariant-loop-resource
invariant-loop-resource l = list_any (λ r. nat_lt MAX_TASKS (length r.tasks)) (map resource_view l.resources)
    ≡ list_any (λ r. nat_lt MAX_TASKS (length r.tasks)) (map resource_view (drop l.resource-index l.resources))
