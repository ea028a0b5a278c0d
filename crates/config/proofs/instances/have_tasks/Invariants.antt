use Rattle.std.proofs.Common.{◌≡◌, drop, map}
use Rattle.std.specs.Prelude.{is_some}
use Rattle.std.specs.List.{list_all}
use Rattle.st_types.specs.ConfigurationViews.{resource_view}
use Rattle.config.proofs.instances.have_tasks.Given as goal

abbrev pub invariant-loop-resource : goal.invariant-loop-resource
invariant-loop-resource l = list_all (λ r. list_all (λ i. is_some i.task) r.instances) (map resource_view l.resources)
    ≡ list_all (λ r. list_all (λ i. is_some i.task) r.instances)
    (map resource_view (drop l.resource-index l.resources))
