use Rattle.std.proofs.Common.{◌≡◌, ◌++◌, map, drop}
use Rattle.st_types.specs.ConfigurationViews.{resource_view}
use Rattle.st_decl.specs.Entries.{entry_view, resource_declared}
use Rattle.st_decl.proofs.entries.push_resources.Given as goal

abbrev pub invariant-loop-resource : goal.invariant-loop-resource
invariant-loop-resource l = map entry_view l.entries.items
    ++ map resource_declared (map resource_view (drop l.resource-index l.resources))
    ≡ map entry_view l.initial.entries.items ++ map resource_declared (map resource_view l.resources)
