use Rattle.std.proofs.Common.{◌≡◌, ◌++◌, drop, length, map}
use Rattle.st_types.specs.ConfigurationViews.{resource_view}
use Rattle.config.specs.Places.{places_from}
use Rattle.config.specs.Tasks.{tasks_from}
use Rattle.config.proofs.schedules.schedule_of.Given as goal

abbrev pub invariant-loop-number : goal.invariant-loop-number
invariant-loop-number l =
    (l.tasks.items ++ tasks_from l.variables l.inputs l.number (map resource_view (drop l.number l.resources))
    ≡ tasks_from l.variables l.inputs 0 (map resource_view l.resources))
    × (l.places.items ++ places_from l.number (length l.tasks.items) (map resource_view (drop l.number l.resources))
    ≡ places_from 0 0 (map resource_view l.resources))
