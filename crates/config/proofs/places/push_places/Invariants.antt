use Rattle.std.proofs.Common.{◌≡◌, ◌++◌, drop, map}
use Rattle.st_types.specs.ConfigurationViews.{resource_view}
use Rattle.config.specs.Places.{place_of}
use Rattle.config.proofs.places.push_places.Given as goal

abbrev pub invariant-loop-instance : goal.invariant-loop-instance
invariant-loop-instance l =
    l.places.items ++ map (place_of l.number l.first (resource_view l.resource)) (drop l.instance-index l.instance-items)
    ≡ l.initial.places.items ++ map (place_of l.number l.first (resource_view l.resource)) l.instance-items
