use Rattle.std.proofs.Common.{◌≡◌}
use Rattle.plant_main.specs.SegmentRows.{IsRowTo}
use Rattle.plant_main.proofs.segments.Segments.run_again.Given as goal

abbrev pub invariant-loop-name : goal.invariant-loop-name
invariant-loop-name g l = IsRowTo l.self.plan.value l.self.first.items l.name-index l.totals l.last
