use Rattle.std.proofs.Common.{◌≡◌, ℕ, List, ap, length, subst, vec_items}
use Rattle.plant_main.specs.SegmentRows.{IsRowTo}
use Rattle.plant_main.proofs.segments.replay_segments.Goals as goal

pub returns-in-Ok : goal.returns-in-Ok
returns-in-Ok g c =
    let segments = c.in_ok-segments.segments in
    let again = c.in-Ok.again in
    let one = subst (λ (text : List ℕ). IsRowTo segments.plan.value text (length segments.others.now) again.totals again.last)
    (ap vec_items c.in_ok-segments.ensures.first) c.in-Ok.ensures in
    let row = rw c.in_ok-segments.ensures.others at one in record {
      plan = segments.plan.value;
      plan_is = c.in_ok-segments.ensures.plan;
      totals = again.totals;
      last = again.last;
      row = row;
      spelled = c.in_ok-report-in-Ok.ensures;
    }
