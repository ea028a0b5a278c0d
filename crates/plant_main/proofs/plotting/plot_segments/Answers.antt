use Rattle.std.proofs.Common.{◌≡◌, ◌∷◌, ℕ, List, ap, inr, subst, rules, IsNone, vec_items}
use Rattle.source_run.specs.declared.job.Job.TheVariants.{Plot}
use Rattle.plant_main.specs.Jobs.{EndsWell, IsDrawn, NamesNone}
use Rattle.plant_main.specs.SegmentRows.{AreInRow}
use Rattle.plant_main.proofs.PlotLemmas.{segments_end_well}
use Rattle.plant_main.proofs.ReplayLemmas.{mapped}
use Rattle.plant_main.proofs.plotting.plot_segments.Goals as goal

pub returns-in_default : goal.returns-in_default
returns-in_default g c =
    let plan = c.in_ok-segments.segments.plan.value in
    let names : NamesNone plan c.args.job.now.paths.items = search rules in
    record { trace = c.args.first.items; plan = plan; plan_is = inr c.in_ok-segments.ensures.plan; names = names }

pub returns : goal.returns
returns g c =
    let plan = c.in_ok-segments.segments.plan.value in
    let first_is : c.in_ok-segments.segments.first.items ≡ c.args.first.items =
    ap vec_items c.in_ok-segments.ensures.first in
    let none : IsNone c.args.job.now.plant = search rules in
    let is = c.in-Ok.ensures in
    let row = (is.text, c.in-Ok.again.last) ∷ is.earlier in
    mapped IsDrawn (λ end. EndsWell g.row.F-Disk.Denot (Plot c.args.job.now) end) c.draw.result
    (λ end drawn. segments_end_well g.row.F-Disk.Denot c.args.job.now plan c.args.first.items row none
    c.in_ok-segments.ensures.plan (subst (λ (t : List ℕ). AreInRow plan t row) first_is is.in_row) end drawn) c.draw.ensures
