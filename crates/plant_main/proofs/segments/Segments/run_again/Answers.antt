use Rattle.std.proofs.Common.{◌≡◌, ℕ, List, length, subst, rules}
use Rattle.trace_segments.specs.Runs.{IsRunAlone}
use Rattle.plant_main.specs.SegmentRows.{IsRowTo}
use Rattle.plant_main.proofs.RowLemmas.{row_begun, row_more}
use Rattle.plant_main.proofs.segments.Segments.run_again.Goals as goal

pub loop-name-init : goal.loop-name-init
loop-name-init g c =
    let self = c.args.self.now in
    let last = c.in_ok-last.last in
    row_begun self.plan.value self.first.items c.first-totals.result last
    (subst (λ (text : List ℕ). IsRunAlone self.plan.value text last) c.deref.ensures.value c.in_ok-last.ensures)
    c.first-totals.ensures

pub loop-name-preserved : goal.loop-name-preserved
loop-name-preserved g c =
    row_more c.args.self.now.plan.value c.args.self.now.first.items c.deref-in-loop-name-2.result.now c.loop-name.name-index
    c.loop-name.totals c.add.new.self c.loop-name.last c.in_ok-last-2.last c.loop-name.invariant c.in_ok-last-2.ensures
    c.add.ensures

pub returns : goal.returns
returns g c =
    let self = c.args.self.now in
    let end : c.loop-name.name-index ≡ length self.others.now = search rules in
    subst (λ (n : ℕ). IsRowTo self.plan.value self.first.items n c.loop-name.totals c.loop-name.last) end
    c.loop-name.invariant
