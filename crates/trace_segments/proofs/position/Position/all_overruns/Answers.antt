use Rattle.std.proofs.Common.{◌≡◌, ◌∙◌, ◌<◌, ◌-◌, ◌^◌, List, ap, subst, length, get_or, arith}
use Rattle.std.proofs.lemmas.List.{take_all}
use Rattle.checkpoints.specs.Checkpoints.{ProgramProgress}
use Rattle.trace_segments.specs.Positions.{PositionView, overruns_in}
use Rattle.trace_segments.proofs.PositionLemmas.{overruns_next}
use Rattle.trace_segments.proofs.position.Position.all_overruns.Goals as goal

pub loop-program-preserved : goal.loop-program-preserved
loop-program-preserved c =
    let ps = c.args.self.now.programs in
    let i = c.loop-program.program-index in
    let same : c.deref-program-items.result.now ≡ ps =
    c.deref-program-items.ensures.value ∙ ap (λ (v : PositionView). v.programs) c.self.view_is in
    let small : i < length ps = subst (λ (xs : List ProgramProgress). i < length xs) same c.loop-program-test.true in
    let at = c.program-item.is ∙ ap (λ (xs : List ProgramProgress). get_or xs i c.program-item.result) same in
    overruns_next ps i c.program-item.result c.loop-program.overruns c.overruns.result c.saturating_add-overruns.result
    (2 ^ 64 - 1) small at c.loop-program.invariant c.overruns.ensures c.saturating_add-overruns.ensures

pub returns : goal.returns
returns c =
    let same : c.deref-program-items.result.now ≡ c.args.self.now.programs =
    c.deref-program-items.ensures.value ∙ ap (λ (v : PositionView). v.programs) c.self.view_is in
    c.loop-program.invariant ∙ ap overruns_in (take_all c.loop-program.program-index c.args.self.now.programs
    (omega (arith, c.loop-program-test.false, ap (λ (xs : List ProgramProgress). length xs) same)))
