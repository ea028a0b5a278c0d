use Rattle.std.proofs.Common.{◌++◌, ◌∷◌, [], ◌-◌, ◌^◌, ◌≡◌, ◌<◌, length, rules, subst}
use Rattle.commit_lock.proofs.FindingLemmas.{AreOverruns, overruns_more, sum_more}
use Rattle.source_run.proofs.life.overruns.Goals as goal

pub loop-program-preserved : goal.loop-program-preserved
loop-program-preserved g c =
    let (each, are, total) = c.loop-program.invariant in
    let n = c.overruns.result in
    let there : c.loop-program.program < length c.args.core.now.state.plan.programs.items = search rules in (
      each ++ n ∷ [],
      overruns_more c.args.core.now.state c.loop-program.program n each are (c.overruns.ensures.overruns there),
      rw c.saturating_add-overruns.ensures (sum_more each n c.loop-program.overruns (2 ^ 64 - 1) total),
    )

pub returns : goal.returns
returns g c =
    let (each, are, total) = c.loop-program.invariant in
    let end : c.loop-program.program ≡ length c.args.core.now.state.plan.programs.items = search rules in
    let all = subst (λ n. AreOverruns c.args.core.now.state n each) end are in
    record { each = each; number = all.number; overruns = all.overruns; total = total }
