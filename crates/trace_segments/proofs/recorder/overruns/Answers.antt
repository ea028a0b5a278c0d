use Rattle.std.proofs.Common.{◌≡◌, ◌∙◌, ◌<◌, ℕ, List, ap, length, map, rules, take}
use Rattle.checkpoints.specs.Checkpoints.{ProgramProgress}
use Rattle.core_engine.specs.Checkpointed.{checkpoint_of}
use Rattle.trace_segments.proofs.RecordLemmas.{all_overruns, overruns_more, overruns_number}
use Rattle.trace_segments.proofs.recorder.overruns.Goals as goal

pub loop-program-preserved : goal.loop-program-preserved
loop-program-preserved c =
    let small : c.loop-program.program < length c.args.engine.now.plan.programs.items = search rules in
    c.in_ok-push.ensures.items ∙ overruns_more c.args.engine.now c.lived.ensures c.loop-program.program c.overruns.result
    c.loop-program.overruns.items small c.loop-program.invariant (c.overruns.ensures.progress small)

pub returns-clause-number : goal.returns-clause-number
returns-clause-number c =
    let end : c.loop-program.program ≡ length c.args.engine.now.plan.programs.items = search rules in
    overruns_number c.args.engine.now c.lived.ensures c.loop-program.overruns.items
    (all_overruns c.args.engine.now c.lived.ensures c.loop-program.overruns.items (c.loop-program.invariant
    ∙ ap (λ (n : ℕ). take n (map (λ (p : ProgramProgress). p.overruns) (checkpoint_of c.args.engine.now).programs)) end))

pub returns-clause-progress : goal.returns-clause-progress
returns-clause-progress c =
    let end : c.loop-program.program ≡ length c.args.engine.now.plan.programs.items = search rules in
    all_overruns c.args.engine.now c.lived.ensures c.loop-program.overruns.items (c.loop-program.invariant
    ∙ ap (λ (n : ℕ). take n (map (λ (p : ProgramProgress). p.overruns) (checkpoint_of c.args.engine.now).programs)) end)
