use Rattle.std.proofs.Common.{◌∙◌, None, arith}
use Rattle.std.proofs.lemmas.List.{get_or_default}
use Rattle.ready_list.proofs.MarkLemmas.{MarkedBelow-step}
use Rattle.ready_list.proofs.program_state.mark_all.Goals as goal

pub loop-program-preserved : goal.loop-program-preserved
loop-program-preserved c =
    MarkedBelow-step c.args.schedules.now c.args.before.now c.args.samples.now c.args.row c.args.states.now.items
    c.loop-program.program c.loop-program.states.items c.index.result.now c.next.result
    (omega (arith, c.loop-program-test.true, c.requires.sized)) c.loop-program.invariant
    (c.index.ensures ∙ get_or_default c.loop-program.states.items c.loop-program.program _ record {
      waiting = None;
      overruns = 0;
    } (omega (arith, c.loop-program-test.true, c.requires.sized, c.loop-program.invariant.2)))
    c.next.ensures
