use Rattle.std.proofs.Common.{◌∙◌, ◌+◌, ap, subst, sym, Option}
use Rattle.st_types.specs.declared.entry.Activation.{Activation}
use Rattle.ready_list.specs.Ready.{IsFirst, sooner_of}
use Rattle.ready_list.proofs.BestLemmas.{IsFirst-step}
use Rattle.ready_list.proofs.order.first_of.Goals as goal

pub loop-program-preserved : goal.loop-program-preserved
loop-program-preserved c =
    let e = c.sooner_of-first.ensures
    ∙ ap (λ o. sooner_of c.args.schedules.now c.loop-program.first o) c.offered-waiting.ensures in
    subst (λ (o : Option Activation).
    IsFirst c.args.schedules.now c.args.states.now c.args.resource (c.loop-program.program + 1) o) (sym e)
    (IsFirst-step c.args.schedules.now c.args.states.now c.args.resource c.loop-program.program c.loop-program.first
    c.loop-program.invariant)
