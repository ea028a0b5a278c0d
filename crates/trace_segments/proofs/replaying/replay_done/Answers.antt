use Rattle.std.proofs.Common.{◌≡◌, ◌∙◌, ap, sym, List, slice_get, Some}
use Rattle.plan.specs.declared.task.ProgramInstance.{ProgramInstance}
use Rattle.plan.specs.declared.plan.Plan.{Plan}
use Rattle.core_engine.proofs.Views.{true_is}
use Rattle.trace_segments.proofs.RunLemmas.{done_steps}
use Rattle.trace_segments.proofs.replaying.replay_done.Goals as goal

pub returns : goal.returns
returns c =
    let programs : c.deref.result.now ≡ c.args.position.plan.programs.items =
    c.deref.ensures.value ∙ ap (λ (p : Plan). p.programs.items) c.plan.ensures in
    let (q, at, told) = c.in-Some.ensures.told in
    done_steps c.args.position c.in_ok-position.position record { program = c.in-Some.program; row = c.in-Some-ending.row } q
    c.args.text.now c.in-Some.field.now c.in-Some-ending.rest.now c.in-Some-ending.outcome c.in_ok-position.ended
    c.in_ok-position.ensures.goes c.in_ok-position.ensures.outcome
    (ap (λ (ps : List ProgramInstance). slice_get ps c.in-Some.program) (sym programs) ∙ at) told c.in-Some-ending.ensures.0.1
    (c.is_same_end.ensures (true_is c.is_same_end.result c.if-not-is_same_end.false))
