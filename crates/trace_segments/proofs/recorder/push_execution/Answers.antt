use Rattle.std.proofs.Common.{◌≡◌, ◌∙◌, ◌++◌, List, ap, option_map, slice_get, Some}
use Rattle.plan.specs.declared.task.ProgramInstance.{ProgramInstance}
use Rattle.trace.specs.Texts.{done_line}
use Rattle.trace_segments.proofs.HeadLemmas.{put_behind}
use Rattle.trace_segments.proofs.RecordLemmas.{got}
use Rattle.trace_segments.proofs.recorder.push_execution.Goals as goal

pub returns-then-put_done : goal.returns-then-put_done
returns-then-put_done c =
    let at : option_map (λ p. p.now) c.get-program.result ≡ slice_get c.args.plan.now.programs.items c.args.activation.program =
    got c.deref.result.now c.args.activation.program c.get-program.result c.get-program.ensures.lookup
    ∙ ap (λ (ps : List ProgramInstance). slice_get ps c.args.activation.program) c.deref.ensures.value in
    put_behind c.args.text.now.items c.put_done.new.out.items
    (done_line (option_map (λ p. p.now) c.get-program.result) c.args.activation.row (Some c.args.outcome))
    c.put_done.result c.if-put_done.true c.put_done.ensures
    ∙ ap (λ p. c.args.text.now.items ++ done_line p c.args.activation.row (Some c.args.outcome)) at
