use Rattle.std.proofs.Common.{rules, refl, ◌++◌}
use Rattle.st_meaning.specs.Layouts.{step_text, steps_text}
use Rattle.st_print.proofs.AppendLemmas.{text_more}
use Rattle.trace.proofs.PutLemmas.{puts_both}
use Rattle.trace.proofs.lines.put_steps.Goals as goal

pub loop-step-preserved : goal.loop-step-preserved
loop-step-preserved g c =
    let (text, wrote, so_far) = c.loop-step.invariant in (
      text ++ step_text c.step-item.result,
      puts_both (g.W.Write.contents c.args.out.now) (g.W.Write.contents c.loop-step.out)
          (g.W.Write.contents c.put_step-works.new.out) c.args.works c.loop-step.works c.put_step-works.result text
          (step_text c.step-item.result) wrote c.put_step-works.ensures,
      text_more steps_text step_text (λ x xs. refl) _ c.loop-step.step-index c.step-item.result text (search rules)
          (search rules) so_far,
    )
