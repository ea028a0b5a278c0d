use Rattle.std.proofs.Common.{rules, refl, ◌++◌}
use Rattle.st_meaning.specs.Layouts.{step_text, steps_text}
use Rattle.st_print.proofs.AppendLemmas.{appends_both, text_more}
use Rattle.st_print.proofs.path.write_steps.Goals as goal

pub loop-step-preserved : goal.loop-step-preserved
loop-step-preserved g c =
    let (text, wrote, so_far) = c.loop-step.invariant in (
      text ++ step_text c.step-item.result,
      appends_both _ _ _ _ _ wrote (search rules),
      text_more steps_text step_text (λ x xs. refl) _ c.loop-step.step-index c.step-item.result text (search rules)
          (search rules) so_far,
    )
