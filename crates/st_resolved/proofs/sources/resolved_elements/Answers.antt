use Rattle.st_resolved.proofs.ListLemmas.{resolved_turn, all_resolved}
use Rattle.st_resolved.proofs.sources.resolved_elements.Goals as goal

pub loop-element-preserved : goal.loop-element-preserved
loop-element-preserved c = λ text serves fields.
    resolved_turn _ _ _ _ _ _ _ _ _ c.loop-element-test.true c.element-item.is
    (c.loop-element.invariant text serves fields) c.in_ok-push.ensures.items
    (c.in_ok-resolved_element.ensures text serves fields)

pub returns : goal.returns
returns c = λ text serves fields.
    all_resolved _ _ _ _ _ _ c.loop-element-test.false (c.loop-element.invariant text serves fields)
