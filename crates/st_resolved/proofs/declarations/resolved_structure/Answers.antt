use Rattle.st_resolved.proofs.ListLemmas.{resolved_turn, all_resolved}
use Rattle.st_resolved.proofs.declarations.resolved_structure.Goals as goal

pub loop-field-preserved : goal.loop-field-preserved
loop-field-preserved c = λ text serves fields.
    resolved_turn _ _ _ _ _ _ _ _ _ c.loop-field-test.true c.field-item.is (c.loop-field.invariant text serves fields)
    c.in_ok-push.ensures.items (c.in_ok-resolved_field.ensures text serves fields)

pub returns : goal.returns
returns c = λ text serves fields.
    all_resolved _ _ _ _ _ _ c.loop-field-test.false (c.loop-field.invariant text serves fields)
