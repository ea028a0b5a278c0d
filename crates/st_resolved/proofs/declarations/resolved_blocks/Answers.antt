use Rattle.st_resolved.proofs.ListLemmas.{resolved_turn, all_resolved}
use Rattle.st_resolved.proofs.declarations.resolved_blocks.Goals as goal

pub loop-block-preserved : goal.loop-block-preserved
loop-block-preserved c = λ text serves fields.
    resolved_turn _ _ _ _ _ _ _ _ _ c.loop-block-test.true c.block-item.is (c.loop-block.invariant text serves fields)
    c.in_ok-push.ensures.items (c.in_ok-resolved_block.ensures text serves fields)

pub returns : goal.returns
returns c = λ text serves fields.
    all_resolved _ _ _ _ _ _ c.loop-block-test.false (c.loop-block.invariant text serves fields)
