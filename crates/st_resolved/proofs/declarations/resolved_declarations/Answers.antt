use Rattle.st_resolved.proofs.ListLemmas.{resolved_turn, all_resolved}
use Rattle.st_resolved.proofs.declarations.resolved_declarations.Goals as goal

pub loop-declaration-preserved : goal.loop-declaration-preserved
loop-declaration-preserved c = λ text serves fields.
    resolved_turn _ _ _ _ _ _ _ _ _ c.loop-declaration-test.true c.declaration-item.is
    (c.loop-declaration.invariant text serves fields) c.in_ok-push.ensures.items
    (c.in_ok-resolved_declaration.ensures text serves fields)

pub returns : goal.returns
returns c = λ text serves fields.
    all_resolved _ _ _ _ _ _ c.loop-declaration-test.false (c.loop-declaration.invariant text serves fields)
