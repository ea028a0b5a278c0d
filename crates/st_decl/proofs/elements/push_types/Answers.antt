use Rattle.st_decl.proofs.PushLemmas.{item_turn, items_all, seen_push}
use Rattle.st_decl.proofs.elements.push_types.Goals as goal

pub loop-declaration-preserved : goal.loop-declaration-preserved
loop-declaration-preserved c =
    item_turn _ _ _ _ _ _ _ c.loop-declaration-test.true c.declaration-item.is c.loop-declaration.invariant
    (seen_push _ _ _ _ c.in_ok-push.ensures.items)

pub returns : goal.returns
returns c = items_all _ _ _ _ _ c.loop-declaration-test.false c.loop-declaration.invariant
