use Rattle.st_decl.proofs.PushLemmas.{map_turn, maps_all}
use Rattle.st_decl.proofs.too_deep.push_type_places.Goals as goal

pub loop-declaration-preserved : goal.loop-declaration-preserved
loop-declaration-preserved c =
    map_turn _ _ _ _ _ _ _ _ c.loop-declaration-test.true c.declaration-item.is c.loop-declaration.invariant
    c.in_ok-push.ensures.items

pub returns : goal.returns
returns c = maps_all _ _ _ _ _ _ c.loop-declaration-test.false c.loop-declaration.invariant
