use Rattle.st_decl.proofs.PushLemmas.{map_turn, maps_all, seen_push}
use Rattle.st_decl.proofs.names_of.names_of_resources.Goals as goal

pub loop-resource-preserved : goal.loop-resource-preserved
loop-resource-preserved c =
    map_turn _ _ _ _ _ _ _ _ c.loop-resource-test.true c.resource-item.is c.loop-resource.invariant
    (seen_push _ _ _ _ c.in_ok-push.ensures.items)

pub returns : goal.returns
returns c = maps_all _ _ _ _ _ _ c.loop-resource-test.false c.loop-resource.invariant
