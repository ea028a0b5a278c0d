use Rattle.st_decl.proofs.PushLemmas.{map_turn, maps_all, seen_push}
use Rattle.st_decl.proofs.links.push_unit_names.Goals as goal

pub loop-unit-preserved : goal.loop-unit-preserved
loop-unit-preserved c =
    map_turn _ _ _ _ _ _ _ _ c.loop-unit-test.true c.unit-item.is c.loop-unit.invariant
    (seen_push _ _ _ _ c.in_ok-push.ensures.items)

pub returns : goal.returns
returns c = maps_all _ _ _ _ _ _ c.loop-unit-test.false c.loop-unit.invariant
