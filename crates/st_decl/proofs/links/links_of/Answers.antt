use Rattle.std.proofs.Common.{rules}
use Rattle.st_decl.proofs.PushLemmas.{map_turn, maps_all}
use Rattle.st_decl.proofs.links.links_of.Goals as goal

pub loop-part-preserved : goal.loop-part-preserved
loop-part-preserved c =
    map_turn _ _ _ _ _ _ _ _ c.loop-part-test.true c.part-item.is c.loop-part.invariant (search rules)

pub returns : goal.returns
returns c = maps_all _ _ _ _ _ _ c.loop-part-test.false c.loop-part.invariant
