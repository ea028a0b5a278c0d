use Rattle.st_decl.proofs.PushLemmas.{map_turn, maps_all, seen_push}
use Rattle.st_decl.proofs.names_of.names_of_fields.Goals as goal

pub loop-field-preserved : goal.loop-field-preserved
loop-field-preserved c =
    map_turn _ _ _ _ _ _ _ _ c.loop-field-test.true c.field-item.is c.loop-field.invariant
    (seen_push _ _ _ _ c.in_ok-push.ensures.items)

pub returns : goal.returns
returns c = maps_all _ _ _ _ _ _ c.loop-field-test.false c.loop-field.invariant
