use Rattle.st_decl.proofs.PushLemmas.{pushed_turn, pushed_all}
use Rattle.st_decl.proofs.scopes.push_field_starts.Goals as goal

pub loop-field-preserved : goal.loop-field-preserved
loop-field-preserved c =
    pushed_turn _ _ _ _ _ _ _ _ c.loop-field-test.true c.field-item.is c.loop-field.invariant
    c.in_ok-push_optional.ensures

pub returns : goal.returns
returns c = pushed_all _ _ _ _ _ _ c.loop-field-test.false c.loop-field.invariant
