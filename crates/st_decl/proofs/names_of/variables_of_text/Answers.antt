use Rattle.st_decl.proofs.PushLemmas.{pushed_turn, pushed_all}
use Rattle.st_decl.proofs.names_of.variables_of_text.Goals as goal

pub loop-element-preserved : goal.loop-element-preserved
loop-element-preserved c =
    pushed_turn _ _ _ _ _ _ _ _ c.loop-element-test.true c.element-item.is c.loop-element.invariant
    c.in_ok-push_element_variables.ensures

pub returns : goal.returns
returns c = pushed_all _ _ _ _ _ _ c.loop-element-test.false c.loop-element.invariant
