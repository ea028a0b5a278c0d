use Rattle.st_decl.proofs.PushLemmas.{pushed_turn, pushed_all}
use Rattle.st_decl.proofs.calls.push_arguments.Goals as goal

pub loop-argument-preserved : goal.loop-argument-preserved
loop-argument-preserved c =
    pushed_turn _ _ _ _ _ _ _ _ c.loop-argument-test.true c.argument-item.is c.loop-argument.invariant
    c.in_ok-push_argument.ensures

pub returns : goal.returns
returns c = pushed_all _ _ _ _ _ _ c.loop-argument-test.false c.loop-argument.invariant
