use Rattle.st_decl.proofs.PushLemmas.{pushed_turn, pushed_all}
use Rattle.st_decl.proofs.starts.starts_of.Goals as goal

pub loop-declaring-preserved : goal.loop-declaring-preserved
loop-declaring-preserved c =
    λ text serves given. pushed_turn _ _ _ _ _ _ _ _ c.loop-declaring-test.true c.declaring-item.is
    (c.loop-declaring.invariant text serves given) (c.in_ok-push_declaring.ensures text serves given)

pub returns : goal.returns
returns c = λ text serves given.
    pushed_all _ _ _ _ _ _ c.loop-declaring-test.false (c.loop-declaring.invariant text serves given)
