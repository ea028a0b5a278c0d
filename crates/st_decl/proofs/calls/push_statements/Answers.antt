use Rattle.st_decl.proofs.PushLemmas.{pushed_turn, pushed_all}
use Rattle.st_decl.proofs.calls.push_statements.Goals as goal

pub loop-statement-preserved : goal.loop-statement-preserved
loop-statement-preserved c =
    pushed_turn _ _ _ _ _ _ _ _ c.loop-statement-test.true c.statement-item.is c.loop-statement.invariant
    c.in_ok-push_statement.ensures

pub returns : goal.returns
returns c = pushed_all _ _ _ _ _ _ c.loop-statement-test.false c.loop-statement.invariant
