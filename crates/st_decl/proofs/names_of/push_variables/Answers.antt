use Rattle.std.proofs.Common.{rules}
use Rattle.st_decl.proofs.PushLemmas.{pushed_turn, pushed_all}
use Rattle.st_decl.proofs.names_of.push_variables.Goals as goal

pub loop-block-preserved : goal.loop-block-preserved
loop-block-preserved c =
    pushed_turn _ _ _ _ _ _ _ _ c.loop-block-test.true c.block-item.is c.loop-block.invariant (search rules)

pub returns : goal.returns
returns c = pushed_all _ _ _ _ _ _ c.loop-block-test.false c.loop-block.invariant
