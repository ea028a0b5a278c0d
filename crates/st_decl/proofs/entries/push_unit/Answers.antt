use Rattle.std.proofs.Common.{rules}
use Rattle.st_decl.specs.Entries.{entry_view}
use Rattle.st_decl.proofs.PushLemmas.{pushed_turn, pushed_all, after_one}
use Rattle.st_decl.proofs.entries.push_unit.Goals as goal

pub loop-block-preserved : goal.loop-block-preserved
loop-block-preserved c =
    pushed_turn _ _ c.args.unit.now.blocks.items c.loop-block.block-index c.block-item.result _ _ _ (search rules)
    (search rules) c.loop-block.invariant c.in_ok-push_block.ensures

pub returns : goal.returns
returns c =
    after_one entry_view _ _ _ _ _ c.in_ok-push.ensures.items
    (pushed_all _ _ c.args.unit.now.blocks.items _ _ _ (search rules) c.loop-block.invariant)
