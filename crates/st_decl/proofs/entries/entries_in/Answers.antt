use Rattle.std.proofs.Common.{rules}
use Rattle.st_decl.proofs.PushLemmas.{pushed_turn, pushed_all}
use Rattle.st_decl.proofs.entries.entries_in.Goals as goal

pub loop-element-preserved : goal.loop-element-preserved
loop-element-preserved c =
    pushed_turn _ _ c.args.source.now.elements.items
    c.loop-element.element-index c.element-item.result _ _ _ (search rules)
    (search rules) c.loop-element.invariant c.in_ok-push_element.ensures

pub returns : goal.returns
returns c = pushed_all _ _ c.args.source.now.elements.items _ _ _ (search rules) c.loop-element.invariant
