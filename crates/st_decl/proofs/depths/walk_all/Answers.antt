use Rattle.std.proofs.Common.{sym, ap, subst, ◌∙◌, map, replicate}
use Rattle.std.proofs.lemmas.List.{length-map}
use Rattle.st_decl.specs.declared.depths.Mark.TheVariants.{Unseen}
use Rattle.st_decl.specs.Walks.{WalkEnds}
use Rattle.st_decl.proofs.WalkAll.{walked_none, walked_more}
use Rattle.st_decl.proofs.depths.walk_all.Goals as goal

pub loop-start-init : goal.loop-start-init
loop-start-init c = walked_none (map (λ n. n.items) c.args.graph.now) c.args.marks.now
    (c.requires ∙ ap (λ n. replicate n Unseen) (sym (length-map c.args.graph.now (λ n. n.items))))

pub loop-start-preserved : goal.loop-start-preserved
loop-start-preserved c =
    let graph = map (λ n. n.items) c.args.graph.now in
    walked_more graph c.loop-start.marks c.walk_once.new.marks c.loop-start.start c.loop-start.invariant
    (subst (WalkEnds graph c.loop-start.marks c.walk_once.new.marks c.loop-start.start) c.in_default.is
    c.in_ok-node.ensures)
