use Rattle.std.proofs.Common.{sym, subst, ◌∙◌, ◌+◌, take}
use Rattle.st_decl.specs.Walks.{IsCappedDepth}
use Rattle.st_decl.proofs.WalkLemmas.{look_turn, look_open}
use Rattle.st_decl.proofs.depths.look.Goals as goal

pub returns-in-Open-clause-leads : goal.returns-in-Open-clause-leads
returns-in-Open-clause-leads c = look_open c.args.marks.now c.args.links.now c.loop-position.position _ c.in-Open.open
    c.loop-position-test.true (sym c.seen_of.ensures ∙ c.in-Open.is)

pub loop-position-preserved : goal.loop-position-preserved
loop-position-preserved c = λ graph told looked.
    subst (IsCappedDepth graph (take (c.loop-position.position + 1) c.args.links.now)) (sym c.max-deepest.ensures)
    (look_turn graph c.args.marks.now c.args.links.now c.loop-position.position _ c.in-Depth.depth
    c.loop-position.deepest told c.loop-position-test.true (sym c.seen_of.ensures ∙ c.in-Depth.is)
    (c.loop-position.invariant graph told looked))
