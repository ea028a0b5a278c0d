use Rattle.std.proofs.Common.{arith, refl, ◌∙◌, ap}
use Rattle.quick_trees.specs.Notes.{at_look}
use Rattle.quick_trees.specs.Points.{Point}
use Rattle.quick_checks.proofs.Instances.{change_begins, change_more, changed_all}
use Rattle.quick_checks.proofs.members.look_all.Goals as goal

pub loop-index-init : goal.loop-index-init
loop-index-init c = record {
  within = omega arith;
  same = refl;
  looks = change_begins at_look c.args.first c.args.count c.args.at.now.noted.items;
}

pub loop-index-preserved : goal.loop-index-preserved
loop-index-preserved c = record {
  within = omega arith;
  same = c.in_ok-look.ensures.same
      ∙ ap (λ (x : Point). record x { noted = c.look.new.at.noted.items }) c.loop-index.invariant.same;
  looks = change_more at_look c.args.first c.args.count c.loop-index.index c.in_ok-word.word c.args.at.now.noted.items
      c.loop-index.at.noted.items c.look.new.at.noted.items c.in_ok-word.ensures
      c.in_ok-look.ensures.touches c.loop-index.invariant.looks;
}

pub returns-clause-looks : goal.returns-clause-looks
returns-clause-looks c = changed_all at_look c.args.first c.args.count c.loop-index.index c.args.at.now.noted.items
    c.loop-index.at.noted.items (omega arith) c.loop-index.invariant.looks
