use Rattle.std.proofs.Common.{arith, refl, ◌∙◌, ap}
use Rattle.quick_trees.specs.Notes.{at_assignment}
use Rattle.quick_trees.specs.Points.{Point}
use Rattle.quick_checks.proofs.Instances.{change_begins, change_more, changed_all}
use Rattle.quick_checks.proofs.members.assign_all.Goals as goal

pub loop-index-init : goal.loop-index-init
loop-index-init c = record {
  within = omega arith;
  same = refl;
  assigns = change_begins at_assignment c.args.first c.args.count c.args.at.now.noted.items;
}

pub loop-index-preserved : goal.loop-index-preserved
loop-index-preserved c = record {
  within = omega arith;
  same = c.in_ok-assign.ensures.same
      ∙ ap (λ (x : Point). record x { noted = c.assign.new.at.noted.items }) c.loop-index.invariant.same;
  assigns = change_more at_assignment c.args.first c.args.count c.loop-index.index c.in_ok-word.word
      c.args.at.now.noted.items
      c.loop-index.at.noted.items c.assign.new.at.noted.items c.in_ok-word.ensures
      c.in_ok-assign.ensures.touches c.loop-index.invariant.assigns;
}

pub returns-clause-assigns : goal.returns-clause-assigns
returns-clause-assigns c = changed_all at_assignment c.args.first c.args.count c.loop-index.index
    c.args.at.now.noted.items c.loop-index.at.noted.items (omega arith) c.loop-index.invariant.assigns
