use Rattle.std.proofs.Common.{◌≡◌, Some, ap, subst}
use Rattle.std.specs.Prelude.{slice_get}
use Rattle.quick_code.specs.declared.quick_instr.QuickInstr.TheVariants.{JumpIfAtMost}
use Rattle.quick_trees.specs.Points.{Point}
use Rattle.quick_checks.proofs.counting.expect_counted_by_word.Goals as goal

pub returns-clause-counts : goal.returns-clause-counts
returns-clause-counts c =
    let leg = c.in_ok-leg.leg in
    λ now. record {
      added = c.expect_step_added.new.at.place;
      adds = c.in_ok-expect_step_added.ensures.adds now;
      ordered = c.in_ok-upper.ensures.ordered now;
      behind = ap (λ (p : Point). p.place) c.in_ok-upper.ensures.next;
      tested = subst (λ u. slice_get c.args.draft.now.code.instrs.items c.expect_ordered.new.at.place
          ≡ Some (JumpIfAtMost c.args.count.now.depth u leg.way leg.past)) c.in_ok-upper.ensures.upper
          c.in_ok-leg.ensures;
    }
