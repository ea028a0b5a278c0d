use Rattle.std.proofs.Common.{◌≡◌, Some, ap, subst}
use Rattle.std.specs.Prelude.{slice_get}
use Rattle.quick_code.specs.declared.quick_instr.QuickInstr.TheVariants.{JumpIfLess}
use Rattle.quick_trees.specs.Points.{Point}
use Rattle.quick_checks.proofs.counting.expect_begun.Goals as goal

pub returns-in_ok-leg-in-Words-clause-begins : goal.returns-in_ok-leg-in-Words-clause-begins
returns-in_ok-leg-in-Words-clause-begins c =
    let leg = c.in_ok-leg-in-Words.leg in
    λ now. rw c.in-Words.is (
      c.in_ok-upper-in-Words.ensures.ordered now,
      (
        ap (λ (p : Point). p.place) c.in_ok-upper-in-Words.ensures.next,
        subst (λ u. slice_get c.args.draft.now.code.instrs.items c.expect_ordered.new.at.place
            ≡ Some (JumpIfLess u c.args.count.now.depth leg.way leg.past)) c.in_ok-upper-in-Words.ensures.upper
            c.in_ok-leg-in-Words.ensures,
      ),
    )
