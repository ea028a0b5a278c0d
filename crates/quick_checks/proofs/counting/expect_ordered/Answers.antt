use Rattle.std.proofs.Common.{◌≡◌, ◌<◌, Some, subst, suc}
use Rattle.std.specs.Prelude.{slice_get}
use Rattle.quick_code.specs.declared.quick_instr.QuickInstr.TheVariants.{Select}
use Rattle.quick_trees.specs.Points.{Point}
use Rattle.quick_checks.proofs.counting.expect_ordered.Goals as goal

pub returns-clause-ordered : goal.returns-clause-ordered
returns-clause-ordered c =
    let count = c.args.count.now in
    let items = c.args.draft.now.code.instrs.items in
    λ now. record {
      there = subst (λ u. u < c.args.draft.now.words) c.in_ok-upper.ensures (c.in_ok-temporary.ensures now).there;
      first = c.in_ok-expect.ensures.stands;
      second = subst (λ u. slice_get items (suc c.args.at.now.place)
          ≡ Some (Select c.args.below count.control.word count.limit u)) c.in_ok-upper.ensures
          (subst (λ (p : Point). slice_get items p.place
          ≡ Some (Select c.args.below count.control.word count.limit c.in_ok-upper.upper)) c.in_ok-expect.ensures.next
          c.in_ok-expect-2.ensures.stands);
    }
