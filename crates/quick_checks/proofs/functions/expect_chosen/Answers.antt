use Rattle.std.proofs.Common.{◌≡◌, ◌∙◌, Some, ap, subst}
use Rattle.std.specs.Prelude.{slice_get}
use Rattle.quick_code.specs.declared.quick_instr.QuickInstr.TheVariants.{Select}
use Rattle.quick_trees.specs.Points.{Point, next}
use Rattle.quick_checks.proofs.functions.expect_chosen.Goals as goal

pub returns : goal.returns
returns c =
    let first = c.in_ok-expect.ensures in
    let second = c.in_ok-expect-2.ensures in
    let chosen = Select c.args.depth c.args.choice.yes c.args.choice.no c.args.to in
    λ now. record {
      there = (c.in_ok-temporary.ensures now).there;
      compared = first.stands;
      chosen = subst (λ (p : Point). slice_get c.args.draft.now.code.instrs.items p.place ≡ Some chosen) first.next
          second.stands;
      is = second.next ∙ ap next first.next;
    }
