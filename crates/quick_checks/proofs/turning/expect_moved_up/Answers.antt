use Rattle.std.proofs.Common.{◌≡◌, ◌∙◌, ◌-◌, ◌^◌, Some, ap, pos, subst}
use Rattle.std.specs.Prelude.{slice_get}
use Rattle.quick_code.specs.declared.quick_instr.QuickInstr.TheVariants.{MultiplyLint}
use Rattle.quick_trees.specs.Pieces.{IsNumberAt, IsInstr}
use Rattle.quick_trees.specs.Points.{Point, next}
use Rattle.quick_checks.specs.Checking.{frame_of}
use Rattle.quick_checks.proofs.turning.expect_moved_up.Goals as goal

pub returns : goal.returns
returns c =
    let t = c.args.moved.kind in
    let places = c.args.moved.places in
    let width = c.in-Some.ensures.bits in
    let first = c.in_ok-expect_for.ensures in
    let second = c.in_ok-expect.ensures in
    let multiply = MultiplyLint c.args.depth c.in_ok-power.power c.args.to in
    λ now. record {
      there = (c.in_ok-temporary.ensures now).there;
      mask = c.in_ok-mask.mask;
      is_mask = subst (λ w. IsNumberAt (frame_of c.args.draft.now now) t (pos (2 ^ (w - places) - 1)) c.in_ok-mask.mask)
          width
          (subst (λ n. IsNumberAt (frame_of c.args.draft.now now) t (pos (n - 1)) c.in_ok-mask.mask) c.power_of.ensures
          (c.in_ok-mask.ensures now));
      power = c.in_ok-power.power;
      is_power = subst (λ n. IsNumberAt (frame_of c.args.draft.now now) t (pos n) c.in_ok-power.power)
          c.power_of-2.ensures (c.in_ok-power.ensures now);
      masked = subst (λ o. IsInstr (frame_of c.args.draft.now now) o c.args.at.now.place) c.by_bits.ensures
          (first.stands now);
      moved = subst (λ (p : Point). slice_get c.args.draft.now.code.instrs.items p.place ≡ Some multiply) first.next
          second.stands;
      is = second.next ∙ ap next first.next;
    }
