use Rattle.std.proofs.Common.{◌≡◌, ◌∙◌, ◌-◌, ◌<◌, Some, ap, arith, subst, suc, sym}
use Rattle.std.specs.Prelude.{if◌then◌else◌, slice_get}
use Rattle.st_types.specs.Kinds.{row_of}
use Rattle.quick_code.specs.declared.quick_instr.QuickInstr.TheVariants.{AddLint, ShiftRight}
use Rattle.quick_trees.specs.Functions.{IsMovedWithin, IsTurnedBy}
use Rattle.quick_trees.specs.Points.{Point, next}
use Rattle.quick_checks.specs.Checking.{frame_of, kinds_read, point_of, words_read}
use Rattle.quick_checks.proofs.turning.expect_turned.Goals.{then-is_down, else-is_down}
use Rattle.quick_checks.proofs.turning.expect_turned.Goals as goal

pub returns : goal.returns
returns c =
    let x = c.in-Some.value in
    let n = c.in-Some-Some.places in
    let d = c.args.depth in
    let bits = (row_of x.kind).bits in
    let width : c.in-Some-Some.width ≡ bits = c.in-Some-Some.ensures.bits in
    let up = c.if-is_down.up in
    let is_up : up ≡ (if c.args.is_down then bits - n else n) = elim c.if-is_down.branch [
      | then-is_down w ↦ w.up-is ∙ ap (λ w. w - n) width ∙ ap (λ t. if t then bits - n else n) (sym w.if-is_down.true)
      | else-is_down w ↦ w.up-is ∙ ap (λ t. if t then bits - n else n) (sym w.if-is_down.false)
    ] in
    let deep = c.in_ok-below.ensures in
    let below = c.in_ok-expect.ensures in
    let sum = c.in_ok-expect-2.ensures in
    let last = c.in_ok-expect_within.ensures in
    let items = c.args.draft.now.code.instrs.items in
    let middle = point_of c.expect_moved_up.new.at in
    λ now. (
      n,
      subst (λ u. IsTurnedBy (frame_of c.args.draft.now now) (kinds_read c.args.read.now)
          (words_read c.args.read.now) x.kind n u d c.args.to (point_of c.args.at.now) (point_of c.expect_within.new.at))
          is_up (record {
            word = x.word;
            kind = c.in-Some.count.kind;
            count = c.in-Some.count.word;
            arguments = c.in-Some.ensures;
            is_count = c.in-Some-Some.ensures' now;
            some = omega (arith, c.if-places-eq0.false);
            few = omega (arith, width, c.if-places-width.false);
            there = subst (λ e. e < c.args.draft.now.words) deep (c.in_ok-temporary.ensures now).there;
            last = middle;
            moves = c.in_ok-expect_moved_up.ensures now;
            below = subst (λ e. slice_get items middle.place ≡ Some (ShiftRight x.word (bits - up) e)) deep
                (subst (λ w. slice_get items middle.place ≡ Some (ShiftRight x.word (w - up) c.in_ok-below.below)) width
                below.stands);
            sum = subst (λ e. slice_get items (suc middle.place) ≡ Some (AddLint d e d)) deep
                (subst (λ (p : Point). slice_get items p.place ≡ Some (AddLint d c.in_ok-below.below d)) below.next
                sum.stands);
            within = subst (λ (p : Point). IsMovedWithin (frame_of c.args.draft.now now) x.kind d c.args.to p.place)
                (sum.next ∙ ap next below.next) (last.moves now);
            is = last.next ∙ ap next (sum.next ∙ ap next below.next);
          }),
    )
