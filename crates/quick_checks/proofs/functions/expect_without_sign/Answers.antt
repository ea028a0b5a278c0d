use Rattle.std.proofs.Common.{subst, suc}
use Rattle.quick_trees.specs.Functions.{IsPicked}
use Rattle.quick_checks.specs.Checking.{frame_of, point_of}
use Rattle.quick_checks.proofs.functions.expect_without_sign.Goals as goal

pub returns : goal.returns
returns c =
    let x = c.in-Some.argument in
    let n = c.in_ok-nought.nought in
    let first = c.in_ok-expect.ensures in
    let last = c.in_ok-expect_within.ensures in
    λ now. record {
      word = x.word;
      argument = c.in-Some.ensures;
      there = (c.in_ok-temporary.ensures now).there;
      nought = n;
      is_nought = c.in_ok-nought.ensures now;
      stands = first.stands;
      last = point_of c.expect_chosen.new.at;
      chosen = subst (λ p. IsPicked (frame_of c.args.draft.now now) n x.word x.word c.args.depth (suc c.args.depth) c.args.depth p
          (point_of c.expect_chosen.new.at)) first.next
          (subst (λ d. IsPicked (frame_of c.args.draft.now now) n x.word x.word c.args.depth d c.args.depth
          (point_of c.expect.new.at) (point_of c.expect_chosen.new.at)) c.in_ok-deeper.ensures
          (c.in_ok-expect_chosen.ensures now));
      moves = last.moves now;
      is = last.next;
    }
