use Rattle.std.proofs.Common.{◌≡◌, rules, subst}
use Rattle.quick_trees.specs.Functions.{AreThree, IsPicked}
use Rattle.quick_checks.specs.Checking.{frame_of, kinds_read, point_of, words_read}
use Rattle.quick_checks.proofs.functions.expect_limited.Goals as goal

pub returns : goal.returns
returns c =
    let l = c.in-Some.lower in
    let x = c.in-Some.value in
    let u = c.in-Some.upper in
    let one : x.kind ≡ l.kind = c.if-not-is_kind.ensures (search rules) in
    let two : u.kind ≡ l.kind = c.if-not-is_kind-2.ensures (search rules) in
    let read = c.args.read.now in
    λ now. record {
      lower = l.word;
      word = x.word;
      upper = u.word;
      arguments = subst (λ k. AreThree (kinds_read read) (words_read read) l.kind l.kind k l.word x.word u.word) two
          (subst (λ k. AreThree (kinds_read read) (words_read read) l.kind k u.kind l.word x.word u.word) one
          c.in-Some.ensures);
      chosen = record {
        middle = point_of c.expect_chosen.new.at;
        first = c.in_ok-expect_chosen.ensures now;
        second = subst (λ d. IsPicked (frame_of c.args.draft.now now) c.args.depth u.word c.args.depth u.word d c.args.to
            (point_of c.expect_chosen.new.at) (point_of c.expect_chosen-2.new.at)) c.in_ok-deeper.ensures
            (c.in_ok-expect_chosen-2.ensures now);
      };
    }
