use Rattle.std.proofs.Common.{◌≡◌, rules, subst}
use Rattle.quick_trees.specs.Functions.{AreTwo}
use Rattle.quick_checks.specs.Checking.{kinds_read, words_read}
use Rattle.quick_checks.proofs.functions.expect_lesser.Goals as goal

pub returns : goal.returns
returns c =
    let one = c.in-Some.left in
    let two = c.in-Some.right in
    let kinds : two.kind ≡ one.kind = c.if-not-is_kind.ensures (search rules) in
    let read = c.args.read.now in
    λ now. record {
      left = one.word;
      right = two.word;
      arguments = subst (λ k. AreTwo (kinds_read read) (words_read read) one.kind k one.word two.word) kinds
          c.in-Some.ensures;
      chosen = c.in_ok-expect_chosen.ensures now;
    }
