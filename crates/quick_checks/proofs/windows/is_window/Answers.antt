use Rattle.std.proofs.Common.{rules, ◌≡◌, ℕ, ◌<◌, arith}
use Rattle.std.specs.Prelude.{Some, slice_get}
use Rattle.std.proofs.lemmas.Option.{slice_get_within}
use Rattle.quick_checks.proofs.Below.{one_more}
use Rattle.quick_checks.proofs.Increasing.{IsBehind, in_order}
use Rattle.quick_checks.proofs.windows.is_window.Goals as goal

pub loop-index-preserved : goal.loop-index-preserved
loop-index-preserved c = record {
  inside = one_more (λ w. (k : ℕ) → slice_get c.args.window.now w ≡ Some k → k < c.args.count) _
      c.loop-index.invariant.inside (c.if-not-is_next.ensures.inside (search rules));
  behind = one_more (λ w. IsBehind c.args.window.now w) _ c.loop-index.invariant.behind
      (c.if-not-is_next.ensures.behind (search rules));
}

pub returns : goal.returns
returns c = λ yes. record {
  inside = λ w k e. (let h = slice_get_within c.args.window.now w k e in
      let low : w < c.loop-index.index = omega (arith, h, c.loop-index-test.false) in
      c.loop-index.invariant.inside w low k e);
  increasing = in_order c.args.window.now (λ w h. (let low : w < c.loop-index.index =
      omega (arith, h, c.loop-index-test.false) in
      c.loop-index.invariant.behind w low));
}
