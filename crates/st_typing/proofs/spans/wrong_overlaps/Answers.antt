use Rattle.std.proofs.Common.{◌≡◌, refl, sym, ◌∙◌, ◌==◌, ℕ, ◌+◌, ◌-◌, ◌<◌, ◌≤◌, false, arith}
use Rattle.std.proofs.lemmas.Bool.{eqb-true}
use Rattle.std.proofs.lemmas.Bool.Decides.{nat_tests}
use Rattle.st_typing.proofs.SpanLemmas.{swept_first, swept_next, swept_all, swept_none}
use Rattle.st_typing.proofs.spans.wrong_overlaps.Goals as goal

some_there : (n : ℕ) → (n == 0) ≡ false → 0 < n
some_there n h = grind (arith, nat_tests)

one_back : (n : ℕ) → 1 ≤ n → n - 1 + 1 ≡ n
one_back n h = omega (arith, h)

pub returns-then-is_empty : goal.returns-then-is_empty
returns-then-is_empty c all p up sound =
    swept_none all c.args.spans.now _ _ refl (eqb-true _ 0 (sym c.is_empty.ensures ∙ c.if-is_empty.true)) p

pub loop-at-init : goal.loop-at-init
loop-at-init c all p up sound =
    swept_first all c.args.spans.now _ _ _ refl (some_there _ (sym c.is_empty.ensures ∙ c.if-is_empty.false))

pub loop-at-preserved : goal.loop-at-preserved
loop-at-preserved c all p up sound =
    rw c.further-reach.ensures
    (swept_next all c.args.spans.now c.loop-at.at _ _ _ _ _ _ _ _ (one_back c.loop-at.at c.loop-at.auto.at)
    c.loop-at-test.true p up sound (c.loop-at.invariant all p up sound) c.compare.ensures c.compare_back.ensures)

pub returns : goal.returns
returns c all p up sound =
    swept_all all c.args.spans.now c.loop-at.at _ _ _ c.loop-at-test.false p up (c.loop-at.invariant all p up sound)
