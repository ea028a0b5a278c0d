use Rattle.std.proofs.Common.{◌≡◌, ℕ, length, ◌-◌, ◌+◌, ◌<◌}
use Rattle.std.specs.Prelude.{Some, slice_get}
use Rattle.quick_checks.proofs.windows.is_window.Given as goal

abbrev pub invariant-loop-index : goal.invariant-loop-index
invariant-loop-index l = record {
  inside : (w : ℕ) → w < l.index → (k : ℕ) → slice_get l.window w ≡ Some k → k < l.count;
  behind : (w : ℕ) → w < l.index → (u j k : ℕ) → w ≡ u + 1 → slice_get l.window u ≡ Some j
      → slice_get l.window w ≡ Some k → j < k;
}

abbrev pub decreases-loop-index : goal.decreases-loop-index
decreases-loop-index l = length l.window - l.index
