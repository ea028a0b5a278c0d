use Rattle.std.proofs.Common.{◌≡◌, ℕ, length, map, true, ◌-◌, ◌<◌}
use Rattle.std.specs.Prelude.{Some, slice_get}
use Rattle.quick_checks.specs.Checking.{seat_of}
use Rattle.quick_checks.proofs.counting.none_own.Given as goal

abbrev pub invariant-loop-index : goal.invariant-loop-index
invariant-loop-index l = (j : ℕ) → j < l.index → slice_get (map seat_of l.seats) j
    ≡ Some (record { word = l.word; is_own = true }) → ⊥

abbrev pub decreases-loop-index : goal.decreases-loop-index
decreases-loop-index l = length l.seats - l.index
