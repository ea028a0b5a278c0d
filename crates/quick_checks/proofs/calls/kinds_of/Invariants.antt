use Rattle.std.proofs.Common.{◌≡◌, length, take, map, ◌-◌}
use Rattle.st_types.specs.Values.{Datum}
use Rattle.quick_checks.proofs.calls.kinds_of.Given as goal

abbrev pub invariant-loop-index : goal.invariant-loop-index
invariant-loop-index l = l.kinds.items ≡ map (λ (v : Datum). v.kind) (take l.index l.function.fresh.items)

abbrev pub decreases-loop-index : goal.decreases-loop-index
decreases-loop-index l = length l.function.fresh.items - l.index
