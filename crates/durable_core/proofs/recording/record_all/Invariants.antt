use Rattle.std.proofs.Common.{◌≡◌, ◌≤◌, ◌++◌, take, drop, length, map, vec_capacity}
use Rattle.durable_core.specs.Recorded.{recorded}
use Rattle.durable_core.proofs.recording.record_all.Given as goal

abbrev pub invariant-loop-i : goal.invariant-loop-i
invariant-loop-i l =
    (take l.i l.values.items ++ map recorded (drop l.i l.values.items) ≡ map recorded l.initial.values.items)
    × (length l.values.items ≡ length l.initial.values.items)
    × (vec_capacity l.initial.values ≤ vec_capacity l.values)
