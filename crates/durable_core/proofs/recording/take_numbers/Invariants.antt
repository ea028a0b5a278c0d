use Rattle.std.proofs.Common.{◌≡◌, ◌≤◌, ◌++◌, take, drop, length, vec_capacity}
use Rattle.durable_core.specs.Recorded.{all_renumbered}
use Rattle.durable_core.proofs.recording.take_numbers.Given as goal

abbrev pub invariant-loop-i : goal.invariant-loop-i
invariant-loop-i l =
    (take l.i l.values.items ++ all_renumbered (drop l.i l.values.items) (drop l.i l.others)
    ≡ all_renumbered l.initial.values.items l.others)
    × (length l.values.items ≡ length l.initial.values.items)
    × (vec_capacity l.initial.values ≤ vec_capacity l.values)
