use Rattle.std.proofs.Common.{◌≡◌, ◌≤◌, ◌++◌, drop, vec_len, vec_capacity}
use Rattle.std.specs.List.{AllByRecursion}
use Rattle.st_types.specs.Values.{IsHeld}
use Rattle.core_engine.specs.Retained.{retained_values}
use Rattle.core_engine.proofs.keeping.retain.Given as goal

abbrev pub invariant-loop-i : goal.invariant-loop-i
invariant-loop-i l =
    (l.kept.items ++ retained_values (drop l.i l.variables) (drop l.i l.values) ≡ retained_values l.variables l.values)
    × AllByRecursion IsHeld l.kept.items
    × (vec_len l.kept ≤ l.i)
    × (vec_capacity l.initial.kept ≤ vec_capacity l.kept)
