use Rattle.std.proofs.Common.{ℕ, List, length, map, ◌-◌, ◌++◌}
use Rattle.slot_trees.specs.LibraryViews.{slot_function_view}
use Rattle.quick_trees.specs.Points.{Point}
use Rattle.quick_trees.specs.UnitValues.{FunctionWord}
use Rattle.quick_trees.specs.Calls.{AreBegun}
use Rattle.quick_checks.specs.Checking.{frame_of, point_of, seat_of, words_read}
use Rattle.quick_checks.proofs.prologues.begin.Given as goal

abbrev pub invariant-loop-slot : goal.invariant-loop-slot
invariant-loop-slot l = (now : ℕ) (rest : List FunctionWord) (q : Point)
    → AreBegun (frame_of l.draft now) (slot_function_view l.function) (words_read l.read) l.start l.slot rest
    (point_of l.at) q
    → AreBegun (frame_of l.draft now) (slot_function_view l.function) (words_read l.read) l.start 0
    (map seat_of l.seats.items ++ rest) (point_of l.fn.at) q

abbrev pub decreases-loop-slot : goal.decreases-loop-slot
decreases-loop-slot l = length l.function.fresh.items - l.slot
