use Rattle.std.proofs.Common.{◌≡◌, ◌↔◌, drop, length}
use Rattle.slot_code.proofs.comparison.same_kinds.Given as goal

-- the lists are the same if the rest of them is
abbrev pub invariant-loop-i : goal.invariant-loop-i
invariant-loop-i l =
    (length l.these ≡ length l.those) × ((l.these ≡ l.those) ↔ (drop l.i l.these ≡ drop l.i l.those))
