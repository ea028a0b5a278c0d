use Rattle.std.proofs.Common.{◌≡◌, map, take}
use Rattle.slot_code.specs.WordValues.{mark_of}
use Rattle.slot_code.proofs.memory.marks_of.Given as goal

abbrev pub invariant-loop-slot : goal.invariant-loop-slot
invariant-loop-slot l = l.marks.items ≡ map mark_of (take l.slot l.notes)
