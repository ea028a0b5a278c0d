use Rattle.std.proofs.Common.{take}
use Rattle.slot_code.specs.Quick.{AreIn}
use Rattle.slot_code.proofs.memory.values_in.Given as goal

abbrev pub invariant-loop-index : goal.invariant-loop-index
invariant-loop-index l = AreIn (take l.index l.window) l.slots l.values.items
