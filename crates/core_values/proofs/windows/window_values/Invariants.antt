use Rattle.std.proofs.Common.{take}
use Rattle.plan.specs.SlotPlaces.{merged}
use Rattle.slot_code.specs.Quick.{AreIn}
use Rattle.core_values.proofs.windows.window_values.Given as goal

-- the values of the slots before this one
abbrev pub invariant-loop-index : goal.invariant-loop-index
invariant-loop-index l = AreIn (take l.index l.window) (merged l.places l.values l.image) l.found.items
