use Rattle.std.proofs.Common.{◌≡◌, map, take}
use Rattle.config.proofs.slot_kinds.kinds_of.Given as goal

abbrev pub invariant-loop-slot : goal.invariant-loop-slot
invariant-loop-slot l = l.kinds.items ≡ map (λ s. s.initial.kind) (take l.slot-index l.slots)
