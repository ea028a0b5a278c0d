use Rattle.std.proofs.Common.{◌≡◌, ◌++◌, drop, map}
use Rattle.layout.specs.KeptLayouts.{variables_among}
use Rattle.layout.proofs.calls.started_values.Given as goal

-- the elements so far and those still to come
abbrev pub invariant-loop-slot : goal.invariant-loop-slot
invariant-loop-slot l = l.values.items ++ map (λ v. v.initial) (variables_among (drop l.slot-index l.slots))
    ≡ map (λ v. v.initial) (variables_among l.slots)
