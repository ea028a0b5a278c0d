use Rattle.std.proofs.Common.{◌≡◌, ◌++◌, drop, map}
use Rattle.layout.specs.Indexed.{slot_of_entry}
use Rattle.layout.specs.KeptLayouts.{inputs_among}
use Rattle.layout.proofs.slot_index.plan_inputs.Given as goal

-- the elements so far and those still to come
abbrev pub invariant-loop-number : goal.invariant-loop-number
invariant-loop-number l =
    l.inputs.items ++ inputs_among (drop l.number (map slot_of_entry l.slots.entries))
    ≡ inputs_among (map slot_of_entry l.slots.entries)
