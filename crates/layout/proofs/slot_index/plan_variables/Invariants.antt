use Rattle.std.proofs.Common.{◌≡◌, ◌++◌, drop, map}
use Rattle.layout.specs.Indexed.{slot_of_entry}
use Rattle.layout.specs.KeptLayouts.{variables_among}
use Rattle.layout.proofs.slot_index.plan_variables.Given as goal

-- the elements so far and those still to come
abbrev pub invariant-loop-number : goal.invariant-loop-number
invariant-loop-number l =
    l.variables.items ++ variables_among (drop l.number (map slot_of_entry l.slots.entries))
    ≡ variables_among (map slot_of_entry l.slots.entries)
