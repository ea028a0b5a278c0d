use Rattle.std.proofs.Common.{◌≡◌, ◌+◌, ◌≤◌, ◌++◌, drop}
use Rattle.config.proofs.NumberedLemmas.{numbered_facts}
use Rattle.config.proofs.numbered_slots.numbered_slots.Given as goal

abbrev pub invariant-loop-facts : goal.invariant-loop-facts
invariant-loop-facts l =
    (l.places.items ++ numbered_facts l.variables l.inputs (drop l.facts-index l.facts-items)
    ≡ numbered_facts 0 0 l.facts-items) × (l.variables + l.inputs ≤ l.facts-index)
