use Rattle.std.proofs.Common.{◌≡◌, ◌++◌, ◌≤◌, ℕ, drop, length}
use Rattle.plan.specs.SlotPlaces.{merged}
use Rattle.plan.proofs.SlotLemmas.{AreNumbered}
use Rattle.plan.proofs.slots.merged_values.Given as goal

-- the elements so far and those still to come
abbrev pub invariant-loop-place : goal.invariant-loop-place
invariant-loop-place l = (v : ℕ) × (i : ℕ) × (v ≤ length l.variables) × (i ≤ length l.inputs)
    × AreNumbered v i (drop l.place-index l.places) (length l.variables) (length l.inputs)
    × (l.values.items ++ merged (drop l.place-index l.places) (drop v l.variables) (drop i l.inputs)
    ≡ merged l.places l.variables l.inputs)
