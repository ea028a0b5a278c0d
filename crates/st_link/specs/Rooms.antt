-- Where variables begin, and room for them.
use Rattle.std.specs.Prelude.{ℕ}
use Rattle.slot_trees.specs.SlotTrees.{Anchor, own, absolute}

-- the slot of an anchor, or how many come before it
abbrev pub first_slot : Anchor → ℕ
first_slot (own o) = o
first_slot (absolute k) = k
