-- Where the values of a unit are in a memory.
use Rattle.std.specs.Prelude.{ℕ, ◌+◌}
use Rattle.slot_trees.specs.SlotTrees.{Anchor}
use Rattle.slot_trees.specs.SlotEvaluation.{slot_at}

-- the first slot of the unit's values, the first of its own variables among them, and how many values there are
pub record UnitFrame : Type 0 where
  pub start : ℕ
  pub base : ℕ
  pub size : ℕ

-- the slot of the memory that an anchor means
abbrev pub slot_in : UnitFrame → Anchor → ℕ
slot_in s a = s.start + slot_at s.base a

-- the first slot after the unit's values, where those of the functions that it calls begin
abbrev pub end_of : UnitFrame → ℕ
end_of s = s.start + s.size

-- the same unit's values, seen by an instance of a block
abbrev pub instance_frame : UnitFrame → ℕ → UnitFrame
instance_frame s base = record { start = s.start; base = base; size = s.size }

-- a function's values from a slot on
abbrev pub call_frame : ℕ → ℕ → UnitFrame
call_frame start size = record { start = start; base = 0; size = size }
