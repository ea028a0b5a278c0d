-- A worked example of a block that is called on an instance.
use Rattle.std.specs.Prelude.{ℕ, pos, List, [], ◌∷◌}
use Rattle.st_types.specs.declared.kind.Kind.TheVariants.{Int}
use Rattle.st_types.specs.declared.operator.BinaryOperator.TheVariants.{Add}
use Rattle.machine_code.specs.declared.mark.Mark.{Mark}
use Rattle.machine_code.specs.Tracking.{Tracked, tracked}
use Rattle.quick_code.specs.declared.quick_instr.QuickInstr.{QuickInstr}
use Rattle.quick_code.specs.declared.quick_instr.QuickInstr.TheVariants.{AddInt, AddIntBy, End, Jump, Move, NoteRead}
use Rattle.quick_code.specs.declared.quick_instr.QuickInstr.TheVariants.{NoteWritten}
use Rattle.quick_code.specs.QuickSteps.{Memory}
use Rattle.slot_trees.specs.SlotTrees.{SlotLibrary, SlotStmts, assign, binary, copied, given, invoke, no_stmts}
use Rattle.slot_trees.specs.SlotTrees.{no_subscripts, own, own_block, place, stmt_then}
use Rattle.quick_trees.specs.Example.{int, number, variable, way}
use Rattle.quick_trees.specs.QuickMemory.{Frame}

-- FUNCTION_BLOCK summing VAR_INPUT by : INT; END_VAR VAR_OUTPUT sum : INT; END_VAR
-- sum := sum + by; END_FUNCTION_BLOCK
abbrev pub summing : SlotStmts
summing = stmt_then (assign (place (own 1) no_subscripts) (binary Add (variable 1) (variable 0))) no_stmts

abbrev pub block_library : SlotLibrary
block_library = record { functions = []; blocks = summing ∷ [] }

-- f(by := x + 1, sum => x);
abbrev pub block_body : SlotStmts
block_body =
    stmt_then (invoke (own 1) (own_block 0)
    (given 0 (binary Add (variable 0) (number 1)) ∷ copied 1 (place (own 0) no_subscripts) ∷ [])) no_stmts

-- x is the word 0, the instance is the words 1 and 2, and 3 is free
abbrev pub block_code : List QuickInstr
block_code =
    Jump (way 1 2) ∷ NoteRead 0 ∷ NoteWritten 0 ∷ NoteWritten 1 ∷ NoteRead 2 ∷ NoteWritten 2 ∷ AddIntBy 0 (pos 1) 3
    ∷ Move 3 1 ∷ AddInt 2 1 2 ∷ Move 2 0 ∷ End ∷ []

abbrev pub block_frame : Frame
block_frame = record {
  code = block_code;
  ways = [];
  now = 0;
  kinds = Int ∷ Int ∷ Int ∷ [];
  window = 0 ∷ 1 ∷ 2 ∷ [];
  constants = [];
  size = 4;
}

abbrev pub block_words : ℕ → ℕ → ℕ → ℕ → ℕ → ℕ → ℕ → Memory
block_words x by sum free m n o = record {
  words = pos x ∷ pos by ∷ pos sum ∷ pos free ∷ [];
  notes = m ∷ n ∷ o ∷ 0 ∷ [];
}

abbrev pub block_slots : ℕ → ℕ → ℕ → Mark → Mark → Mark → Tracked
block_slots x by sum m n o = tracked (int x ∷ int by ∷ int sum ∷ []) (m ∷ n ∷ o ∷ [])
