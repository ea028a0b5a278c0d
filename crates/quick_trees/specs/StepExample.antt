-- A worked example of a standard block that is called on an instance.
use Rattle.std.specs.Prelude.{ℕ, pos, List, [], ◌∷◌}
use Rattle.st_types.specs.declared.kind.Kind.TheVariants.{Bool as Boolean}
use Rattle.st_types.specs.Values.{Datum}
use Rattle.symbols.specs.declared.standard_blocks.StandardBlock.TheVariants.{RTrig}
use Rattle.st_meaning.specs.StandardBlocks.{R_TRIG}
use Rattle.machine_code.specs.declared.mark.Mark.{Mark}
use Rattle.machine_code.specs.Tracking.{Tracked, tracked}
use Rattle.quick_code.specs.declared.quick_instr.QuickInstr.{QuickInstr}
use Rattle.quick_code.specs.declared.quick_instr.QuickInstr.TheVariants.{End, Jump, Move, NoteRead, NoteWritten, Step}
use Rattle.quick_code.specs.QuickSteps.{Memory}
use Rattle.slot_trees.specs.SlotTrees.{SlotStmts, copied, given, invoke, no_stmts, no_subscripts, own, place}
use Rattle.slot_trees.specs.SlotTrees.{standard_block, stmt_then}
use Rattle.quick_trees.specs.Example.{variable, way}
use Rattle.quick_trees.specs.QuickMemory.{Frame}

-- rise(CLK := x, Q => y);
abbrev pub step_body : SlotStmts
step_body =
    stmt_then (invoke (own 1) (standard_block R_TRIG)
    (given 0 (variable 0) ∷ copied 1 (place (own 4) no_subscripts) ∷ [])) no_stmts

-- x is the word 0, the instance of R_TRIG is the words 1 to 3, and y is 4
abbrev pub step_code : List QuickInstr
step_code =
    Jump (way 1 1) ∷ NoteRead 0 ∷ NoteWritten 1 ∷ NoteRead 2 ∷ NoteWritten 2 ∷ NoteRead 3 ∷ NoteWritten 3
    ∷ NoteWritten 4 ∷ Move 0 1 ∷ Step RTrig 1 ∷ Move 2 4 ∷ End ∷ []

abbrev pub step_frame : Frame
step_frame = record {
  code = step_code;
  ways = [];
  now = 0;
  kinds = Boolean ∷ Boolean ∷ Boolean ∷ Boolean ∷ Boolean ∷ [];
  window = 0 ∷ 1 ∷ 2 ∷ 3 ∷ 4 ∷ [];
  constants = [];
  size = 5;
}

abbrev pub step_words : ℕ → ℕ → ℕ → ℕ → ℕ → List ℕ → Memory
step_words x clk q m y notes = record {
  words = pos x ∷ pos clk ∷ pos q ∷ pos m ∷ pos y ∷ [];
  notes = notes;
}

abbrev pub bool_value : ℕ → Datum
bool_value n = record { kind = Boolean; number = pos n }

abbrev pub step_slots : ℕ → ℕ → ℕ → ℕ → ℕ → List Mark → Tracked
step_slots x clk q m y marks = tracked (bool_value x ∷ bool_value clk ∷ bool_value q ∷ bool_value m ∷ bool_value y ∷ []) marks
