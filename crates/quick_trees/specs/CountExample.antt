-- A worked example of a WHILE in two instructions a turn, which names one slot of many.
use Rattle.std.specs.Prelude.{ℕ, pos, List, [], ◌∷◌}
use Rattle.st_types.specs.declared.kind.Kind.TheVariants.{Bool as Boolean, Int}
use Rattle.st_types.specs.Values.{Datum}
use Rattle.st_types.specs.declared.operator.BinaryOperator.TheVariants.{Less}
use Rattle.machine_code.specs.declared.mark.Mark.{Mark}
use Rattle.machine_code.specs.Tracking.{Tracked, tracked}
use Rattle.quick_code.specs.declared.quick_instr.QuickInstr.{QuickInstr}
use Rattle.quick_code.specs.declared.quick_instr.QuickInstr.TheVariants.{AddIntBy, End, Jump, NoteRead, NoteWritten}
use Rattle.quick_code.specs.declared.quick_instr.QuickInstr.TheVariants.{JumpIfLessConst, JumpIfAtLeastConst}
use Rattle.quick_code.specs.QuickSteps.{Memory}
use Rattle.slot_trees.specs.SlotTrees.{SlotStmts, binary, no_stmts, stmt_then, WHILE}
use Rattle.quick_trees.specs.Example.{int, number, raised_by, untouched, variable, way}
use Rattle.quick_trees.specs.QuickMemory.{Frame}

-- WHILE x < 10 DO x := x + 1; END_WHILE;
abbrev pub count_body : SlotStmts
count_body = stmt_then (WHILE (binary Less (variable 0) (number 10)) (raised_by (number 1))) no_stmts

abbrev pub count_code : List QuickInstr
count_code =
    Jump (way 1 1) ∷ NoteRead 0 ∷ JumpIfAtLeastConst 0 (pos 10) (way 6 0) 2 ∷ NoteWritten 0 ∷ AddIntBy 0 (pos 1) 0
    ∷ JumpIfLessConst 0 (pos 10) (way 4 2) 0 ∷ End ∷ []

-- x is the third of four slots, and the word 0
abbrev pub count_frame : Frame
count_frame = record {
  code = count_code;
  ways = [];
  now = 0;
  kinds = Boolean ∷ Boolean ∷ Int ∷ Boolean ∷ [];
  window = 2 ∷ [];
  constants = [];
  size = 1;
}

abbrev pub count_words : ℕ → ℕ → Memory
count_words n note = record { words = pos n ∷ []; notes = note ∷ [] }

abbrev pub no : Datum
no = record { kind = Boolean; number = pos 0 }

abbrev pub count_slots : ℕ → Mark → Tracked
count_slots n m = tracked (no ∷ no ∷ int n ∷ no ∷ []) (untouched ∷ untouched ∷ m ∷ untouched ∷ [])
