-- A worked example of a FOR whose step is a variable, which its body assigns.
use Rattle.std.specs.Prelude.{ℕ, ℤ, pos, List, [], ◌∷◌, Some}
use Rattle.st_types.specs.declared.kind.Kind.TheVariants.{Int}
use Rattle.st_types.specs.Values.{Datum}
use Rattle.machine_code.specs.declared.mark.Mark.{Mark}
use Rattle.machine_code.specs.Tracking.{Tracked, tracked}
use Rattle.quick_code.specs.declared.quick_instr.QuickInstr.{QuickInstr}
use Rattle.quick_code.specs.declared.quick_instr.QuickInstr.TheVariants.{AddInt, DivideLint, End, Jump, Less, Move}
use Rattle.quick_code.specs.declared.quick_instr.QuickInstr.TheVariants.{NoteRead, NoteWritten, Select, Set, JumpIfAtMost}
use Rattle.quick_code.specs.declared.quick_instr.QuickInstr.TheVariants.{JumpIfLess}
use Rattle.quick_code.specs.QuickSteps.{Memory}
use Rattle.slot_trees.specs.SlotTrees.{SlotStmts, assign, FOR, no_stmts, no_subscripts, own, place, stmt_then}
use Rattle.quick_trees.specs.Example.{int, number, variable, way}
use Rattle.quick_trees.specs.QuickMemory.{Frame}

-- FOR i := 5 TO 1 BY s DO s := i; END_FOR;
abbrev pub variable_step_body : SlotStmts
variable_step_body =
    stmt_then (FOR (own 0) (number 5) (number 1) (Some (variable 1))
    (stmt_then (assign (place (own 1) no_subscripts) (variable 0)) no_stmts)) no_stmts

-- i is the word 0, s is 1, and the constants 5 and 1 are 2 and 3. The step stays in 6, and 7 says whether it is below 0.
abbrev pub variable_step_code : List QuickInstr
variable_step_code =
    Jump (way 1 1) ∷ NoteRead 1 ∷ NoteWritten 0 ∷ Move 1 6 ∷ DivideLint 6 6 7 ∷ Set (pos 0) 7 ∷ Less 6 7 7 ∷ Move 2 0
    ∷ Select 7 3 0 8 ∷ Select 7 0 3 9 ∷ JumpIfLess 9 8 (way 17 0) 1 ∷ NoteWritten 1 ∷ Move 0 1 ∷ AddInt 0 6 0
    ∷ Select 7 3 0 8 ∷ Select 7 0 3 9 ∷ JumpIfAtMost 8 9 (way 12 2) 1 ∷ End ∷ []

abbrev pub variable_step_frame : Frame
variable_step_frame = record {
  code = variable_step_code;
  ways = [];
  now = 0;
  kinds = Int ∷ Int ∷ [];
  window = 0 ∷ 1 ∷ [];
  constants = int 5 ∷ int 1 ∷ [];
  size = 10;
}

-- the words of i and s and the temporaries from the step on, and the notes of i and s
abbrev pub variable_step_words : ℤ → ℤ → List ℤ → ℕ → ℕ → Memory
variable_step_words i s temporaries m n = record {
  words = i ∷ s ∷ pos 5 ∷ pos 1 ∷ pos 0 ∷ pos 0 ∷ temporaries;
  notes = m ∷ n ∷ 0 ∷ 0 ∷ 0 ∷ 0 ∷ 0 ∷ 0 ∷ 0 ∷ 0 ∷ [];
}

abbrev pub signed_int : ℤ → Datum
signed_int n = record { kind = Int; number = n }

abbrev pub variable_step_slots : ℤ → ℤ → Mark → Mark → Tracked
variable_step_slots i s m n = tracked (signed_int i ∷ signed_int s ∷ []) (m ∷ n ∷ [])
