-- A worked example of a FOR over a type of 8 bits, whose step is not 1.
use Rattle.std.specs.Prelude.{ℕ, pos, List, [], ◌∷◌, Some}
use Rattle.st_types.specs.declared.kind.Kind.TheVariants.{Usint}
use Rattle.st_types.specs.declared.literal.Literal.TheVariants as literals
use Rattle.st_types.specs.Values.{Datum}
use Rattle.machine_code.specs.declared.mark.Mark.{Mark}
use Rattle.machine_code.specs.Tracking.{Tracked, tracked}
use Rattle.quick_code.specs.declared.quick_instr.QuickInstr.{QuickInstr}
use Rattle.quick_code.specs.declared.quick_instr.QuickInstr.TheVariants.{AddLintBy, End, Jump, Move, MoveWithin}
use Rattle.quick_code.specs.declared.quick_instr.QuickInstr.TheVariants.{NoteWritten, JumpIfAtMost, JumpIfLess}
use Rattle.quick_code.specs.QuickSteps.{Memory}
use Rattle.slot_trees.specs.SlotTrees.{SlotExpr, SlotStmts, assign, constant, FOR, no_stmts, no_subscripts, own, place}
use Rattle.slot_trees.specs.SlotTrees.{stmt_then}
use Rattle.quick_trees.specs.Example.{variable, way, written}
use Rattle.quick_trees.specs.QuickMemory.{Frame}

abbrev pub short : ℕ → Datum
short n = record { kind = Usint; number = pos n }

abbrev pub short_number : ℕ → SlotExpr
short_number n = constant (literals.Number (record (written n) { written = Some Usint }))

-- FOR i := 1 TO 200 BY 100 DO s := i; END_FOR;
abbrev pub short_for_body : SlotStmts
short_for_body =
    stmt_then (FOR (own 0) (short_number 1) (short_number 200) (Some (short_number 100))
    (stmt_then (assign (place (own 1) no_subscripts) (variable 0)) no_stmts)) no_stmts

-- i is the word 0, s is 1, and the constants 1, 200, 0 and 255 are 2 to 5
abbrev pub short_for_code : List QuickInstr
short_for_code =
    Jump (way 1 1) ∷ NoteWritten 0 ∷ Move 2 0 ∷ JumpIfLess 3 0 (way 9 0) 1 ∷ NoteWritten 1 ∷ Move 0 1
    ∷ AddLintBy 0 (pos 100) 0 ∷ MoveWithin 0 4 5 0 ∷ JumpIfAtMost 0 3 (way 5 2) 1 ∷ End ∷ []

abbrev pub short_for_frame : Frame
short_for_frame = record {
  code = short_for_code;
  ways = [];
  now = 0;
  kinds = Usint ∷ Usint ∷ [];
  window = 0 ∷ 1 ∷ [];
  constants = short 1 ∷ short 200 ∷ short 0 ∷ short 255 ∷ [];
  size = 6;
}

abbrev pub short_for_words : ℕ → ℕ → ℕ → Memory
short_for_words i s note = record {
  words = pos i ∷ pos s ∷ pos 1 ∷ pos 200 ∷ pos 0 ∷ pos 255 ∷ [];
  notes = note ∷ note ∷ 0 ∷ 0 ∷ 0 ∷ 0 ∷ [];
}

abbrev pub short_for_slots : ℕ → ℕ → Mark → Tracked
short_for_slots i s m = tracked (short i ∷ short s ∷ []) (m ∷ m ∷ [])
