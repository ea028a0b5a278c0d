-- A worked example of a FOR over the elements of an array, and quick code that stands for it.
use Rattle.std.specs.Prelude.{ℕ, pos, negsuc, List, [], ◌∷◌, None}
use Rattle.st_types.specs.declared.kind.Kind.TheVariants.{Int}
use Rattle.st_types.specs.declared.operator.BinaryOperator.TheVariants.{Add}
use Rattle.machine_code.specs.declared.mark.Mark.{Mark}
use Rattle.machine_code.specs.Tracking.{Tracked, tracked}
use Rattle.quick_code.specs.declared.quick_instr.QuickInstr.{QuickInstr}
use Rattle.quick_code.specs.declared.quick_instr.QuickInstr.TheVariants.{AddInt, CountUpInt, End, Jump, LoadElement}
use Rattle.quick_code.specs.declared.quick_instr.QuickInstr.TheVariants.{Move, NoteRead, NoteWritten, StoreElement}
use Rattle.quick_code.specs.declared.quick_instr.QuickInstr.TheVariants.{JumpIfLess}
use Rattle.quick_code.specs.QuickSteps.{Memory}
use Rattle.slot_trees.specs.SlotTrees.{Place, SlotStmts, assign, binary, FOR, load, no_stmts, no_subscripts, own, place}
use Rattle.slot_trees.specs.SlotTrees.{stmt_then, subscript_then}
use Rattle.quick_trees.specs.Example.{int, number, variable, way}
use Rattle.quick_trees.specs.QuickMemory.{Frame}

-- a[i], where a is ARRAY [1..3] OF INT
abbrev pub element : Place
element = place (own 2) (subscript_then (variable 0) (pos 1) 3 1 no_subscripts)

-- FOR i := 1 TO 3 DO a[i] := a[i] + s; s := a[i]; END_FOR;
abbrev pub loop_body : SlotStmts
loop_body =
    stmt_then (FOR (own 0) (number 1) (number 3) None
    (stmt_then (assign element (binary Add (load element) (variable 1)))
    (stmt_then (assign (place (own 1) no_subscripts) (load element)) no_stmts))) no_stmts

-- i is the word 0, s is 1, the elements are 2 to 4, the constants 1 and 3 are 5 and 6, and the words after them are free
abbrev pub loop_code : List QuickInstr
loop_code =
    Jump (way 1 1) ∷ NoteWritten 0 ∷ Move 5 0 ∷ JumpIfLess 6 0 (way 11 0) 2 ∷ NoteRead 1 ∷ NoteWritten 1
    ∷ LoadElement 0 (negsuc 0) 9 2 3 ∷ AddInt 9 1 9 ∷ StoreElement 0 (negsuc 0) 9 2 3 ∷ LoadElement 0 (negsuc 0) 1 2 3
    ∷ CountUpInt 0 (pos 1) 6 (way 6 3) 1 ∷ End ∷ []

abbrev pub loop_frame : Frame
loop_frame = record {
  code = loop_code;
  ways = [];
  now = 0;
  kinds = Int ∷ Int ∷ Int ∷ Int ∷ Int ∷ [];
  window = 0 ∷ 1 ∷ 2 ∷ 3 ∷ 4 ∷ [];
  constants = int 1 ∷ int 3 ∷ [];
  size = 10;
}

-- the values of i, s and the elements and a temporary, and the notes of i, s and of each element
abbrev pub loop_words : ℕ → ℕ → ℕ → ℕ → ℕ → ℕ → ℕ → ℕ → ℕ → Memory
loop_words i s x y z t m n o = record {
  words = pos i ∷ pos s ∷ pos x ∷ pos y ∷ pos z ∷ pos 1 ∷ pos 3 ∷ pos 0 ∷ pos 0 ∷ pos t ∷ [];
  notes = m ∷ n ∷ o ∷ o ∷ o ∷ 0 ∷ 0 ∷ 0 ∷ 0 ∷ 0 ∷ [];
}

abbrev pub loop_slots : ℕ → ℕ → ℕ → ℕ → ℕ → Mark → Mark → Mark → Tracked
loop_slots i s x y z m n o = tracked (int i ∷ int s ∷ int x ∷ int y ∷ int z ∷ []) (m ∷ n ∷ o ∷ o ∷ o ∷ [])
