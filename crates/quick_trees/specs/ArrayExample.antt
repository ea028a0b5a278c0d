-- A worked example of an array with three subscripts.
use Rattle.std.specs.Prelude.{ℕ, pos, negsuc, List, [], ◌∷◌}
use Rattle.st_types.specs.declared.kind.Kind.TheVariants.{Int}
use Rattle.machine_code.specs.declared.mark.Mark.{Mark}
use Rattle.machine_code.specs.Tracking.{Tracked, tracked}
use Rattle.quick_code.specs.declared.quick_instr.QuickInstr.{QuickInstr}
use Rattle.quick_code.specs.declared.quick_instr.QuickInstr.TheVariants.{End, Jump, LoadNested, Locate, LocateNested}
use Rattle.quick_code.specs.declared.quick_instr.QuickInstr.TheVariants.{NoteRead, StoreNested}
use Rattle.quick_code.specs.QuickSteps.{Memory}
use Rattle.slot_trees.specs.SlotTrees.{Place, SlotStmts, assign, load, no_stmts, no_subscripts, own, place, stmt_then}
use Rattle.slot_trees.specs.SlotTrees.{subscript_then}
use Rattle.quick_trees.specs.Example.{int, untouched, variable, way}
use Rattle.quick_trees.specs.QuickMemory.{Frame}

-- a[x, y, z] by the numbers of variables, where a is ARRAY [1..2, 1..2, 1..2] OF INT
abbrev pub cell : ℕ → ℕ → ℕ → Place
cell x y z =
    place (own 2)
    (subscript_then (variable x) (pos 1) 2 4
    (subscript_then (variable y) (pos 1) 2 2 (subscript_then (variable z) (pos 1) 2 1 no_subscripts)))

-- a[i, j, i] := a[j, i, j];
abbrev pub array_body : SlotStmts
array_body = stmt_then (assign (cell 0 1 0) (load (cell 1 0 1))) no_stmts

-- i is the word 0, j is 1, the elements are 2 to 9, and the words after them are free
abbrev pub array_code : List QuickInstr
array_code =
    Jump (way 1 1) ∷ NoteRead 0 ∷ NoteRead 1 ∷ Locate 1 (negsuc 0) 10 2 4 ∷ LocateNested 10 0 (negsuc 0) 10 2 2
    ∷ LoadNested 10 1 (negsuc 0) 10 2 2 1 ∷ Locate 0 (negsuc 0) 11 2 4 ∷ LocateNested 11 1 (negsuc 0) 11 2 2
    ∷ StoreNested 11 0 (negsuc 0) 10 2 2 1 ∷ End ∷ []

abbrev pub array_frame : Frame
array_frame = record {
  code = array_code;
  ways = [];
  now = 0;
  kinds = Int ∷ Int ∷ Int ∷ Int ∷ Int ∷ Int ∷ Int ∷ Int ∷ Int ∷ Int ∷ [];
  window = 0 ∷ 1 ∷ 2 ∷ 3 ∷ 4 ∷ 5 ∷ 6 ∷ 7 ∷ 8 ∷ 9 ∷ [];
  constants = [];
  size = 12;
}

-- the element a[1, 2, 1] with its note and a[2, 1, 2] with its note; the others are 0
abbrev pub array_words : ℕ → ℕ → ℕ → ℕ → ℕ → ℕ → ℕ → ℕ → Memory
array_words i j x y s t m n = record {
  words = pos i ∷ pos j ∷ pos 0 ∷ pos 0 ∷ pos x ∷ pos 0 ∷ pos 0 ∷ pos y ∷ pos 0 ∷ pos 0 ∷ pos s ∷ pos t ∷ [];
  notes = m ∷ m ∷ 0 ∷ 0 ∷ m ∷ 0 ∷ 0 ∷ n ∷ 0 ∷ 0 ∷ 0 ∷ 0 ∷ [];
}

abbrev pub array_slots : ℕ → ℕ → ℕ → ℕ → Mark → Mark → Tracked
array_slots i j x y m n =
    tracked
    (int i ∷ int j ∷ int 0 ∷ int 0 ∷ int x ∷ int 0 ∷ int 0 ∷ int y ∷ int 0 ∷ int 0 ∷ [])
    (m ∷ m ∷ untouched ∷ untouched ∷ m ∷ untouched ∷ untouched ∷ n ∷ untouched ∷ untouched ∷ [])
