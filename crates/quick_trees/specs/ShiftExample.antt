-- A worked example of subscripts that are sums with a constant.
use Rattle.std.specs.Prelude.{ℕ, pos, negsuc, List, [], ◌∷◌}
use Rattle.st_types.specs.declared.kind.Kind.TheVariants.{Int}
use Rattle.st_types.specs.declared.operator.BinaryOperator.TheVariants.{Add, Subtract}
use Rattle.machine_code.specs.declared.mark.Mark.{Mark}
use Rattle.machine_code.specs.Tracking.{Tracked, tracked}
use Rattle.quick_code.specs.declared.quick_instr.QuickInstr.{QuickInstr}
use Rattle.quick_code.specs.declared.quick_instr.QuickInstr.TheVariants.{End, Jump, LoadElement, NoteRead}
use Rattle.quick_code.specs.declared.quick_instr.QuickInstr.TheVariants.{StoreElement}
use Rattle.quick_code.specs.QuickSteps.{Memory}
use Rattle.slot_trees.specs.SlotTrees.{Place, SlotExpr, SlotStmts, assign, binary, load, no_stmts, no_subscripts, own}
use Rattle.slot_trees.specs.SlotTrees.{place, stmt_then, subscript_then}
use Rattle.quick_trees.specs.Example.{int, number, untouched, variable, way}
use Rattle.quick_trees.specs.QuickMemory.{Frame}

-- a[e], where a is ARRAY [1..3] OF INT
abbrev pub element : SlotExpr → Place
element e = place (own 1) (subscript_then e (pos 1) 3 1 no_subscripts)

-- a[i - 1] := a[1 + i];
abbrev pub shift_body : SlotStmts
shift_body =
    stmt_then (
    assign (element (binary Subtract (variable 0) (number 1))) (load (element (binary Add (number 1) (variable 0)))))
    no_stmts

-- i is the word 0, the elements are 1 to 3, and the words after them are free
abbrev pub shift_code : List QuickInstr
shift_code =
    Jump (way 1 1) ∷ NoteRead 0 ∷ LoadElement 0 (pos 0) 4 1 3 ∷ StoreElement 0 (negsuc 1) 4 1 3 ∷ End ∷ []

abbrev pub shift_frame : Frame
shift_frame = record {
  code = shift_code;
  ways = [];
  now = 0;
  kinds = Int ∷ Int ∷ Int ∷ Int ∷ [];
  window = 0 ∷ 1 ∷ 2 ∷ 3 ∷ [];
  constants = [];
  size = 5;
}

-- i, the first element with its note, and the third one with its note; the second one is 0
abbrev pub shift_words : ℕ → ℕ → ℕ → ℕ → ℕ → ℕ → ℕ → Memory
shift_words i x y s l m n = record {
  words = pos i ∷ pos x ∷ pos 0 ∷ pos y ∷ pos s ∷ [];
  notes = l ∷ m ∷ 0 ∷ n ∷ 0 ∷ [];
}

abbrev pub shift_slots : ℕ → ℕ → ℕ → Mark → Mark → Mark → Tracked
shift_slots i x y l m n = tracked (int i ∷ int x ∷ int 0 ∷ int y ∷ []) (l ∷ m ∷ untouched ∷ n ∷ [])
