-- A worked example of a CASE by a table.
use Rattle.std.specs.Prelude.{ℕ, pos, negsuc, List, [], ◌∷◌}
use Rattle.st_types.specs.declared.kind.Kind.TheVariants.{Int}
use Rattle.st_types.specs.declared.statement.Label.TheVariants.{Range, Single}
use Rattle.quick_code.specs.declared.quick_code.Way.{Way}
use Rattle.quick_code.specs.declared.quick_instr.QuickInstr.{QuickInstr}
use Rattle.quick_code.specs.declared.quick_instr.QuickInstr.TheVariants.{End, Jump, Move, NoteRead, NoteWritten, Set}
use Rattle.quick_code.specs.declared.quick_instr.QuickInstr.TheVariants.{Switch}
use Rattle.quick_code.specs.QuickSteps.{Memory}
use Rattle.slot_trees.specs.SlotTrees.{SlotCaseArms, SlotExpr, SlotStmts, assign, CASE, case_arm_then, no_case_arms}
use Rattle.slot_trees.specs.SlotTrees.{no_stmts, no_subscripts, own, place, stmt_then}
use Rattle.quick_trees.specs.Example.{number, variable, way, written}
use Rattle.quick_trees.specs.QuickMemory.{Frame}

-- y := e
abbrev pub taken_from : SlotExpr → SlotStmts
taken_from e = stmt_then (assign (place (own 1) no_subscripts) e) no_stmts

abbrev pub case_arms : SlotCaseArms
case_arms =
    case_arm_then (Single (written 1) ∷ []) (taken_from (number 10))
    (case_arm_then (Range (written 2) (written 3) ∷ []) (taken_from (number 20)) no_case_arms)

-- CASE x OF 1: y := 10; 2..3: y := 20; ELSE y := x; END_CASE;
abbrev pub case_body : SlotStmts
case_body = stmt_then (CASE (variable 0) case_arms (taken_from (variable 0))) no_stmts

-- x is the word 0 and y is 1
abbrev pub case_code : List QuickInstr
case_code =
    Jump (way 1 1) ∷ NoteRead 0 ∷ NoteWritten 1 ∷ Switch 0 (negsuc 0) 0 3 ∷ Set (pos 10) 1 ∷ Jump (way 9 0)
    ∷ Set (pos 20) 1 ∷ Jump (way 9 0) ∷ Move 0 1 ∷ End ∷ []

-- the ways for 1, 2 and 3, and for all other numbers
abbrev pub case_ways : List Way
case_ways = way 4 1 ∷ way 6 1 ∷ way 6 1 ∷ way 8 1 ∷ []

abbrev pub case_frame : Frame
case_frame = record {
  code = case_code;
  ways = case_ways;
  now = 0;
  kinds = Int ∷ Int ∷ [];
  window = 0 ∷ 1 ∷ [];
  constants = [];
  size = 2;
}

abbrev pub case_words : ℕ → ℕ → ℕ → ℕ → Memory
case_words x y m n = record { words = pos x ∷ pos y ∷ []; notes = m ∷ n ∷ [] }
