-- A worked example of standard functions, one of which is the other's argument.
use Rattle.std.specs.Prelude.{ℕ, pos, List, [], ◌∷◌}
use Rattle.st_types.specs.declared.kind.Kind.TheVariants.{Int, Word}
use Rattle.st_meaning.specs.StandardFunctions.{CONVERT, SHR}
use Rattle.machine_code.specs.declared.mark.Mark.{Mark}
use Rattle.machine_code.specs.Tracking.{Tracked, tracked}
use Rattle.quick_code.specs.declared.quick_instr.QuickInstr.{QuickInstr}
use Rattle.quick_code.specs.declared.quick_instr.QuickInstr.TheVariants.{End, Jump, MoveWithin, NoteRead, NoteWritten}
use Rattle.quick_code.specs.declared.quick_instr.QuickInstr.TheVariants.{ShiftRight}
use Rattle.quick_code.specs.QuickSteps.{Memory}
use Rattle.slot_trees.specs.SlotTrees.{SlotStmts, assign, compute, expr_then, no_exprs, no_stmts, no_subscripts, own}
use Rattle.slot_trees.specs.SlotTrees.{place, stmt_then}
use Rattle.quick_trees.specs.Example.{int, number, variable, way}
use Rattle.quick_trees.specs.QuickMemory.{Frame}

-- w := SHR(INT_TO_WORD(n), 1);
abbrev pub function_body : SlotStmts
function_body =
    stmt_then (assign (place (own 1) no_subscripts)
    (compute SHR (expr_then (compute (CONVERT Int Word) (expr_then (variable 0) no_exprs))
    (expr_then (number 1) no_exprs)))) no_stmts

-- n is the word 0 and w is 1; the constant 1 and the least and the greatest WORD are 2 to 4, and 5 is a temporary
abbrev pub function_code : List QuickInstr
function_code =
    Jump (way 1 1) ∷ NoteRead 0 ∷ NoteWritten 1 ∷ MoveWithin 0 3 4 5 ∷ ShiftRight 5 1 1 ∷ End ∷ []

abbrev pub function_frame : Frame
function_frame = record {
  code = function_code;
  ways = [];
  now = 0;
  kinds = Int ∷ Word ∷ [];
  window = 0 ∷ 1 ∷ [];
  constants = int 1 ∷ record { kind = Word; number = pos 0 } ∷ record { kind = Word; number = pos 65535 } ∷ [];
  size = 6;
}

abbrev pub function_words : ℕ → ℕ → ℕ → ℕ → ℕ → Memory
function_words n w free note other = record {
  words = pos n ∷ pos w ∷ pos 1 ∷ pos 0 ∷ pos 65535 ∷ pos free ∷ [];
  notes = note ∷ other ∷ 0 ∷ 0 ∷ 0 ∷ 0 ∷ [];
}

abbrev pub function_slots : ℕ → ℕ → Mark → Mark → Tracked
function_slots n w m o = tracked (int n ∷ record { kind = Word; number = pos w } ∷ []) (m ∷ o ∷ [])
