-- A worked example of constants in instructions.
use Rattle.std.specs.Prelude.{ℕ, pos, negsuc, List, [], ◌∷◌, Some}
use Rattle.st_types.specs.declared.kind.Kind.TheVariants.{Dint, Int}
use Rattle.st_types.specs.declared.literal.Literal.TheVariants as literals
use Rattle.st_types.specs.declared.operator.BinaryOperator.TheVariants.{Divide, Multiply, Subtract}
use Rattle.machine_code.specs.declared.mark.Mark.{Mark}
use Rattle.machine_code.specs.Tracking.{Tracked, tracked}
use Rattle.quick_code.specs.declared.quick_instr.QuickInstr.{QuickInstr}
use Rattle.quick_code.specs.declared.quick_instr.QuickInstr.TheVariants.{AddIntBy, DivideBy, End, Jump, MultiplyDintBy}
use Rattle.quick_code.specs.declared.quick_instr.QuickInstr.TheVariants.{NoteRead, NoteWritten}
use Rattle.quick_code.specs.QuickSteps.{Memory}
use Rattle.slot_trees.specs.SlotTrees.{SlotExpr, SlotStmts, assign, binary, constant, no_stmts, no_subscripts, own}
use Rattle.slot_trees.specs.SlotTrees.{place, stmt_then}
use Rattle.quick_trees.specs.Example.{int, number, variable, way, written}
use Rattle.quick_trees.specs.QuickMemory.{Frame}

abbrev pub dint_number : ℕ → SlotExpr
dint_number n = constant (literals.Number (record (written n) { written = Some Dint }))

-- x := x - 3; d := d * 7; d := d / 10;
abbrev pub constant_body : SlotStmts
constant_body =
    stmt_then (assign (place (own 0) no_subscripts) (binary Subtract (variable 0) (number 3)))
    (stmt_then (assign (place (own 1) no_subscripts) (binary Multiply (variable 1) (dint_number 7)))
    (stmt_then (assign (place (own 1) no_subscripts) (binary Divide (variable 1) (dint_number 10))) no_stmts))

-- x is the word 0 and d is 1
abbrev pub constant_code : List QuickInstr
constant_code =
    Jump (way 1 3) ∷ NoteRead 0 ∷ NoteWritten 0 ∷ AddIntBy 0 (negsuc 2) 0 ∷ NoteRead 1 ∷ NoteWritten 1
    ∷ MultiplyDintBy 1 (pos 7) 1 ∷ DivideBy 1 (pos 10) 1 ∷ End ∷ []

abbrev pub constant_frame : Frame
constant_frame = record {
  code = constant_code;
  ways = [];
  now = 0;
  kinds = Int ∷ Dint ∷ [];
  window = 0 ∷ 1 ∷ [];
  constants = [];
  size = 2;
}

abbrev pub constant_words : ℕ → ℕ → ℕ → Memory
constant_words x d n = record { words = pos x ∷ pos d ∷ []; notes = n ∷ n ∷ [] }

abbrev pub constant_slots : ℕ → ℕ → Mark → Tracked
constant_slots x d m = tracked (int x ∷ record { kind = Dint; number = pos d } ∷ []) (m ∷ m ∷ [])
