-- A worked example: a program, and quick code that stands for it.
use Rattle.std.specs.Prelude.{ℕ, ℤ, pos, List, [], ◌∷◌, Bool, false, None, Some}
use Rattle.st_types.specs.declared.kind.Kind.TheVariants.{Int}
use Rattle.st_types.specs.declared.literal.Literal.TheVariants as literals
use Rattle.st_types.specs.declared.literal.Number.{Number}
use Rattle.st_types.specs.declared.operator.BinaryOperator.TheVariants.{Add, Less}
use Rattle.st_types.specs.Values.{Datum}
use Rattle.machine_code.specs.declared.mark.Mark.{Mark}
use Rattle.machine_code.specs.Tracking.{Tracked, tracked}
use Rattle.quick_code.specs.declared.quick_code.Way.{Way}
use Rattle.quick_code.specs.declared.quick_instr.QuickInstr.{QuickInstr}
use Rattle.quick_code.specs.declared.quick_instr.QuickInstr.TheVariants.{AddInt, End, Jump, NoteRead, NoteWritten}
use Rattle.quick_code.specs.declared.quick_instr.QuickInstr.TheVariants.{JumpIfAtMost, JumpIfLess}
use Rattle.quick_code.specs.QuickSteps.{Memory}
use Rattle.slot_trees.specs.SlotTrees.{SlotExpr, SlotLibrary, SlotStmts, arm_then, assign, binary, constant, IF, load}
use Rattle.slot_trees.specs.SlotTrees.{no_arms, no_stmts, no_subscripts, own, place, stmt_then, WHILE}
use Rattle.quick_trees.specs.QuickMemory.{Frame}

abbrev pub variable : ℕ → SlotExpr
variable k = load (place (own k) no_subscripts)

abbrev pub written : ℕ → Number
written n = record {
  place = 0;
  is_negative = false;
  magnitude = n;
  written = Some Int;
  is_decimal = false;
  taken = None;
}

abbrev pub number : ℕ → SlotExpr
number n = constant (literals.Number (written n))

-- x := x + e
abbrev pub raised_by : SlotExpr → SlotStmts
raised_by e = stmt_then (assign (place (own 0) no_subscripts) (binary Add (variable 0) e)) no_stmts

-- WHILE x < 10 DO IF x < y THEN x := x + y; ELSE x := x + 1; END_IF; END_WHILE;
abbrev pub its_body : SlotStmts
its_body =
    stmt_then (WHILE (binary Less (variable 0) (number 10)) (stmt_then (
    IF (arm_then (binary Less (variable 0) (variable 1)) (raised_by (variable 1)) no_arms) (raised_by (number 1)))
    no_stmts)) no_stmts

abbrev pub way : ℕ → ℕ → Way
way to n = record { place = to; ticks = n }

-- x is the word 0, y is 1, and the constants 10 and 1 are 2 and 3
abbrev pub its_code : List QuickInstr
its_code =
    Jump (way 1 1) ∷ NoteRead 0 ∷ JumpIfAtMost 2 0 (way 10 0) 1 ∷ NoteRead 1 ∷ NoteWritten 0 ∷ JumpIfAtMost 1 0 (way 8 2) 2
    ∷ AddInt 0 1 0 ∷ Jump (way 9 0) ∷ AddInt 0 3 0 ∷ JumpIfLess 0 2 (way 5 1) 0 ∷ End ∷ []

abbrev pub int : ℕ → Datum
int n = record { kind = Int; number = pos n }

abbrev pub its_frame : Frame
its_frame = record {
  code = its_code;
  ways = [];
  now = 0;
  kinds = Int ∷ Int ∷ [];
  window = 0 ∷ 1 ∷ [];
  constants = int 10 ∷ int 1 ∷ [];
  size = 4;
}

abbrev pub no_units : SlotLibrary
no_units = record { functions = []; blocks = [] }

abbrev pub its_words : ℤ → ℤ → ℕ → ℕ → Memory
its_words x y m n = record { words = x ∷ y ∷ pos 10 ∷ pos 1 ∷ []; notes = m ∷ n ∷ 0 ∷ 0 ∷ [] }

-- how a program used a slot: it looked it up before it assigned it, and it assigned it
abbrev pub mark : Bool → Bool → Mark
mark read assigned = record { is_read = read; is_assigned = assigned }

abbrev pub untouched : Mark
untouched = mark false false

abbrev pub its_slots : ℕ → ℕ → Mark → Mark → Tracked
its_slots x y m n = tracked (int x ∷ int y ∷ []) (m ∷ n ∷ [])
