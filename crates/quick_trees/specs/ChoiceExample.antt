-- A worked example of an IF that assigns one of two values.
use Rattle.std.specs.Prelude.{ℕ, pos, List, [], ◌∷◌, false, None, Some}
use Rattle.st_types.specs.declared.kind.Kind.TheVariants.{Word}
use Rattle.st_types.specs.declared.literal.Literal.TheVariants as literals
use Rattle.st_types.specs.declared.operator.BinaryOperator.TheVariants.{And, NotEqual, Xor}
use Rattle.st_types.specs.Values.{Datum}
use Rattle.machine_code.specs.declared.mark.Mark.{Mark}
use Rattle.machine_code.specs.Tracking.{Tracked, tracked}
use Rattle.quick_code.specs.declared.quick_instr.QuickInstr.{QuickInstr}
use Rattle.quick_code.specs.declared.quick_instr.QuickInstr.TheVariants.{AndBy, End, Jump, NoteRead, NoteWritten}
use Rattle.quick_code.specs.declared.quick_instr.QuickInstr.TheVariants.{Select, XorBy}
use Rattle.quick_code.specs.QuickSteps.{Memory}
use Rattle.slot_trees.specs.SlotTrees.{SlotExpr, SlotStmts, arm_then, assign, binary, constant, IF, no_arms, no_stmts}
use Rattle.slot_trees.specs.SlotTrees.{no_subscripts, own, place, stmt_then}
use Rattle.quick_trees.specs.Example.{variable, way, written}
use Rattle.quick_trees.specs.QuickMemory.{Frame}

abbrev pub bits : ℕ → SlotExpr
bits n = constant (literals.Number (record (written n) { written = Some Word }))

abbrev pub is_odd : SlotExpr
is_odd = binary NotEqual (binary And (variable 0) (bits 1)) (bits 0)

-- x := e
abbrev pub becomes : SlotExpr → SlotStmts
becomes e = stmt_then (assign (place (own 0) no_subscripts) e) no_stmts

-- IF (x AND 1) <> 0 THEN x := x XOR 5; ELSE x := x; END_IF;
abbrev pub choice_body : SlotStmts
choice_body =
    stmt_then (IF (arm_then is_odd (becomes (binary Xor (variable 0) (bits 5))) no_arms) (becomes (variable 0)))
    no_stmts

-- x is the word 0, and the words after it are free
abbrev pub choice_code : List QuickInstr
choice_code =
    Jump (way 1 2) ∷ NoteRead 0 ∷ NoteWritten 0 ∷ AndBy 0 (pos 1) 1 ∷ XorBy 0 (pos 5) 2 ∷ Select 1 2 0 0 ∷ End ∷ []

abbrev pub choice_frame : Frame
choice_frame = record {
  code = choice_code;
  ways = [];
  now = 0;
  kinds = Word ∷ [];
  window = 0 ∷ [];
  constants = [];
  size = 3;
}

abbrev pub choice_words : ℕ → ℕ → ℕ → ℕ → Memory
choice_words x y z n = record { words = pos x ∷ pos y ∷ pos z ∷ []; notes = n ∷ 0 ∷ 0 ∷ [] }

abbrev pub word : ℕ → Datum
word n = record { kind = Word; number = pos n }

abbrev pub choice_slots : ℕ → Mark → Tracked
choice_slots x m = tracked (word x ∷ []) (m ∷ [])
