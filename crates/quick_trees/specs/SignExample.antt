-- A worked example of a number that is negated, and of bits that are flipped.
use Rattle.std.specs.Prelude.{ℕ, ℤ, pos, List, [], ◌∷◌}
use Rattle.st_types.specs.declared.kind.Kind.TheVariants.{Bool as Boolean, Dword, Int}
use Rattle.st_types.specs.declared.operator.UnaryOperator.TheVariants.{Negate, Not}
use Rattle.st_types.specs.Values.{Datum}
use Rattle.machine_code.specs.declared.mark.Mark.{Mark}
use Rattle.machine_code.specs.Tracking.{Tracked, tracked}
use Rattle.quick_code.specs.declared.quick_instr.QuickInstr.{QuickInstr}
use Rattle.quick_code.specs.declared.quick_instr.QuickInstr.TheVariants.{End, Jump, NoteRead, NoteWritten, SubtractInt}
use Rattle.quick_code.specs.declared.quick_instr.QuickInstr.TheVariants.{Xor, XorBy}
use Rattle.quick_code.specs.QuickSteps.{Memory}
use Rattle.slot_trees.specs.SlotTrees.{SlotStmts, assign, no_stmts, no_subscripts, own, place, stmt_then, unary}
use Rattle.quick_trees.specs.Example.{int, variable, way}
use Rattle.quick_trees.specs.QuickMemory.{Frame}

-- x := -x; b := NOT b; w := NOT w;
abbrev pub sign_body : SlotStmts
sign_body =
    stmt_then (assign (place (own 0) no_subscripts) (unary Negate (variable 0)))
    (stmt_then (assign (place (own 1) no_subscripts) (unary Not (variable 1)))
    (stmt_then (assign (place (own 2) no_subscripts) (unary Not (variable 2))) no_stmts))

-- x is the word 0, b is 1 and w is 2; 0 and the greatest number of DWORD are 3 and 4
abbrev pub sign_code : List QuickInstr
sign_code =
    Jump (way 1 3) ∷ NoteRead 0 ∷ NoteWritten 0 ∷ SubtractInt 3 0 0 ∷ NoteRead 1 ∷ NoteWritten 1 ∷ XorBy 1 (pos 1) 1
    ∷ NoteRead 2 ∷ NoteWritten 2 ∷ Xor 2 4 2 ∷ End ∷ []

abbrev pub dword : ℕ → Datum
dword n = record { kind = Dword; number = pos n }

abbrev pub sign_frame : Frame
sign_frame = record {
  code = sign_code;
  ways = [];
  now = 0;
  kinds = Int ∷ Boolean ∷ Dword ∷ [];
  window = 0 ∷ 1 ∷ 2 ∷ [];
  constants = int 0 ∷ dword 4294967295 ∷ [];
  size = 5;
}

abbrev pub sign_words : ℤ → ℕ → ℕ → ℕ → Memory
sign_words x b w n = record {
  words = x ∷ pos b ∷ pos w ∷ pos 0 ∷ pos 4294967295 ∷ [];
  notes = n ∷ n ∷ n ∷ 0 ∷ 0 ∷ [];
}

abbrev pub sign_slots : ℤ → ℕ → ℕ → Mark → Tracked
sign_slots x b w m =
    tracked
    (record { kind = Int; number = x } ∷ record { kind = Boolean; number = pos b } ∷ dword w ∷ []) (m ∷ m ∷ m ∷ [])
