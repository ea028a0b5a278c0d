-- A worked example of a REPEAT that an EXIT may leave.
use Rattle.std.specs.Prelude.{pos, List, [], ◌∷◌}
use Rattle.st_types.specs.declared.kind.Kind.TheVariants.{Int}
use Rattle.st_types.specs.declared.operator.BinaryOperator.TheVariants.{Add, Equal, Greater}
use Rattle.quick_code.specs.declared.quick_instr.QuickInstr.{QuickInstr}
use Rattle.quick_code.specs.declared.quick_instr.QuickInstr.TheVariants.{AddIntBy, End, Jump, NoteRead, NoteWritten}
use Rattle.quick_code.specs.declared.quick_instr.QuickInstr.TheVariants.{JumpIfAtMost, JumpIfNotEqualConst}
use Rattle.slot_trees.specs.SlotTrees.{SlotStmts, arm_then, assign, binary, EXIT, IF, no_arms, no_stmts, no_subscripts}
use Rattle.slot_trees.specs.SlotTrees.{own, place, REPEAT, stmt_then}
use Rattle.quick_trees.specs.Example.{number, variable, way}
use Rattle.quick_trees.specs.QuickMemory.{Frame}

-- REPEAT x := x + 1; IF x > y THEN EXIT; END_IF; UNTIL x = 5 END_REPEAT;
abbrev pub repeat_body : SlotStmts
repeat_body =
    stmt_then (REPEAT
    (stmt_then (assign (place (own 0) no_subscripts) (binary Add (variable 0) (number 1)))
    (stmt_then (IF (arm_then (binary Greater (variable 0) (variable 1)) (stmt_then EXIT no_stmts) no_arms) no_stmts)
    no_stmts))
    (binary Equal (variable 0) (number 5))) no_stmts

-- x is the word 0 and y is 1
abbrev pub repeat_code : List QuickInstr
repeat_code =
    Jump (way 1 3) ∷ NoteRead 0 ∷ NoteWritten 0 ∷ NoteRead 1 ∷ AddIntBy 0 (pos 1) 0 ∷ JumpIfAtMost 0 1 (way 7 0) 1
    ∷ Jump (way 8 0) ∷ JumpIfNotEqualConst 0 (pos 5) (way 4 3) 0 ∷ End ∷ []

abbrev pub repeat_frame : Frame
repeat_frame = record {
  code = repeat_code;
  ways = [];
  now = 0;
  kinds = Int ∷ Int ∷ [];
  window = 0 ∷ 1 ∷ [];
  constants = [];
  size = 2;
}
