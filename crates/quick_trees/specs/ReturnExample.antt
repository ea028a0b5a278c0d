-- A worked example of a function that counts down and returns from within its loop.
use Rattle.std.specs.Prelude.{ℕ, pos, negsuc, List, [], ◌∷◌, true, Some}
use Rattle.st_types.specs.declared.kind.Kind.TheVariants.{Int}
use Rattle.st_types.specs.declared.literal.Literal.TheVariants as literals
use Rattle.st_types.specs.declared.operator.BinaryOperator.TheVariants.{Less}
use Rattle.quick_code.specs.declared.quick_instr.QuickInstr.{QuickInstr}
use Rattle.quick_code.specs.declared.quick_instr.QuickInstr.TheVariants.{CountDownInt, End, Jump, Move, NoteRead}
use Rattle.quick_code.specs.declared.quick_instr.QuickInstr.TheVariants.{NoteWritten, Set, JumpIfAtLeastConst, JumpIfLess}
use Rattle.quick_code.specs.QuickSteps.{Memory}
use Rattle.slot_trees.specs.SlotTrees.{SlotExpr, SlotFunction, SlotLibrary, SlotStmts, arm_then, assign, binary, call}
use Rattle.slot_trees.specs.SlotTrees.{constant, expr_then, FOR, IF, no_arms, no_exprs, no_stmts, no_subscripts, own}
use Rattle.slot_trees.specs.SlotTrees.{place, RETURN, stmt_then}
use Rattle.quick_trees.specs.Example.{int, number, variable, way, written}
use Rattle.quick_trees.specs.QuickMemory.{Frame}

abbrev pub minus_1 : SlotExpr
minus_1 = constant (literals.Number (record (written 1) { is_negative = true }))

-- FOR i := n TO 1 BY -1 DO IF i < 3 THEN found := i; RETURN; END_IF; END_FOR; found := 0;
abbrev pub found_body : SlotStmts
found_body =
    stmt_then (FOR (own 2) (variable 0) (number 1) (Some minus_1) (stmt_then (IF
    (arm_then (binary Less (variable 2) (number 3))
    (stmt_then (assign (place (own 1) no_subscripts) (variable 2)) (stmt_then RETURN no_stmts)) no_arms) no_stmts)
    no_stmts))
    (stmt_then (assign (place (own 1) no_subscripts) (number 0)) no_stmts)

-- FUNCTION found : INT VAR_INPUT n : INT; END_VAR VAR i : INT; END_VAR
abbrev pub found : SlotFunction
found = record { fresh = int 0 ∷ int 0 ∷ int 0 ∷ []; inputs = 0 ∷ []; result = 1; body = found_body }

abbrev pub return_library : SlotLibrary
return_library = record { functions = found ∷ []; blocks = [] }

-- y := found(x);
abbrev pub return_body : SlotStmts
return_body =
    stmt_then (assign (place (own 1) no_subscripts) (call 0 (expr_then (variable 0) no_exprs))) no_stmts

-- x is the word 0, y is 1, and the constant 1 is 2; the function's result is 5 and i is 6
abbrev pub return_code : List QuickInstr
return_code =
    Jump (way 1 2) ∷ NoteRead 0 ∷ NoteWritten 1 ∷ Set (pos 0) 5 ∷ Set (pos 0) 6 ∷ Move 0 6 ∷ JumpIfLess 6 2 (way 11 1) 1
    ∷ JumpIfAtLeastConst 6 (pos 3) (way 10 0) 2 ∷ Move 6 5 ∷ Jump (way 12 0) ∷ CountDownInt 6 (negsuc 0) 2 (way 7 2) 2
    ∷ Set (pos 0) 5 ∷ Move 5 1 ∷ End ∷ []

abbrev pub return_frame : Frame
return_frame = record {
  code = return_code;
  ways = [];
  now = 0;
  kinds = Int ∷ Int ∷ [];
  window = 0 ∷ 1 ∷ [];
  constants = int 1 ∷ [];
  size = 7;
}

abbrev pub return_words : ℕ → ℕ → ℕ → ℕ → ℕ → ℕ → Memory
return_words x y result i m n = record {
  words = pos x ∷ pos y ∷ pos 1 ∷ pos 0 ∷ pos 0 ∷ pos result ∷ pos i ∷ [];
  notes = m ∷ n ∷ 0 ∷ 0 ∷ 0 ∷ 0 ∷ 0 ∷ [];
}
