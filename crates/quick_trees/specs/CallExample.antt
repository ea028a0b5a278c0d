-- A worked example of calls, whose input stays where the argument is.
use Rattle.std.specs.Prelude.{ℕ, pos, List, [], ◌∷◌}
use Rattle.st_types.specs.declared.kind.Kind.TheVariants.{Int}
use Rattle.st_types.specs.declared.operator.BinaryOperator.TheVariants.{Add}
use Rattle.quick_code.specs.declared.quick_instr.QuickInstr.{QuickInstr}
use Rattle.quick_code.specs.declared.quick_instr.QuickInstr.TheVariants.{AddInt, End, Jump, Move, NoteRead, NoteWritten}
use Rattle.quick_code.specs.declared.quick_instr.QuickInstr.TheVariants.{Set}
use Rattle.quick_code.specs.QuickSteps.{Memory}
use Rattle.slot_trees.specs.SlotTrees.{SlotFunction, SlotLibrary, SlotStmts, assign, binary, call, expr_then, no_exprs}
use Rattle.slot_trees.specs.SlotTrees.{no_stmts, no_subscripts, own, place, stmt_then}
use Rattle.quick_trees.specs.Example.{int, variable, way}
use Rattle.quick_trees.specs.QuickMemory.{Frame}

-- FUNCTION doubled : INT VAR_INPUT a : INT; END_VAR doubled := a + a; END_FUNCTION
abbrev pub doubled : SlotFunction
doubled = record {
  fresh = int 0 ∷ int 0 ∷ [];
  inputs = 0 ∷ [];
  result = 1;
  body = stmt_then (assign (place (own 1) no_subscripts) (binary Add (variable 0) (variable 0))) no_stmts;
}

abbrev pub call_library : SlotLibrary
call_library = record { functions = doubled ∷ []; blocks = [] }

-- y := doubled(doubled(x));
abbrev pub call_body : SlotStmts
call_body =
    stmt_then (assign (place (own 1) no_subscripts)
    (call 0 (expr_then (call 0 (expr_then (variable 0) no_exprs)) no_exprs))) no_stmts

-- x is the word 0 and y is 1; the inner result is the word 2, and the function's own result is 4
abbrev pub call_code : List QuickInstr
call_code =
    Jump (way 1 3) ∷ NoteRead 0 ∷ NoteWritten 1 ∷ Set (pos 0) 4 ∷ AddInt 0 0 4 ∷ Move 4 2 ∷ Set (pos 0) 4
    ∷ AddInt 2 2 4 ∷ Move 4 1 ∷ End ∷ []

abbrev pub call_frame : Frame
call_frame = record {
  code = call_code;
  ways = [];
  now = 0;
  kinds = Int ∷ Int ∷ [];
  window = 0 ∷ 1 ∷ [];
  constants = [];
  size = 5;
}

abbrev pub call_words : ℕ → ℕ → ℕ → ℕ → ℕ → ℕ → Memory
call_words x y inner result m n = record {
  words = pos x ∷ pos y ∷ pos inner ∷ pos 0 ∷ pos result ∷ [];
  notes = m ∷ n ∷ 0 ∷ 0 ∷ 0 ∷ [];
}
