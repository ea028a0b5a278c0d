-- The functions and blocks of the definitions for those of the code.
use Rattle.std.specs.Prelude.{◌≡◌, ℕ, List, Option, Some, map, option_map, slice_get}
use Rattle.slot_trees.specs.declared.library.SlotFunction as code_function
use Rattle.slot_trees.specs.declared.library.SlotLibrary as code_library
use Rattle.slot_trees.specs.SlotTrees.{SlotFunction, SlotLibrary, SlotStmts}
use Rattle.slot_trees.specs.StatementViews.{slot_stmts_view}

abbrev pub slot_function_view : code_function.SlotFunction → SlotFunction
slot_function_view f = record {
  fresh = f.fresh.items;
  inputs = f.inputs.items;
  result = f.result;
  body = slot_stmts_view f.body.items;
}

-- a library without those for which no layout has room
pub record KeptLibrary : Type 0 where
  pub functions : List (Option SlotFunction)
  pub blocks : List (Option SlotStmts)

abbrev pub slot_library_view : code_library.SlotLibrary → KeptLibrary
slot_library_view l = record {
  functions = map (option_map slot_function_view) l.functions.items;
  blocks = map (option_map (λ b. slot_stmts_view b.items)) l.blocks.items;
}

-- Each function and each block that is kept is the one with its number.
pub record IsKeptOf (kept : KeptLibrary) (whole : SlotLibrary) : Type 0 where
  pub functions : (i : ℕ) (f : SlotFunction) → slice_get kept.functions i ≡ Some (Some f)
      → slice_get whole.functions i ≡ Some f
  pub blocks : (i : ℕ) (b : SlotStmts) → slice_get kept.blocks i ≡ Some (Some b) → slice_get whole.blocks i ≡ Some b
