-- The code of units, in place of their calls.
use Rattle.std.specs.Prelude.{ℕ, zero, suc, ◌+◌, List, [], ◌∷◌, length, Option, Some, None, slice_get}
use Rattle.st_types.specs.Values.{Datum}
use Rattle.machine_code.specs.declared.instr.Instr.TheVariants.{Push, LoadRaw, StoreRaw, Step, Reverse}
use Rattle.slot_trees.specs.SlotTrees.{BlockCode, own_block, standard_block, SlotStmts, SlotFunction, SlotLibrary}
use Rattle.machine_code.specs.Growing.{Code, ◌◂◌}
use Rattle.machine_code.specs.UnitFrames.{UnitFrame, call_frame}
use Rattle.machine_code.specs.Codes.{CodeUnits, block_code, body_targets, stores_code, stmts_code}

-- the values of a function's variables are put from a slot on
abbrev pub resets_code : ℕ → List Datum → Code → Code
resets_code k [] c = c
resets_code k (v ∷ vs) c = resets_code (suc k) vs c ◂ StoreRaw k ◂ Push v

-- A call of a function whose arguments are on the stack, with its values from a slot on: its variables are reset, its
-- inputs take the arguments, its body runs, and its result is fetched.
abbrev pub function_code : CodeUnits → SlotFunction → ℕ → Code → Code
function_code units f start c =
    let d = c ◂ LoadRaw (start + f.result) in
    let body = stmts_code units (call_frame start (length f.fresh)) f.body (body_targets (length d)) d in
    resets_code start f.fresh (stores_code start f.inputs body) ◂ Reverse (length f.inputs)

abbrev pub called_code : CodeUnits → Option SlotFunction → ℕ → Code → Code
called_code units (Some f) start c = function_code units f start c
called_code units None start c = c

-- a block's body on the slots of an instance
abbrev pub body_code : CodeUnits → Option SlotStmts → UnitFrame → Code → Code
body_code units (Some body) site c = stmts_code units site body (body_targets (length c)) c
body_code units None site c = c

abbrev pub instance_code : SlotLibrary → CodeUnits → BlockCode → UnitFrame → Code → Code
instance_code library units (standard_block b) site c = c ◂ Step (block_code b) (site.start + site.base)
instance_code library units (own_block i) site c = body_code units (slice_get library.blocks i) site c

-- the code of units, if those that they call have this code
abbrev pub units_over : SlotLibrary → CodeUnits → CodeUnits
units_over library units = record {
  functions = λ f start c. called_code units (slice_get library.functions f) start c;
  blocks = λ b site c. instance_code library units b site c;
}

-- the code of units with calls at most n deep
unfoldable pub units_code : SlotLibrary → ℕ → CodeUnits
units_code library zero = record { functions = λ f start c. c; blocks = λ b site c. c }
units_code library (suc n) = units_over library (units_code library n)
