-- The parts that are put before code, in the words of the trees.
use Rattle.std.specs.Prelude.{ℕ, ◌+◌, ◌<◌, List, [], ◌∷◌, length, map, false, true, Option, Some, None}
use Rattle.slot_trees.specs.declared.library.SlotLibrary as code_library
use Rattle.slot_trees.specs.LibraryViews.{KeptLibrary, slot_library_view}
use Rattle.st_types.specs.declared.literal.Literal.{Literal}
use Rattle.st_types.specs.declared.literal.Literal.TheVariants.{Number}
use Rattle.machine_code.specs.declared.instr.Instr.TheVariants.{LoopBack, ForStep, ForTest, Jump, Pop}
use Rattle.slot_trees.specs.SlotTrees.{SlotArgument, given, copied, constant, WHILE, SlotStmts, no_stmts}
use Rattle.slot_trees.specs.SlotTrees.{stmt_then, SlotFunction, SlotLibrary}
use Rattle.machine_code.specs.UnitFrames.{UnitFrame}
use Rattle.machine_code.specs.declared.jump_targets.JumpTargets.{JumpTargets}
use Rattle.machine_code.specs.Growing.{Code, ◌◂◌, closed}
use Rattle.machine_code.specs.Codes.{CodeUnits, loop_targets, stmts_code}
use Rattle.machine_code.specs.Calls.{units_code}
use Rattle.machine_code.specs.Fitting.{UnitCall, CallFitsWithin, ExprFits, PlaceFits}
use Rattle.st_compile.specs.declared.scope.Scope.{Scope}
use Rattle.st_compile.specs.Lengths.{UnitLengths, units_length}
use Rattle.st_compile.specs.Linked.{CallLinkedWithin, ExprLinked, PlaceLinked}

abbrev pub frame_of : Scope → UnitFrame
frame_of z = record { start = z.start; base = z.base; size = z.size }

-- a function that no call fits, in place of one that is left out
abbrev pub or_unfit_function : Option SlotFunction → SlotFunction
or_unfit_function (Some f) = f
or_unfit_function None = record { fresh = []; inputs = []; result = 0; body = no_stmts }

-- a number without a type
abbrev pub untyped : Literal
untyped = Number (record {
  place = 0;
  is_negative = false;
  magnitude = 0;
  written = None;
  is_decimal = true;
  taken = None;
})

-- a body that fits no slots, in place of one that is left out
abbrev pub or_unfit_body : Option SlotStmts → SlotStmts
or_unfit_body (Some body) = body
or_unfit_body None = stmt_then (WHILE (constant untyped) no_stmts) no_stmts

-- the library with these in place of the units that are left out
abbrev pub filled : KeptLibrary → SlotLibrary
filled kept = record {
  functions = map or_unfit_function kept.functions;
  blocks = map or_unfit_body kept.blocks;
}

-- the code of the units that a body calls
abbrev pub units_in : code_library.SlotLibrary → Scope → CodeUnits
units_in library z = units_code (filled (slot_library_view library)) z.depth

-- which of its calls fit
abbrev pub FitsIn : code_library.SlotLibrary → Scope → UnitCall → Type 0
FitsIn library z = CallFitsWithin z.memory (filled (slot_library_view library)) z.depth

-- how many instructions these have
abbrev pub lengths_in : code_library.SlotLibrary → Scope → UnitLengths
lengths_in library z = units_length (slot_library_view library) z.depth

-- which of its calls are linked
abbrev pub LinkedIn : code_library.SlotLibrary → Scope → UnitCall → Type 0
LinkedIn library z = CallLinkedWithin (slot_library_view library) z.depth

-- of the arguments of a call of an instance from a slot on, those that are given fit, and those that are copied
module _ (CallFits : UnitCall → Type 0) (site : UnitFrame) where
  abbrev pub InputsFit : ℕ → List SlotArgument → Type 0
  InputsFit at [] = Unit {0}
  InputsFit at (given o e ∷ rest) = (at + o < site.size) × ExprFits CallFits site e × InputsFit at rest
  InputsFit at (copied o p ∷ rest) = InputsFit at rest

  abbrev pub OutputsFit : ℕ → List SlotArgument → Type 0
  OutputsFit at [] = Unit {0}
  OutputsFit at (given o e ∷ rest) = OutputsFit at rest
  OutputsFit at (copied o p ∷ rest) = (at + o < site.size) × PlaceFits CallFits site p × OutputsFit at rest

-- the same for those that are linked
module _ (CallLinked : UnitCall → Type 0) (site : UnitFrame) where
  abbrev pub InputsLinked : ℕ → List SlotArgument → Type 0
  InputsLinked at [] = Unit {0}
  InputsLinked at (given o e ∷ rest) = (at + o < site.size) × ExprLinked CallLinked site e × InputsLinked at rest
  InputsLinked at (copied o p ∷ rest) = InputsLinked at rest

  abbrev pub OutputsLinked : ℕ → List SlotArgument → Type 0
  OutputsLinked at [] = Unit {0}
  OutputsLinked at (given o e ∷ rest) = OutputsLinked at rest
  OutputsLinked at (copied o p ∷ rest) = (at + o < site.size) × PlaceLinked CallLinked site p × OutputsLinked at rest

-- the turns of a FOR over a slot, with the jump to the first of them
abbrev pub turns_code : CodeUnits → UnitFrame → ℕ → SlotStmts → JumpTargets → Code → Code
turns_code units site k body w c =
    let left = c ◂ Pop 2 in
    let turn = stmts_code units site body (loop_targets w (length left) 2) (left ◂ LoopBack 0) ◂ ForTest k (length left) in
    closed (length left) (turn ◂ ForStep k (length left)) ◂ Jump (length turn)
