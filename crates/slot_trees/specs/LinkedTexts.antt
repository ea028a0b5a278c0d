-- When the units of a text are linked.
use Rattle.std.specs.Prelude.{◌≡◌, ℕ, List, [], ◌∷◌, map, true, false, Some, None, slice_get}
use Rattle.st_types.specs.Values.{Datum}
use Rattle.st_meaning.specs.Stores.{Store}
use Rattle.st_meaning.specs.Slots.{Slot, IsLayout}
use Rattle.st_meaning.specs.StandardBlocks.{StandardBlock, BlockMember, block_of, members_of}
use Rattle.st_meaning.specs.Scopes.{Name, Function, Block, Library, of_program, of_call, unowned, path_in}
use Rattle.st_meaning.specs.Scopes.{contains_name, block_named, function_in, block_in}
use Rattle.st_meaning.specs.Runs.{Program}
use Rattle.layout.specs.Shapes.{PartsOwner, plain, Parts, no_parts, part_then, parts}
use Rattle.layout.specs.VariableSlots.{LiesAt, slot}
use Rattle.slot_trees.specs.SlotTrees.{own, absolute, BlockCode, own_block, standard_block, SlotStmts, SlotFunction}
use Rattle.slot_trees.specs.SlotTrees.{SlotLibrary}
use Rattle.slot_trees.specs.SlotEvaluation.{slot_at}
use Rattle.slot_trees.specs.Tables.{Symbol, Table, symbol_of, named_in, part_at}
use Rattle.slot_trees.specs.LinkedStatements.{linked_stmts}
use Rattle.slot_trees.specs.Seeing.{IsSlotOf}

-- the numbers of a text's units, and the members of an instance of each block
pub record Numbers : Type 0 where
  pub functions : List (Name × ℕ)
  pub blocks : List (Name × BlockCode)
  pub members : List (Name × Parts)

abbrev pub table_of : Numbers → List Symbol → List (Name × Name) → Table
table_of numbers symbols instances =
    record { symbols = symbols; instances = instances; functions = numbers.functions; blocks = numbers.blocks }

-- the members of a standard block's instance
abbrev pub parts_of_members : List BlockMember → Parts
parts_of_members [] = no_parts
parts_of_members (m ∷ ms) = part_then m.0 (plain m.1) (parts_of_members ms)

-- a function's own layout, and its values at the beginning of a call
abbrev pub layout_of_fresh : Store → List Slot
layout_of_fresh s = map (λ e. slot e.0 e.1.kind false) s

abbrev pub values_of_fresh : Store → List Datum
values_of_fresh s = map (λ e. e.1) s

-- the inputs of a function are in these slots
abbrev pub InputsLieAt : List Slot → List Name → List ℕ → Type 0
InputsLieAt layout [] [] = Unit {0}
InputsLieAt layout (x ∷ xs) (k ∷ ks) = IsSlotOf layout false (unowned x) k × InputsLieAt layout xs ks
InputsLieAt layout [] (k ∷ ks) = ⊥
InputsLieAt layout (x ∷ xs) [] = ⊥

-- a function is linked: its variables at the beginning of a call, and its body
pub record IsFunctionLink (numbers : Numbers) (f : Function) (g : SlotFunction) : Type 0 where
  pub symbols : List Symbol
  pub fresh : g.fresh ≡ values_of_fresh f.fresh
  pub distinct : IsLayout (layout_of_fresh f.fresh)
  pub inputs : InputsLieAt (layout_of_fresh f.fresh) f.inputs g.inputs
  pub result : IsSlotOf (layout_of_fresh f.fresh) false (unowned f.name) g.result
  pub names : (x : Name) (y : Symbol) → symbol_of symbols x ≡ Some y
      → LiesAt (layout_of_fresh f.fresh) y.is_input (path_in of_call f.body x) y.shape (slot_at 0 y.anchor)
  pub instances : f.body.instances ≡ []
  pub body : linked_stmts (table_of numbers symbols []) f.body.statements ≡ Some g.body

-- an external has the slots of its global
pub record IsExternal (layout : List Slot) (x : Name) (y : Symbol) : Type 0 where
  pub first : ℕ
  pub anchor : y.anchor ≡ absolute first
  pub stands : LiesAt layout y.is_input (unowned x) y.shape first

-- a variable of an instance has the slots of the part
pub record IsPart (ps : Parts) (x : Name) (y : Symbol) : Type 0 where
  pub offset : ℕ
  pub anchor : y.anchor ≡ own offset
  pub is_variable : y.is_input ≡ false
  pub part : part_at ps x ≡ Some (record { offset = offset; shape = y.shape })

-- an instance has the members of its block
pub record IsInstance (numbers : Numbers) (b : Name) (y : Symbol) : Type 0 where
  pub whole : PartsOwner
  pub members : Parts
  pub known : named_in numbers.members b ≡ Some members
  pub shape : y.shape ≡ parts whole members
  pub is_variable : y.is_input ≡ false

abbrev pub EachInstance : Numbers → List Symbol → List (Name × Name) → Type 0
EachInstance numbers symbols instances = (x b : Name) (y : Symbol) → block_named instances x ≡ Some b
    → symbol_of symbols x ≡ Some y → IsInstance numbers b y

-- a block is linked: its externals, its variables, its instances, and its body
pub record IsBlockLink (layout : List Slot) (numbers : Numbers) (ps : Parts) (b : Block)
    (code : SlotStmts) : Type 0 where
  pub symbols : List Symbol
  pub externals : (x : Name) (y : Symbol) → symbol_of symbols x ≡ Some y → contains_name b.body.externals x ≡ true
      → IsExternal layout x y
  pub variables : (x : Name) (y : Symbol) → symbol_of symbols x ≡ Some y → contains_name b.body.externals x ≡ false
      → IsPart ps x y
  pub instances : EachInstance numbers symbols b.body.instances
  pub body : linked_stmts (table_of numbers symbols b.body.instances) b.body.statements ≡ Some code

-- a function of the text, with its number
pub record HasFunction (library : Library) (code : SlotLibrary) (numbers : Numbers) (f : Name) (i : ℕ) : Type 0 where
  pub named : Function
  pub linked : SlotFunction
  pub there : function_in library.functions f ≡ Some named
  pub numbered : slice_get code.functions i ≡ Some linked
  pub link : IsFunctionLink numbers named linked

-- a block of the text, with its number
pub record HasBlock (layout : List Slot) (library : Library) (code : SlotLibrary) (numbers : Numbers) (b : Name) (i : ℕ)
    (ps : Parts) : Type 0 where
  pub named : Block
  pub linked : SlotStmts
  pub own : block_of b ≡ None
  pub there : block_in library.blocks b ≡ Some named
  pub numbered : slice_get code.blocks i ≡ Some linked
  pub link : IsBlockLink layout numbers ps named linked

-- a standard block, with its members
pub record IsStandard (b : Name) (k : StandardBlock) (ps : Parts) : Type 0 where
  pub there : block_of b ≡ Some k
  pub members : ps ≡ parts_of_members (members_of k)

-- each function and block that has a number can also be found by its name, and is linked
pub record IsLibraryLink (layout : List Slot) (library : Library) (code : SlotLibrary)
    (numbers : Numbers) : Type 0 where
  pub functions : (f : Name) (i : ℕ) → named_in numbers.functions f ≡ Some i → HasFunction library code numbers f i
  pub blocks : (b : Name) (i : ℕ) (ps : Parts) → named_in numbers.blocks b ≡ Some (own_block i)
      → named_in numbers.members b ≡ Some ps → HasBlock layout library code numbers b i ps
  pub standards : (b : Name) (k : StandardBlock) (ps : Parts) → named_in numbers.blocks b ≡ Some (standard_block k)
      → named_in numbers.members b ≡ Some ps → IsStandard b k ps

-- a program is linked: its names are in the layout of the whole text, and its units and its body are linked
pub record IsProgramLink (layout : List Slot) (p : Program) (base : ℕ) (code : SlotLibrary)
    (body : SlotStmts) : Type 0 where
  pub distinct : IsLayout layout
  pub numbers : Numbers
  pub symbols : List Symbol
  pub library : IsLibraryLink layout p.library code numbers
  pub names : (x : Name) (y : Symbol) → symbol_of symbols x ≡ Some y
      → LiesAt layout y.is_input (path_in (of_program p.owner) p.body x) y.shape (slot_at base y.anchor)
  pub instances : EachInstance numbers symbols p.body.instances
  pub linked : linked_stmts (table_of numbers symbols p.body.instances) p.body.statements ≡ Some body
