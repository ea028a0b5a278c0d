-- Tables of a text that agree with the definitions.
use Rattle.std.specs.Prelude.{◌≡◌, ℕ, List, [], ◌∷◌, Bool, true, false, Option, Some, None, option_and_then}
use Rattle.std.specs.Prelude.{option_map, is_some}
use Rattle.st_types.specs.declared.path.Owner.{Owner}
use Rattle.st_meaning.specs.NameTypes.{Declared}
use Rattle.st_meaning.specs.Scopes.{Name}
use Rattle.st_meaning.specs.StandardBlocks.{block_of}
use Rattle.symbols.specs.Agreeing.{Agree}
use Rattle.symbols.specs.Found.{found}
use Rattle.symbols.specs.Texts.{ServesText}
use Rattle.layout.specs.LayoutVariables.{Owned}
use Rattle.layout.specs.Libraries.{instance_then}
use Rattle.layout.specs.VariableSlots.{variable_at}
use Rattle.layout.specs.Types.{BlockType, instance_of}
use Rattle.layout.specs.Compositions.{ServesTypes}
use Rattle.slot_trees.specs.StatementViews.{block_code_view}
use Rattle.slot_trees.specs.declared.statement.BlockCode as code_block
use Rattle.slot_trees.specs.SlotTrees.{Anchor, BlockCode, absolute}
use Rattle.slot_trees.specs.Tables.{Table, named_in, symbol_of}
use Rattle.slot_trees.specs.TextNumbers.{block_names, code_named, function_names, numbered_from, numbers_of}
use Rattle.st_link.specs.Shapes.{ServesShapes}
use Rattle.st_link.specs.BodyTables.{IsSymbol}
use Rattle.st_link.specs.FirstSlots.{found_at, symbol_among, unit_symbol}
use Rattle.st_link.specs.LinkVariables.{LinkVariable, of_owned}
use Rattle.st_link.specs.declared.text_tables.TextTables.{TextTables}

-- The tables are those of a text with these globals, which have room in a layout.
pub record ServesLinks (t : TextTables) (text : Declared) (gs : List LinkVariable) : Type 0 where
  pub names : ServesText t.names text
  pub types : ServesTypes t.types text
  pub shapes : ServesShapes t.shapes text
  pub functions : (x : Name) → found t.functions x ≡ named_in (numbered_from 0 (function_names text.units)) x
  pub blocks : (x : Name) → found t.blocks x ≡ named_in (numbered_from 0 (block_names text.units)) x
  pub globals : (x : Name)
      → Agree (IsSymbol text) (found t.globals x) (symbol_among text (absolute 0) gs x)

-- the block of a variable's type, if it is an instance
abbrev pub code_of_block : Declared → BlockType → Option BlockCode
code_of_block text b = code_named text b.name (block_of b.name)

-- The code is the block's, if there is a block.
pub record IsCode (text : Declared) (c : Option code_block.BlockCode) (b : Option BlockType) : Type 0 where
  pub code : option_map block_code_view c ≡ option_and_then (code_of_block text) b
  pub there : is_some c ≡ is_some b

-- the instances among variables, each with the name of its block
abbrev pub instances_in : Declared → List LinkVariable → List (Name × Name)
instances_in text [] = []
instances_in text (v ∷ vs) = instance_then v.name (instance_of text v.declared) (instances_in text vs)

abbrev pub has_some : {A : Type 0} → List A → Bool
has_some [] = false
has_some (x ∷ xs) = true

-- A table of a body has these names: externals, and own variables that begin there; and these instances.
pub record IsUnitTable (text : Declared) (globals : List LinkVariable) (externals : List Name) (base : Anchor)
    (vs own : List LinkVariable) (t : Table) : Type 0 where
  pub symbols : (x : Name) → symbol_of t.symbols x ≡ unit_symbol text globals externals base vs x
  pub instances : t.instances ≡ instances_in text own
  pub functions : t.functions ≡ numbered_from 0 (function_names text.units)
  pub blocks : t.blocks ≡ (numbers_of text).blocks

-- a variable of a layout by its first slot, as linking sees it
abbrev pub seen_at : Option (ℕ × Owned) → Option (ℕ × LinkVariable)
seen_at o = option_map (λ e. (e.0, of_owned e.1)) o

-- The globals of a layout are these.
abbrev pub AreGlobals : Declared → List Owned → List LinkVariable → Type 0
AreGlobals text layout globals =
    (x : Name) → seen_at (variable_at text layout None x) ≡ found_at text 0 globals x

-- The variables of a program's instance begin at a slot of the layout.
abbrev pub BeginAt : Declared → List Owned → Owner → ℕ → List LinkVariable → Type 0
BeginAt text layout owner first vs =
    (x : Name) → seen_at (variable_at text layout (Some owner) x) ≡ found_at text first vs x
