-- The names of a block's body by the declarations: externals are at slots of the whole layout, its own variables at
-- offsets from the first slot of the instance.
use Rattle.std.specs.Prelude.{List, [], ◌∷◌, false, if◌then◌else◌, Option, Some, None, option_map}
use Rattle.st_meaning.specs.NameTypes.{Declared}
use Rattle.st_meaning.specs.Scopes.{Name, contains_name}
use Rattle.layout.specs.LayoutVariables.{Owned}
use Rattle.layout.specs.Shapes.{Parts}
use Rattle.layout.specs.VariableSlots.{variable_at}
use Rattle.slot_trees.specs.SlotTrees.{own}
use Rattle.slot_trees.specs.Tables.{Symbol, Part, part_at}
use Rattle.slot_trees.specs.ProgramTables.{symbol_at}

-- the name of a member
abbrev pub part_symbol : Name → Part → Symbol
part_symbol x e = record { name = x; anchor = own e.offset; is_input = false; shape = e.shape }

-- an external stands for its global, and any other name for a member of the instance
abbrev pub block_symbol : Declared → List Owned → Parts → List Name → Name → Option Symbol
block_symbol text vs ps externals x = if contains_name externals x
    then option_map (symbol_at text x) (variable_at text vs None x) else option_map (part_symbol x) (part_at ps x)

abbrev pub if_there : Option Symbol → List Symbol → List Symbol
if_there None rest = rest
if_there (Some y) rest = y ∷ rest

-- the meanings of the names
abbrev pub block_symbols : Declared → List Owned → Parts → List Name → List Name → List Symbol
block_symbols text vs ps externals [] = []
block_symbols text vs ps externals (x ∷ xs) =
    if_there (block_symbol text vs ps externals x) (block_symbols text vs ps externals xs)
