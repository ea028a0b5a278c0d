-- The names of a function's body by its declarations: each call has values of its own, and each variable has an
-- offset among them.
use Rattle.std.specs.Prelude.{ℕ, List, [], ◌∷◌, map, None, option_map}
use Rattle.st_meaning.specs.NameTypes.{Declared}
use Rattle.st_meaning.specs.Scopes.{Name}
use Rattle.layout.specs.LayoutVariables.{Owned, owned_variable}
use Rattle.layout.specs.VariableSlots.{variable_at}
use Rattle.layout.specs.TextLayouts.{variable_shape}
use Rattle.layout.specs.Types.{NamedSite}
use Rattle.slot_trees.specs.SlotTrees.{own}
use Rattle.slot_trees.specs.Tables.{Symbol}
use Rattle.slot_trees.specs.BlockTables.{if_there}

-- the name of a variable with its first value
abbrev pub call_symbol : Declared → Name → ℕ × Owned → Symbol
call_symbol text x e =
    record { name = x; anchor = own e.0; is_input = e.1.is_input; shape = variable_shape text e.1 }

-- the meanings of the names in a call with these variables; one that is not declared stands for nothing
abbrev pub function_symbols : Declared → List NamedSite → List Name → List Symbol
function_symbols text ds [] = []
function_symbols text ds (x ∷ xs) =
    if_there (option_map (call_symbol text x) (variable_at text (map (owned_variable None) ds) None x))
    (function_symbols text ds xs)
