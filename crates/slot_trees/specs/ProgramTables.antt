-- The names of a program's instance by its declarations: each is at slots of the whole layout.
use Rattle.std.specs.Prelude.{ℕ, List, [], ◌∷◌, if◌then◌else◌, Option, Some, None}
use Rattle.st_types.specs.declared.path.Owner.{Owner}
use Rattle.st_meaning.specs.NameTypes.{Declared}
use Rattle.st_meaning.specs.Runs.{Program}
use Rattle.st_meaning.specs.Scopes.{Name, contains_name}
use Rattle.layout.specs.LayoutVariables.{Owned}
use Rattle.layout.specs.VariableSlots.{variable_at}
use Rattle.layout.specs.TextLayouts.{variable_shape}
use Rattle.slot_trees.specs.SlotTrees.{absolute}
use Rattle.slot_trees.specs.Tables.{Symbol}

-- the owner of the variable that a name stands for: nobody for an external
abbrev pub owner_of_name : Program → Name → Option Owner
owner_of_name p x = if contains_name p.body.externals x then None else Some p.owner

-- the name of a variable with its first slot
abbrev pub symbol_at : Declared → Name → ℕ × Owned → Symbol
symbol_at text x e =
    record { name = x; anchor = absolute e.0; is_input = e.1.is_input; shape = variable_shape text e.1 }

-- a name that is not declared stands for nothing
abbrev pub symbol_then : Declared → Name → Option (ℕ × Owned) → List Symbol → List Symbol
symbol_then text x None rest = rest
symbol_then text x (Some e) rest = symbol_at text x e ∷ rest

-- the meanings of the names in the layout of these variables
abbrev pub program_symbols : Declared → List Owned → Program → List Name → List Symbol
program_symbols text vs p [] = []
program_symbols text vs p (x ∷ xs) =
    symbol_then text x (variable_at text vs (owner_of_name p x) x) (program_symbols text vs p xs)
