-- Where variables in consecutive slots begin.
use Rattle.std.specs.Prelude.{ℕ, ◌+◌, List, [], ◌∷◌, if◌then◌else◌, Option, Some, None, option_map, bytes_eq, is_some}
use Rattle.st_meaning.specs.NameTypes.{Declared}
use Rattle.st_meaning.specs.Scopes.{Name, contains_name}
use Rattle.symbols.specs.Found.{found}
use Rattle.symbols.specs.declared.index.Index.{Index}
use Rattle.layout.specs.Shapes.{size}
use Rattle.layout.specs.Types.{shape_of_type}
use Rattle.slot_trees.specs.SlotTrees.{Anchor, absolute}
use Rattle.slot_trees.specs.Tables.{Symbol, moved}
use Rattle.st_link.specs.LinkVariables.{LinkVariable}

-- how many slots they take
abbrev pub slots_taken : Declared → List LinkVariable → ℕ
slots_taken text [] = 0
slots_taken text (v ∷ vs) = size (shape_of_type text v.declared) + slots_taken text vs

-- the first one of a name, with its first slot, if there are `n` slots before
abbrev pub found_at : Declared → ℕ → List LinkVariable → Name → Option (ℕ × LinkVariable)
found_at text n [] x = None
found_at text n (v ∷ vs) x =
    if bytes_eq x v.name then Some (n, v) else found_at text (n + size (shape_of_type text v.declared)) vs x

-- its symbol, if the variables begin there
abbrev pub symbol_from : Declared → Anchor → Name → ℕ × LinkVariable → Symbol
symbol_from text base x e = record {
  name = x;
  anchor = moved base e.0;
  is_input = e.1.is_input;
  shape = shape_of_type text e.1.declared;
}

abbrev pub symbol_among : Declared → Anchor → List LinkVariable → Name → Option Symbol
symbol_among text base vs x = option_map (symbol_from text base x) (found_at text 0 vs x)

-- an external stands for its global, and any other name for a variable of the unit's own
abbrev pub unit_symbol : Declared → List LinkVariable → List Name → Anchor → List LinkVariable → Name → Option Symbol
unit_symbol text globals externals base vs x = if contains_name externals x
    then symbol_among text (absolute 0) globals x else symbol_among text base vs x

-- a name that is kept elsewhere has no entry here
abbrev pub unless_found : {T A : Type 0} → Index T → Name → Option A → Option A
unless_found hidden x o = if is_some (found hidden x) then None else o
