-- Tables of names: the meanings of a body's names.
use Rattle.std.specs.Prelude.{ℕ, ◌+◌, List, [], ◌∷◌, Bool, if◌then◌else◌, Option, Some, None, option_map, bytes_eq}
use Rattle.st_meaning.specs.Scopes.{Name}
use Rattle.layout.specs.Shapes.{Shape, size, Parts, no_parts, part_then}
use Rattle.slot_trees.specs.SlotTrees.{Anchor, own, absolute, BlockCode}

-- a variable: where it begins, whether it is an input of the plant, and its shape
pub record Symbol : Type 0 where
  pub name : Name
  pub anchor : Anchor
  pub is_input : Bool
  pub shape : Shape

-- of a body: its variables, its instances with the names of their blocks, the functions of the text by their numbers,
-- and its blocks
pub record Table : Type 0 where
  pub symbols : List Symbol
  pub instances : List (Name × Name)
  pub functions : List (Name × ℕ)
  pub blocks : List (Name × BlockCode)

abbrev pub symbol_of : List Symbol → Name → Option Symbol
symbol_of [] x = None
symbol_of (y ∷ ys) x = if bytes_eq x y.name then Some y else symbol_of ys x

-- the entry of a list for a name
abbrev pub named_in : {A : Type 0} → List (Name × A) → Name → Option A
named_in [] x = None
named_in (e ∷ es) x = if bytes_eq x e.0 then Some e.1 else named_in es x

-- an anchor moved on by a number of slots
abbrev pub moved : Anchor → ℕ → Anchor
moved (own o) n = own (o + n)
moved (absolute k) n = absolute (k + n)

-- a part of a structure or an instance: how many slots come before it, and its shape
pub record Part : Type 0 where
  pub offset : ℕ
  pub shape : Shape

-- the same part, with more slots before it
abbrev pub part_after : ℕ → Part → Part
part_after n e = record { offset = n + e.offset; shape = e.shape }

-- the part of a name
abbrev pub part_at : Parts → Name → Option Part
part_at no_parts x = None
part_at (part_then y sh ps) x = if bytes_eq x y
    then Some (record { offset = 0; shape = sh }) else option_map (part_after (size sh)) (part_at ps x)
