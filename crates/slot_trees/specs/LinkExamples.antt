-- Words for worked examples of linked trees.
use Rattle.std.specs.Prelude.{ℕ, pos, [], ◌∷◌, false, codes}
use Rattle.st_types.specs.declared.kind.Kind.TheVariants.{Int}
use Rattle.st_meaning.specs.Scopes.{Name}
use Rattle.layout.specs.Shapes.{Shape, plain, array, parts, of_structure, no_parts, part_then}
use Rattle.slot_trees.specs.SlotTrees.{own}
use Rattle.slot_trees.specs.Tables.{Symbol, Table}

-- one of a unit's own variables
abbrev pub own_symbol : Name → ℕ → Shape → Symbol
own_symbol x n sh = record { name = x; anchor = own n; is_input = false; shape = sh }

-- I : INT; A : ARRAY [1..3] OF STRUCT Q : INT; X : INT; END_STRUCT
abbrev pub indexed_table : Table
indexed_table = record {
  symbols = own_symbol (codes "I") 0 (plain Int)
      ∷ own_symbol (codes "A") 1 (array (pos 1) 3 (parts of_structure
      (part_then (codes "Q") (plain Int) (part_then (codes "X") (plain Int) no_parts))))
      ∷ [];
  instances = [];
  functions = [];
  blocks = [];
}
