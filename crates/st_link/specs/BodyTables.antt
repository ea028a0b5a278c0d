-- Tables of a body that agree with the definitions.
use Rattle.std.specs.Prelude.{◌≡◌, ◌+◌, ◌≤◌, option_map}
use Rattle.st_types.specs.declared.limits.TheConstants.{MAX_PATHS}
use Rattle.st_meaning.specs.NameTypes.{Declared}
use Rattle.st_meaning.specs.Scopes.{Name}
use Rattle.symbols.specs.Agreeing.{Agree}
use Rattle.symbols.specs.Found.{found}
use Rattle.symbols.specs.PlaceTypes.{place_type_view}
use Rattle.layout.specs.Shapes.{size}
use Rattle.layout.specs.Types.{shape_of_type}
use Rattle.slot_trees.specs.LinkedStatements.{block_code_of}
use Rattle.slot_trees.specs.Tables.{Symbol, Table, named_in, symbol_of}
use Rattle.slot_trees.specs.ExpressionViews.{anchor_view}
use Rattle.slot_trees.specs.StatementViews.{block_code_view}
use Rattle.st_link.specs.Shapes.{IsExpanded, ServesShapes}
use Rattle.st_link.specs.Rooms.{first_slot}
use Rattle.st_link.specs.declared.body_table.BodyTable.{BodyTable}
use Rattle.st_link.specs.declared.body_table.LinkSymbol.{LinkSymbol}

-- A variable begins at the place in the table, has the shape of its declared type, and has room in a layout.
pub record IsSymbol (text : Declared) (s : LinkSymbol) (y : Symbol) : Type 0 where
  pub anchor : anchor_view s.anchor ≡ y.anchor
  pub input : s.is_input ≡ y.is_input
  pub shape : y.shape ≡ shape_of_type text (place_type_view s.declared)
  pub expanded : IsExpanded text (place_type_view s.declared)
  pub room : first_slot y.anchor + size y.shape ≤ MAX_PATHS

pub record ServesBody (b : BodyTable) (text : Declared) (t : Table) : Type 0 where
  pub shapes : ServesShapes b.shapes.now text
  pub symbols : (x : Name) → Agree (IsSymbol text) (found b.symbols x) (symbol_of t.symbols x)
  pub codes : (x : Name) → option_map block_code_view (found b.codes x) ≡ block_code_of t x
  pub functions : (x : Name) → found b.functions.now x ≡ named_in t.functions x
