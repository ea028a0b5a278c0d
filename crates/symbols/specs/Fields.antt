-- Fields of structures, as tables have them.
use Rattle.std.specs.Prelude.{◌≡◌, ℕ, List, Option, option_map, option_and_then}
use denote.Bor.{Bor}
use Rattle.st_types.specs.declared.data_type.VariableType.{VariableType}
use Rattle.st_meaning.specs.NameTypes.{Declared, type_named}
use Rattle.st_meaning.specs.ResolvedUnits.{field_in}
use Rattle.symbols.specs.declared.index.Index.{Index}
use Rattle.symbols.specs.declared.fields.FieldNames.{FieldNames}
use Rattle.symbols.specs.Found.{found}

-- the type that a table of types gives a name
abbrev pub type_in : Index (Bor VariableType) → List ℕ → Option VariableType
type_in index q = option_map (λ t. t.now) (found index q)

-- the type of a field of the structure of this name
abbrev pub field_found : FieldNames → List ℕ → List ℕ → Option VariableType
field_found names x q = option_and_then (λ fields. type_in fields q) (found names.structures x)

-- The tables are those of the text's structures.
abbrev pub ServesFields : FieldNames → Declared → Type 0
ServesFields names text = (x q : List ℕ) → field_found names x q ≡ field_in (type_named text.types x) q
