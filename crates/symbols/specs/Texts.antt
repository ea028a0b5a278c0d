-- Names of a text whose tables are those of its declarations.
use Rattle.std.specs.Prelude.{◌≡◌, ℕ, List, Option, option_map}
use denote.Bor.{Bor}
use Rattle.st_types.specs.declared.data_type.TypeDefinition as code_definition
use Rattle.st_types.specs.declared.unit.Unit as code_unit
use Rattle.st_types.specs.Declarations.{TypeDefinition}
use Rattle.st_types.specs.DeclarationViews.{type_definition_view}
use Rattle.st_types.specs.Units.{OrganisationUnit}
use Rattle.st_types.specs.UnitViews.{unit_view}
use Rattle.st_meaning.specs.NameTypes.{Declared, type_named, unit_named}
use Rattle.symbols.specs.declared.index.Index.{Index}
use Rattle.symbols.specs.declared.texts.TextNames.{TextNames}
use Rattle.symbols.specs.Found.{found}

-- the entries of a table of types and of one of units
abbrev pub type_found : Index (Bor code_definition.TypeDefinition) → List ℕ → Option TypeDefinition
type_found types q = option_map (λ d. type_definition_view d.now) (found types q)

abbrev pub unit_found : Index (Bor code_unit.Unit) → List ℕ → Option OrganisationUnit
unit_found units q = option_map (λ u. unit_view u.now) (found units q)

-- The tables are those of the text.
pub record ServesText (names : TextNames) (text : Declared) : Type 0 where
  pub types : (q : List ℕ) → type_found names.types q ≡ type_named text.types q
  pub units : (q : List ℕ) → unit_found names.units q ≡ unit_named text.units q
