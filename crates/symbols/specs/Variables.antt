-- Variables of a unit, as tables have them.
use Rattle.std.specs.Prelude.{◌≡◌, ℕ, List, Option, option_map}
use Rattle.st_types.specs.declared.data_type.VariableType.{VariableType}
use Rattle.st_types.specs.declared.declaration.Section.{Section}
use Rattle.st_types.specs.Declarations.{VariableBlock}
use Rattle.st_meaning.specs.NameTypes.{type_in_blocks}
use Rattle.st_rules.specs.Environments.{section_in}
use Rattle.symbols.specs.declared.index.Index.{Index}
use Rattle.symbols.specs.declared.variables.Variable.{Variable}
use Rattle.symbols.specs.declared.variables.VariableNames.{VariableNames}
use Rattle.symbols.specs.Found.{found}

abbrev pub type_found : Index Variable → List ℕ → Option VariableType
type_found variables q = option_map (λ v. v.declared.now) (found variables q)

abbrev pub section_found : Index Variable → List ℕ → Option Section
section_found variables q = option_map (λ v. v.section) (found variables q)

-- The tables are those of the blocks.
pub record ServesVariables (names : VariableNames) (bs : List VariableBlock) : Type 0 where
  pub types : (q : List ℕ) → type_found names.variables q ≡ type_in_blocks bs q
  pub sections : (q : List ℕ) → section_found names.variables q ≡ section_in bs q
