-- Sizes of types, capped, and the sizes that are known.
use Rattle.std.specs.Prelude.{◌≡◌, ℕ, ◌+◌, ◌≤◌, min, Option, Some, None, true}
use Rattle.st_types.specs.declared.limits.TheConstants.{MAX_PATHS}
use Rattle.st_types.specs.declared.identifier.Identifier.{Identifier}
use Rattle.st_types.specs.declared.data_type.SimpleType.TheVariants.{Elementary, Named}
use Rattle.st_types.specs.declared.data_type.VariableType.{VariableType}
use Rattle.st_types.specs.declared.data_type.VariableType.TheVariants.{Simple, Array}
use Rattle.st_meaning.specs.NameTypes.{Declared}
use Rattle.st_meaning.specs.Scopes.{Name}
use Rattle.symbols.specs.Found.{found}
use Rattle.symbols.specs.declared.index.Index.{Index}
use Rattle.layout.specs.Shapes.{size}
use Rattle.layout.specs.Types.{shape_within, is_within_depth}
use Rattle.layout.specs.Compositions.{ServesTypes, named_type}
use Rattle.layout.specs.declared.sizes.Sizes.{Sizes}

-- one more than a layout has room for stands for any greater number
abbrev pub capped_size : ℕ → ℕ
capped_size n = min n (MAX_PATHS + 1)

-- From some depth on the type is expanded whole, and its size is this.
pub record IsSized (text : Declared) (t : VariableType) (found : ℕ) : Type 0 where
  pub depth : ℕ
  pub within : (m : ℕ) → depth ≤ m → is_within_depth m text t ≡ true
  pub is : (m : ℕ) → depth ≤ m → found ≡ capped_size (size (shape_within m text t))

-- the name of a type that is a name
abbrev pub name_in : VariableType → Option Identifier
name_in (Simple (Named x)) = Some x
name_in (Simple (Elementary k at)) = None
name_in (Array a) = None

-- The sizes that are kept are right.
abbrev pub KnowsSizes : Declared → Index ℕ → Type 0
KnowsSizes text known =
    (x : Name) (n : ℕ) → found known x ≡ Some n → (at : ℕ) → IsSized text (named_type x at) n

pub record ServesSizes (sizes : Sizes) (text : Declared) : Type 0 where
  pub types : ServesTypes sizes.types text
  pub known : KnowsSizes text sizes.known
