-- When a table of names serves a unit: each of its variables has a symbol, and each unit that it calls a number.
use Rattle.std.specs.Prelude.{◌≡◌, ℕ, nat_lt, List, true, false, Option, Some, None}
use Rattle.st_types.specs.declared.identifier.Identifier.{Identifier}
use Rattle.st_types.specs.declared.kind.Kind.{Kind}
use Rattle.st_types.specs.declared.data_type.ArrayType.{ArrayType}
use Rattle.st_types.specs.declared.data_type.SimpleType.TheVariants.{Named}
use Rattle.st_types.specs.declared.data_type.VariableType.{VariableType}
use Rattle.st_types.specs.declared.data_type.VariableType.TheVariants as types
use Rattle.st_meaning.specs.NameTypes.{type_named, block_variable, is_input, is_output}
use Rattle.st_meaning.specs.Scopes.{Name}
use Rattle.st_meaning.specs.StandardBlocks.{inputs_of, outputs_of}
use Rattle.st_rules.specs.Environments.{Environment, own, type_of_name, section_of, callee_of, is_block}
use Rattle.st_rules.specs.TargetRules.{is_fixed}
use Rattle.st_rules.specs.TypeRules.{elements_of_array}
use Rattle.st_link.specs.Soundness.{IsKnown, AreKnown, IsTypeIn}
use Rattle.layout.specs.Types.{of_elements, composition_of, shape_within, is_within_depth}
use Rattle.st_link.specs.Homes.{are_names_different}
use Rattle.slot_trees.specs.Tables.{Symbol, Table, symbol_of, named_in}
use Rattle.slot_trees.specs.LinkedStatements.{block_code_of}

-- it exists
pub record IsLinked {A : Type 0} (o : Option A) : Type 0 where
  pub value : A
  pub is : o ≡ Some value

-- the symbol of a variable has the shape of its type, and isn't an input of the plant unless it is fixed
pub record HasSymbol (env : Environment) (symbols : List Symbol) (x : Name) (t : VariableType) : Type 0 where
  pub symbol : Symbol
  pub there : symbol_of symbols x ≡ Some symbol
  pub free : is_fixed (section_of env x) ≡ false → symbol.is_input ≡ false
  pub depth : ℕ
  pub within : is_within_depth depth env.text t ≡ true
  pub shape : symbol.shape ≡ shape_within depth env.text t

-- each variable has a symbol, each function of the text that may be called a number, and each instance a block; an
-- instance isn't fixed
pub record Serves (env : Environment) (t : Table) : Type 0 where
  pub symbols : (x : Name) (s : VariableType) → type_of_name env x ≡ Some s → HasSymbol env t.symbols x s
  pub functions : (f : Name) (inputs : List (Option Kind)) (result : Option Kind)
      → callee_of env f ≡ Some (own inputs result) → IsLinked (named_in t.functions f)
  pub instances : (x : Name) (b : Identifier) → type_of_name env x ≡ Some (types.Simple (Named b))
      → is_block env.text b.name ≡ true → IsLinked (block_code_of t x)
  pub free : (x : Name) (b : Identifier) → type_of_name env x ≡ Some (types.Simple (Named b))
      → is_block env.text b.name ≡ true → is_fixed (section_of env x) ≡ false

-- each array among the types of the unit's variables and of their parts has an element
abbrev pub AreBounded : Environment → Type 0
AreBounded env =
    (s : VariableType) → IsTypeIn env s → (a : ArrayType) → composition_of env.text s ≡ of_elements a
    → nat_lt 0 (elements_of_array a) ≡ true

-- The properties of a unit of a text that breaks no rule: names differ, and no block has the name of a type; the
-- types of its variables and of their parts are known, and so are those of inputs and outputs of blocks; its arrays
-- have elements.
pub record IsOrderly (env : Environment) : Type 0 where
  pub names : are_names_different env.text ≡ true
  pub apart : (b : Name) → is_block env.text b ≡ true → type_named env.text.types b ≡ None
  pub known : AreKnown env
  pub inputs : (b : Identifier) (y : Name) (t : VariableType)
      → block_variable env.text inputs_of is_input (types.Simple (Named b)) y ≡ Some t → IsKnown env.text t
  pub outputs : (b : Identifier) (y : Name) (t : VariableType)
      → block_variable env.text outputs_of is_output (types.Simple (Named b)) y ≡ Some t → IsKnown env.text t
  pub bounded : AreBounded env
