-- The meanings of the names of a unit's body.
use Rattle.std.specs.Prelude.{List, [], ◌∷◌, Bool, true, false, ◌||◌, if◌then◌else◌, Option, Some, None}
use Rattle.std.specs.Prelude.{option_and_then, is_some}
use Rattle.std.specs.List.{list_any}
use Rattle.st_types.specs.declared.kind.Kind.{Kind}
use Rattle.st_types.specs.declared.data_type.SimpleType.TheVariants.{Elementary, Named}
use Rattle.st_types.specs.declared.data_type.VariableType.{VariableType}
use Rattle.st_types.specs.declared.data_type.VariableType.TheVariants as types
use Rattle.st_types.specs.declared.declaration.Section.{Section}
use Rattle.st_types.specs.declared.unit.UnitSort.{UnitSort}
use Rattle.st_types.specs.declared.unit.UnitSort.TheVariants.{Function, FunctionBlock, Program}
use Rattle.st_types.specs.Expressions.{Variable, variable}
use Rattle.st_types.specs.Declarations.{VariableBlock}
use Rattle.st_types.specs.Units.{OrganisationUnit}
use Rattle.st_meaning.specs.Scopes.{Name}
use Rattle.st_meaning.specs.StandardBlocks.{block_of, inputs_of, outputs_of}
use Rattle.st_meaning.specs.StandardFunctions.{Standard, standard_of}
use Rattle.st_meaning.specs.NameTypes.{Declared, is_named, unit_named, variable_type, block_variable, is_input}
use Rattle.st_meaning.specs.NameTypes.{is_output, input_kinds, result_kind, type_after_selectors}

-- a unit among the types and units of its text
pub record Environment : Type 0 where
  pub text : Declared
  pub unit : OrganisationUnit

-- the type of a variable of the unit; a function's name is one
abbrev pub type_of_name : Environment → Name → Option VariableType
type_of_name env x = variable_type env.unit x

-- the words that the variable's declaration begins with; a function's result has none
abbrev pub section_in : List VariableBlock → Name → Option Section
section_in [] x = None
section_in (b ∷ bs) x =
    if list_any (λ d. list_any (is_named x) d.names) b.declarations then Some b.section else section_in bs x

abbrev pub section_of : Environment → Name → Option Section
section_of env x = if is_named x env.unit.name then None else section_in env.unit.blocks x

-- the type of the part that a variable selects
abbrev pub type_of_place : Environment → Variable → Option VariableType
type_of_place env (variable x xs) = option_and_then (type_after_selectors env.text xs) (type_of_name env x.name)

-- a function that may be called
pub data Callee : Type 0 where
  standard : Standard → Callee
  -- the types of its inputs, and of its result
  own : List (Option Kind) → Option Kind → Callee

abbrev pub callee_of_sort : Declared → UnitSort → List VariableBlock → Option Callee
callee_of_sort text (Function t) bs = Some (own (input_kinds text bs) (result_kind text (Function t)))
callee_of_sort text FunctionBlock bs = None
callee_of_sort text Program bs = None

abbrev pub callee_of : Environment → Name → Option Callee
callee_of env f = elim (standard_of f) [
  | Some std ↦ Some (standard std)
  | None ↦ option_and_then (λ u. callee_of_sort env.text u.sort u.blocks) (unit_named env.text.units f)
]

-- a function block: a standard one, or one of the text
abbrev pub is_block_sort : UnitSort → Bool
is_block_sort (Function t) = false
is_block_sort FunctionBlock = true
is_block_sort Program = false

abbrev pub is_own_block : Option OrganisationUnit → Bool
is_own_block None = false
is_own_block (Some u) = is_block_sort u.sort

abbrev pub is_block : Declared → Name → Bool
is_block text x = is_some (block_of x) || is_own_block (unit_named text.units x)

-- the type is a block's, so that its variables are instances
abbrev pub is_block_type : Declared → VariableType → Bool
is_block_type text (types.Array a) = false
is_block_type text (types.Simple (Elementary k at)) = false
is_block_type text (types.Simple (Named x)) = is_block text x.name

abbrev pub is_instance : Environment → Option VariableType → Bool
is_instance env None = false
is_instance env (Some t) = is_block_type env.text t

-- the type of an input or an output of an instance
abbrev pub input_of : Environment → Name → Name → Option VariableType
input_of env instance x =
    option_and_then (λ t. block_variable env.text inputs_of is_input t x) (type_of_name env instance)

abbrev pub output_of : Environment → Name → Name → Option VariableType
output_of env instance x =
    option_and_then (λ t. block_variable env.text outputs_of is_output t x) (type_of_name env instance)
