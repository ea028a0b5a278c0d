-- The functions that are linked: those that programs call, directly or through functions and blocks.
use Rattle.std.specs.Prelude.{◌≡◌, ◌++◌, ◌+◌, ℕ, nat_lt, List, [], ◌∷◌, map, Bool, if◌then◌else◌, Option, Some, None}
use Rattle.std.specs.Prelude.{is_some, bytes_eq, option_and_then}
use Rattle.std.specs.List.{flat_map}
use Rattle.st_types.specs.declared.limits.TheConstants.{MAX_PATHS}
use Rattle.st_types.specs.declared.data_type.SimpleType.{SimpleType}
use Rattle.st_types.specs.declared.data_type.SimpleType.TheVariants.{Elementary, Named}
use Rattle.st_types.specs.declared.data_type.VariableType.{VariableType}
use Rattle.st_types.specs.declared.data_type.VariableType.TheVariants as types
use Rattle.st_types.specs.declared.unit.UnitSort.{UnitSort}
use Rattle.st_types.specs.declared.unit.UnitSort.TheVariants.{Function, FunctionBlock, Program}
use Rattle.st_types.specs.Sources.{Source}
use Rattle.st_types.specs.Statements.{Stmt, invoke, stmts_of}
use Rattle.st_types.specs.Units.{OrganisationUnit}
use Rattle.st_meaning.specs.NameTypes.{Declared, declared_in, unit_named}
use Rattle.st_meaning.specs.Scopes.{Name}
use Rattle.st_rules.specs.Containment.{calls_of}
use Rattle.symbols.specs.Found.{found}
use Rattle.st_decl.specs.Flattened.{all_in}
use Rattle.st_link.specs.Homes.{IsAmong}
use Rattle.layout.specs.Instances.{OwnedProgram}
use Rattle.st_link.specs.FirstSlots.{slots_taken}
use Rattle.st_link.specs.LinkVariables.{LinkVariable, result_of, variables_of_blocks}
use Rattle.st_link.specs.Orderly.{configuration_in, instances_of}
use Rattle.st_link.specs.declared.called_functions.CalledFunctions.{CalledFunctions}

abbrev pub is_called : CalledFunctions → Name → Bool
is_called called x = is_some (found called.units x)

abbrev pub value_count : CalledFunctions → ℕ
value_count called = called.values

abbrev pub program_count : CalledFunctions → ℕ
program_count called = called.programs

-- the name of a type that has one
abbrev pub name_of_type : VariableType → Option Name
name_of_type (types.Array a) = None
name_of_type (types.Simple (Elementary k at)) = None
name_of_type (types.Simple (Named b)) = Some b.name

-- the type of the variable of a name
abbrev pub type_among : List LinkVariable → Name → Option VariableType
type_among [] x = None
type_among (v ∷ vs) x = if bytes_eq x v.name then Some v.declared else type_among vs x

-- the block that a variable is an instance of
abbrev pub block_among : List LinkVariable → Name → Option Name
block_among vs x = option_and_then name_of_type (type_among vs x)

abbrev pub names_or_none : Option Name → List Name
names_or_none None = []
names_or_none (Some x) = x ∷ []

-- the block that a statement calls, by an instance among these variables
abbrev pub block_called : List LinkVariable → Stmt → List Name
block_called vs (invoke x arguments) = names_or_none (block_among vs x.name)
block_called vs _ = []

-- the functions and the blocks that a unit calls, wherever the calls are in its body
abbrev pub callees_of : OrganisationUnit → List Name
callees_of u = calls_of u ++ flat_map (block_called (variables_of_blocks u.blocks)) (all_in (stmts_of u.body))

-- A unit runs for these programs: it is one of them, or a unit that runs for them calls it.
pub data IsReached (text : Declared) (programs : List Name) : Name → Type 0 where
  program : {x : Name} → IsAmong x programs → IsReached text programs x
  callee : {x y : Name} {u : OrganisationUnit} → IsReached text programs y → unit_named text.units y ≡ Some u
      → IsAmong x (callees_of u) → IsReached text programs x

abbrev pub programs_among : List OwnedProgram → List Name
programs_among ps = map (λ p. p.1) ps

-- The programs of a text's one configuration call it, directly or through the functions and blocks that they call.
abbrev pub IsCalled : Source → Name → Type 0
IsCalled source x = IsReached (declared_in source) (programs_among (instances_of (configuration_in source))) x

-- the number of values at the beginning of a call; a function is left out if no layout has room for them
abbrev pub if_room : ℕ → ℕ
if_room n = if nat_lt MAX_PATHS n then 0 else n

abbrev pub values_of_call : Declared → SimpleType → OrganisationUnit → ℕ
values_of_call text t u = if_room (slots_taken text (result_of u.name.name t ∷ variables_of_blocks u.blocks))

-- the same for a unit that is a function and called
abbrev pub values_by : (Name → Bool) → Declared → UnitSort → OrganisationUnit → ℕ
values_by called text (Function t) u = if called u.name.name then values_of_call text t u else 0
values_by called text FunctionBlock u = 0
values_by called text Program u = 0

abbrev pub values_of_unit : (Name → Bool) → Declared → OrganisationUnit → ℕ
values_of_unit called text u = values_by called text u.sort u

abbrev pub values_of_units : (Name → Bool) → Declared → List OrganisationUnit → ℕ
values_of_units called text [] = 0
values_of_units called text (u ∷ us) = values_of_unit called text u + values_of_units called text us

-- the number of values at the beginning of one call of each of these functions, taken together
abbrev pub values_called : (Name → Bool) → Source → ℕ
values_called called source = values_of_units called (declared_in source) (declared_in source).units
