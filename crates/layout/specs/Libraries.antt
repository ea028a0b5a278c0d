-- From a text to the parts that its runs need: its functions and blocks, and the programs of its instances.
use Rattle.std.specs.Prelude.{List, [], ◌∷◌, ◌++◌, map, Bool, true, false, if◌then◌else◌, Option, Some, None}
use Rattle.st_types.specs.declared.path.Owner.{Owner}
use Rattle.st_types.specs.declared.configuration.Instance.{Instance}
use Rattle.st_types.specs.declared.data_type.SimpleType.{SimpleType}
use Rattle.st_types.specs.declared.data_type.VariableType.TheVariants as types
use Rattle.st_types.specs.declared.unit.UnitSort.{UnitSort}
use Rattle.st_types.specs.declared.unit.UnitSort.TheVariants as units
use Rattle.st_types.specs.Declarations.{VariableBlock}
use Rattle.st_types.specs.Configurations.{Resource, Configuration}
use Rattle.st_types.specs.Statements.{stmts_of}
use Rattle.st_types.specs.Units.{OrganisationUnit}
use Rattle.st_types.specs.Sources.{Source}
use Rattle.st_meaning.specs.Bodies.{externals_in, declared_names}
use Rattle.st_meaning.specs.NameTypes.{Declared, is_input, unit_named}
use Rattle.st_meaning.specs.Scopes.{Name, Body, Function, Block, Library}
use Rattle.st_meaning.specs.Runs.{Program}
use Rattle.st_meaning.specs.Stores.{Store}
use Rattle.layout.specs.Types.{NamedSite, sites_of_blocks, BlockType, instance_of}
use Rattle.layout.specs.LayoutVariables.{owned_variable, owner_in, declared_of, configuration_of}
use Rattle.layout.specs.TextLayouts.{plan_variables_of, initial_values}

-- the instances among variables, each with the name of its block
abbrev pub instance_then : Name → Option BlockType → List (Name × Name) → List (Name × Name)
instance_then x None rest = rest
instance_then x (Some b) rest = (x, b.name) ∷ rest

abbrev pub instances_among : Declared → List NamedSite → List (Name × Name)
instances_among text [] = []
instances_among text (d ∷ ds) = instance_then d.name (instance_of text d.site.declared) (instances_among text ds)

-- a unit's body, with its externals and its instances
abbrev pub body_of_unit : Declared → OrganisationUnit → Body
body_of_unit text u = record {
  externals = externals_in u.blocks;
  instances = instances_among text (sites_of_blocks u.blocks);
  statements = stmts_of u.body;
}

-- the names of a function's inputs, in order
abbrev pub input_names : List VariableBlock → List Name
input_names [] = []
input_names (b ∷ bs) = if is_input b.section then declared_names b.declarations ++ input_names bs else input_names bs

-- a function's result is a variable of its name
abbrev pub result_site : SimpleType → Name → NamedSite
result_site t x = record {
  name = x;
  site = record { declared = types.Simple t; initial = None; retentions = [] };
}

-- a function's variables as a call begins: its result and all others, with their initial values
abbrev pub fresh_values : Declared → List NamedSite → Store
fresh_values text ds = initial_values (plan_variables_of text (map (owned_variable None) ds))

abbrev pub function_of_unit : Declared → SimpleType → OrganisationUnit → Function
function_of_unit text t u = record {
  name = u.name.name;
  inputs = input_names u.blocks;
  fresh = fresh_values text (result_site t u.name.name ∷ sites_of_blocks u.blocks);
  body = body_of_unit text u;
}

abbrev pub function_then : Declared → UnitSort → OrganisationUnit → List Function → List Function
function_then text (units.Function t) u rest = function_of_unit text t u ∷ rest
function_then text units.FunctionBlock u rest = rest
function_then text units.Program u rest = rest

abbrev pub functions_among : Declared → List OrganisationUnit → List Function
functions_among text [] = []
functions_among text (u ∷ us) = function_then text u.sort u (functions_among text us)

abbrev pub block_of_unit : Declared → OrganisationUnit → Block
block_of_unit text u = record { name = u.name.name; body = body_of_unit text u }

abbrev pub block_then : Declared → UnitSort → OrganisationUnit → List Block → List Block
block_then text units.FunctionBlock u rest = block_of_unit text u ∷ rest
block_then text (units.Function t) u rest = rest
block_then text units.Program u rest = rest

abbrev pub blocks_among : Declared → List OrganisationUnit → List Block
blocks_among text [] = []
blocks_among text (u ∷ us) = block_then text u.sort u (blocks_among text us)

-- the functions and blocks of a text, in its order
abbrev pub library_of : Declared → Library
library_of text = record { functions = functions_among text text.units; blocks = blocks_among text text.units }

-- the program of an instance
abbrev pub program_of_unit : Declared → Owner → OrganisationUnit → Program
program_of_unit text owner u = record { library = library_of text; owner = owner; body = body_of_unit text u }

-- an instance of a unit that isn't a program has none
abbrev pub program_by_sort : Declared → Owner → UnitSort → OrganisationUnit → List Program
program_by_sort text owner units.Program u = program_of_unit text owner u ∷ []
program_by_sort text owner units.FunctionBlock u = []
program_by_sort text owner (units.Function t) u = []

abbrev pub program_if_there : Declared → Owner → Option OrganisationUnit → List Program
program_if_there text owner None = []
program_if_there text owner (Some u) = program_by_sort text owner u.sort u

abbrev pub programs_of_instances : Declared → Name → List Instance → List Program
programs_of_instances text resource [] = []
programs_of_instances text resource (i ∷ is) =
    program_if_there text (owner_in resource i) (unit_named text.units i.program.name)
    ++ programs_of_instances text resource is

abbrev pub programs_of_resources : Declared → List Resource → List Program
programs_of_resources text [] = []
programs_of_resources text (r ∷ rs) =
    programs_of_instances text r.name.name r.instances ++ programs_of_resources text rs

abbrev pub programs_of_configuration : Declared → Option Configuration → List Program
programs_of_configuration text None = []
programs_of_configuration text (Some c) = programs_of_resources text c.resources

-- a unit that no other one can call
abbrev pub is_program : UnitSort → Bool
is_program units.Program = true
is_program units.FunctionBlock = false
is_program (units.Function t) = false

-- of a text whose literals are all resolved: its functions and blocks
abbrev pub library_of_text : Source → Library
library_of_text source = library_of (declared_of source)

-- and the programs of its instances, by resources in order
abbrev pub programs_of_text : Source → List Program
programs_of_text source = programs_of_configuration (declared_of source) (configuration_of source)
