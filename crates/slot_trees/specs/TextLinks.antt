-- The linked form of a whole text: its functions and blocks once each, and the body of each program's instance. None
-- if a body is not linked.
use Rattle.std.specs.Prelude.{ℕ, List, [], ◌∷◌, ◌++◌, Option, Some, None, option_map, option_and_then}
use Rattle.st_types.specs.declared.path.Owner.{Owner}
use Rattle.st_types.specs.declared.configuration.Instance.{Instance}
use Rattle.st_types.specs.declared.data_type.SimpleType.{SimpleType}
use Rattle.st_types.specs.declared.unit.UnitSort.{UnitSort}
use Rattle.st_types.specs.declared.unit.UnitSort.TheVariants as units
use Rattle.st_types.specs.Configurations.{Resource, Configuration}
use Rattle.st_types.specs.Declarations.{VariableBlock}
use Rattle.st_types.specs.Sources.{Source}
use Rattle.st_types.specs.Statements.{Stmts, stmts_of}
use Rattle.st_types.specs.Units.{OrganisationUnit}
use Rattle.st_meaning.specs.Bodies.{declared_names, externals_in}
use Rattle.st_meaning.specs.NameTypes.{Declared, unit_named}
use Rattle.st_meaning.specs.Scopes.{Name, Body}
use Rattle.layout.specs.LayoutVariables.{Owned, owner_in, declared_of, layout_variables, configuration_of}
use Rattle.layout.specs.Libraries.{result_site, input_names, fresh_values, body_of_unit, program_of_unit}
use Rattle.layout.specs.Types.{NamedSite, sites_of_blocks}
use Rattle.slot_trees.specs.SlotTrees.{SlotStmts, SlotFunction, SlotLibrary}
use Rattle.slot_trees.specs.SlotEvaluation.{slot_at}
use Rattle.slot_trees.specs.Tables.{Symbol, symbol_of}
use Rattle.slot_trees.specs.LinkedStatements.{linked_stmts, control_of}
use Rattle.slot_trees.specs.LinkedTexts.{table_of, values_of_fresh}
use Rattle.slot_trees.specs.ProgramTables.{program_symbols}
use Rattle.slot_trees.specs.BlockTables.{block_symbols}
use Rattle.slot_trees.specs.FunctionTables.{function_symbols}
use Rattle.slot_trees.specs.TextNumbers.{members_of_block, numbers_of}

-- one more element before a list, if both exist
abbrev pub linked_then : {A : Type 0} → Option A → Option (List A) → Option (List A)
linked_then x rest = option_and_then (λ y. option_map (λ ys. y ∷ ys) rest) x

-- all names that a unit's declarations give, externals among them
abbrev pub names_in : List VariableBlock → List Name
names_in [] = []
names_in (b ∷ bs) = declared_names b.declarations ++ names_in bs

-- a body of the text, by the meanings of its names
abbrev pub linked_body : Declared → List Symbol → Body → Option SlotStmts
linked_body text symbols body =
    linked_stmts (table_of (numbers_of text) symbols body.instances) body.statements

-- the variables of a function's call: its result and all others; and the meanings of its names
abbrev pub sites_of_call : SimpleType → OrganisationUnit → List NamedSite
sites_of_call t u = result_site t u.name.name ∷ sites_of_blocks u.blocks

abbrev pub symbols_of_function : Declared → SimpleType → OrganisationUnit → List Symbol
symbols_of_function text t u = function_symbols text (sites_of_call t u) (u.name.name ∷ names_in u.blocks)

-- the slot of a function's input or result, which is elementary
abbrev pub call_slot : List Symbol → Name → Option ℕ
call_slot symbols x = option_map (slot_at 0) (option_and_then control_of (symbol_of symbols x))

abbrev pub call_slots : List Symbol → List Name → Option (List ℕ)
call_slots symbols [] = Some []
call_slots symbols (x ∷ xs) = linked_then (call_slot symbols x) (call_slots symbols xs)

-- a function's body; one with instances of blocks is not linked
abbrev pub linked_function_body : Declared → List Symbol → List (Name × Name) → Stmts → Option SlotStmts
linked_function_body text symbols [] statements = linked_stmts (table_of (numbers_of text) symbols []) statements
linked_function_body text symbols (i ∷ is) statements = None

abbrev pub function_with : Declared → SimpleType → OrganisationUnit → List ℕ → ℕ → SlotStmts → SlotFunction
function_with text t u inputs result body = record {
  fresh = values_of_fresh (fresh_values text (sites_of_call t u));
  inputs = inputs;
  result = result;
  body = body;
}

abbrev pub linked_function : Declared → SimpleType → OrganisationUnit → Option SlotFunction
linked_function text t u =
    option_and_then (λ inputs. option_and_then (λ result. option_map (function_with text t u inputs result)
    (linked_function_body text (symbols_of_function text t u) (body_of_unit text u).instances (stmts_of u.body)))
    (call_slot (symbols_of_function text t u) u.name.name))
    (call_slots (symbols_of_function text t u) (input_names u.blocks))

abbrev pub linked_function_then : Declared → UnitSort → OrganisationUnit → Option (List SlotFunction)
    → Option (List SlotFunction)
linked_function_then text (units.Function t) u rest = linked_then (linked_function text t u) rest
linked_function_then text units.FunctionBlock u rest = rest
linked_function_then text units.Program u rest = rest

abbrev pub linked_functions : Declared → List OrganisationUnit → Option (List SlotFunction)
linked_functions text [] = Some []
linked_functions text (u ∷ us) = linked_function_then text u.sort u (linked_functions text us)

-- a block in the layout of these variables
abbrev pub symbols_of_block : Declared → List Owned → OrganisationUnit → List Symbol
symbols_of_block text vs u =
    block_symbols text vs (members_of_block text u) (externals_in u.blocks) (names_in u.blocks)

abbrev pub linked_block : Declared → List Owned → OrganisationUnit → Option SlotStmts
linked_block text vs u = linked_body text (symbols_of_block text vs u) (body_of_unit text u)

abbrev pub linked_block_then : Declared → List Owned → UnitSort → OrganisationUnit → Option (List SlotStmts)
    → Option (List SlotStmts)
linked_block_then text vs units.FunctionBlock u rest = linked_then (linked_block text vs u) rest
linked_block_then text vs (units.Function t) u rest = rest
linked_block_then text vs units.Program u rest = rest

abbrev pub linked_blocks : Declared → List Owned → List OrganisationUnit → Option (List SlotStmts)
linked_blocks text vs [] = Some []
linked_blocks text vs (u ∷ us) = linked_block_then text vs u.sort u (linked_blocks text vs us)

-- the functions and blocks of a text, in its order
abbrev pub library_with : List SlotFunction → List SlotStmts → SlotLibrary
library_with functions blocks = record { functions = functions; blocks = blocks }

abbrev pub linked_library : Declared → List Owned → Option SlotLibrary
linked_library text vs =
    option_and_then (λ functions. option_map (library_with functions) (linked_blocks text vs text.units))
    (linked_functions text text.units)

-- the program of an instance, at slots of the whole layout
abbrev pub symbols_of_program : Declared → List Owned → Owner → OrganisationUnit → List Symbol
symbols_of_program text vs owner u =
    program_symbols text vs (program_of_unit text owner u) (names_in u.blocks)

abbrev pub linked_program : Declared → List Owned → Owner → OrganisationUnit → Option SlotStmts
linked_program text vs owner u = linked_body text (symbols_of_program text vs owner u) (body_of_unit text u)

abbrev pub linked_program_by_sort : Declared → List Owned → Owner → UnitSort → OrganisationUnit
    → Option (List SlotStmts) → Option (List SlotStmts)
linked_program_by_sort text vs owner units.Program u rest = linked_then (linked_program text vs owner u) rest
linked_program_by_sort text vs owner units.FunctionBlock u rest = rest
linked_program_by_sort text vs owner (units.Function t) u rest = rest

abbrev pub linked_program_then : Declared → List Owned → Owner → Option OrganisationUnit → Option (List SlotStmts)
    → Option (List SlotStmts)
linked_program_then text vs owner None rest = rest
linked_program_then text vs owner (Some u) rest = linked_program_by_sort text vs owner u.sort u rest

-- the programs of instances, by resources in order, in front of those of the rest
abbrev pub linked_instances : Declared → List Owned → Name → List Instance → Option (List SlotStmts)
    → Option (List SlotStmts)
linked_instances text vs resource [] rest = rest
linked_instances text vs resource (i ∷ is) rest =
    linked_program_then text vs (owner_in resource i) (unit_named text.units i.program.name)
    (linked_instances text vs resource is rest)

abbrev pub linked_resources : Declared → List Owned → List Resource → Option (List SlotStmts)
linked_resources text vs [] = Some []
linked_resources text vs (r ∷ rs) =
    linked_instances text vs r.name.name r.instances (linked_resources text vs rs)

abbrev pub linked_programs : Declared → List Owned → Option Configuration → Option (List SlotStmts)
linked_programs text vs None = Some []
linked_programs text vs (Some c) = linked_resources text vs c.resources

-- a linked text: the functions and blocks, and the programs of its instances in the order of its configuration
pub record LinkedText : Type 0 where
  pub library : SlotLibrary
  pub programs : List SlotStmts

abbrev pub text_with : SlotLibrary → List SlotStmts → LinkedText
text_with library programs = record { library = library; programs = programs }

abbrev pub linked_text : Declared → List Owned → Option Configuration → Option LinkedText
linked_text text vs c =
    option_and_then (λ library. option_map (text_with library) (linked_programs text vs c)) (linked_library text vs)

-- of a text whose literals are all resolved
abbrev pub linked_source : Source → Option LinkedText
linked_source source = linked_text (declared_of source) (layout_variables source) (configuration_of source)
