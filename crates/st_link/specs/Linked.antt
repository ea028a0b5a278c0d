-- The additions of units and of programs' instances to a linked text.
use Rattle.std.specs.Prelude.{◌≡◌, ℕ, ◌+◌, ◌≤◌, List, [], ◌∷◌, ◌++◌, map, Bool, true, not, ◌&&◌, Option, Some, None}
use Rattle.std.specs.Prelude.{is_none, option_and_then, option_map}
use Rattle.std.specs.List.{list_all, list_any}
use Rattle.st_types.specs.declared.limits.TheConstants.{MAX_PATHS}
use Rattle.st_types.specs.declared.path.Owner.{Owner}
use Rattle.st_types.specs.Paths.{same_owner}
use Rattle.st_types.specs.declared.unit.UnitSort.{UnitSort}
use Rattle.st_types.specs.declared.unit.UnitSort.TheVariants as units
use Rattle.st_types.specs.Statements.{stmts_of}
use Rattle.st_types.specs.Units.{OrganisationUnit}
use Rattle.st_meaning.specs.NameTypes.{Declared, unit_named}
use Rattle.st_meaning.specs.Scopes.{Name}
use Rattle.layout.specs.LayoutVariables.{Owned}
use Rattle.layout.specs.Libraries.{input_names}
use Rattle.layout.specs.Instances.{OwnedProgram, variables_of_programs}
use Rattle.layout.specs.Layouts.{layout_size}
use Rattle.slot_trees.specs.SlotTrees.{SlotFunction, SlotStmts}
use Rattle.slot_trees.specs.LinkedStatements.{linked_stmts}
use Rattle.slot_trees.specs.Tables.{Table}
use Rattle.slot_trees.specs.TextLinks.{call_slot, call_slots, linked_program}
use Rattle.slot_trees.specs.StatementViews.{slot_stmts_view}
use Rattle.slot_trees.specs.LibraryViews.{slot_library_view}
use Rattle.st_link.specs.FirstSlots.{slots_taken}
use Rattle.st_link.specs.LinkVariables.{LinkVariable, variables_of_blocks}
use Rattle.st_link.specs.KeptTexts.{KeptText, kept_block, kept_function}
use Rattle.st_link.specs.declared.linked_text.LinkedText.{LinkedText}

-- a linked text of the code
abbrev pub linked_text_view : LinkedText → KeptText
linked_text_view l = record {
  library = slot_library_view l.library;
  programs = map (λ b. slot_stmts_view b.items) l.programs.items;
}

-- the slots of a function's inputs and of its result, and its body, by the meanings of its names
abbrev pub function_parts : Table → OrganisationUnit → Option (List ℕ × ℕ × SlotStmts)
function_parts t u =
    option_and_then (λ inputs. option_and_then (λ result. option_map (λ body. (inputs, result, body))
    (linked_stmts t (stmts_of u.body))) (call_slot t.symbols u.name.name))
    (call_slots t.symbols (input_names u.blocks))

abbrev pub alone : {A : Type 0} → Option A → Option (List A)
alone o = option_map (λ x. x ∷ []) o

-- the functions of a unit: itself, or none
abbrev pub functions_by : (Name → Bool) → Declared → UnitSort → OrganisationUnit → Option (List (Option SlotFunction))
functions_by called text (units.Function t) u = alone (kept_function called text t u)
functions_by called text units.FunctionBlock u = Some []
functions_by called text units.Program u = Some []

abbrev pub functions_of : (Name → Bool) → Declared → OrganisationUnit → Option (List (Option SlotFunction))
functions_of called text u = functions_by called text u.sort u

abbrev pub blocks_by : Declared → List Owned → UnitSort → OrganisationUnit → Option (List (Option SlotStmts))
blocks_by text vs units.FunctionBlock u = alone (kept_block text vs u)
blocks_by text vs (units.Function t) u = Some []
blocks_by text vs units.Program u = Some []

abbrev pub blocks_of : Declared → List Owned → OrganisationUnit → Option (List (Option SlotStmts))
blocks_of text vs u = blocks_by text vs u.sort u

-- the unit, if it is a program
abbrev pub if_program : UnitSort → OrganisationUnit → Option OrganisationUnit
if_program units.Program u = Some u
if_program units.FunctionBlock u = None
if_program (units.Function t) u = None

abbrev pub program_unit : Option OrganisationUnit → Option OrganisationUnit
program_unit None = None
program_unit (Some u) = if_program u.sort u

-- the program of an instance, or none
abbrev pub programs_by : Declared → List Owned → Owner → Option OrganisationUnit → Option (List SlotStmts)
programs_by text vs owner None = Some []
programs_by text vs owner (Some u) = alone (linked_program text vs owner u)

abbrev pub programs_of : Declared → List Owned → OwnedProgram → Option (List SlotStmts)
programs_of text vs p = programs_by text vs p.0 (program_unit (unit_named text.units p.1))

-- the variables of an instance's program
abbrev pub variables_by : Option OrganisationUnit → List LinkVariable
variables_by None = []
variables_by (Some u) = variables_of_blocks u.blocks

abbrev pub variables_of_instance : Declared → OwnedProgram → List LinkVariable
variables_of_instance text p = variables_by (program_unit (unit_named text.units p.1))

-- how many slots those of several instances take
abbrev pub slots_of_instances : Declared → List OwnedProgram → ℕ
slots_of_instances text [] = 0
slots_of_instances text (p ∷ ps) = slots_taken text (variables_of_instance text p) + slots_of_instances text ps

-- no two instances have the same owner
abbrev pub are_owners_different : List OwnedProgram → Bool
are_owners_different [] = true
are_owners_different (p ∷ ps) =
    not (list_any (λ q. same_owner (Some p.0) (Some q.0)) ps) && are_owners_different ps

-- A layout of these globals and these instances, each of which has an owner of its own, and it has room.
pub record IsLayoutBy (text : Declared) (globals : List Owned) (ps : List OwnedProgram)
    (layout : List Owned) : Type 0 where
  pub is : layout ≡ globals ++ variables_of_programs text ps
  pub unowned : list_all (λ v. is_none v.owner) globals ≡ true
  pub owners : are_owners_different ps ≡ true
  pub room : layout_size text layout ≤ MAX_PATHS
