-- The linked form of a text for programs that call these functions: another function is left out, and so is a
-- function or a block whose own variables are more than any layout has room for.
use Rattle.std.specs.Prelude.{◌≡◌, nat_lt, List, [], ◌∷◌, map, Bool, true, false, not, ◌&&◌, Option, Some, None}
use Rattle.std.specs.Prelude.{option_map, option_and_then}
use Rattle.st_types.specs.declared.limits.TheConstants.{MAX_PATHS}
use Rattle.st_types.specs.declared.data_type.SimpleType.{SimpleType}
use Rattle.st_types.specs.declared.unit.UnitSort.{UnitSort}
use Rattle.st_types.specs.declared.unit.UnitSort.TheVariants as units
use Rattle.st_types.specs.Configurations.{Configuration}
use Rattle.st_types.specs.Sources.{Source}
use Rattle.st_types.specs.Units.{OrganisationUnit}
use Rattle.st_meaning.specs.NameTypes.{Declared}
use Rattle.st_meaning.specs.Scopes.{Name}
use Rattle.layout.specs.LayoutVariables.{Owned, configuration_of, declared_of, layout_variables, owned_variable}
use Rattle.layout.specs.Shapes.{sizes}
use Rattle.layout.specs.Growth.{is_too_large}
use Rattle.slot_trees.specs.SlotTrees.{SlotFunction, SlotStmts}
use Rattle.slot_trees.specs.TextLinks.{LinkedText, linked_block, linked_function, linked_programs, linked_then}
use Rattle.slot_trees.specs.TextLinks.{sites_of_call}
use Rattle.slot_trees.specs.TextNumbers.{members_of_block}
use Rattle.slot_trees.specs.LibraryViews.{KeptLibrary, IsKeptOf}

-- a function's variables have room in a layout, its result among them; and a block's members
abbrev pub function_fits : Declared → SimpleType → OrganisationUnit → Bool
function_fits text t u = not (is_too_large text (map (owned_variable None) (sites_of_call t u)))

abbrev pub block_fits : Declared → OrganisationUnit → Bool
block_fits text u = not (nat_lt MAX_PATHS (sizes (members_of_block text u)))

-- a function is linked if it is called and has room
abbrev pub is_linked : (Name → Bool) → Declared → SimpleType → OrganisationUnit → Bool
is_linked called text t u = called u.name.name && function_fits text t u

-- a unit that is not linked is left out
abbrev pub kept_if : {A : Type 0} → Bool → Option A → Option (Option A)
kept_if true o = option_map (λ x. Some x) o
kept_if false o = Some None

abbrev pub kept_function : (Name → Bool) → Declared → SimpleType → OrganisationUnit → Option (Option SlotFunction)
kept_function called text t u = kept_if (is_linked called text t u) (linked_function text t u)

abbrev pub kept_function_then : (Name → Bool) → Declared → UnitSort → OrganisationUnit
    → Option (List (Option SlotFunction)) → Option (List (Option SlotFunction))
kept_function_then called text (units.Function t) u rest = linked_then (kept_function called text t u) rest
kept_function_then called text units.FunctionBlock u rest = rest
kept_function_then called text units.Program u rest = rest

abbrev pub kept_functions : (Name → Bool) → Declared → List OrganisationUnit → Option (List (Option SlotFunction))
kept_functions called text [] = Some []
kept_functions called text (u ∷ us) = kept_function_then called text u.sort u (kept_functions called text us)

abbrev pub kept_block : Declared → List Owned → OrganisationUnit → Option (Option SlotStmts)
kept_block text vs u = kept_if (block_fits text u) (linked_block text vs u)

abbrev pub kept_block_then : Declared → List Owned → UnitSort → OrganisationUnit → Option (List (Option SlotStmts))
    → Option (List (Option SlotStmts))
kept_block_then text vs units.FunctionBlock u rest = linked_then (kept_block text vs u) rest
kept_block_then text vs (units.Function t) u rest = rest
kept_block_then text vs units.Program u rest = rest

abbrev pub kept_blocks : Declared → List Owned → List OrganisationUnit → Option (List (Option SlotStmts))
kept_blocks text vs [] = Some []
kept_blocks text vs (u ∷ us) = kept_block_then text vs u.sort u (kept_blocks text vs us)

abbrev pub kept_library_with : List (Option SlotFunction) → List (Option SlotStmts) → KeptLibrary
kept_library_with functions blocks = record { functions = functions; blocks = blocks }

abbrev pub kept_library : (Name → Bool) → Declared → List Owned → Option KeptLibrary
kept_library called text vs =
    option_and_then (λ functions. option_map (kept_library_with functions) (kept_blocks text vs text.units))
    (kept_functions called text text.units)

-- a linked text, without the units that have no room
pub record KeptText : Type 0 where
  pub library : KeptLibrary
  pub programs : List SlotStmts

abbrev pub kept_text_with : KeptLibrary → List SlotStmts → KeptText
kept_text_with library programs = record { library = library; programs = programs }

abbrev pub kept_text : (Name → Bool) → Declared → List Owned → Option Configuration → Option KeptText
kept_text called text vs c =
    option_and_then (λ library. option_map (kept_text_with library) (linked_programs text vs c))
    (kept_library called text vs)

-- of a text whose literals are all resolved
abbrev pub kept_source : (Name → Bool) → Source → Option KeptText
kept_source called source =
    kept_text called (declared_of source) (layout_variables source) (configuration_of source)

-- It is the text's linked form, except for the units that are left out.
pub record IsKeptLink (kept : KeptText) (linked : LinkedText) : Type 0 where
  pub library : IsKeptOf kept.library linked.library
  pub programs : kept.programs ≡ linked.programs
