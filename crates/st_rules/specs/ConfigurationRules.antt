-- Why a well-typed text has no plan: its configurations, the names and types that occur there, addresses and numbers.
use Rattle.std.specs.Prelude.{ℕ, zero, suc, ◌==◌, nat_lt, List, [], ◌∷◌, length, Bool, true, false, ◌&&◌, ◌||◌, not}
use Rattle.std.specs.Prelude.{if◌then◌else◌, Option, Some, None, is_some}
use Rattle.std.specs.Ordering.{int_eq}
use Rattle.std.specs.List.{flat_map, list_all, list_any}
use Rattle.st_types.specs.declared.identifier.Identifier.{Identifier}
use Rattle.st_types.specs.declared.kind.Kind.{Kind}
use Rattle.st_types.specs.declared.kind.Kind.TheVariants.{Int, Uint, Word, Bool as Boolean}
use Rattle.st_types.specs.declared.limits.TheConstants.{BIT_ADDRESSES, WORD_ADDRESSES, MAX_RESOURCES, MAX_TASKS}
use Rattle.st_types.specs.declared.limits.TheConstants.{MAX_PROGRAMS}
use Rattle.st_types.specs.Kinds.{same_kind}
use Rattle.st_types.specs.declared.configuration.Address.{Address}
use Rattle.st_types.specs.declared.configuration.AddressWidth.{AddressWidth}
use Rattle.st_types.specs.declared.configuration.AddressWidth.TheVariants as widths
use Rattle.st_types.specs.declared.configuration.Direction.{Direction}
use Rattle.st_types.specs.declared.configuration.Direction.TheVariants as directions
use Rattle.st_types.specs.declared.configuration.GlobalQualifier.{GlobalQualifier}
use Rattle.st_types.specs.declared.configuration.GlobalQualifier.TheVariants as qualifiers
use Rattle.st_types.specs.declared.configuration.Instance.{Instance}
use Rattle.st_types.specs.declared.configuration.Task.{Task}
use Rattle.st_types.specs.declared.data_type.ArrayType.{ArrayType}
use Rattle.st_types.specs.declared.data_type.SimpleType.{SimpleType}
use Rattle.st_types.specs.declared.data_type.SimpleType.TheVariants.{Elementary, Named}
use Rattle.st_types.specs.declared.data_type.VariableType.{VariableType}
use Rattle.st_types.specs.declared.data_type.VariableType.TheVariants as types
use Rattle.st_types.specs.declared.declaration.Section.{Section}
use Rattle.st_types.specs.declared.declaration.Section.TheVariants.{External, ConstantExternal}
use Rattle.st_types.specs.declared.unit.UnitSort.{UnitSort}
use Rattle.st_types.specs.declared.unit.UnitSort.TheVariants.{Function, FunctionBlock, Program}
use Rattle.st_types.specs.Declarations as declared_as
use Rattle.st_types.specs.Declarations.{TypeDefinition, Declaration, VariableBlock}
use Rattle.st_types.specs.Units.{OrganisationUnit}
use Rattle.st_types.specs.Configurations.{GlobalNames, located, listed, GlobalDeclaration, GlobalBlock, Resource}
use Rattle.st_types.specs.Configurations.{Configuration}
use Rattle.st_types.specs.Sources as sources
use Rattle.st_types.specs.Sources.{LibraryElement, Source}
use Rattle.st_meaning.specs.Operators.{number_of}
use Rattle.st_meaning.specs.Scopes.{Name}
use Rattle.st_meaning.specs.NameTypes.{Declared, is_named, definition_of, unit_named, kind_among}
use Rattle.st_rules.specs.declared.limits.TheConstants.{MAX_TYPE_DEPTH}
use Rattle.st_rules.specs.NameScopes.{listed_names}

abbrev pub configurations_of : LibraryElement → List Configuration
configurations_of (sources.types ts) = []
configurations_of (sources.unit u) = []
configurations_of (sources.configuration c) = c ∷ []

-- the configurations of a text, which must have exactly one
abbrev pub configurations_in : Source → List Configuration
configurations_in source = flat_map configurations_of source

abbrev pub has_one_configuration : Source → Bool
has_one_configuration source = length (configurations_in source) == 1

-- Two simple types are the same: an elementary type, or one declaration.
abbrev pub same_simple : SimpleType → SimpleType → Bool
same_simple (Elementary k at) (Elementary l place) = same_kind k l
same_simple (Named x) (Named y) = is_named x.name y
same_simple (Elementary k at) (Named y) = false
same_simple (Named x) (Elementary l place) = false

abbrev pub same_bounds : ArrayType → ArrayType → Bool
same_bounds a b = int_eq (number_of a.lower) (number_of b.lower) && int_eq (number_of a.upper) (number_of b.upper)

-- Arrays have the same type if bounds and element types are the same, with a name or without.
abbrev pub same_over : (SimpleType → SimpleType → Bool) → Option TypeDefinition → Option TypeDefinition → VariableType
    → VariableType → Bool
same_over same (Some (declared_as.array a)) (Some (declared_as.array b)) t u =
    same_bounds a b && same a.element b.element
same_over same _ _ (types.Simple t) (types.Simple u) = same_simple t u
same_over same _ _ _ _ = false

-- the same through at most `n` arrays
unfoldable pub same_within : Declared → ℕ → VariableType → VariableType → Bool
same_within text zero t u = false
same_within text (suc n) t u =
    same_over (λ a b. same_within text n (types.Simple a) (types.Simple b)) (definition_of text t)
    (definition_of text u) t u

abbrev pub same_type : Declared → VariableType → VariableType → Bool
same_type text t u = same_within text MAX_TYPE_DEPTH t u

-- a global that no program may assign: a constant, or an input of the plant
abbrev pub is_constant : Option GlobalQualifier → Bool
is_constant (Some qualifiers.Constant) = true
is_constant (Some qualifiers.Retain) = false
is_constant None = false

abbrev pub comes_from_plant : Direction → Bool
comes_from_plant directions.Input = true
comes_from_plant directions.Output = false

abbrev pub is_plant_input : GlobalNames → Bool
is_plant_input (located x a) = comes_from_plant a.direction
is_plant_input (listed xs) = false

abbrev pub is_fixed_global : Option GlobalQualifier → GlobalNames → Bool
is_fixed_global q names = is_constant q || is_plant_input names

-- An external stands for a global of its name and type, and is CONSTANT exactly when no program may assign the global.
abbrev pub is_external_of : Declared → Bool → VariableType → Name → Option GlobalQualifier → GlobalDeclaration → Bool
is_external_of text constant t x q d =
    list_any (is_named x) (listed_names d.names) && same_type text t d.declared
    && (if constant then is_fixed_global q d.names else not (is_fixed_global q d.names))

abbrev pub is_known_external : Declared → List GlobalBlock → Bool → VariableType → Name → Bool
is_known_external text blocks constant t x =
    list_any (λ b. list_any (is_external_of text constant t x b.qualifier) b.declarations) blocks

abbrev pub are_known_externals : Declared → List GlobalBlock → Bool → Declaration → Bool
are_known_externals text blocks constant d =
    list_all (λ x. is_known_external text blocks constant d.declared x.name) d.names

abbrev pub is_known_section : Declared → List GlobalBlock → Section → List Declaration → Bool
is_known_section text blocks External ds = list_all (are_known_externals text blocks false) ds
is_known_section text blocks ConstantExternal ds = list_all (are_known_externals text blocks true) ds
is_known_section text blocks _ ds = true

abbrev pub has_known_externals : Declared → List GlobalBlock → OrganisationUnit → Bool
has_known_externals text blocks u = list_all (λ b. is_known_section text blocks b.section b.declarations) u.blocks

-- SINGLE is a BOOL global; it may be an input
abbrev pub is_of_kind : Kind → Option Kind → Bool
is_of_kind k None = false
is_of_kind k (Some l) = same_kind k l

abbrev pub is_boolean_global : Declared → Name → GlobalDeclaration → Bool
is_boolean_global text x d =
    list_any (is_named x) (listed_names d.names) && is_of_kind Boolean (kind_among text.types d.declared)

abbrev pub is_known_single : Declared → List GlobalBlock → Option Identifier → Bool
is_known_single text blocks None = true
is_known_single text blocks (Some x) =
    list_any (λ b. list_any (is_boolean_global text x.name) b.declarations) blocks

abbrev pub is_known_task : List Task → Option Identifier → Bool
is_known_task tasks None = true
is_known_task tasks (Some x) = list_any (λ t. is_named x.name t.name) tasks

abbrev pub is_program_sort : UnitSort → Bool
is_program_sort (Function t) = false
is_program_sort FunctionBlock = false
is_program_sort Program = true

abbrev pub is_program_unit : Option OrganisationUnit → Bool
is_program_unit None = false
is_program_unit (Some u) = is_program_sort u.sort

abbrev pub is_known_instance : Declared → List Task → Instance → Bool
is_known_instance text tasks i = is_known_task tasks i.task && is_program_unit (unit_named text.units i.program.name)

abbrev pub is_known_resource : Declared → List GlobalBlock → Resource → Bool
is_known_resource text blocks r =
    list_all (is_known_instance text r.tasks) r.instances && list_all
    (λ t. is_known_single text blocks t.single) r.tasks

-- Tasks, programs, globals and SINGLEs are known, and externals are of their globals' types.
abbrev pub are_known : Declared → Configuration → Bool
are_known text c =
    list_all (has_known_externals text c.globals) text.units && list_all (is_known_resource text c.globals) c.resources

-- %IX0 to %IX1023 and %QX0 to %QX1023 are BOOL; %IW0 to %IW255 and %QW0 to %QW255 are INT, UINT or WORD
abbrev pub has_width : AddressWidth → Kind → Bool
has_width widths.Bit k = same_kind k Boolean
has_width widths.Word k = same_kind k Int || same_kind k Uint || same_kind k Word

abbrev pub holds_kind : AddressWidth → Option Kind → Bool
holds_kind w None = false
holds_kind w (Some k) = has_width w k

abbrev pub is_in_range : AddressWidth → ℕ → Bool
is_in_range widths.Bit n = nat_lt n BIT_ADDRESSES
is_in_range widths.Word n = nat_lt n WORD_ADDRESSES

-- An address is in its range and of the width of its type, isn't combined with CONSTANT, and no input has an initial value.
abbrev pub is_sound_address : Declared → Option GlobalQualifier → GlobalDeclaration → GlobalNames → Bool
is_sound_address text q d (listed xs) = true
is_sound_address text q d (located x a) =
    is_in_range a.width a.number && holds_kind a.width (kind_among text.types d.declared) && not (is_constant q)
    && not (comes_from_plant a.direction && is_some d.initial)

abbrev pub same_direction : Direction → Direction → Bool
same_direction directions.Input directions.Input = true
same_direction directions.Output directions.Output = true
same_direction directions.Input directions.Output = false
same_direction directions.Output directions.Input = false

abbrev pub same_width : AddressWidth → AddressWidth → Bool
same_width widths.Bit widths.Bit = true
same_width widths.Word widths.Word = true
same_width widths.Bit widths.Word = false
same_width widths.Word widths.Bit = false

abbrev pub same_address : Address → Address → Bool
same_address a b = same_direction a.direction b.direction && same_width a.width b.width && a.number == b.number

abbrev pub address_in : GlobalNames → List Address
address_in (located x a) = a ∷ []
address_in (listed xs) = []

abbrev pub addresses_in : List GlobalBlock → List Address
addresses_in blocks = flat_map (λ b. flat_map (λ d. address_in d.names) b.declarations) blocks

-- no address occurs twice
abbrev pub are_single : List Address → Bool
are_single [] = true
are_single (a ∷ rest) = not (list_any (same_address a) rest) && are_single rest

abbrev pub has_sound_addresses : Declared → Configuration → Bool
has_sound_addresses text c =
    list_all (λ b. list_all (λ d. is_sound_address text b.qualifier d d.names) b.declarations) c.globals
    && are_single (addresses_in c.globals)

-- more resources, tasks of a resource, or programs than allowed
abbrev pub has_too_many : Configuration → Bool
has_too_many c =
    nat_lt MAX_RESOURCES (length c.resources)
    || list_any (λ r. nat_lt MAX_TASKS (length r.tasks)) c.resources
    || nat_lt MAX_PROGRAMS (length (flat_map (λ r. r.instances) c.resources))

-- each program has a task
abbrev pub have_tasks : Configuration → Bool
have_tasks c = list_all (λ r. list_all (λ i. is_some i.task) r.instances) c.resources
