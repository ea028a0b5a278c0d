-- The rules that a text breaks, and the places.
use Rattle.std.specs.Prelude.{List, [], ◌++◌, ◌≡◌}
use Rattle.std.specs.List.{flat_map, Contains}
use Rattle.st_types.specs.Units.{OrganisationUnit}
use Rattle.st_types.specs.Sources.{Source}
use Rattle.st_meaning.specs.NameTypes.{Declared, declared_in, units_in}
use Rattle.st_rules.specs.declared.reason.Reason.TheVariants.{RetainedAddress, SurplusName, PriorityTooGreat}
use Rattle.st_rules.specs.declared.rule.Broken.{Broken}
use Rattle.st_rules.specs.Faults.{breaking}
use Rattle.st_rules.specs.TwiceDeclared.{twice_declared}
use Rattle.st_rules.specs.Environments.{Environment}
use Rattle.st_rules.specs.BodyRules.{wrong_body}
use Rattle.st_rules.specs.DeclaredTypes.{declarings_in, arrays_in, results_in, enumerations_in}
use Rattle.st_rules.specs.TypeRules.{wrong_declaring, wrong_element, wrong_result, wrong_bound_numbers, wrong_bounds}
use Rattle.st_rules.specs.TypeRules.{retained_addresses_of, surplus_name, wrong_priorities_of}
use Rattle.st_rules.specs.InitialRules.{Start, starts_of_declaring, wrong_start, too_long}
use Rattle.st_rules.specs.Containment.{too_deep}

abbrev pub environment : Declared → OrganisationUnit → Environment
environment text u = record { text = text; unit = u }

-- all initial values of a text, with those inside them
abbrev pub starts_in : Source → List Start
starts_in source = flat_map (starts_of_declaring (declared_in source)) (declarings_in source)

-- The rules on declarations alone: names, depths, bounds and lists, addresses.
abbrev pub wrong_declarations : Source → List Broken
wrong_declarations source =
    twice_declared source ++ too_deep source
    ++ flat_map wrong_bounds (arrays_in source)
    ++ flat_map (too_long (declared_in source)) (starts_in source)
    ++ breaking RetainedAddress (flat_map retained_addresses_of source)

-- the types and the numbers of declarations
abbrev pub wrong_types : Source → List Broken
wrong_types source =
    breaking SurplusName (flat_map surplus_name (enumerations_in source))
    ++ flat_map (wrong_declaring (declared_in source)) (declarings_in source)
    ++ flat_map (wrong_element (declared_in source)) (arrays_in source)
    ++ flat_map (wrong_result (declared_in source)) (results_in source)
    ++ flat_map wrong_bound_numbers (arrays_in source)
    ++ breaking PriorityTooGreat (flat_map wrong_priorities_of source)

abbrev pub wrong_starts : Source → List Broken
wrong_starts source = flat_map (wrong_start (declared_in source)) (starts_in source)

abbrev pub wrong_bodies : Source → List Broken
wrong_bodies source = flat_map (λ u. wrong_body (environment (declared_in source) u)) (units_in source)

-- each rule with each place at which it is broken
abbrev pub broken : Source → List Broken
broken source = wrong_declarations source ++ wrong_types source ++ wrong_starts source ++ wrong_bodies source

-- the text breaks the rule at the place
abbrev pub Breaks : Source → Broken → Type 0
Breaks source b = Contains (broken source) b

-- no rule is broken anywhere
abbrev pub IsWellTyped : Source → Type 0
IsWellTyped source = broken source ≡ []

-- no rule on declarations alone is broken
abbrev pub IsWellDeclared : Source → Type 0
IsWellDeclared source = wrong_declarations source ≡ []
