-- Names that are declared twice, or that are taken.
use Rattle.std.specs.Prelude.{List, [], ◌∷◌, ◌++◌, Bool, true, false, ◌||◌, Option, Some, None, is_some}
use Rattle.std.specs.List.{list_any, flat_map}
use Rattle.st_types.specs.declared.identifier.Identifier.{Identifier}
use Rattle.st_types.specs.Sources.{Source}
use Rattle.st_meaning.specs.Scopes.{Name}
use Rattle.st_meaning.specs.StandardBlocks.{block_of}
use Rattle.st_meaning.specs.StandardFunctions.{standard_of}
use Rattle.st_meaning.specs.NameTypes.{is_named}
use Rattle.st_rules.specs.declared.reason.Reason.{Reason}
use Rattle.st_rules.specs.declared.reason.Reason.TheVariants.{DeclaredBefore, StandardName, NameOfUnit}
use Rattle.st_rules.specs.declared.rule.Broken.{Broken}
use Rattle.st_rules.specs.Faults.{breaks, breaking, in_case}
use Rattle.st_rules.specs.Places.{places_where, first_named}
use Rattle.st_rules.specs.NameScopes.{names_of_text, variables_of_text, scopes_of}

-- the name of a standard function or block
abbrev pub is_standard : Name → Bool
is_standard x = is_some (block_of x) || is_some (standard_of x)

-- the name of a standard function or block, or one of these
abbrev pub is_taken : List Identifier → Identifier → Bool
is_taken names x = is_standard x.name || list_any (is_named x.name) names

-- a name of a scope that those before it have already, with the place of the first of them
abbrev pub declared_again : List Identifier → Identifier → List Broken
declared_again before x = elim (first_named before x.name) [
  | Some y ↦ breaks (DeclaredBefore y.place) x.place ∷ []
  | None ↦ []
]

abbrev pub repeated_after : List Identifier → List Identifier → List Broken
repeated_after before [] = []
repeated_after before (x ∷ xs) = declared_again before x ++ repeated_after (before ++ x ∷ []) xs

-- each later declaration of a name in a scope, once
abbrev pub repeated : List Identifier → List Broken
repeated names = repeated_after [] names

-- a name that a standard function or block has, or else one of these
abbrev pub reason_of_taken : Bool → Option Identifier → Reason
reason_of_taken false (Some y) = NameOfUnit y.place
reason_of_taken _ _ = StandardName

abbrev pub wrong_variable_name : List Identifier → Identifier → List Broken
wrong_variable_name names x =
    breaking (reason_of_taken (is_standard x.name) (first_named names x.name)) (in_case (is_taken names x) x.place)

-- A name is declared again in its scope, a unit's variable has the name of a unit or type, or a unit, a type or a variable
-- of a unit has that of a standard function or block.
abbrev pub twice_declared : Source → List Broken
twice_declared source =
    flat_map repeated (scopes_of source)
    ++ breaking StandardName (places_where (λ x. is_standard x.name) (names_of_text source))
    ++ flat_map (wrong_variable_name (names_of_text source)) (variables_of_text source)
