-- Names beyond the last one that an enumerated type may have, and the rest of the rules on types.
use Rattle.std.specs.Prelude.{◌≡◌, ℕ, List, [], ◌∷◌, ◌++◌, Bool, true, false}
use Rattle.std.specs.List.{flat_map}
use Rattle.st_types.specs.Sources.{Source}
use Rattle.st_meaning.specs.NameTypes.{declared_in}
use Rattle.st_rules.specs.declared.reason.Reason.TheVariants.{PriorityTooGreat}
use Rattle.st_rules.specs.declared.rule.Broken.{Broken}
use Rattle.st_rules.specs.DeclaredTypes.{arrays_in, declarings_in, enumerations_in, results_in}
use Rattle.st_rules.specs.Faults.{breaking}
use Rattle.st_rules.specs.Rules.{wrong_bodies, wrong_starts}
use Rattle.st_rules.specs.TypeRules.{surplus_name, wrong_bound_numbers, wrong_declaring, wrong_element, wrong_result}
use Rattle.st_rules.specs.TypeRules.{wrong_priorities_of}

abbrev pub surplus_names : Source → List ℕ
surplus_names source = flat_map surplus_name (enumerations_in source)

abbrev pub HasNoSurplus : Source → Type 0
HasNoSurplus source = surplus_names source ≡ []

abbrev pub is_cons : List ℕ → Bool
is_cons [] = false
is_cons (p ∷ ps) = true

-- the faults in the types and the numbers of declarations, but for such names
abbrev pub types_beside_surplus : Source → List Broken
types_beside_surplus source =
    flat_map (wrong_declaring (declared_in source)) (declarings_in source)
    ++ flat_map (wrong_element (declared_in source)) (arrays_in source)
    ++ flat_map (wrong_result (declared_in source)) (results_in source)
    ++ flat_map wrong_bound_numbers (arrays_in source)
    ++ breaking PriorityTooGreat (flat_map wrong_priorities_of source)

-- the faults that are known by looking names up
abbrev pub wrong_by_names : Source → List Broken
wrong_by_names source = types_beside_surplus source ++ wrong_starts source ++ wrong_bodies source
