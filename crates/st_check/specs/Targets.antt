-- The faults in the assignments of a body.
use Rattle.std.specs.Prelude.{List, [], ◌∷◌, ◌++◌, Bool, ◌&&◌, not, if◌then◌else◌, Option, Some, None, is_some}
use Rattle.st_types.specs.declared.identifier.Identifier.{Identifier}
use Rattle.st_types.specs.declared.data_type.VariableType.{VariableType}
use Rattle.st_types.specs.Expressions.{Variable, variable, no_selectors}
use Rattle.st_rules.specs.declared.reason.Reason.TheVariants.{NotControl, Undeclared}
use Rattle.st_rules.specs.declared.rule.Broken.{Broken}
use Rattle.st_rules.specs.Faults.{breaking, unless}
use Rattle.st_rules.specs.Environments.{Environment, type_of_name, section_of, type_of_place}
use Rattle.st_rules.specs.ExpressionRules.{wrong_variable}
use Rattle.st_rules.specs.TargetRules.{is_fixed, passes_instance, is_control, reason_of_section}
use Rattle.st_check.specs.Assignments.{Assigned, target, control}

-- may be assigned, if it is known whether a FOR that runs counts by it
abbrev pub is_free : Environment → Bool → Variable → Bool
is_free env runs (variable x xs) =
    not (is_fixed (section_of env x.name)) && not runs && not (passes_instance env (type_of_name env x.name) xs)

-- the fault in an assignment to a variable that exists
abbrev pub wrong_assignment : Environment → Bool → Variable → List Broken
wrong_assignment env runs (variable x xs) =
    breaking (reason_of_section (section_of env x.name) runs) (unless (is_free env runs (variable x xs)) x.place)

abbrev pub wrong_target : Environment → Bool → Variable → List Broken
wrong_target env runs v =
    wrong_variable env v ++ (if is_some (type_of_place env v) then wrong_assignment env runs v else [])

abbrev pub wrong_control_of : Environment → Bool → Identifier → Option VariableType → List Broken
wrong_control_of env runs x (Some t) =
    breaking NotControl (unless (is_control env x t) x.place) ++ wrong_assignment env runs (variable x no_selectors)
wrong_control_of env runs x None = breaking Undeclared (x.place ∷ [])

abbrev pub wrong_assigned : Environment → Assigned → List Broken
wrong_assigned env (target runs v) = wrong_target env runs v
wrong_assigned env (control runs x) = wrong_control_of env runs x (type_of_name env x.name)
