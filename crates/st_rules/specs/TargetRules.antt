-- Which variables may be assigned, and by which name a FOR counts.
use Rattle.std.specs.Prelude.{List, [], ◌∷◌, ◌++◌, Bool, true, false, ◌&&◌, ◌||◌, not, if◌then◌else◌, Option, Some}
use Rattle.std.specs.Prelude.{None}
use Rattle.std.specs.Prelude.{option_and_then, is_some}
use Rattle.std.specs.List.{flat_map}
use Rattle.st_types.specs.declared.identifier.Identifier.{Identifier}
use Rattle.st_types.specs.declared.declaration.Section.{Section}
use Rattle.st_types.specs.declared.declaration.Section.TheVariants.{Input, Local, Constant}
use Rattle.st_types.specs.declared.declaration.Section.TheVariants.{ConstantExternal}
use Rattle.st_types.specs.declared.data_type.VariableType.{VariableType}
use Rattle.st_types.specs.Expressions.{Variable, variable, Selectors, no_selectors, selector_then}
use Rattle.st_types.specs.Statements.{Stmt, FOR}
use Rattle.st_meaning.specs.Scopes.{contains_name}
use Rattle.st_meaning.specs.NameTypes.{selected_type}
use Rattle.st_rules.specs.declared.reason.Reason.{Reason}
use Rattle.st_rules.specs.declared.reason.Reason.TheVariants.{Undeclared, NotControl, InputAssigned, ConstantAssigned}
use Rattle.st_rules.specs.declared.reason.Reason.TheVariants.{ExternalConstantAssigned, ControlAssigned}
use Rattle.st_rules.specs.declared.reason.Reason.TheVariants.{PartOfInstanceAssigned}
use Rattle.st_rules.specs.declared.rule.Broken.{Broken}
use Rattle.st_rules.specs.declared.demand.Sorts.TheVariants.{Whole}
use Rattle.st_rules.specs.Faults.{breaking, unless}
use Rattle.st_rules.specs.Environments.{Environment, type_of_name, section_of, type_of_place, is_instance}
use Rattle.st_rules.specs.Typings.{typing_of_type, fits}
use Rattle.st_rules.specs.ExpressionRules.{wrong_variable}
use Rattle.st_rules.specs.Statements.{Context}
use Rattle.st_rules.specs.Roots.{targets_of}
use Rattle.st_meaning.specs.Resolution.{place_of_variable}

-- an input of the unit, or a constant
abbrev pub is_fixed : Option Section → Bool
is_fixed (Some (Input keep)) = true
is_fixed (Some Constant) = true
is_fixed (Some ConstantExternal) = true
is_fixed _ = false

-- the selection leads through an instance
abbrev pub passes_instance : Environment → Option VariableType → Selectors → Bool
passes_instance env t no_selectors = false
passes_instance env t (selector_then x xs) =
    is_instance env t || passes_instance env (option_and_then (λ u. selected_type env.text u x) t) xs

-- not an input, a constant or the control variable of a running FOR, and not a part of an instance
abbrev pub is_assignable : Environment → Context → Variable → Bool
is_assignable env c (variable x xs) =
    not (is_fixed (section_of env x.name)) && not (contains_name c.running x.name)
    && not (passes_instance env (type_of_name env x.name) xs)

-- why the variable is not assigned, if it is not: by its declaration, or else by the FORs that run
abbrev pub reason_of_section : Option Section → Bool → Reason
reason_of_section (Some (Input keep)) runs = InputAssigned
reason_of_section (Some Constant) runs = ConstantAssigned
reason_of_section (Some ConstantExternal) runs = ExternalConstantAssigned
reason_of_section _ runs = if runs then ControlAssigned else PartOfInstanceAssigned

abbrev pub unassignable : Environment → Context → Variable → Reason
unassignable env c (variable x xs) = reason_of_section (section_of env x.name) (contains_name c.running x.name)

-- A target is a variable that exists; only then is it checked whether it may be assigned.
abbrev pub wrong_target : Environment → Context → Variable → List Broken
wrong_target env c v =
    wrong_variable env v
    ++ breaking (unassignable env c v)
    (if is_some (type_of_place env v) then unless (is_assignable env c v) (place_of_variable v)
    else [])

abbrev pub wrong_targets : Environment → Context → Stmt → List Broken
wrong_targets env c x = flat_map (wrong_target env c) (targets_of x)

-- the control variable of a FOR is a VAR of the unit, of a whole-number type
abbrev pub is_own : Option Section → Bool
is_own (Some (Local keep)) = true
is_own (Some Constant) = true
is_own _ = false

abbrev pub is_control : Environment → Identifier → VariableType → Bool
is_control env x t =
    is_own (section_of env x.name) && fits None Whole (typing_of_type env.text (Some t))

abbrev pub wrong_control : Environment → Context → Identifier → List Broken
wrong_control env c x = elim (type_of_name env x.name) [
  | Some t ↦ breaking NotControl (unless (is_control env x t) x.place)
      ++ breaking (unassignable env c (variable x no_selectors))
      (unless (is_assignable env c (variable x no_selectors)) x.place)
  | None ↦ breaking Undeclared (x.place ∷ [])
]

abbrev pub wrong_for : Environment → Context → Stmt → List Broken
wrong_for env c (FOR x start limit step body) = wrong_control env c x
wrong_for env c _ = []
