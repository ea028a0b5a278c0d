-- The values of well-typed expressions, and that none of their faults is a stand-in for an ill-typed case.
use Rattle.std.specs.Prelude.{◌≡◌, ℕ, ℤ, List, [], ◌∷◌, ◌||◌, true, false, Option, Some, Result, Ok, Err, IsSome}
use Rattle.std.specs.Prelude.{is_some}
use Rattle.std.specs.List.{list_all}
use Rattle.st_types.specs.declared.fault.Fault.{Fault}
use Rattle.st_types.specs.declared.kind.Kind.{Kind}
use Rattle.st_types.specs.Kinds.{holds}
use Rattle.st_types.specs.Values.{Datum}
use Rattle.st_types.specs.Paths.{Path}
use Rattle.st_types.specs.declared.data_type.VariableType.{VariableType}
use Rattle.st_types.specs.Expressions.{Expr, Variable, Selector}
use Rattle.st_types.specs.Statements.{assign}
use Rattle.st_meaning.specs.Failures.{StuckFaults}
use Rattle.st_meaning.specs.Stores.{Store, get, has_part}
use Rattle.st_meaning.specs.Scopes.{Name, Units, Scope, path_in, member_at, seen}
use Rattle.st_meaning.specs.Evaluation.{value, known, element_at}
use Rattle.st_meaning.specs.Loops.{End}
use Rattle.st_meaning.specs.Execution.{exec}
use Rattle.st_meaning.specs.Runs.{store_of}
use Rattle.st_meaning.specs.NameTypes.{Declared, definition_of, member_type, element_type, selected_type, kind_among}
use Rattle.st_meaning.specs.Resolution.{resolved_expr}
use Rattle.st_meaning.specs.ResolvedUnits.{resolved_stmt}
use Rattle.st_rules.specs.Environments.{Environment, own, type_of_name, section_of, callee_of}
use Rattle.st_rules.specs.declared.demand.Demand.{Demand}
use Rattle.st_rules.specs.declared.typings.Typing.TheVariants.{Elementary}
use Rattle.st_rules.specs.Demands.{expected_of}
use Rattle.st_rules.specs.Typings.{typing_of, typing_of_type, is_nothing, settled}
use Rattle.st_rules.specs.ExpressionRules.{wrong_expression}
use Rattle.st_rules.specs.Statements.{Context, placed}
use Rattle.st_rules.specs.TargetRules.{is_fixed}
use Rattle.st_rules.specs.BodyRules.{wrong_statement}

-- a value of the type, in the type's range
pub record IsOf (k : Kind) (d : Datum) : Type 0 where
  pub kind : d.kind ≡ k
  pub held : holds d.kind d.number ≡ true

-- there is such a value
pub record HasKind (o : Option Datum) (k : Kind) : Type 0 where
  pub datum : Datum
  pub there : o ≡ Some datum
  pub is_of : IsOf k datum

-- Two runs end alike: with the same fault, or with the same result, which has a property, and as many ticks left.
abbrev pub EndsAlikeIn : {A : Type 0} → (A → Type 0) → Result (A × ℕ) Fault → Result (A × ℕ) Fault → Type 0
EndsAlikeIn P (Ok r) (Ok q) = (r ≡ q) × P r.0
EndsAlikeIn P (Err e) (Err f) = e ≡ f
EndsAlikeIn P (Ok r) (Err f) = ⊥
EndsAlikeIn P (Err e) (Ok q) = ⊥

-- a body's scope, with other units and other faults for the cases that no well-typed text meets
abbrev pub with_units : Units → StuckFaults → Scope → Scope
with_units u i w = record w { units = u; stuck_faults = i }

-- A place that is reached from a variable of the unit by members and by elements that exist, with its declared type.
pub data IsPlace (env : Environment) (w : Scope) (s : Store) : Name → Path → VariableType → Type 0 where
  root : {t : VariableType} (x : Name) → type_of_name env x ≡ Some t → IsPlace env w s x (path_in w.frame w.body x) t
  part : {x : Name} {p : Path} {t u : VariableType} (y : Name) → IsPlace env w s x p t
      → member_type env.text t y (definition_of env.text t) ≡ Some u → IsPlace env w s x (member_at p y) u
  element : {x : Name} {p : Path} {t u : VariableType} (z : ℤ) → IsPlace env w s x p t
      → element_type (definition_of env.text t) ≡ Some u
      → (has_part w.image (element_at p z) || has_part s (element_at p z)) ≡ true → IsPlace env w s x (element_at p z) u

-- Each place of an elementary or enumerated type has a value of that type, and a place that may be assigned has it
-- among the variables.
pub record Agrees (env : Environment) (w : Scope) (s : Store) : Type 0 where
  pub values : {x : Name} {p : Path} {t : VariableType} (k : Kind) → IsPlace env w s x p t
      → kind_among env.text.types t ≡ Some k → HasKind (known (seen w.image s p)) k
  pub stored : {x : Name} {p : Path} {t : VariableType} (k : Kind) → IsPlace env w s x p t
      → is_fixed (section_of env x) ≡ false → kind_among env.text.types t ≡ Some k → HasKind (get s p) k

-- The store after a run has the same parts, and a value of each type where it had one.
pub record Keeps (s t : Store) : Type 0 where
  pub parts : (p : Path) → has_part t p ≡ has_part s p
  pub kinds : (p : Path) (k : Kind) → HasKind (get s p) k → HasKind (get t p) k

-- values of these types, in order
abbrev pub AreOf : List (Option Kind) → List Datum → Type 0
AreOf [] [] = Unit {0}
AreOf (Some k ∷ ks) (v ∷ vs) = IsOf k v × AreOf ks vs
AreOf _ _ = ⊥

-- The functions of the text give values of their results' types for arguments of their inputs' types.
abbrev pub UnitsAgree : Environment → Units → Units → Type 0
UnitsAgree env u v =
    (f : Name) (inputs : List (Option Kind)) (k : Kind) (vs : List Datum) (budget : ℕ)
    → callee_of env f ≡ Some (own inputs (Some k)) → AreOf inputs vs
    → EndsAlikeIn (IsOf k) (u.functions f vs budget) (v.functions f vs budget)

-- a type that is known
abbrev pub IsKnown : Declared → VariableType → Type 0
IsKnown text t = is_nothing (typing_of_type text (Some t)) ≡ false

-- a type that a variable of the unit or a part of one has
pub data IsTypeIn (env : Environment) : VariableType → Type 0 where
  of_variable : {t : VariableType} (x : Name) → type_of_name env x ≡ Some t → IsTypeIn env t
  of_part : {t u : VariableType} (x : Selector) → IsTypeIn env t → selected_type env.text t x ≡ Some u
      → IsTypeIn env u

-- The types of the unit's variables and of their parts are known, and so are the inputs and results of functions.
pub record AreKnown (env : Environment) : Type 0 where
  pub types : (t : VariableType) → IsTypeIn env t → IsKnown env.text t
  pub inputs : (f : Name) (inputs : List (Option Kind)) (result : Option Kind)
      → callee_of env f ≡ Some (own inputs result) → list_all is_some inputs ≡ true
  pub results : (f : Name) (inputs : List (Option Kind)) (result : Option Kind)
      → callee_of env f ≡ Some (own inputs result) → IsSome result

-- The law of expressions. Units and stand-ins of the two runs may differ.
abbrev pub ValuesAreSound : Type 0
ValuesAreSound =
    (env : Environment) (w : Scope) (s : Store) (u v : Units) (i j : StuckFaults) (d : Demand) (e : Expr) (k : Kind)
    (budget : ℕ)
    → Agrees env w s → UnitsAgree env u v → AreKnown env → wrong_expression env d e ≡ []
    → settled (expected_of d) (typing_of env e) ≡ Elementary k
    → EndsAlikeIn (IsOf k) (value (with_units u i w) s (resolved_expr env.text env.unit (expected_of d) e) budget)
    (value (with_units v j w) s (resolved_expr env.text env.unit (expected_of d) e) budget)

-- the store after a run agrees
abbrev pub LeavesAgreeing : Environment → Scope → End → Type 0
LeavesAgreeing env w e = Agrees env w (store_of e)

-- The law of assignments. The store after one agrees as the one before it did.
abbrev pub AssignmentsAreSound : Type 0
AssignmentsAreSound =
    (env : Environment) (w : Scope) (s : Store) (u v : Units) (i j : StuckFaults) (c : Context) (x : Variable) (e : Expr)
    (budget : ℕ)
    → Agrees env w s → UnitsAgree env u v → AreKnown env → wrong_statement env (placed c (assign x e)) ≡ []
    → EndsAlikeIn (LeavesAgreeing env w) (exec (with_units u i w) (resolved_stmt env.text env.unit (assign x e)) s budget)
    (exec (with_units v j w) (resolved_stmt env.text env.unit (assign x e)) s budget)
