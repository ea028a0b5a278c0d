-- The statements of a body, as the passes over it report them.
use Rattle.std.proofs.Common.{◌≡◌, refl, sym, ap, ◌∙◌, ℕ, List, [], ◌∷◌, ◌++◌, Bool, true, false, Option, Some, None}
use Rattle.std.proofs.Common.{map, append_assoc, append-nil, if◌then◌else◌}
use Rattle.std.specs.Prelude.{is_some}
use Rattle.std.specs.List.{flat_map}
use Rattle.std.proofs.lemmas.List.{map-append}
use Rattle.std.proofs.lemmas.List.Concat.{flat_map-append}
use Rattle.st_types.specs.declared.identifier.Identifier.{Identifier}
use Rattle.st_types.specs.declared.data_type.VariableType.{VariableType}
use Rattle.st_types.specs.Expressions.{Variable, variable, no_selectors}
use Rattle.st_types.specs.Statements.{Argument, given, copied, Stmt, empty, assign, invoke, IF, CASE, FOR, WHILE}
use Rattle.st_types.specs.Statements.{REPEAT}
use Rattle.st_types.specs.Statements.{EXIT, RETURN, Stmts, no_stmts, stmt_then, Arms, no_arms, arm_then, CaseArms}
use Rattle.st_types.specs.Statements.{no_case_arms, case_arm_then}
use Rattle.st_meaning.specs.Scopes.{contains_name}
use Rattle.st_rules.specs.declared.reason.Reason.{Reason}
use Rattle.st_rules.specs.declared.reason.Reason.TheVariants.{Undeclared, NotControl}
use Rattle.st_rules.specs.declared.rule.Broken.{Broken}
use Rattle.st_rules.specs.Environments.{Environment, type_of_name, type_of_place}
use Rattle.st_rules.specs.ExpressionRules.{wrong_variable}
use Rattle.st_rules.specs.Faults.{breaking, unless}
use Rattle.st_rules.specs.Roots.{targets_of_arguments}
use Rattle.st_rules.specs.Statements.{Context, Placed, in_for, in_loop, statements_below, statements_of}
use Rattle.st_rules.specs.Statements.{statements_of_arms, statements_of_case_arms}
use Rattle.st_rules.specs.TargetRules.{is_assignable, is_control, unassignable, wrong_for, wrong_targets}
use Rattle.st_rules.specs.TargetRules as rules
use Rattle.st_check.specs.Assignments.{Assigned, is_running, assigned_by, assigned_by_arguments, assigned_below}
use Rattle.st_check.specs.Assignments.{assigned_in, assigned_in_arms, assigned_in_case_arms}
use Rattle.st_check.specs.Listings.{Listed, listed, listed_below, listed_in, listed_in_arms, listed_in_case_arms}
use Rattle.st_check.specs.Targets.{wrong_target, wrong_control_of, wrong_assigned}
use Rattle.st_decl.proofs.EntryLemmas.{flat_flat, flat_same}

-- a statement with its context, as an element of the list of all
abbrev pub brief : Placed → Listed
brief p = listed p.context.in_loop p.statement

both : {X Y : Type 0} (g : X → Y) (ps qs : List X) (xs ys : List Y) → xs ≡ map g ps → ys ≡ map g qs
    → xs ++ ys ≡ map g (ps ++ qs)
both g ps qs xs ys h k = ap (λ zs. zs ++ ys) h ∙ ap (λ zs. map g ps ++ zs) k ∙ sym (map-append g ps qs)

mutual
  brief_below : (c : Context) (x : Stmt) → listed_below c.in_loop x ≡ map brief (statements_below c x)
  brief_below c (IF arms otherwise) = both brief (statements_of_arms c arms) (statements_of c otherwise)
      (listed_in_arms c.in_loop arms) (listed_in c.in_loop otherwise) (brief_arms c arms) (brief_all c otherwise)
  brief_below c (CASE e arms otherwise) = both brief (statements_of_case_arms c arms) (statements_of c otherwise)
      (listed_in_case_arms c.in_loop arms) (listed_in c.in_loop otherwise) (brief_case_arms c arms)
      (brief_all c otherwise)
  brief_below c (FOR x start limit step body) = brief_all (in_for x.name c) body
  brief_below c (WHILE e body) = brief_all (in_loop c) body
  brief_below c (REPEAT body e) = brief_all (in_loop c) body
  brief_below c empty = refl
  brief_below c (assign v e) = refl
  brief_below c (invoke x arguments) = refl
  brief_below c (EXIT at) = refl
  brief_below c RETURN = refl

  pub brief_all : (c : Context) (xs : Stmts) → listed_in c.in_loop xs ≡ map brief (statements_of c xs)
  brief_all c no_stmts = refl
  brief_all c (stmt_then x xs) = ap (λ ys. listed c.in_loop x ∷ ys)
      (both brief (statements_below c x) (statements_of c xs) (listed_below c.in_loop x) (listed_in c.in_loop xs)
      (brief_below c x) (brief_all c xs))

  brief_arms : (c : Context) (arms : Arms) → listed_in_arms c.in_loop arms ≡ map brief (statements_of_arms c arms)
  brief_arms c no_arms = refl
  brief_arms c (arm_then e body arms) = both brief (statements_of c body) (statements_of_arms c arms)
      (listed_in c.in_loop body) (listed_in_arms c.in_loop arms) (brief_all c body) (brief_arms c arms)

  brief_case_arms : (c : Context) (arms : CaseArms)
      → listed_in_case_arms c.in_loop arms ≡ map brief (statements_of_case_arms c arms)
  brief_case_arms c no_case_arms = refl
  brief_case_arms c (case_arm_then labels body arms) = both brief (statements_of c body)
      (statements_of_case_arms c arms) (listed_in c.in_loop body) (listed_in_case_arms c.in_loop arms)
      (brief_all c body) (brief_case_arms c arms)

-- the assignments of each statement
abbrev pub assigned_at : Placed → List Assigned
assigned_at p = assigned_by p.context.running p.statement

joined : {X Y : Type 0} (g : X → List Y) (ps qs : List X) (xs ys : List Y) → xs ≡ flat_map g ps → ys ≡ flat_map g qs
    → xs ++ ys ≡ flat_map g (ps ++ qs)
joined g ps qs xs ys h k = ap (λ zs. zs ++ ys) h ∙ ap (λ zs. flat_map g ps ++ zs) k ∙ sym (flat_map-append g ps qs)

mutual
  assigned_each_below : (c : Context) (x : Stmt)
      → assigned_below c.running x ≡ flat_map assigned_at (statements_below c x)
  assigned_each_below c (IF arms otherwise) = joined assigned_at (statements_of_arms c arms)
      (statements_of c otherwise) (assigned_in_arms c.running arms) (assigned_in c.running otherwise)
      (assigned_each_arm c arms) (assigned_each c otherwise)
  assigned_each_below c (CASE e arms otherwise) = joined assigned_at (statements_of_case_arms c arms)
      (statements_of c otherwise) (assigned_in_case_arms c.running arms) (assigned_in c.running otherwise)
      (assigned_each_case_arm c arms) (assigned_each c otherwise)
  assigned_each_below c (FOR x start limit step body) = assigned_each (in_for x.name c) body
  assigned_each_below c (WHILE e body) = assigned_each (in_loop c) body
  assigned_each_below c (REPEAT body e) = assigned_each (in_loop c) body
  assigned_each_below c empty = refl
  assigned_each_below c (assign v e) = refl
  assigned_each_below c (invoke x arguments) = refl
  assigned_each_below c (EXIT at) = refl
  assigned_each_below c RETURN = refl

  pub assigned_each : (c : Context) (xs : Stmts) → assigned_in c.running xs ≡ flat_map assigned_at (statements_of c xs)
  assigned_each c no_stmts = refl
  assigned_each c (stmt_then x xs) =
      append_assoc (assigned_by c.running x) (assigned_below c.running x) (assigned_in c.running xs)
      ∙ ap (λ ys. assigned_by c.running x ++ ys)
      (joined assigned_at (statements_below c x) (statements_of c xs) (assigned_below c.running x)
      (assigned_in c.running xs) (assigned_each_below c x) (assigned_each c xs))

  assigned_each_arm : (c : Context) (arms : Arms)
      → assigned_in_arms c.running arms ≡ flat_map assigned_at (statements_of_arms c arms)
  assigned_each_arm c no_arms = refl
  assigned_each_arm c (arm_then e body arms) = joined assigned_at (statements_of c body) (statements_of_arms c arms)
      (assigned_in c.running body) (assigned_in_arms c.running arms) (assigned_each c body) (assigned_each_arm c arms)

  assigned_each_case_arm : (c : Context) (arms : CaseArms)
      → assigned_in_case_arms c.running arms ≡ flat_map assigned_at (statements_of_case_arms c arms)
  assigned_each_case_arm c no_case_arms = refl
  assigned_each_case_arm c (case_arm_then labels body arms) = joined assigned_at (statements_of c body)
      (statements_of_case_arms c arms) (assigned_in c.running body) (assigned_in_case_arms c.running arms)
      (assigned_each c body) (assigned_each_case_arm c arms)

-- the faults in the assignments of one statement
breaking_if : (b : Bool) (reason : Reason) (places : List ℕ)
    → (if b then breaking reason places else []) ≡ breaking reason (if b then places else [])
breaking_if true reason places = refl
breaking_if false reason places = refl

target_is : (env : Environment) (c : Context) (v : Variable)
    → wrong_target env (is_running c.running v) v ≡ rules.wrong_target env c v
target_is env c (variable x xs) =
    let v = variable x xs in
    ap (λ ys. wrong_variable env v ++ ys)
    (breaking_if (is_some (type_of_place env v)) (unassignable env c v) (unless (is_assignable env c v) x.place))

arguments_are : (env : Environment) (c : Context) (arguments : List Argument)
    → flat_map (wrong_assigned env) (assigned_by_arguments c.running arguments)
    ≡ flat_map (rules.wrong_target env c) (targets_of_arguments arguments)
arguments_are env c [] = refl
arguments_are env c (given x e ∷ rest) = arguments_are env c rest
arguments_are env c (copied x v ∷ rest) =
    ap (λ xs. xs ++ flat_map (wrong_assigned env) (assigned_by_arguments c.running rest)) (target_is env c v)
    ∙ ap (λ xs. rules.wrong_target env c v ++ xs) (arguments_are env c rest)

control_is : (env : Environment) (c : Context) (x : Identifier) (o : Option VariableType)
    → wrong_control_of env (contains_name c.running x.name) x o ≡ elim o [
      | Some t ↦ breaking NotControl (unless (is_control env x t) x.place)
          ++ breaking (unassignable env c (variable x no_selectors))
          (unless (is_assignable env c (variable x no_selectors)) x.place)
      | None ↦ breaking Undeclared (x.place ∷ [])
    ]
control_is env c x (Some t) = refl
control_is env c x None = refl

abbrev pub wrong_assigning : Environment → Placed → List Broken
wrong_assigning env p = wrong_targets env p.context p.statement ++ wrong_for env p.context p.statement

assigning_is : (env : Environment) (c : Context) (x : Stmt)
    → flat_map (wrong_assigned env) (assigned_by c.running x) ≡ wrong_targets env c x ++ wrong_for env c x
assigning_is env c (assign v e) =
    ap (λ xs. xs ++ []) (target_is env c v) ∙ sym (append-nil (rules.wrong_target env c v ++ []))
assigning_is env c (invoke x arguments) =
    arguments_are env c arguments
    ∙ sym (append-nil (flat_map (rules.wrong_target env c) (targets_of_arguments arguments)))
assigning_is env c (FOR x start limit step body) =
    append-nil (wrong_control_of env (contains_name c.running x.name) x (type_of_name env x.name))
    ∙ control_is env c x (type_of_name env x.name)
assigning_is env c empty = refl
assigning_is env c (IF arms otherwise) = refl
assigning_is env c (CASE e arms otherwise) = refl
assigning_is env c (WHILE e body) = refl
assigning_is env c (REPEAT body e) = refl
assigning_is env c (EXIT at) = refl
assigning_is env c RETURN = refl

pub assigning_told : (env : Environment) (c : Context) (xs : Stmts)
    → flat_map (wrong_assigned env) (assigned_in c.running xs) ≡ flat_map (wrong_assigning env) (statements_of c xs)
assigning_told env c xs =
    ap (flat_map (wrong_assigned env)) (assigned_each c xs)
    ∙ flat_flat (wrong_assigned env) assigned_at (statements_of c xs)
    ∙ flat_same (λ p. flat_map (wrong_assigned env) (assigned_at p)) (wrong_assigning env)
    (λ p. assigning_is env p.context p.statement) (statements_of c xs)
