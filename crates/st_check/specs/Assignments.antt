-- All assignments of a body, each with whether it is to the control variable of a FOR that runs.
use Rattle.std.specs.Prelude.{List, [], ◌∷◌, ◌++◌, Bool}
use Rattle.st_types.specs.declared.identifier.Identifier.{Identifier}
use Rattle.st_types.specs.ExpressionViews.{variable_view}
use Rattle.st_types.specs.Expressions.{Variable, variable}
use Rattle.st_types.specs.Statements.{Argument, given, copied, Stmt, assign, invoke, IF, CASE, FOR, WHILE, REPEAT}
use Rattle.st_types.specs.Statements.{Stmts}
use Rattle.st_types.specs.Statements.{no_stmts, stmt_then, Arms, no_arms, arm_then, CaseArms, no_case_arms}
use Rattle.st_types.specs.Statements.{case_arm_then}
use Rattle.st_meaning.specs.Scopes.{Name, contains_name}
use Rattle.st_check.specs.declared.assignments.Assigned as code_assigned
use Rattle.st_check.specs.declared.assignments.Assigned.TheVariants.{Target, Control}

pub data Assigned : Type 0 where
  -- a variable that a statement assigns by its name
  target : Bool → Variable → Assigned
  -- the name by which a FOR counts
  control : Bool → Identifier → Assigned

abbrev pub assigned_view : code_assigned.Assigned → Assigned
assigned_view (Target runs v) = target runs (variable_view v.now)
assigned_view (Control runs x) = control runs x.now

abbrev pub is_running : List Name → Variable → Bool
is_running running (variable x xs) = contains_name running x.name

abbrev pub assigned_by_argument : List Name → Argument → List Assigned
assigned_by_argument running (given x e) = []
assigned_by_argument running (copied x v) = target (is_running running v) v ∷ []

abbrev pub assigned_by_arguments : List Name → List Argument → List Assigned
assigned_by_arguments running [] = []
assigned_by_arguments running (a ∷ rest) = assigned_by_argument running a ++ assigned_by_arguments running rest

-- by a statement itself, not by those inside it
abbrev pub assigned_by : List Name → Stmt → List Assigned
assigned_by running (assign v e) = target (is_running running v) v ∷ []
assigned_by running (invoke x arguments) = assigned_by_arguments running arguments
assigned_by running (FOR x start limit step body) = control (contains_name running x.name) x ∷ []
assigned_by running _ = []

abbrev mutual
  pub assigned_below : List Name → Stmt → List Assigned
  assigned_below running (IF arms otherwise) = assigned_in_arms running arms ++ assigned_in running otherwise
  assigned_below running (CASE e arms otherwise) = assigned_in_case_arms running arms ++ assigned_in running otherwise
  assigned_below running (FOR x start limit step body) = assigned_in (x.name ∷ running) body
  assigned_below running (WHILE e body) = assigned_in running body
  assigned_below running (REPEAT body e) = assigned_in running body
  assigned_below running _ = []

  pub assigned_in : List Name → Stmts → List Assigned
  assigned_in running no_stmts = []
  assigned_in running (stmt_then x xs) =
      (assigned_by running x ++ assigned_below running x) ++ assigned_in running xs

  pub assigned_in_arms : List Name → Arms → List Assigned
  assigned_in_arms running no_arms = []
  assigned_in_arms running (arm_then e body arms) = assigned_in running body ++ assigned_in_arms running arms

  pub assigned_in_case_arms : List Name → CaseArms → List Assigned
  assigned_in_case_arms running no_case_arms = []
  assigned_in_case_arms running (case_arm_then labels body arms) =
      assigned_in running body ++ assigned_in_case_arms running arms
