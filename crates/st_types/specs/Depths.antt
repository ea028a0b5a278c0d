-- How deep a tree is. A leaf has depth 1, and a node is one deeper than the deepest of its parts.
use Rattle.std.specs.Prelude.{ℕ, ◌+◌, max, List, [], ◌∷◌, Option, Some, None}
use Rattle.st_types.specs.Expressions.{Expr, literal, read, call, parenthesis, unary, binary, Exprs, no_exprs}
use Rattle.st_types.specs.Expressions.{expr_then, Variable, variable, Selector, member, subscript, Selectors}
use Rattle.st_types.specs.Expressions.{no_selectors, selector_then}
use Rattle.st_types.specs.Statements.{Argument, given, copied, Stmt, empty, assign, invoke, IF, CASE, FOR, WHILE}
use Rattle.st_types.specs.Statements.{REPEAT, EXIT, RETURN, Stmts, no_stmts, stmt_then, Arms, no_arms, arm_then}
use Rattle.st_types.specs.Statements.{CaseArms, no_case_arms, case_arm_then}
use Rattle.st_types.specs.Initials.{Initial, constant, list, structure, Element, single, repeated, defaults, Elements}
use Rattle.st_types.specs.Initials.{no_elements, element_then, Members, no_members, member_then}

-- a parenthesis is a node, and a variable is one node over its subscripts
abbrev mutual
  pub depth_of : Expr → ℕ
  depth_of (literal l) = 1
  depth_of (read v) = depth_of_variable v
  depth_of (call f es) = deepest es + 1
  depth_of (parenthesis at e) = depth_of e + 1
  depth_of (unary op at e) = depth_of e + 1
  depth_of (binary op l r) = max (depth_of l) (depth_of r) + 1

  pub deepest : Exprs → ℕ
  deepest no_exprs = 0
  deepest (expr_then e es) = max (depth_of e) (deepest es)

  pub depth_of_variable : Variable → ℕ
  depth_of_variable (variable x xs) = deepest_subscript xs + 1

  pub deepest_subscript : Selectors → ℕ
  deepest_subscript no_selectors = 0
  deepest_subscript (selector_then x xs) = max (depth_of_subscript x) (deepest_subscript xs)

  pub depth_of_subscript : Selector → ℕ
  depth_of_subscript (member x) = 0
  depth_of_subscript (subscript e) = depth_of e

abbrev pub depth_of_argument : Argument → ℕ
depth_of_argument (given x e) = depth_of e
depth_of_argument (copied x v) = depth_of_variable v

abbrev pub deepest_argument : List Argument → ℕ
deepest_argument [] = 0
deepest_argument (a ∷ rest) = max (depth_of_argument a) (deepest_argument rest)

abbrev pub depth_of_step : Option Expr → ℕ
depth_of_step None = 0
depth_of_step (Some e) = depth_of e

-- a list of statements isn't a node, nor are arguments, arms, labels and the name of a control variable
abbrev mutual
  pub depth_of_stmt : Stmt → ℕ
  depth_of_stmt empty = 1
  depth_of_stmt (assign v e) = max (depth_of_variable v) (depth_of e) + 1
  depth_of_stmt (invoke x arguments) = deepest_argument arguments + 1
  depth_of_stmt (IF arms otherwise) = max (deepest_arm arms) (deepest_stmt otherwise) + 1
  depth_of_stmt (CASE e arms otherwise) = max (depth_of e) (max (deepest_case_arm arms) (deepest_stmt otherwise)) + 1
  depth_of_stmt (FOR x start limit step body) =
      max (max (depth_of start) (depth_of limit)) (max (depth_of_step step) (deepest_stmt body)) + 1
  depth_of_stmt (WHILE e body) = max (depth_of e) (deepest_stmt body) + 1
  depth_of_stmt (REPEAT body e) = max (deepest_stmt body) (depth_of e) + 1
  depth_of_stmt (EXIT at) = 1
  depth_of_stmt RETURN = 1

  pub deepest_stmt : Stmts → ℕ
  deepest_stmt no_stmts = 0
  deepest_stmt (stmt_then x xs) = max (depth_of_stmt x) (deepest_stmt xs)

  pub deepest_arm : Arms → ℕ
  deepest_arm no_arms = 0
  deepest_arm (arm_then e body arms) = max (max (depth_of e) (deepest_stmt body)) (deepest_arm arms)

  pub deepest_case_arm : CaseArms → ℕ
  deepest_case_arm no_case_arms = 0
  deepest_case_arm (case_arm_then labels body arms) = max (deepest_stmt body) (deepest_case_arm arms)

-- a repetition isn't a node: it is as deep as the value in its parentheses, or 1 if they are empty
abbrev mutual
  pub depth_of_initial : Initial → ℕ
  depth_of_initial (constant l) = 1
  depth_of_initial (list at xs) = deepest_element xs + 1
  depth_of_initial (structure at xs) = deepest_member xs + 1

  pub depth_of_element : Element → ℕ
  depth_of_element (single x) = depth_of_initial x
  depth_of_element (repeated n x) = depth_of_initial x
  depth_of_element (defaults n) = 1

  pub deepest_element : Elements → ℕ
  deepest_element no_elements = 0
  deepest_element (element_then x xs) = max (depth_of_element x) (deepest_element xs)

  pub deepest_member : Members → ℕ
  deepest_member no_members = 0
  deepest_member (member_then x v rest) = max (depth_of_initial v) (deepest_member rest)
