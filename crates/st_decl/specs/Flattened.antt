-- All statements of a body, without the loops that they are in.
use Rattle.std.specs.Prelude.{List, [], ◌∷◌, ◌++◌}
use Rattle.st_types.specs.Statements.{Stmt, IF, CASE, FOR, WHILE, REPEAT, Stmts, no_stmts, stmt_then, Arms, no_arms}
use Rattle.st_types.specs.Statements.{arm_then, CaseArms, no_case_arms, case_arm_then}

abbrev mutual
  pub all_below : Stmt → List Stmt
  all_below (IF arms otherwise) = all_in_arms arms ++ all_in otherwise
  all_below (CASE e arms otherwise) = all_in_case_arms arms ++ all_in otherwise
  all_below (FOR x start limit step body) = all_in body
  all_below (WHILE e body) = all_in body
  all_below (REPEAT body e) = all_in body
  all_below _ = []

  pub all_in : Stmts → List Stmt
  all_in no_stmts = []
  all_in (stmt_then x xs) = (x ∷ all_below x) ++ all_in xs

  pub all_in_arms : Arms → List Stmt
  all_in_arms no_arms = []
  all_in_arms (arm_then e body arms) = all_in body ++ all_in_arms arms

  pub all_in_case_arms : CaseArms → List Stmt
  all_in_case_arms no_case_arms = []
  all_in_case_arms (case_arm_then labels body arms) = all_in body ++ all_in_case_arms arms
