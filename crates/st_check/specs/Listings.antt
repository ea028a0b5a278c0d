-- All statements of a body, each with whether it is in a loop.
use Rattle.std.specs.Prelude.{List, [], ◌∷◌, ◌++◌, Bool, true}
use Rattle.st_types.specs.StatementViews.{stmt_view}
use Rattle.st_types.specs.Statements.{Stmt, IF, CASE, FOR, WHILE, REPEAT, Stmts, no_stmts, stmt_then, Arms, no_arms}
use Rattle.st_types.specs.Statements.{arm_then, CaseArms, no_case_arms, case_arm_then}
use Rattle.st_check.specs.declared.listings.Listed as code_listed

pub record Listed : Type 0 where
  pub in_loop : Bool
  pub statement : Stmt

abbrev pub listed : Bool → Stmt → Listed
listed inside x = record { in_loop = inside; statement = x }

abbrev pub listed_view : code_listed.Listed → Listed
listed_view l = listed l.in_loop (stmt_view l.statement.now)

abbrev mutual
  pub listed_below : Bool → Stmt → List Listed
  listed_below inside (IF arms otherwise) = listed_in_arms inside arms ++ listed_in inside otherwise
  listed_below inside (CASE e arms otherwise) = listed_in_case_arms inside arms ++ listed_in inside otherwise
  listed_below inside (FOR x start limit step body) = listed_in true body
  listed_below inside (WHILE e body) = listed_in true body
  listed_below inside (REPEAT body e) = listed_in true body
  listed_below inside _ = []

  pub listed_in : Bool → Stmts → List Listed
  listed_in inside no_stmts = []
  listed_in inside (stmt_then x xs) = (listed inside x ∷ listed_below inside x) ++ listed_in inside xs

  pub listed_in_arms : Bool → Arms → List Listed
  listed_in_arms inside no_arms = []
  listed_in_arms inside (arm_then e body arms) = listed_in inside body ++ listed_in_arms inside arms

  pub listed_in_case_arms : Bool → CaseArms → List Listed
  listed_in_case_arms inside no_case_arms = []
  listed_in_case_arms inside (case_arm_then labels body arms) =
      listed_in inside body ++ listed_in_case_arms inside arms
