-- The statements of a body, each with the loops around it.
use Rattle.std.specs.Prelude.{List, [], ◌∷◌, ◌++◌, Bool, true, false}
use Rattle.st_meaning.specs.Scopes.{Name}
use Rattle.st_types.specs.Statements.{Stmt, IF, CASE, FOR, WHILE, REPEAT, Stmts}
use Rattle.st_types.specs.Statements.{no_stmts, stmt_then, Arms, no_arms, arm_then, CaseArms, no_case_arms}
use Rattle.st_types.specs.Statements.{case_arm_then, stmts_of}
use Rattle.st_types.specs.Units.{OrganisationUnit}

pub record Context : Type 0 where
  pub in_loop : Bool
  -- the control variables of the FORs that run
  pub running : List Name

abbrev pub outside : Context
outside = record { in_loop = false; running = [] }

abbrev pub in_loop : Context → Context
in_loop c = record { in_loop = true; running = c.running }

abbrev pub in_for : Name → Context → Context
in_for x c = record { in_loop = true; running = x ∷ c.running }

pub record Placed : Type 0 where
  pub context : Context
  pub statement : Stmt

abbrev pub placed : Context → Stmt → Placed
placed c x = record { context = c; statement = x }

abbrev mutual
  pub statements_below : Context → Stmt → List Placed
  statements_below c (IF arms otherwise) = statements_of_arms c arms ++ statements_of c otherwise
  statements_below c (CASE e arms otherwise) = statements_of_case_arms c arms ++ statements_of c otherwise
  statements_below c (FOR x start limit step body) = statements_of (in_for x.name c) body
  statements_below c (WHILE e body) = statements_of (in_loop c) body
  statements_below c (REPEAT body e) = statements_of (in_loop c) body
  statements_below c _ = []

  pub statements_of : Context → Stmts → List Placed
  statements_of c no_stmts = []
  statements_of c (stmt_then x xs) = (placed c x ∷ statements_below c x) ++ statements_of c xs

  pub statements_of_arms : Context → Arms → List Placed
  statements_of_arms c no_arms = []
  statements_of_arms c (arm_then e body arms) = statements_of c body ++ statements_of_arms c arms

  pub statements_of_case_arms : Context → CaseArms → List Placed
  statements_of_case_arms c no_case_arms = []
  statements_of_case_arms c (case_arm_then labels body arms) = statements_of c body ++ statements_of_case_arms c arms

-- all statements of a unit
abbrev pub statements_in : OrganisationUnit → List Placed
statements_in u = statements_of outside (stmts_of u.body)
