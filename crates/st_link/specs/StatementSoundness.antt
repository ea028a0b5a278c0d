-- That well-typed statements end alike, and leave stores that agree.
use Rattle.std.specs.Prelude.{◌≡◌, ℕ, List, [], false}
use Rattle.std.specs.List.{flat_map}
use Rattle.st_types.specs.declared.identifier.Identifier.{Identifier}
use Rattle.st_types.specs.Statements.{Argument, invoke, Stmts}
use Rattle.st_meaning.specs.Failures.{StuckFaults}
use Rattle.st_meaning.specs.Stores.{Store}
use Rattle.st_meaning.specs.Scopes.{Name, Units, Scope}
use Rattle.st_meaning.specs.Execution.{exec, exec_all}
use Rattle.st_meaning.specs.ResolvedUnits.{resolved_stmt, resolved_stmts}
use Rattle.st_rules.specs.Environments.{Environment, type_of_name, is_instance}
use Rattle.st_rules.specs.Statements.{Context, Placed, placed, statements_of}
use Rattle.st_rules.specs.BodyRules.{wrong_statement}
use Rattle.st_link.specs.Soundness.{EndsAlikeIn, with_units, Agrees, UnitsAgree, AreKnown, LeavesAgreeing}

-- nothing is wrong in these statements
abbrev pub BodyRight : Environment → List Placed → Type 0
BodyRight env ps = flat_map (wrong_statement env) ps ≡ []

-- The calls of instances in which nothing is wrong end alike, and leave stores that agree.
abbrev pub CallsAgree : Environment → Scope → Units → Units → StuckFaults → StuckFaults → Type 0
CallsAgree env w u v i j =
    (c : Context) (x : Identifier) (arguments : List Argument) (s : Store) (budget : ℕ)
    → Agrees env w s → wrong_statement env (placed c (invoke x arguments)) ≡ []
    → EndsAlikeIn (LeavesAgreeing env w)
    (exec (with_units u i w) (resolved_stmt env.text env.unit (invoke x arguments)) s budget)
    (exec (with_units v j w) (resolved_stmt env.text env.unit (invoke x arguments)) s budget)

-- The law of statements, from that of calls of instances.
abbrev pub StatementsAreSound : Type 0
StatementsAreSound =
    (env : Environment) (w : Scope) (s : Store) (u v : Units) (i j : StuckFaults) (c : Context) (xs : Stmts) (budget : ℕ)
    → Agrees env w s → UnitsAgree env u v → AreKnown env → CallsAgree env w u v i j
    → BodyRight env (statements_of c xs)
    → EndsAlikeIn (LeavesAgreeing env w) (exec_all (with_units u i w) (resolved_stmts env.text env.unit xs) s budget)
    (exec_all (with_units v j w) (resolved_stmts env.text env.unit xs) s budget)

-- no variable of the unit is an instance
abbrev pub HasNoInstances : Environment → Type 0
HasNoInstances env = (x : Name) → is_instance env (type_of_name env x) ≡ false

-- The law of statements of a unit without instances, such as each function.
abbrev pub StatementsWithoutInstancesAreSound : Type 0
StatementsWithoutInstancesAreSound =
    (env : Environment) (w : Scope) (s : Store) (u v : Units) (i j : StuckFaults) (c : Context) (xs : Stmts) (budget : ℕ)
    → Agrees env w s → UnitsAgree env u v → AreKnown env → HasNoInstances env → BodyRight env (statements_of c xs)
    → EndsAlikeIn (LeavesAgreeing env w) (exec_all (with_units u i w) (resolved_stmts env.text env.unit xs) s budget)
    (exec_all (with_units v j w) (resolved_stmts env.text env.unit xs) s budget)
