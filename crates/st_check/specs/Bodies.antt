-- The faults in a body, pass by pass.
use Rattle.std.specs.Prelude.{List, [], ◌++◌, false}
use Rattle.std.specs.List.{flat_map}
use Rattle.st_types.specs.Statements.{Stmts}
use Rattle.st_rules.specs.declared.rule.Broken.{Broken}
use Rattle.st_rules.specs.BodyRules.{wrong_exit}
use Rattle.st_rules.specs.CallRules.{wrong_invocation}
use Rattle.st_rules.specs.Environments.{Environment}
use Rattle.st_rules.specs.LabelRules.{wrong_case}
use Rattle.st_check.specs.Assignments.{assigned_in}
use Rattle.st_check.specs.Listings.{Listed, listed_in}
use Rattle.st_check.specs.Roots.{all_roots, wrong_root}
use Rattle.st_check.specs.Targets.{wrong_assigned}

-- in the expressions of statements
unfoldable pub wrong_roots_of : Environment → List Listed → List Broken
wrong_roots_of env ls = flat_map (wrong_root env) (flat_map (λ l. all_roots env l.statement) ls)

-- in the assignments of a body
unfoldable pub wrong_assigned_in : Environment → Stmts → List Broken
wrong_assigned_in env body = flat_map (wrong_assigned env) (assigned_in [] body)

-- in calls of instances, in the labels of CASEs, and in EXITs
unfoldable pub wrong_invocations_of : Environment → List Listed → List Broken
wrong_invocations_of env ls = flat_map (λ l. wrong_invocation env l.statement) ls

unfoldable pub wrong_cases_of : Environment → List Listed → List Broken
wrong_cases_of env ls = flat_map (λ l. wrong_case env l.statement) ls

unfoldable pub wrong_exits_of : List Listed → List Broken
wrong_exits_of ls = flat_map (λ l. wrong_exit l.in_loop l.statement) ls

abbrev pub wrong_statements : Environment → List Listed → List Broken
wrong_statements env ls = wrong_invocations_of env ls ++ (wrong_cases_of env ls ++ wrong_exits_of ls)

abbrev pub wrong_passes : Environment → Stmts → List Broken
wrong_passes env body =
    wrong_roots_of env (listed_in false body)
    ++ (wrong_assigned_in env body ++ wrong_statements env (listed_in false body))
