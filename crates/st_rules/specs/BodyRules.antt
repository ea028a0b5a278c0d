-- The faults of a unit's statements.
use Rattle.std.specs.Prelude.{List, [], ◌++◌, Bool}
use Rattle.std.specs.List.{flat_map}
use Rattle.st_types.specs.Statements.{Stmt, EXIT}
use Rattle.st_rules.specs.declared.reason.Reason.TheVariants.{ExitOutsideLoop}
use Rattle.st_rules.specs.declared.rule.Broken.{Broken}
use Rattle.st_rules.specs.Faults.{breaking, unless}
use Rattle.st_rules.specs.Environments.{Environment}
use Rattle.st_rules.specs.Statements.{Placed, statements_in}
use Rattle.st_rules.specs.Roots.{wrong_nodes}
use Rattle.st_rules.specs.TargetRules.{wrong_targets, wrong_for}
use Rattle.st_rules.specs.CallRules.{wrong_invocation}
use Rattle.st_rules.specs.LabelRules.{wrong_case}

-- EXIT outside a loop
abbrev pub wrong_exit : Bool → Stmt → List Broken
wrong_exit inside (EXIT at) = breaking ExitOutsideLoop (unless inside at)
wrong_exit inside _ = []

-- a statement with its expressions; the statements in it are judged separately
abbrev pub wrong_statement : Environment → Placed → List Broken
wrong_statement env p =
    wrong_nodes env p.statement ++ wrong_targets env p.context p.statement ++ wrong_invocation env p.statement
    ++ wrong_case env p.statement ++ wrong_for env p.context p.statement ++ wrong_exit p.context.in_loop p.statement

abbrev pub wrong_body : Environment → List Broken
wrong_body env = flat_map (wrong_statement env) (statements_in env.unit)
