use Rattle.std.proofs.Common.{map, drop}
use Rattle.st_types.specs.Statements as trees
use Rattle.st_types.specs.StatementViews.{arm_view, case_arm_view, stmt_view}
use Rattle.st_meaning.specs.NameTypes.{Declared}
use Rattle.slot_trees.specs.Chains.{Arm, CaseArm}
use Rattle.slot_trees.specs.StatementViews.{slot_arm_view, slot_case_arm_view, slot_stmt_view}
use Rattle.slot_trees.specs.SlotTrees.{SlotStmt}
use Rattle.slot_trees.specs.LinkedStatements.{linked_stmt}
use Rattle.slot_trees.specs.Tables.{Table}
use Rattle.st_link.specs.Arms.{linked_arm, linked_case_arm}
use Rattle.st_link.specs.BodyTables.{ServesBody}
use Rattle.st_link.proofs.Sequences.{Turned}
use Rattle.st_link.proofs.statements.+link_statement.Given as goal

abbrev pub invariant-link_statements-loop-statement : goal.invariant-link_statements-loop-statement
invariant-link_statements-loop-statement l = (text : Declared) (t : Table) → ServesBody l.table text t
    → Turned trees.Stmt SlotStmt (linked_stmt t) (map stmt_view l.statements) (map slot_stmt_view l.linked.items)
    (map stmt_view (drop l.statement-index l.statements))

abbrev pub invariant-link_arms-loop-arm : goal.invariant-link_arms-loop-arm
invariant-link_arms-loop-arm l = (text : Declared) (t : Table) → ServesBody l.table text t
    → Turned trees.Arm Arm (linked_arm t) (map arm_view l.arms) (map slot_arm_view l.linked.items)
    (map arm_view (drop l.arm-index l.arms))

abbrev pub invariant-link_case_arms-loop-arm : goal.invariant-link_case_arms-loop-arm
invariant-link_case_arms-loop-arm l = (text : Declared) (t : Table) → ServesBody l.table text t
    → Turned trees.CaseArm CaseArm (linked_case_arm t) (map case_arm_view l.arms)
    (map slot_case_arm_view l.linked.items) (map case_arm_view (drop l.arm-index l.arms))
