-- The slot trees of the code's statements.
use Rattle.std.specs.Prelude.{List, map, option_map}
use Rattle.slot_trees.specs.declared.statement.BlockCode as code_block
use Rattle.slot_trees.specs.declared.statement.BlockCode.TheVariants as blocks
use Rattle.slot_trees.specs.declared.statement.SlotArgument as code_argument
use Rattle.slot_trees.specs.declared.statement.SlotArgument.TheVariants.{Given, Copied}
use Rattle.slot_trees.specs.declared.statement.SlotStmt as code_stmt
use Rattle.slot_trees.specs.declared.statement.SlotArm as code_arm
use Rattle.slot_trees.specs.declared.statement.SlotCaseArm as code_case_arm
use Rattle.slot_trees.specs.declared.statement.SlotStmt.TheOpen.{SlotStmt-F, SlotArm-F, SlotCaseArm-F}
use Rattle.slot_trees.specs.SlotTrees.{BlockCode, own_block, standard_block, SlotArgument, given, copied, SlotStmt}
use Rattle.slot_trees.specs.SlotTrees.{empty, assign, invoke, IF, CASE, FOR, WHILE, REPEAT, EXIT, RETURN, SlotStmts}
use Rattle.symbols.specs.Standard.{block_view}
use Rattle.slot_trees.specs.Chains.{Arm, CaseArm, stmts_of, arms_of, case_arms_of}
use Rattle.slot_trees.specs.ExpressionViews.{anchor_view, slot_expr_view, place_view}

abbrev pub block_code_view : code_block.BlockCode → BlockCode
block_code_view (blocks.Own i) = own_block i
block_code_view (blocks.Standard b) = standard_block (block_view b)

abbrev pub slot_argument_view : code_argument.SlotArgument → SlotArgument
slot_argument_view (Given o e) = given o (slot_expr_view e)
slot_argument_view (Copied o p) = copied o (place_view p)

-- one level, with each part already seen as its tree
abbrev pub stmt_step : SlotStmt-F SlotStmt Arm CaseArm → SlotStmt
stmt_step SlotStmt-F.Empty = empty
stmt_step (SlotStmt-F.Assign p e) = assign (place_view p) (slot_expr_view e)
stmt_step (SlotStmt-F.Invoke a b arguments) =
    invoke (anchor_view a) (block_code_view b) (map slot_argument_view arguments.items)
stmt_step (SlotStmt-F.If arms xs) = IF (arms_of arms.items) (stmts_of xs.items)
stmt_step (SlotStmt-F.Case e arms xs) = CASE (slot_expr_view e) (case_arms_of arms.items) (stmts_of xs.items)
stmt_step (SlotStmt-F.For a start limit step xs) =
    FOR (anchor_view a) (slot_expr_view start) (slot_expr_view limit) (option_map slot_expr_view step)
    (stmts_of xs.items)
stmt_step (SlotStmt-F.While e xs) = WHILE (slot_expr_view e) (stmts_of xs.items)
stmt_step (SlotStmt-F.Repeat xs e) = REPEAT (stmts_of xs.items) (slot_expr_view e)
stmt_step SlotStmt-F.Exit = EXIT
stmt_step SlotStmt-F.Return = RETURN

abbrev pub arm_step : SlotArm-F SlotStmt Arm CaseArm → Arm
arm_step a = (slot_expr_view a.condition, stmts_of a.body.items)

abbrev pub case_arm_step : SlotCaseArm-F SlotStmt Arm CaseArm → CaseArm
case_arm_step a = (a.labels.items, stmts_of a.body.items)

abbrev pub slot_stmt_view : code_stmt.SlotStmt → SlotStmt
slot_stmt_view = code_stmt.fold-SlotStmt SlotStmt Arm CaseArm stmt_step arm_step case_arm_step

abbrev pub slot_stmts_view : List code_stmt.SlotStmt → SlotStmts
slot_stmts_view xs = stmts_of (map slot_stmt_view xs)

-- arms by their fields
abbrev pub slot_arm_view : code_arm.SlotArm → Arm
slot_arm_view a = (slot_expr_view a.condition, slot_stmts_view a.body.items)

abbrev pub slot_case_arm_view : code_case_arm.SlotCaseArm → CaseArm
slot_case_arm_view a = (a.labels.items, slot_stmts_view a.body.items)
