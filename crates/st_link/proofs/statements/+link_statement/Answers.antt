use Rattle.std.proofs.Common.{rules, ◌≡◌, ap, sym, subst, ◌∙◌, ◌+◌, Some, None, Err, List, map, drop}
use Rattle.std.specs.Prelude.{option_map}
use Rattle.std.proofs.lemmas.Result.{IfErr-weaker, IfOk-weaker}
use Rattle.st_types.specs.declared.statement.Stmt as code_stmt
use Rattle.st_types.specs.Statements as trees
use Rattle.st_types.specs.ExpressionViews.{expr_view, variable_view}
use Rattle.st_types.specs.StatementViews.{argument_view, arm_view, case_arm_view, stmt_view}
use Rattle.st_types.proofs.Bridge.{choose_view, select_view}
use Rattle.st_meaning.specs.NameTypes.{Declared}
use Rattle.slot_trees.specs.Chains.{Arm, CaseArm, arms_of, case_arms_of, stmts_of}
use Rattle.slot_trees.specs.ExpressionViews.{anchor_view, place_view, slot_expr_view}
use Rattle.slot_trees.specs.StatementViews.{slot_arm_view, slot_case_arm_view, slot_stmt_view}
use Rattle.slot_trees.specs.SlotTrees.{SlotStmt}
use Rattle.slot_trees.specs.LinkedStatements.{linked_stmt}
use Rattle.slot_trees.specs.Tables.{Table}
use Rattle.st_link.specs.Arms.{linked_arm, linked_case_arm}
use Rattle.st_link.specs.BodyTables.{ServesBody}
use Rattle.st_link.specs.declared.link_error.LinkError.TheVariants.{NotThere}
use Rattle.st_link.proofs.ErrorLemmas.{none_then}
use Rattle.st_link.proofs.Sequences.{Turned, turned_all, turned_first, turned_more, turned_none}
use Rattle.st_link.proofs.SequenceViews.{arms_linked, case_arms_linked, stmts_linked}
use Rattle.st_link.proofs.StatementLemmas as parts
use Rattle.st_link.proofs.statements.+link_statement.Goals as goal

pub link_statement-returns-in_err-target-in-Assign-clause-none :
    goal.link_statement-returns-in_err-target-in-Assign-clause-none
link_statement-returns-in_err-target-in-Assign-clause-none n c =
    let seen : stmt_view c.args.statement.now ≡ trees.assign (variable_view c.in-Assign.target) (expr_view
    c.in-Assign.value) =
    rw c.in-Assign.is (search (rules, code_stmt.the_lemmas)) in
    none_then _ c.in_err-target-in-Assign.field-0.0 _ _ c.in_err-target-in-Assign.ensures.none
    (λ h text t serves. ap (linked_stmt t) seen
    ∙ parts.no_target t (variable_view c.in-Assign.target) (expr_view c.in-Assign.value)
    (h text t serves)) (search rules)

pub link_statement-returns-in_err-value-in-Assign-clause-none :
    goal.link_statement-returns-in_err-value-in-Assign-clause-none
link_statement-returns-in_err-value-in-Assign-clause-none n c =
    let seen : stmt_view c.args.statement.now ≡ trees.assign (variable_view c.in-Assign.target) (expr_view
    c.in-Assign.value) =
    rw c.in-Assign.is (search (rules, code_stmt.the_lemmas)) in
    none_then _ c.in_err-value-in-Assign.field-0.0 _ _ c.in_err-value-in-Assign.ensures.none
    (λ h text t serves. ap (linked_stmt t) seen
    ∙ parts.no_value t (variable_view c.in-Assign.target) (expr_view c.in-Assign.value)
    (place_view c.in_ok-target-in-Assign.target) (c.in_ok-target-in-Assign.ensures.linked text t serves) (h text t
    serves)) (search rules)

pub link_statement-returns-in_err-arms-in-If-clause-none :
    goal.link_statement-returns-in_err-arms-in-If-clause-none
link_statement-returns-in_err-arms-in-If-clause-none n c =
    let seen : stmt_view c.args.statement.now ≡ trees.IF (trees.arms_of (map arm_view c.in-If.arms.items))
    (trees.stmts_of (map stmt_view c.in-If.otherwise.items)) =
    ap stmt_view c.in-If.is ∙ choose_view c.in-If.arms c.in-If.otherwise in
    none_then _ c.in_err-arms-in-If.field-0.0 _ _ c.in_err-arms-in-If.ensures.none
    (λ h text t serves. ap (linked_stmt t) seen
    ∙ parts.no_choice t (trees.arms_of (map arm_view c.in-If.arms.items)) (trees.stmts_of (map stmt_view
    c.in-If.otherwise.items))
    (rw c.deref-in-If.ensures.value at (h text t serves))) (search rules)

pub link_statement-returns-in_err-otherwise-in-If-clause-none :
    goal.link_statement-returns-in_err-otherwise-in-If-clause-none
link_statement-returns-in_err-otherwise-in-If-clause-none n c =
    let seen : stmt_view c.args.statement.now ≡ trees.IF (trees.arms_of (map arm_view c.in-If.arms.items))
    (trees.stmts_of (map stmt_view c.in-If.otherwise.items)) =
    ap stmt_view c.in-If.is ∙ choose_view c.in-If.arms c.in-If.otherwise in
    none_then _ c.in_err-otherwise-in-If.field-0.0 _ _ c.in_err-otherwise-in-If.ensures.none
    (λ h text t serves. ap (linked_stmt t) seen
    ∙ parts.no_otherwise t (trees.arms_of (map arm_view c.in-If.arms.items)) (trees.stmts_of (map stmt_view
    c.in-If.otherwise.items))
    (arms_of (map slot_arm_view c.in_ok-arms-in-If.arms.items)) (rw c.deref-in-If.ensures.value at
    (c.in_ok-arms-in-If.ensures.linked text t serves)) (rw c.deref-in-If-2.ensures.value at (h text t serves)))
    (search rules)

pub link_statement-returns-in_err-selector-in-Case-clause-none :
    goal.link_statement-returns-in_err-selector-in-Case-clause-none
link_statement-returns-in_err-selector-in-Case-clause-none n c =
    let seen : stmt_view c.args.statement.now ≡ trees.CASE (expr_view c.in-Case.selector) (trees.case_arms_of (map
    case_arm_view c.in-Case.arms.items)) (trees.stmts_of (map stmt_view c.in-Case.otherwise.items)) =
    ap stmt_view c.in-Case.is ∙ select_view c.in-Case.selector c.in-Case.arms c.in-Case.otherwise in
    none_then _ c.in_err-selector-in-Case.field-0.0 _ _ c.in_err-selector-in-Case.ensures.none
    (λ h text t serves. ap (linked_stmt t) seen
    ∙ parts.no_selector t (expr_view c.in-Case.selector) (trees.case_arms_of (map case_arm_view
    c.in-Case.arms.items)) (trees.stmts_of (map stmt_view c.in-Case.otherwise.items))
    (h text t serves)) (search rules)

pub link_statement-returns-in_err-arms-in-Case-clause-none :
    goal.link_statement-returns-in_err-arms-in-Case-clause-none
link_statement-returns-in_err-arms-in-Case-clause-none n c =
    let seen : stmt_view c.args.statement.now ≡ trees.CASE (expr_view c.in-Case.selector) (trees.case_arms_of (map
    case_arm_view c.in-Case.arms.items)) (trees.stmts_of (map stmt_view c.in-Case.otherwise.items)) =
    ap stmt_view c.in-Case.is ∙ select_view c.in-Case.selector c.in-Case.arms c.in-Case.otherwise in
    none_then _ c.in_err-arms-in-Case.field-0.0 _ _ c.in_err-arms-in-Case.ensures.none
    (λ h text t serves. ap (linked_stmt t) seen
    ∙ parts.no_selection t (expr_view c.in-Case.selector) (trees.case_arms_of (map case_arm_view
    c.in-Case.arms.items)) (trees.stmts_of (map stmt_view c.in-Case.otherwise.items))
    (slot_expr_view c.in_ok-selector-in-Case.selector) (c.in_ok-selector-in-Case.ensures.linked text t serves) (rw
    c.deref-in-Case.ensures.value at (h text t serves))) (search rules)

pub link_statement-returns-in_err-otherwise-in-Case-clause-none :
    goal.link_statement-returns-in_err-otherwise-in-Case-clause-none
link_statement-returns-in_err-otherwise-in-Case-clause-none n c =
    let seen : stmt_view c.args.statement.now ≡ trees.CASE (expr_view c.in-Case.selector) (trees.case_arms_of (map
    case_arm_view c.in-Case.arms.items)) (trees.stmts_of (map stmt_view c.in-Case.otherwise.items)) =
    ap stmt_view c.in-Case.is ∙ select_view c.in-Case.selector c.in-Case.arms c.in-Case.otherwise in
    none_then _ c.in_err-otherwise-in-Case.field-0.0 _ _ c.in_err-otherwise-in-Case.ensures.none
    (λ h text t serves. ap (linked_stmt t) seen
    ∙ parts.no_other t (expr_view c.in-Case.selector) (trees.case_arms_of (map case_arm_view c.in-Case.arms.items))
    (trees.stmts_of (map stmt_view c.in-Case.otherwise.items))
    (slot_expr_view c.in_ok-selector-in-Case.selector) (case_arms_of (map slot_case_arm_view
    c.in_ok-arms-in-Case.arms.items)) (c.in_ok-selector-in-Case.ensures.linked text t serves) (rw
    c.deref-in-Case.ensures.value at (c.in_ok-arms-in-Case.ensures.linked text t serves)) (rw
    c.deref-in-Case-2.ensures.value at (h text t serves))) (search rules)

pub link_statement-returns-in_err-control-in-For-clause-none :
    goal.link_statement-returns-in_err-control-in-For-clause-none
link_statement-returns-in_err-control-in-For-clause-none n c =
    let seen : stmt_view c.args.statement.now ≡ trees.FOR c.in-For.control (expr_view c.in-For.start) (expr_view
    c.in-For.limit) (option_map expr_view c.in-For.step) (trees.stmts_of (map stmt_view c.in-For.body.items)) =
    rw c.in-For.is (search (rules, code_stmt.the_lemmas)) in
    none_then _ c.in_err-control-in-For.field-0.0 _ _ c.in_err-control-in-For.ensures.none
    (λ h text t serves. ap (linked_stmt t) seen
    ∙ parts.no_control t c.in-For.control (expr_view c.in-For.start) (expr_view c.in-For.limit) (option_map
    expr_view c.in-For.step) (trees.stmts_of (map stmt_view c.in-For.body.items))
    (h text t serves)) (search rules)

pub link_statement-returns-in_err-start-in-For-clause-none :
    goal.link_statement-returns-in_err-start-in-For-clause-none
link_statement-returns-in_err-start-in-For-clause-none n c =
    let seen : stmt_view c.args.statement.now ≡ trees.FOR c.in-For.control (expr_view c.in-For.start) (expr_view
    c.in-For.limit) (option_map expr_view c.in-For.step) (trees.stmts_of (map stmt_view c.in-For.body.items)) =
    rw c.in-For.is (search (rules, code_stmt.the_lemmas)) in
    none_then _ c.in_err-start-in-For.field-0.0 _ _ c.in_err-start-in-For.ensures.none
    (λ h text t serves. ap (linked_stmt t) seen
    ∙ parts.no_start t c.in-For.control (expr_view c.in-For.start) (expr_view c.in-For.limit) (option_map expr_view
    c.in-For.step) (trees.stmts_of (map stmt_view c.in-For.body.items))
    (anchor_view c.in_ok-control-in-For.control) (c.in_ok-control-in-For.ensures.linked text t serves) (h text t
    serves)) (search rules)

pub link_statement-returns-in_err-limit-in-For-clause-none :
    goal.link_statement-returns-in_err-limit-in-For-clause-none
link_statement-returns-in_err-limit-in-For-clause-none n c =
    let seen : stmt_view c.args.statement.now ≡ trees.FOR c.in-For.control (expr_view c.in-For.start) (expr_view
    c.in-For.limit) (option_map expr_view c.in-For.step) (trees.stmts_of (map stmt_view c.in-For.body.items)) =
    rw c.in-For.is (search (rules, code_stmt.the_lemmas)) in
    none_then _ c.in_err-limit-in-For.field-0.0 _ _ c.in_err-limit-in-For.ensures.none
    (λ h text t serves. ap (linked_stmt t) seen
    ∙ parts.no_limit t c.in-For.control (expr_view c.in-For.start) (expr_view c.in-For.limit) (option_map expr_view
    c.in-For.step) (trees.stmts_of (map stmt_view c.in-For.body.items))
    (anchor_view c.in_ok-control-in-For.control) (slot_expr_view c.in_ok-start-in-For.start)
    (c.in_ok-control-in-For.ensures.linked text t serves) (c.in_ok-start-in-For.ensures.linked text t serves) (h
    text t serves)) (search rules)

pub link_statement-returns-in_err-step-in-For-clause-none :
    goal.link_statement-returns-in_err-step-in-For-clause-none
link_statement-returns-in_err-step-in-For-clause-none n c =
    let seen : stmt_view c.args.statement.now ≡ trees.FOR c.in-For.control (expr_view c.in-For.start) (expr_view
    c.in-For.limit) (option_map expr_view c.in-For.step) (trees.stmts_of (map stmt_view c.in-For.body.items)) =
    rw c.in-For.is (search (rules, code_stmt.the_lemmas)) in
    none_then _ c.in_err-step-in-For.field-0.0 _ _ c.in_err-step-in-For.ensures.none
    (λ h text t serves. ap (linked_stmt t) seen
    ∙ parts.no_step t c.in-For.control (expr_view c.in-For.start) (expr_view c.in-For.limit) (option_map expr_view
    c.in-For.step) (trees.stmts_of (map stmt_view c.in-For.body.items))
    (anchor_view c.in_ok-control-in-For.control) (slot_expr_view c.in_ok-start-in-For.start) (slot_expr_view
    c.in_ok-limit-in-For.limit) (c.in_ok-control-in-For.ensures.linked text t serves)
    (c.in_ok-start-in-For.ensures.linked text t serves) (c.in_ok-limit-in-For.ensures.linked text t serves) (h text
    t serves)) (search rules)

pub link_statement-returns-in_err-body-in-For-clause-none :
    goal.link_statement-returns-in_err-body-in-For-clause-none
link_statement-returns-in_err-body-in-For-clause-none n c =
    let seen : stmt_view c.args.statement.now ≡ trees.FOR c.in-For.control (expr_view c.in-For.start) (expr_view
    c.in-For.limit) (option_map expr_view c.in-For.step) (trees.stmts_of (map stmt_view c.in-For.body.items)) =
    rw c.in-For.is (search (rules, code_stmt.the_lemmas)) in
    none_then _ c.in_err-body-in-For.field-0.0 _ _ c.in_err-body-in-For.ensures.none
    (λ h text t serves. ap (linked_stmt t) seen
    ∙ parts.no_body t c.in-For.control (expr_view c.in-For.start) (expr_view c.in-For.limit) (option_map expr_view
    c.in-For.step) (trees.stmts_of (map stmt_view c.in-For.body.items))
    (anchor_view c.in_ok-control-in-For.control) (slot_expr_view c.in_ok-start-in-For.start) (slot_expr_view
    c.in_ok-limit-in-For.limit) (option_map slot_expr_view c.in_ok-step-in-For.step)
    (c.in_ok-control-in-For.ensures.linked text t serves) (c.in_ok-start-in-For.ensures.linked text t serves)
    (c.in_ok-limit-in-For.ensures.linked text t serves) (c.in_ok-step-in-For.ensures.linked text t serves) (rw
    c.deref-in-For.ensures.value at (h text t serves))) (search rules)

pub link_statement-returns-in_err-condition-in-While-clause-none :
    goal.link_statement-returns-in_err-condition-in-While-clause-none
link_statement-returns-in_err-condition-in-While-clause-none n c =
    let seen : stmt_view c.args.statement.now ≡ trees.WHILE (expr_view c.in-While.condition) (trees.stmts_of (map
    stmt_view c.in-While.body.items)) =
    rw c.in-While.is (search (rules, code_stmt.the_lemmas)) in
    none_then _ c.in_err-condition-in-While.field-0.0 _ _ c.in_err-condition-in-While.ensures.none
    (λ h text t serves. ap (linked_stmt t) seen
    ∙ parts.while_no_condition t (expr_view c.in-While.condition) (trees.stmts_of (map stmt_view
    c.in-While.body.items))
    (h text t serves)) (search rules)

pub link_statement-returns-in_err-body-in-While-clause-none :
    goal.link_statement-returns-in_err-body-in-While-clause-none
link_statement-returns-in_err-body-in-While-clause-none n c =
    let seen : stmt_view c.args.statement.now ≡ trees.WHILE (expr_view c.in-While.condition) (trees.stmts_of (map
    stmt_view c.in-While.body.items)) =
    rw c.in-While.is (search (rules, code_stmt.the_lemmas)) in
    none_then _ c.in_err-body-in-While.field-0.0 _ _ c.in_err-body-in-While.ensures.none
    (λ h text t serves. ap (linked_stmt t) seen
    ∙ parts.while_no_body t (expr_view c.in-While.condition) (trees.stmts_of (map stmt_view c.in-While.body.items))
    (slot_expr_view c.in_ok-condition-in-While.condition) (c.in_ok-condition-in-While.ensures.linked text t serves)
    (rw c.deref-in-While.ensures.value at (h text t serves))) (search rules)

pub link_statement-returns-in_err-condition-in-Repeat-clause-none :
    goal.link_statement-returns-in_err-condition-in-Repeat-clause-none
link_statement-returns-in_err-condition-in-Repeat-clause-none n c =
    let seen : stmt_view c.args.statement.now ≡ trees.REPEAT (trees.stmts_of (map stmt_view
    c.in-Repeat.body.items)) (expr_view c.in-Repeat.condition) =
    rw c.in-Repeat.is (search (rules, code_stmt.the_lemmas)) in
    none_then _ c.in_err-condition-in-Repeat.field-0.0 _ _ c.in_err-condition-in-Repeat.ensures.none
    (λ h text t serves. ap (linked_stmt t) seen
    ∙ parts.until_no_condition t (expr_view c.in-Repeat.condition) (trees.stmts_of (map stmt_view
    c.in-Repeat.body.items))
    (h text t serves)) (search rules)

pub link_statement-returns-in_err-body-in-Repeat-clause-none :
    goal.link_statement-returns-in_err-body-in-Repeat-clause-none
link_statement-returns-in_err-body-in-Repeat-clause-none n c =
    let seen : stmt_view c.args.statement.now ≡ trees.REPEAT (trees.stmts_of (map stmt_view
    c.in-Repeat.body.items)) (expr_view c.in-Repeat.condition) =
    rw c.in-Repeat.is (search (rules, code_stmt.the_lemmas)) in
    none_then _ c.in_err-body-in-Repeat.field-0.0 _ _ c.in_err-body-in-Repeat.ensures.none
    (λ h text t serves. ap (linked_stmt t) seen
    ∙ parts.until_no_body t (expr_view c.in-Repeat.condition) (trees.stmts_of (map stmt_view c.in-Repeat.body.items))
    (slot_expr_view c.in_ok-condition-in-Repeat.condition) (c.in_ok-condition-in-Repeat.ensures.linked text t
    serves) (rw c.deref-in-Repeat.ensures.value at (h text t serves))) (search rules)

pub link_statement-returns-in_ok-otherwise-in-If-clause-linked :
    goal.link_statement-returns-in_ok-otherwise-in-If-clause-linked
link_statement-returns-in_ok-otherwise-in-If-clause-linked n c text t serves =
    let seen : stmt_view c.args.statement.now ≡ trees.IF (trees.arms_of (map arm_view c.in-If.arms.items))
    (trees.stmts_of (map stmt_view c.in-If.otherwise.items)) =
    ap stmt_view c.in-If.is ∙ choose_view c.in-If.arms c.in-If.otherwise in
    ap (linked_stmt t) seen
    ∙ parts.choice t (trees.arms_of (map arm_view c.in-If.arms.items)) (trees.stmts_of (map stmt_view
    c.in-If.otherwise.items))
    (arms_of (map slot_arm_view c.in_ok-arms-in-If.arms.items)) (stmts_of (map slot_stmt_view
    c.in_ok-otherwise-in-If.otherwise.items))
    (rw c.deref-in-If.ensures.value at (c.in_ok-arms-in-If.ensures.linked text t serves)) (rw
    c.deref-in-If-2.ensures.value at (c.in_ok-otherwise-in-If.ensures.linked text t serves))
    ∙ ap Some (sym c.choose.ensures)

pub link_statement-returns-in_ok-otherwise-in-Case-clause-linked :
    goal.link_statement-returns-in_ok-otherwise-in-Case-clause-linked
link_statement-returns-in_ok-otherwise-in-Case-clause-linked n c text t serves =
    let seen : stmt_view c.args.statement.now ≡ trees.CASE (expr_view c.in-Case.selector) (trees.case_arms_of (map
    case_arm_view c.in-Case.arms.items)) (trees.stmts_of (map stmt_view c.in-Case.otherwise.items)) =
    ap stmt_view c.in-Case.is ∙ select_view c.in-Case.selector c.in-Case.arms c.in-Case.otherwise in
    ap (linked_stmt t) seen
    ∙ parts.selection t (expr_view c.in-Case.selector) (trees.case_arms_of (map case_arm_view
    c.in-Case.arms.items)) (trees.stmts_of (map stmt_view c.in-Case.otherwise.items))
    (slot_expr_view c.in_ok-selector-in-Case.selector) (case_arms_of (map slot_case_arm_view
    c.in_ok-arms-in-Case.arms.items)) (stmts_of (map slot_stmt_view c.in_ok-otherwise-in-Case.otherwise.items))
    (c.in_ok-selector-in-Case.ensures.linked text t serves) (rw c.deref-in-Case.ensures.value at
    (c.in_ok-arms-in-Case.ensures.linked text t serves)) (rw c.deref-in-Case-2.ensures.value at
    (c.in_ok-otherwise-in-Case.ensures.linked text t serves))
    ∙ ap Some (sym c.select.ensures)

pub link_statement-returns-in_ok-body-in-For-clause-linked :
    goal.link_statement-returns-in_ok-body-in-For-clause-linked
link_statement-returns-in_ok-body-in-For-clause-linked n c text t serves =
    let seen : stmt_view c.args.statement.now ≡ trees.FOR c.in-For.control (expr_view c.in-For.start) (expr_view
    c.in-For.limit) (option_map expr_view c.in-For.step) (trees.stmts_of (map stmt_view c.in-For.body.items)) =
    rw c.in-For.is (search (rules, code_stmt.the_lemmas)) in
    ap (linked_stmt t) seen
    ∙ parts.counted t c.in-For.control (expr_view c.in-For.start) (expr_view c.in-For.limit) (option_map expr_view
    c.in-For.step) (trees.stmts_of (map stmt_view c.in-For.body.items))
    (anchor_view c.in_ok-control-in-For.control) (slot_expr_view c.in_ok-start-in-For.start) (slot_expr_view
    c.in_ok-limit-in-For.limit) (option_map slot_expr_view c.in_ok-step-in-For.step) (stmts_of (map slot_stmt_view
    c.in_ok-body-in-For.body.items))
    (c.in_ok-control-in-For.ensures.linked text t serves) (c.in_ok-start-in-For.ensures.linked text t serves)
    (c.in_ok-limit-in-For.ensures.linked text t serves) (c.in_ok-step-in-For.ensures.linked text t serves) (rw
    c.deref-in-For.ensures.value at (c.in_ok-body-in-For.ensures.linked text t serves))
    ∙ ap Some (sym c.count.ensures)

pub link_statements-loop-statement-init : goal.link_statements-loop-statement-init
link_statements-loop-statement-init n c text t serves =
    let xs = map stmt_view c.args.statements.now in
    subst (λ ds. Turned trees.Stmt SlotStmt (linked_stmt t) xs (map slot_stmt_view ds) xs) (sym
    c.new-linked.ensures.items)
    (turned_first (linked_stmt t) xs)

pub link_statements-loop-statement-preserved : goal.link_statements-loop-statement-preserved
link_statements-loop-statement-preserved n c text t serves =
    turned_more stmt_view slot_stmt_view (linked_stmt t) c.args.statements.now c.loop-statement.statement-index
    c.statement-item.result
    c.loop-statement.linked.items c.push.new.self.items c.in_ok-link_statement.field-0 c.loop-statement-test.true
    c.statement-item.is
    c.in_ok-push.ensures.items (c.in_ok-link_statement.ensures.linked text t serves)
    (c.loop-statement.invariant text t serves)

pub link_statements-returns-in_err-link_statement-clause-none :
    goal.link_statements-returns-in_err-link_statement-clause-none
link_statements-returns-in_err-link_statement-clause-none n c =
    let xs = c.args.statements.now in
    none_then _ c.in_err-link_statement.field-0.0 _ _ c.in_err-link_statement.ensures.none
    (λ h text t serves. stmts_linked t (map stmt_view xs)
    ∙ ap (option_map stmts_of) (turned_none stmt_view (linked_stmt t) xs c.loop-statement.statement-index
    c.statement-item.result (map slot_stmt_view c.loop-statement.linked.items) c.loop-statement-test.true
    c.statement-item.is (h text t serves) (c.loop-statement.invariant text t serves))) (search rules)

pub link_statements-returns-clause-linked : goal.link_statements-returns-clause-linked
link_statements-returns-clause-linked n c text t serves =
    let xs = c.args.statements.now in
    stmts_linked t (map stmt_view xs)
    ∙ ap (option_map stmts_of) (turned_all stmt_view (linked_stmt t) xs c.loop-statement.statement-index
    (map slot_stmt_view c.loop-statement.linked.items) c.loop-statement-test.false
    (c.loop-statement.invariant text t serves))

pub link_arms-loop-arm-init : goal.link_arms-loop-arm-init
link_arms-loop-arm-init n c text t serves =
    let xs = map arm_view c.args.arms.now in
    subst (λ ds. Turned trees.Arm Arm (linked_arm t) xs (map slot_arm_view ds) xs) (sym c.new-linked.ensures.items)
    (turned_first (linked_arm t) xs)

pub link_arms-loop-arm-preserved : goal.link_arms-loop-arm-preserved
link_arms-loop-arm-preserved n c text t serves =
    turned_more arm_view slot_arm_view (linked_arm t) c.args.arms.now c.loop-arm.arm-index c.arm-item.result
    c.loop-arm.linked.items c.push.new.self.items c.in_ok-link_arm.field-0 c.loop-arm-test.true c.arm-item.is
    c.in_ok-push.ensures.items (c.in_ok-link_arm.ensures.linked text t serves)
    (c.loop-arm.invariant text t serves)

pub link_arms-returns-in_err-link_arm-clause-none : goal.link_arms-returns-in_err-link_arm-clause-none
link_arms-returns-in_err-link_arm-clause-none n c =
    let xs = c.args.arms.now in
    none_then _ c.in_err-link_arm.field-0.0 _ _ c.in_err-link_arm.ensures.none
    (λ h text t serves. arms_linked t (map arm_view xs)
    ∙ ap (option_map arms_of) (turned_none arm_view (linked_arm t) xs c.loop-arm.arm-index
    c.arm-item.result (map slot_arm_view c.loop-arm.linked.items) c.loop-arm-test.true
    c.arm-item.is (h text t serves) (c.loop-arm.invariant text t serves))) (search rules)

pub link_arms-returns-clause-linked : goal.link_arms-returns-clause-linked
link_arms-returns-clause-linked n c text t serves =
    let xs = c.args.arms.now in
    arms_linked t (map arm_view xs)
    ∙ ap (option_map arms_of) (turned_all arm_view (linked_arm t) xs c.loop-arm.arm-index
    (map slot_arm_view c.loop-arm.linked.items) c.loop-arm-test.false
    (c.loop-arm.invariant text t serves))

pub link_case_arms-loop-arm-init : goal.link_case_arms-loop-arm-init
link_case_arms-loop-arm-init n c text t serves =
    let xs = map case_arm_view c.args.arms.now in
    subst (λ ds. Turned trees.CaseArm CaseArm (linked_case_arm t) xs (map slot_case_arm_view ds) xs) (sym
    c.new-linked.ensures.items)
    (turned_first (linked_case_arm t) xs)

pub link_case_arms-loop-arm-preserved : goal.link_case_arms-loop-arm-preserved
link_case_arms-loop-arm-preserved n c text t serves =
    turned_more case_arm_view slot_case_arm_view (linked_case_arm t) c.args.arms.now c.loop-arm.arm-index
    c.arm-item.result
    c.loop-arm.linked.items c.push.new.self.items c.in_ok-link_case_arm.field-0 c.loop-arm-test.true c.arm-item.is
    c.in_ok-push.ensures.items (c.in_ok-link_case_arm.ensures.linked text t serves)
    (c.loop-arm.invariant text t serves)

pub link_case_arms-returns-in_err-link_case_arm-clause-none :
    goal.link_case_arms-returns-in_err-link_case_arm-clause-none
link_case_arms-returns-in_err-link_case_arm-clause-none n c =
    let xs = c.args.arms.now in
    none_then _ c.in_err-link_case_arm.field-0.0 _ _ c.in_err-link_case_arm.ensures.none
    (λ h text t serves. case_arms_linked t (map case_arm_view xs)
    ∙ ap (option_map case_arms_of) (turned_none case_arm_view (linked_case_arm t) xs c.loop-arm.arm-index
    c.arm-item.result (map slot_case_arm_view c.loop-arm.linked.items) c.loop-arm-test.true
    c.arm-item.is (h text t serves) (c.loop-arm.invariant text t serves))) (search rules)

pub link_case_arms-returns-clause-linked : goal.link_case_arms-returns-clause-linked
link_case_arms-returns-clause-linked n c text t serves =
    let xs = c.args.arms.now in
    case_arms_linked t (map case_arm_view xs)
    ∙ ap (option_map case_arms_of) (turned_all case_arm_view (linked_case_arm t) xs c.loop-arm.arm-index
    (map slot_case_arm_view c.loop-arm.linked.items) c.loop-arm-test.false
    (c.loop-arm.invariant text t serves))
