-- Lists whose mirrors are the same are of one length.
use Rattle.std.proofs.Common.{◌≡◌, ◌∙◌, ap, ℕ, suc, List, [], ◌∷◌, length, map, refl, sym}
use Rattle.st_types.specs.declared.expression.Expr as code_expr
use Rattle.st_types.specs.declared.expression.Selector as code_selector
use Rattle.st_types.specs.Expressions.{Exprs, no_exprs, expr_then, exprs_of, Selectors, no_selectors, selector_then}
use Rattle.st_types.specs.Expressions.{selectors_of}
use Rattle.st_types.specs.ExpressionViews.{expr_view, selector_view}
use Rattle.st_types.specs.declared.statement.Stmt as code_stmt
use Rattle.st_types.specs.declared.statement.Arm as code_arm
use Rattle.st_types.specs.declared.statement.CaseArm as code_case_arm
use Rattle.st_types.specs.Statements.{Stmts, no_stmts, stmt_then, stmts_of, Arms, no_arms, arm_then, arms_of, CaseArms}
use Rattle.st_types.specs.Statements.{no_case_arms, case_arm_then, case_arms_of}
use Rattle.st_types.specs.StatementViews.{stmt_view, arm_view, case_arm_view}
use Rattle.st_types.specs.declared.initial.InitialElement as code_element
use Rattle.st_types.specs.declared.initial.InitialMember as code_member
use Rattle.st_types.specs.Initials.{Elements, no_elements, element_then, elements_of, Members, no_members, member_then}
use Rattle.st_types.specs.Initials.{members_of}
use Rattle.st_types.specs.InitialViews.{element_view, member_view}

abbrev expr_count : Exprs → ℕ
expr_count no_exprs = 0
expr_count (expr_then e es) = suc (expr_count es)

expr_count_is : (a : List code_expr.Expr) → expr_count (exprs_of (map expr_view a)) ≡ length a
expr_count_is [] = refl
expr_count_is (e ∷ es) = ap suc (expr_count_is es)

pub same_expr_count : (a b : List code_expr.Expr) → exprs_of (map expr_view a) ≡ exprs_of (map expr_view b)
    → length a ≡ length b
same_expr_count a b e = sym (expr_count_is a) ∙ ap expr_count e ∙ expr_count_is b

abbrev selector_count : Selectors → ℕ
selector_count no_selectors = 0
selector_count (selector_then x xs) = suc (selector_count xs)

selector_count_is : (a : List code_selector.Selector) → selector_count (selectors_of (map selector_view a)) ≡ length a
selector_count_is [] = refl
selector_count_is (x ∷ xs) = ap suc (selector_count_is xs)

pub same_selector_count : (a b : List code_selector.Selector)
    → selectors_of (map selector_view a) ≡ selectors_of (map selector_view b) → length a ≡ length b
same_selector_count a b e = sym (selector_count_is a) ∙ ap selector_count e ∙ selector_count_is b

abbrev stmt_count : Stmts → ℕ
stmt_count no_stmts = 0
stmt_count (stmt_then x rest) = suc (stmt_count rest)

stmt_count_is : (a : List code_stmt.Stmt) → stmt_count (stmts_of (map stmt_view a)) ≡ length a
stmt_count_is [] = refl
stmt_count_is (x ∷ xs) = ap suc (stmt_count_is xs)

pub same_stmt_count : (a b : List code_stmt.Stmt) → stmts_of (map stmt_view a) ≡ stmts_of (map stmt_view b)
    → length a ≡ length b
same_stmt_count a b e = sym (stmt_count_is a) ∙ ap stmt_count e ∙ stmt_count_is b

abbrev arm_count : Arms → ℕ
arm_count no_arms = 0
arm_count (arm_then e xs rest) = suc (arm_count rest)

arm_count_is : (a : List code_arm.Arm) → arm_count (arms_of (map arm_view a)) ≡ length a
arm_count_is [] = refl
arm_count_is (x ∷ xs) = ap suc (arm_count_is xs)

pub same_arm_count : (a b : List code_arm.Arm) → arms_of (map arm_view a) ≡ arms_of (map arm_view b)
    → length a ≡ length b
same_arm_count a b e = sym (arm_count_is a) ∙ ap arm_count e ∙ arm_count_is b

abbrev case_arm_count : CaseArms → ℕ
case_arm_count no_case_arms = 0
case_arm_count (case_arm_then labels xs rest) = suc (case_arm_count rest)

case_arm_count_is : (a : List code_case_arm.CaseArm) → case_arm_count (case_arms_of (map case_arm_view a)) ≡ length a
case_arm_count_is [] = refl
case_arm_count_is (x ∷ xs) = ap suc (case_arm_count_is xs)

pub same_case_arm_count : (a b : List code_case_arm.CaseArm)
    → case_arms_of (map case_arm_view a) ≡ case_arms_of (map case_arm_view b) → length a ≡ length b
same_case_arm_count a b e = sym (case_arm_count_is a) ∙ ap case_arm_count e ∙ case_arm_count_is b

abbrev element_count : Elements → ℕ
element_count no_elements = 0
element_count (element_then x rest) = suc (element_count rest)

element_count_is : (a : List code_element.InitialElement) → element_count (elements_of (map element_view a)) ≡ length a
element_count_is [] = refl
element_count_is (x ∷ xs) = ap suc (element_count_is xs)

pub same_element_count : (a b : List code_element.InitialElement)
    → elements_of (map element_view a) ≡ elements_of (map element_view b) → length a ≡ length b
same_element_count a b e = sym (element_count_is a) ∙ ap element_count e ∙ element_count_is b

abbrev member_count : Members → ℕ
member_count no_members = 0
member_count (member_then x v rest) = suc (member_count rest)

member_count_is : (a : List code_member.InitialMember) → member_count (members_of (map member_view a)) ≡ length a
member_count_is [] = refl
member_count_is (x ∷ xs) = ap suc (member_count_is xs)

pub same_member_count : (a b : List code_member.InitialMember)
    → members_of (map member_view a) ≡ members_of (map member_view b) → length a ≡ length b
same_member_count a b e = sym (member_count_is a) ∙ ap member_count e ∙ member_count_is b
