use Rattle.std.proofs.Common.{rules, ◌≡◌, sym, ap, ◌∙◌}
use Rattle.st_types.specs.declared.expression.Expr as code_expr
use Rattle.st_types.specs.Expressions.{literal, parenthesis, unary, binary}
use Rattle.st_types.specs.ExpressionViews.{expr_view}
use Rattle.st_meaning.specs.Resolution.{is_untyped, is_joining}
use Rattle.st_rules.specs.declared.typings.Typing.TheVariants.{Untyped}
use Rattle.st_typing.proofs.PartLemmas.{left_untyped, right_untyped, typing_untyped, literal_within, parenthesis_within}
use Rattle.st_typing.proofs.PartLemmas.{unary_within, untyped_binary_within}
use Rattle.st_typing.proofs.settling.+settle.Goals as goal

pub returns-in-Literal : goal.returns-in-Literal
returns-in-Literal t c env untyped =
    let is = c.in-Literal.is in
    let seen : expr_view c.args.expression.now ≡ literal c.in-Literal.literal =
    rw is (search (rules, code_expr.the_lemmas)) in
    let whole = (sym (ap is_untyped seen)) ∙ untyped in
    literal_within env c.args.offered c.in-Literal.literal (expr_view c.args.expression.now) c.args.broken.now
    c.settle_literal.new.broken seen (c.settle_literal.ensures env whole)

pub returns-in-Parenthesis : goal.returns-in-Parenthesis
returns-in-Parenthesis t c env untyped =
    let is = c.in-Parenthesis.is in
    let x = expr_view c.in-Parenthesis.inner.value in
    let seen : expr_view c.args.expression.now ≡ parenthesis c.in-Parenthesis.field-0 x =
    rw is (search (rules, code_expr.the_lemmas)) in
    let whole = (sym (ap is_untyped seen)) ∙ untyped in
    let inner = rw c.deref.ensures at (c.settle.ensures env) whole in
    parenthesis_within env c.args.offered c.in-Parenthesis.field-0 x (expr_view c.args.expression.now)
    c.args.broken.now c.settle.new.broken seen inner

pub returns-in-Unary : goal.returns-in-Unary
returns-in-Unary t c env untyped =
    let is = c.in-Unary.is in
    let x = expr_view c.in-Unary.operand.value in
    let seen : expr_view c.args.expression.now ≡ unary c.in-Unary.operator c.in-Unary.place x =
    rw is (search (rules, code_expr.the_lemmas)) in
    let whole = (sym (ap is_untyped seen)) ∙ untyped in
    let inner = rw c.deref-in-Unary.ensures at (c.settle-in-Unary.ensures env) whole in
    unary_within env c.args.offered c.in-Unary.operator c.in-Unary.place x (expr_view c.args.expression.now) Untyped
    _ _ _ seen (sym (typing_untyped env x whole)) inner c.wrong_unary.ensures

pub returns-in-Binary : goal.returns-in-Binary
returns-in-Binary t c env untyped =
    let is = c.in-Binary.is in
    let l = expr_view c.in-Binary.left.value in
    let r = expr_view c.in-Binary.right.value in
    let seen : expr_view c.args.expression.now ≡ binary c.in-Binary.operator l r =
    rw is (search (rules, code_expr.the_lemmas)) in
    let whole = (sym (ap is_untyped seen)) ∙ untyped in
    let left = rw c.deref-in-Binary.ensures at (c.settle-in-Binary.ensures env)
    (left_untyped (is_joining c.in-Binary.operator) l r whole) in
    let right = rw c.deref-in-Binary-2.ensures at (c.settle-in-Binary-2.ensures env)
    (right_untyped (is_joining c.in-Binary.operator) l r whole) in
    let itself = rw (c.first_byte.ensures, c.deref-in-Binary-3.ensures) at c.wrong_binary.ensures in
    untyped_binary_within env c.args.offered c.in-Binary.operator l r (expr_view c.args.expression.now)
    _ _ _ _ seen whole left right itself
