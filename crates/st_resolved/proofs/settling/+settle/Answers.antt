use Rattle.std.proofs.Common.{rules, ◌≡◌, sym, ap, ◌∙◌}
use Rattle.st_types.specs.declared.expression.Expr as code_expr
use Rattle.st_types.specs.Expressions.{parenthesis, unary, binary}
use Rattle.st_types.specs.ExpressionViews.{expr_view}
use Rattle.st_meaning.specs.Resolution.{is_untyped, is_joining, resolved_expr}
use Rattle.st_resolved.proofs.SettleLemmas.{binary_settled}
use Rattle.st_resolved.proofs.settling.+settle.Goals as goal
use Rattle.st_typing.proofs.PartLemmas.{left_untyped, right_untyped}

pub returns-in-Parenthesis : goal.returns-in-Parenthesis
unfolding code_expr.out-Expr denote.Hole.Carrier.out
returns-in-Parenthesis t c env untyped =
    let is = c.in-Parenthesis.is in
    let e = c.args.expression.now in
    let at = c.in-Parenthesis.field-0 in
    let x = c.in-Parenthesis.inner.value in
    let seen : expr_view e ≡ parenthesis at (expr_view x) = rw is (search (rules, code_expr.the_lemmas)) in
    let same : c.deref_mut.result.now ≡ x = c.deref_mut.ensures.value ∙ ap (λ b. b.value) c.in-Parenthesis.inner-is in
    let inner = rw same at (c.settle.ensures env) (sym (ap is_untyped seen) ∙ untyped) in
    rw is (search (rules, code_expr.the_lemmas)) ∙ ap (parenthesis at) inner
    ∙ sym (ap (resolved_expr env.text env.unit c.args.offered) seen)

pub returns-in-Unary : goal.returns-in-Unary
unfolding code_expr.out-Expr denote.Hole.Carrier.out
returns-in-Unary t c env untyped =
    let is = c.in-Unary.is in
    let e = c.args.expression.now in
    let op = c.in-Unary.field-0 in
    let at = c.in-Unary.field-1 in
    let x = c.in-Unary.operand.value in
    let seen : expr_view e ≡ unary op at (expr_view x) = rw is (search (rules, code_expr.the_lemmas)) in
    let same : c.deref_mut-in-Unary.result.now ≡ x =
    c.deref_mut-in-Unary.ensures.value ∙ ap (λ b. b.value) c.in-Unary.operand-is in
    let inner = rw same at (c.settle-in-Unary.ensures env) (sym (ap is_untyped seen) ∙ untyped) in
    rw is (search (rules, code_expr.the_lemmas)) ∙ ap (unary op at) inner
    ∙ sym (ap (resolved_expr env.text env.unit c.args.offered) seen)

pub returns-in-Binary : goal.returns-in-Binary
unfolding code_expr.out-Expr denote.Hole.Carrier.out
returns-in-Binary t c env untyped =
    let is = c.in-Binary.is in
    let e = c.args.expression.now in
    let op = c.in-Binary.field-0 in
    let a = c.in-Binary.left.value in
    let b = c.in-Binary.right.value in
    let l = expr_view a in
    let r = expr_view b in
    let seen : expr_view e ≡ binary op l r = rw is (search (rules, code_expr.the_lemmas)) in
    let whole = sym (ap is_untyped seen) ∙ untyped in
    let same-left : c.deref_mut-in-Binary.result.now ≡ a =
    c.deref_mut-in-Binary.ensures.value ∙ ap (λ x. x.value) c.in-Binary.left-is in
    let same-right : c.deref_mut-in-Binary-2.result.now ≡ b =
    c.deref_mut-in-Binary-2.ensures.value ∙ ap (λ x. x.value) c.in-Binary.right-is in
    let left = rw same-left at (c.settle-in-Binary.ensures env) (left_untyped (is_joining op) l r whole) in
    let right = rw same-right at (c.settle-in-Binary-2.ensures env) (right_untyped (is_joining op) l r whole) in
    rw is (search (rules, code_expr.the_lemmas)) ∙ binary_settled env c.args.offered op l r _ _ whole left right
    ∙ sym (ap (resolved_expr env.text env.unit c.args.offered) seen)
