use Rattle.st_types.specs.ExpressionViews.{expr_view}
use Rattle.st_parse.proofs.Clauses.{expression_found, expression_refused, expression_only}
use Rattle.st_parse.proofs.reader.read_expression.Goals as goal

pub returns-clause-found : goal.returns-clause-found
returns-clause-found c = expression_found (λ x. (expr_view x.0, x.1.now)) c.args.tokens.now c.expr.result c.expr.ensures

pub returns-clause-refused : goal.returns-clause-refused
returns-clause-refused c =
    expression_refused (λ x. (expr_view x.0, x.1.now)) c.args.tokens.now c.expr.result c.expr.ensures

pub returns-clause-only : goal.returns-clause-only
returns-clause-only c = expression_only (λ x. (expr_view x.0, x.1.now)) c.args.tokens.now c.expr.result c.expr.ensures
