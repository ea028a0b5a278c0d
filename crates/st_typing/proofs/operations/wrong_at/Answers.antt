use Rattle.st_types.specs.ExpressionViews.{expr_view}
use Rattle.st_typing.proofs.TypingLemmas.{by_place}
use Rattle.st_typing.proofs.operations.wrong_at.Goals as goal

pub returns : goal.returns
returns c env is =
    by_place env c.args.demand (expr_view c.args.expression.now) c.args.typing _ _ _ is
    (rw c.expected_of.ensures at (c.settle_untyped.ensures env is))
    (rw c.first_byte.ensures at c.wrong_typing.ensures)
