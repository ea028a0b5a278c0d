use Rattle.std.proofs.Common.{◌∙◌, sym}
use Rattle.st_types.specs.ExpressionViews.{expr_view}
use Rattle.st_typing.proofs.TypingLemmas.{operation_untyped, operation_typed, untyped_joined}
use Rattle.st_typing.proofs.operations.operation.Goals as goal

pub returns-then-stays_untyped-clause-typing : goal.returns-then-stays_untyped-clause-typing
returns-then-stays_untyped-clause-typing c env left right =
    untyped_joined env c.args.operator (expr_view c.args.left.now) (expr_view c.args.right.now) c.args.left_typing
    c.args.right_typing left right (sym c.stays_untyped.ensures ∙ c.if-stays_untyped.true)

pub returns-then-stays_untyped-clause-broken : goal.returns-then-stays_untyped-clause-broken
returns-then-stays_untyped-clause-broken c env left right =
    operation_untyped env c.args.operator (expr_view c.args.left.now) (expr_view c.args.right.now) c.args.left_typing
    c.args.right_typing _ left right (sym c.stays_untyped.ensures ∙ c.if-stays_untyped.true)

pub returns-clause-broken : goal.returns-clause-broken
returns-clause-broken c env left right =
    operation_typed env c.args.operator (expr_view c.args.left.now) (expr_view c.args.right.now) c.args.left_typing
    c.args.right_typing c.offered-kind.result _ _ _ _ left right (sym c.stays_untyped.ensures ∙ c.if-stays_untyped.false)
    c.offered-kind.ensures (c.settle_untyped.ensures env left) (c.settle_untyped-2.ensures env right)
    (rw c.first_byte-place.ensures at c.wrong_binary.ensures)
