use Rattle.std.proofs.Common.{◌∙◌, sym, ap, []}
use Rattle.std.specs.Prelude.{if◌then◌else◌}
use Rattle.st_types.specs.ExpressionViews.{expr_view}
use Rattle.st_rules.specs.ExpressionRules.{wrong_within}
use Rattle.st_rules.proofs.CollectLemmas.{collects_is, collects_nothing}
use Rattle.st_typing.proofs.TypingLemmas.{untyped_typed}
use Rattle.st_typing.proofs.operations.settle_untyped.Goals as goal

pub returns-then-not-is_untyped_typing : goal.returns-then-not-is_untyped_typing
returns-then-not-is_untyped_typing c env is =
    let e = expr_view c.args.expression.now in
    let u = untyped_typed env e c.args.typing is ∙ sym c.is_untyped_typing.ensures ∙ c.if-not-is_untyped_typing.true in
    collects_is [] _ _ _ (sym (ap (λ b. if b then wrong_within env c.args.offered e else []) u)) (collects_nothing _)

pub returns : goal.returns
returns c env is =
    let e = expr_view c.args.expression.now in
    let u = untyped_typed env e c.args.typing is ∙ sym c.is_untyped_typing.ensures ∙ c.if-not-is_untyped_typing.false in
    collects_is (wrong_within env c.args.offered e) _ _ _
    (sym (ap (λ b. if b then wrong_within env c.args.offered e else []) u)) (c.settle.ensures env u)
