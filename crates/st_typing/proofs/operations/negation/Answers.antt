use Rattle.std.proofs.Common.{◌∙◌, sym, ap, []}
use Rattle.std.specs.Prelude.{if◌then◌else◌}
use Rattle.st_rules.proofs.CollectLemmas.{collects_is, collects_nothing}
use Rattle.st_typing.proofs.TypingLemmas.{untyped_typed, negation_untyped, negation_typed}
use Rattle.st_typing.proofs.operations.negation.Goals as goal

pub returns-then-is_untyped_typing : goal.returns-then-is_untyped_typing
returns-then-is_untyped_typing c env e is =
    negation_untyped env c.args.operator c.args.place e _
    (untyped_typed env e c.args.typing is ∙ sym c.is_untyped_typing.ensures ∙ c.if-is_untyped_typing.true)

pub returns : goal.returns
returns c env e is =
    negation_typed env c.args.operator c.args.place e c.args.typing _ _
    (untyped_typed env e c.args.typing is ∙ sym c.is_untyped_typing.ensures ∙ c.if-is_untyped_typing.false) is
    c.wrong_unary.ensures
