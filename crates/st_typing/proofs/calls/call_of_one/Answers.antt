use Rattle.std.proofs.Common.{◌∙◌, ap}
use Rattle.st_types.specs.ExpressionViews.{expr_view}
use Rattle.st_rules.specs.Demands.{demands_of_standard}
use Rattle.st_rules.specs.Typings.{kind_of, typing_of_kind}
use Rattle.symbols.specs.Standard.{standard_view}
use Rattle.st_typing.specs.Arguments.{demands_view}
use Rattle.st_typing.proofs.CallLemmas.{common_of_one, one_standard}
use Rattle.st_typing.proofs.calls.call_of_one.Goals as goal

pub returns-clause-typing : goal.returns-clause-typing
returns-clause-typing c =
    c.typing_of_kind.ensures
    ∙ ap typing_of_kind (c.standard_kind.ensures _
    (c.kind_of-common.ensures ∙ common_of_one (standard_view c.args.called) (kind_of c.args.only.typing)))

pub returns-clause-broken : goal.returns-clause-broken
returns-clause-broken c env is =
    let s = standard_view c.args.called in
    let ds = demands_view c.demands_of_standard-demands.result in
    let common = c.kind_of-common.ensures ∙ ap kind_of is ∙ common_of_one s _ in
    one_standard env c.args.place s (expr_view c.args.only.expression.now) ds _ _ _
    (c.demands_of_standard-demands.ensures ∙ ap (demands_of_standard c.args.place s) common)
    (rw c.of_argument.ensures at (c.wrong_at.ensures env is)) (rw c.count.ensures at c.wrong_count.ensures)
