use Rattle.std.proofs.Common.{◌∙◌, ap}
use Rattle.st_types.specs.ExpressionViews.{expr_view}
use Rattle.st_rules.specs.Demands.{demands_of_standard}
use Rattle.symbols.specs.Standard.{standard_view}
use Rattle.st_typing.specs.Arguments.{demands_view}
use Rattle.st_typing.proofs.CallLemmas.{three_standard}
use Rattle.st_typing.proofs.calls.call_of_three.Goals as goal

pub returns-clause-broken : goal.returns-clause-broken
returns-clause-broken c env is same last =
    let s = standard_view c.args.called in
    let ds = demands_view c.demands_of_standard-demands.result in
    let common = rw (c.kind_of.ensures, c.kind_of-2.ensures, c.kind_of-3.ensures, is, same, last)
    at c.common_of_three-common.ensures in
    three_standard env c.args.place s (expr_view c.args.first.expression.now)
    (expr_view c.args.second.expression.now) (expr_view c.args.third.expression.now) ds _ _ _ _ _
    (c.demands_of_standard-demands.ensures ∙ ap (demands_of_standard c.args.place s) common)
    (rw c.of_argument.ensures at (c.wrong_at.ensures env is))
    (rw c.of_argument-2.ensures at (c.wrong_at-2.ensures env same))
    (rw c.of_argument-3.ensures at (c.wrong_at-3.ensures env last)) (rw c.count.ensures at c.wrong_count.ensures)
