use Rattle.std.proofs.Common.{◌∙◌, ap}
use Rattle.st_types.specs.ExpressionViews.{expr_view}
use Rattle.st_rules.specs.Demands.{demands_of_standard}
use Rattle.symbols.specs.Standard.{standard_view}
use Rattle.st_typing.specs.Arguments.{demands_view}
use Rattle.st_typing.proofs.CallLemmas.{two_standard}
use Rattle.st_typing.proofs.calls.call_of_two.Goals as goal

pub returns-clause-broken : goal.returns-clause-broken
returns-clause-broken c env is same =
    let s = standard_view c.args.called in
    let ds = demands_view c.demands_of_standard-demands.result in
    let common = rw (c.kind_of.ensures, c.kind_of-2.ensures, is, same) at c.common_of_two-common.ensures in
    two_standard env c.args.place s (expr_view c.args.first.expression.now) (expr_view c.args.second.expression.now) ds
    _ _ _ _ (c.demands_of_standard-demands.ensures ∙ ap (demands_of_standard c.args.place s) common)
    (rw c.of_argument.ensures at (c.wrong_at.ensures env is))
    (rw c.of_argument-2.ensures at (c.wrong_at-2.ensures env same)) (rw c.count.ensures at c.wrong_count.ensures)
