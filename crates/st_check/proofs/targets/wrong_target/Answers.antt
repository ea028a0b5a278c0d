use Rattle.st_types.specs.ExpressionViews.{variable_view}
use Rattle.st_rules.proofs.CollectLemmas.{collects_nothing}
use Rattle.st_check.proofs.TargetLemmas.{target_collected, variable_is}
use Rattle.st_check.proofs.TypeLemmas.{is_told}
use Rattle.st_check.proofs.targets.wrong_target.Goals as goal

pub returns-then-is_some : goal.returns-then-is_some
returns-then-is_some c env serves =
    let v = c.args.variable.now in
    let exists = is_told _ _ _ _ _ (c.type_of_place.ensures env serves) c.is_some.ensures c.if-is_some.true in
    target_collected env c.args.runs (variable_view v) _ _ _ _ exists (c.wrong_variable.ensures env serves)
    (rw (variable_is v) (rw c.deref.ensures.value at (c.wrong_assignment.ensures env serves)))

pub returns-else-is_some : goal.returns-else-is_some
returns-else-is_some c env serves =
    let exists = is_told _ _ _ _ _ (c.type_of_place.ensures env serves) c.is_some.ensures c.if-is_some.false in
    target_collected env c.args.runs (variable_view c.args.variable.now) _ _ _ _ exists
    (c.wrong_variable.ensures env serves) (collects_nothing _)
