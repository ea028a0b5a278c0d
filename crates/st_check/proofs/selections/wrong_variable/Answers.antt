use Rattle.std.proofs.Common.{map}
use Rattle.st_types.specs.Expressions.{selectors_of}
use Rattle.st_types.specs.ExpressionViews.{selector_view}
use Rattle.symbols.specs.PlaceTypes.{place_type_view}
use Rattle.st_check.proofs.TargetLemmas.{variable_is, selections_collected, unknown_collected}
use Rattle.st_check.proofs.selections.wrong_variable.Goals as goal

pub returns-in-Some : goal.returns-in-Some
returns-in-Some c env serves =
    let v = c.args.variable.now in
    rw (variable_is v) (selections_collected env v.name (selectors_of (map selector_view v.selectors.items))
    (place_type_view c.in-Some.declared) _ _ (c.in-Some.ensures env serves)
    (rw c.deref.ensures.value at (c.wrong_selectors.ensures env.text serves.tables)))

pub returns-in-None : goal.returns-in-None
returns-in-None c env serves =
    let v = c.args.variable.now in
    rw (variable_is v) (unknown_collected env v.name (selectors_of (map selector_view v.selectors.items)) _ _
    (c.in-None.ensures env serves) c.add.ensures)
