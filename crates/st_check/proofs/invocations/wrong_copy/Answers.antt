use Rattle.std.proofs.Common.{◌∙◌, ap, sym}
use Rattle.st_types.specs.ExpressionViews.{variable_view}
use Rattle.st_meaning.specs.Resolution.{place_of_variable}
use Rattle.st_rules.specs.declared.demand.Purpose.TheVariants.{Output}
use Rattle.st_rules.specs.Roots.{demand_of_type}
use Rattle.st_rules.specs.Typings.{typing_of_type}
use Rattle.symbols.specs.PlaceTypes.{place_type_view}
use Rattle.st_check.proofs.InvocationLemmas.{copy_collected, output_told}
use Rattle.st_check.proofs.TargetLemmas.{variable_is}
use Rattle.st_check.proofs.invocations.wrong_copy.Goals as goal

pub returns-in-Output : goal.returns-in-Output
returns-in-Output c env instance serves is =
    let seen = c.in-Output.is in
    let x = c.in-Output.name in
    let v = c.in-Output.variable in
    let output = output_told env instance x.name (place_type_view c.args.declared) _ is
    (c.block_variable-output.ensures env.text serves.tables) in
    rw seen (copy_collected env instance x (variable_view v) _ _ _ _ _
    (c.demand_of_type-demand.ensures env serves.tables ∙ ap (demand_of_type env (Output x.place)) output)
    (c.typing_of_place-typing.ensures env.text serves.tables
    ∙ ap (typing_of_type env.text) (c.type_of_place.ensures env serves))
    (sym (ap place_of_variable (variable_is v)))
    (rw c.allows.ensures at c.add_unless.ensures))
