use Rattle.std.proofs.Common.{sym, rules, ◌∙◌, ap}
use mir.Syntax.{w128}
use Rattle.std.specs.Int.RustNames.{FitsSigned}
use Rattle.std.proofs.lemmas.Int.{ints, to_z-of_z}
use Rattle.st_types.specs.Values.{in_range}
use Rattle.std_blocks.proofs.NumberLemmas.{converted}
use Rattle.std_blocks.proofs.functions.conversion.Goals as goal

pub returns-in-Ok : goal.returns-in-Ok
returns-in-Ok c =
    let fits : FitsSigned w128 c.number.result = search (rules, ints) in
    let e = to_z-of_z w128 c.number.result fits ∙ c.number.ensures.number in
    sym (converted c.args.to c.args.x.number c.in-Ok.value
    (ap (in_range c.args.to) (sym e) ∙ sym c.new.ensures ∙ c.in-Ok.is))
