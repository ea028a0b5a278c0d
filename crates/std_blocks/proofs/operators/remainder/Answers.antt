use Rattle.std.proofs.Common.{◌≢◌, ap, ◌∙◌, rules}
use mir.Syntax.{w128}
use Rattle.std.specs.Prelude.{pos}
use Rattle.std.specs.Int.RustNames.{FitsSigned}
use Rattle.std.proofs.lemmas.Int.{ints, to_z-of_z}
use Rattle.st_types.specs.Values.{in_range}
use Rattle.std_blocks.proofs.Remainders.{remainder_is}
use Rattle.std_blocks.proofs.operators.remainder.Goals as goal

pub returns : goal.returns
returns c =
    let apart : c.args.b.number ≢ pos 0 = search rules in
    let fits : FitsSigned w128 c.rest.result = search (rules, ints) in
    c.new-2.ensures ∙ ap (in_range c.args.kind) (to_z-of_z w128 c.rest.result fits ∙ c.rest.ensures
    ∙ remainder_is c.args.a.number c.args.b.number apart)
