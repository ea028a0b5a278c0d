use Rattle.std.proofs.Common.{◌∙◌, ap, sym}
use mir.Syntax.{w128}
use Rattle.std.proofs.lemmas.Int.{to_z-of_z}
use Rattle.st_types.specs.Values.{in_range}
use Rattle.std_blocks.proofs.MemberLemmas.{value_of, no_value}
use Rattle.std_blocks.proofs.members.held_value.Goals as goal

pub returns-in-Ok-clause-is : goal.returns-in-Ok-clause-is
returns-in-Ok-clause-is c =
    let same = to_z-of_z w128 c.args.number c.ranges.number in
    value_of c.args.kind c.args.number c.in-Ok.value
    (ap (in_range c.args.kind) (sym same) ∙ sym c.new.ensures ∙ c.in-Ok.is)

pub returns-in-Err-clause-none : goal.returns-in-Err-clause-none
returns-in-Err-clause-none c =
    let same = to_z-of_z w128 c.args.number c.ranges.number in
    no_value c.args.kind c.args.number _
    (ap (in_range c.args.kind) (sym same) ∙ sym c.new.ensures ∙ c.in-Err.is)
