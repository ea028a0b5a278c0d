use Rattle.st_lex.proofs.Durations.{with_part}
use Rattle.st_lex.proofs.duration.+parts.Goals as goal

pub returns : goal.returns
returns t c =
    with_part c.args.units.now c.args.is_first c.is_part_in.result c.args.text.now c.over_underscore-front.result.now
    c.leading_part.result.rest.now c.part_milliseconds.result c.parts-behind.result c.sum.result
    c.in-len1-up.len_at_least c.over_underscore-front.ensures c.leading_part.ensures.rest c.is_part_in.ensures
    c.if-not-is_part_in.false c.part_milliseconds.ensures c.parts-behind.ensures c.sum.ensures
