use Rattle.std.proofs.Common.{◌≡◌, get_or, rules}
use Rattle.st_print.proofs.NumberLemmas.{map_none, none_behind_minus}
use Rattle.st_print.proofs.number.whole_number.Goals as goal

pub returns-in-45-clause-none : goal.returns-in-45-clause-none
returns-in-45-clause-none c =
    let first : get_or c.args.field.now 0 0 ≡ 45 = search rules in
    map_none c.negative.result (λ no. none_behind_minus c.args.field.now c.in-45.len_at_least first no)
    c.negative.ensures.none
