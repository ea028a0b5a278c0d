use Rattle.std.proofs.Common.{sym, ◌∙◌, arith, ◌+◌}
use Rattle.std.proofs.lemmas.Fmt.{decimal_injective}
use Rattle.st_print.proofs.number.negative.Goals as goal

pub returns-then-magnitude-eq0-clause-none : goal.returns-then-magnitude-eq0-clause-none
returns-then-magnitude-eq0-clause-none c = λ n small e.
    let same = decimal_injective c.in_ok-magnitude.magnitude (n + 1) (omega arith) small
    (sym c.in_ok-magnitude.ensures.spelled ∙ e) in
    absurd (omega arith)
