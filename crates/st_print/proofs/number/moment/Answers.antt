use Rattle.std.proofs.Common.{sym, ◌∙◌, arith}
use Rattle.std.proofs.lemmas.Fmt.{decimal_injective}
use Rattle.st_print.proofs.number.moment.Goals as goal

pub returns-else-moment-lt-MOMENT_LIMIT-clause-none : goal.returns-else-moment-lt-MOMENT_LIMIT-clause-none
returns-else-moment-lt-MOMENT_LIMIT-clause-none c = λ n small e.
    let same = decimal_injective c.in_ok-moment.moment n (omega arith) (omega arith)
    (sym c.in_ok-moment.ensures.spelled ∙ e) in
    absurd (omega arith)
