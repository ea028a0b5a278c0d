use Rattle.std.proofs.Common.{sym, ◌∙◌}
use Rattle.st_decl.proofs.JudgeLemmas.{nothing_found}
use Rattle.st_decl.proofs.judging.answered.Goals as goal

pub returns-in-None-Ok-clause-judged : goal.returns-in-None-Ok-clause-judged
returns-in-None-Ok-clause-judged c faults checked =
    nothing_found faults c.args.broken.now checked.room (sym c.in-None-Ok.is-0 ∙ c.first.ensures)
    (rw c.in-None-Ok.is-1 at checked.covers)
