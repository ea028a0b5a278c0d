use Rattle.st_lex.proofs.Numbers.{breaks_off}
use Rattle.st_lex.proofs.number.value.Goals as goal

pub returns-in_err-value : goal.returns-in_err-value
returns-in_err-value c = rw c.from_residual.ensures (breaks_off c.args.base c.loop-rest.value c.loop-rest.rest.now _
    c.requires c.in-len1-up.len_at_least c.if-b-ne95.true c.in_err-value.ensures c.loop-rest.invariant.told)
