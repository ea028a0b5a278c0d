use Rattle.std.proofs.Common.{sym, ◌∙◌}
use Rattle.retain_records.proofs.CutLemmas.{cut_none, cut_some}
use Rattle.retain_records.proofs.splitting.split_at.Goals as goal

pub returns-in_err-end : goal.returns-in_err-end
returns-in_err-end c = rw c.from_residual.ensures
    (sym (cut_none c.args.mark c.args.bytes.now (sym c.position_of.ensures ∙ c.in_err-end.was)))

pub returns : goal.returns
returns c = sym (cut_some c.args.mark c.args.bytes.now c.in_ok-end.end (sym c.position_of.ensures ∙ c.in_ok-end.was))
