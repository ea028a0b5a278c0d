use Rattle.std.proofs.Common.{◌∙◌, ap, sym}
use Rattle.retain_records.specs.Enumerations.{before_last}
use Rattle.retain_records.proofs.EnumerationLemmas.{before_last_is, before_last_is_no}
use Rattle.retain_records.proofs.enumeration.before_last.Goals as goal

pub returns-then-last-mark : goal.returns-then-last-mark
returns-then-last-mark c =
    let e = c.in_ok-last.ensures.cases in
    sym (ap (before_last c.args.mark) e.0 ∙ before_last_is c.args.mark c.in_ok-last.last.now c.in_ok-last.before.now
    c.if-last-mark.true)

pub returns-else-last-mark : goal.returns-else-last-mark
returns-else-last-mark c =
    let e = c.in_ok-last.ensures.cases in
    sym (ap (before_last c.args.mark) e.0 ∙ before_last_is_no c.args.mark c.in_ok-last.last.now
    c.in_ok-last.before.now c.if-last-mark.false)
