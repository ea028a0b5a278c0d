use Rattle.std.proofs.Common.{◌∙◌, sym}
use Rattle.durable_core.proofs.saving.last_moment.Goals as goal

pub returns-clause-last : goal.returns-clause-last
returns-clause-last c =
    let (start, log, is) = c.lived.ensures.live in
    c.last_moment.ensures.last start log is ∙ sym is.kept.of_past.last_is
