use Rattle.std.proofs.Common.{rules}
use Rattle.run_lock.proofs.locked.is_settled.Goals as goal

pub returns-then-nothing_waits : goal.returns-then-nothing_waits
returns-then-nothing_waits g c =
    (λ yes. (c.nothing_waits.ensures.0 (search rules), search rules), λ settled. search rules)
