use Rattle.disk.proofs.ViewLemmas.{late_written}
use Rattle.disk.proofs.medium.Medium.room.Goals as goal

pub returns-clause-appended : goal.returns-clause-appended
returns-clause-appended c = rw (← c.self.view_is) (late_written _ _ _ _ c.self.invariant)
