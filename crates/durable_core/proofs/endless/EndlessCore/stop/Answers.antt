use Rattle.std.proofs.Common.{subst}
use Rattle.durable_core.specs.Endless.{EndlessView}
use Rattle.durable_core.proofs.endless.EndlessCore.stop.Goals as goal

pub returns-clause-survives : goal.returns-clause-survives
returns-clause-survives g c = λ tells file left.
    c.kept.ensures.survives tells file (subst (λ (v : EndlessView _). g.D.Disk.may_leave v.store.disk file) c.self.view_is
    (subst (λ (d : _). g.D.Disk.may_leave d file) c.into_disk.ensures.disk left))
