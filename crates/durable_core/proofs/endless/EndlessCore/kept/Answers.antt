use Rattle.std.proofs.Common.{ℕ, List, subst}
use Rattle.retain_store.specs.Recovered.{recovered}
use Rattle.durable_core.specs.Cores.{survives}
use Rattle.durable_core.proofs.EndlessLemmas.{life_survives}
use Rattle.durable_core.specs.Endless.{EndlessView, HasCoreLife, InEachCore}
use Rattle.durable_core.proofs.endless.EndlessCore.kept.Goals as goal

pub returns-clause-survives : goal.returns-clause-survives
returns-clause-survives g c = λ tells.
    subst (λ (v : EndlessView _). (file : List ℕ) → g.D.Disk.may_leave v.store.disk file
    → InEachCore v (λ core. survives core (recovered file))) c.self.view_is
    (λ file left start log is. life_survives _ start log is file (c.kept.ensures.left tells file left))

pub returns-clause-life : goal.returns-clause-life
returns-clause-life g c = subst (λ (v : EndlessView _). HasCoreLife v) c.self.view_is c.self.invariant.life
