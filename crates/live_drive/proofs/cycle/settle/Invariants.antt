use Rattle.durable_core.specs.Endless.{EachCoreGoesOn}
use Rattle.live_drive.specs.Cycles.{Runs, Withstands}
use Rattle.live_drive.proofs.cycle.settle.Given as goal

abbrev pub invariant-loop : goal.invariant-loop
invariant-loop g l =
    EachCoreGoesOn (λ a b. Runs a b × Withstands g.D.Disk.tells g.D.Disk.left_since g.D.Disk.may_leave a b)
    l.initial.core l.core
