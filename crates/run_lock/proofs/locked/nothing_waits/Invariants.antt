use Rattle.run_lock.specs.Lives.{NothingIsDue}
use Rattle.run_lock.proofs.locked.nothing_waits.Given as goal

abbrev pub invariant-loop-resource : goal.invariant-loop-resource
invariant-loop-resource g l = NothingIsDue l.core.state l.resource
