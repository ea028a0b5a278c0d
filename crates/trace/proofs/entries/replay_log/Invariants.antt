use Rattle.std.proofs.Common.{◌≡◌, List, [], ◌∷◌, ◌++◌, length}
use Rattle.serial_core.specs.Steps.{State, grown}
use Rattle.trace.specs.Watching.{HasSeen, stages}
use Rattle.trace.proofs.RestLemmas.{IsFar}
use Rattle.trace.proofs.entries.replay_log.Given as goal

abbrev pub invariant-lines : goal.invariant-lines
invariant-lines g l = record {
  far : IsFar l.fn.core l.core l.rows l.fn.text l.rest;
  before : List State;
  stages : before ++ l.core ∷ [] ≡ stages grown l.fn.core l.core.log;
  seen : HasSeen g.W.Watcher.sees l.fn.watcher before l.watcher;
}

abbrev pub decreases-lines : goal.decreases-lines
decreases-lines g l = length l.rest
