use Rattle.std.proofs.Common.{◌≡◌, length, map, take}
use Rattle.core_engine.specs.Checkpointed.{checkpoint_of}
use Rattle.trace_segments.proofs.recorder.overruns.Given as goal

abbrev pub invariant-loop-program : goal.invariant-loop-program
invariant-loop-program l = l.overruns.items ≡ take l.program (map (λ p. p.overruns) (checkpoint_of l.engine).programs)
