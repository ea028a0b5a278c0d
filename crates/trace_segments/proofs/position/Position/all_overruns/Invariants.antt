use Rattle.std.proofs.Common.{◌≡◌, take}
use Rattle.trace_segments.specs.Positions.{overruns_in}
use Rattle.trace_segments.proofs.position.Position.all_overruns.Given as goal

abbrev pub invariant-loop-program : goal.invariant-loop-program
invariant-loop-program l = l.overruns ≡ overruns_in (take l.program-index l.self.programs)
