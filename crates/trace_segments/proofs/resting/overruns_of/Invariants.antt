use Rattle.std.proofs.Common.{◌≡◌, map, take}
use Rattle.trace_segments.specs.Heads.{resting}
use Rattle.trace_segments.proofs.resting.overruns_of.Given as goal

abbrev pub invariant-loop-program : goal.invariant-loop-program
invariant-loop-program l = take l.program-index l.programs ≡ map resting l.overruns.items
