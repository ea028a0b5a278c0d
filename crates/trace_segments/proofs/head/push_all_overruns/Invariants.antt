use Rattle.std.proofs.Common.{◌≡◌, ◌++◌, drop}
use Rattle.trace_segments.specs.Heads.{overruns_lines}
use Rattle.trace_segments.proofs.head.push_all_overruns.Given as goal

abbrev pub invariant-loop-i : goal.invariant-loop-i
invariant-loop-i l = l.text.items ++ overruns_lines (drop l.i l.programs) (drop l.i l.overruns)
    ≡ l.initial.text.items ++ overruns_lines l.programs l.overruns
