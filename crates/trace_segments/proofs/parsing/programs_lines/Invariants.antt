use Rattle.std.proofs.Common.{◌≡◌, ◌≤◌, length}
use Rattle.std.specs.List.{AllByRecursion}
use Rattle.trace_segments.specs.Heads.{resting}
use Rattle.trace_segments.proofs.parsing.programs_lines.Given as goal

abbrev pub invariant-loop-program : goal.invariant-loop-program
invariant-loop-program l = (length l.programs.items ≡ l.program-index)
    × AllByRecursion (λ p. p ≡ resting p.overruns) l.programs.items
    × AllByRecursion (λ p. p.overruns ≤ l.rows) l.programs.items
