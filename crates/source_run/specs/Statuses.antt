-- The exit statuses of faults.
use Rattle.std.specs.Prelude.{ℕ}
use Rattle.source_run.specs.declared.fault.Fault.{Fault}
use Rattle.source_run.specs.declared.fault.Fault.TheVariants.{Source, Build, Plant, Trace, Start, Run}

-- 2 for the source, 3 for a plant or a trace, 4 for the start, 5 for the run
abbrev pub status_of : Fault → ℕ
status_of Source = 2
status_of (Build e) = 2
status_of (Plant e) = 3
status_of (Trace e) = 3
status_of (Start e) = 4
status_of (Run e) = 5
