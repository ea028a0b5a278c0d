-- Exit statuses.
use Rattle.std.specs.Prelude.{ℕ}
use Rattle.plant_main.specs.declared.ending.Ending.{Ending}
use Rattle.plant_main.specs.declared.ending.Ending.TheVariants as endings
use Rattle.source_run.specs.Statuses.{status_of}

-- 0 for a job that is done and for help, 1 for words that are refused and a job that isn't begun, 5 for an output that takes
-- no more
abbrev pub ending_status : Ending → ℕ
ending_status endings.Done = 0
ending_status endings.Helped = 0
ending_status endings.Misworded = 1
ending_status (endings.Declined why) = 1
ending_status (endings.Fault fault) = status_of fault
ending_status endings.OutputFailed = 5
