-- The outcome and the values at the end of a program's code.
use Rattle.std.specs.Prelude.{List, length, take}
use Rattle.st_types.specs.Values.{Datum}
use Rattle.st_meaning.specs.declared.outcome.Outcome.{Outcome}
use Rattle.st_meaning.specs.declared.outcome.Outcome.TheVariants.{Done, Faulted}
use Rattle.machine_code.specs.Machine.{Ending, finished, failed}

-- how a run of the machine ends
abbrev pub outcome_at_end : {M : Type 0} → Ending M → Outcome
outcome_at_end (finished m b) = Done
outcome_at_end (failed m f) = Faulted f

-- the values of the first slots after it: a fault leaves them as they were
abbrev pub values_at_end : Ending (List Datum) → List Datum → List Datum
values_at_end (finished m b) vs = take (length vs) m
values_at_end (failed m f) vs = vs
