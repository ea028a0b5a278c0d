use Rattle.st_check.proofs.SurplusLemmas.{Counts}
use Rattle.st_check.proofs.enumerations.surplus_names.Given as goal

abbrev pub invariant-loop-entry : goal.invariant-loop-entry
invariant-loop-entry l = Counts l.entries l.entry-index l.found l.initial.broken l.broken
