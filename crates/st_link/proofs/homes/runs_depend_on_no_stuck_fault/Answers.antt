use Rattle.st_meaning.specs.Runs.{ran_where, store_of}
use Rattle.st_meaning.specs.Slots.{variables_with, inputs_in}
use Rattle.st_link.specs.UnitSoundness.{LeavesKept}
use Rattle.layout.specs.TextLayouts.{slots_of_text}
use Rattle.st_link.specs.WellTypedRuns.{program_given}
use Rattle.st_link.proofs.SameRuns.{alike_same, left_kept, kept_kind}
use Rattle.st_link.proofs.WellTypedRunLaw.{runs_are_sound}
use Rattle.st_link.proofs.homes.runs_depend_on_no_stuck_fault.Goals as goal

pub returns-clause-same : goal.returns-clause-same
returns-clause-same c = λ source owner u vs now budget i j values run.
    alike_same (LeavesKept (variables_with (slots_of_text source) vs))
    (ran_where i (program_given source owner u) (inputs_in (slots_of_text source) vs) now budget
    (variables_with (slots_of_text source) vs))
    (ran_where j (program_given source owner u) (inputs_in (slots_of_text source) vs) now budget
    (variables_with (slots_of_text source) vs)) (runs_are_sound source owner u vs now budget i j values run)

pub returns-clause-kept : goal.returns-clause-kept
returns-clause-kept c = λ source owner u vs now budget left i e values run done p k is.
    kept_kind (variables_with (slots_of_text source) vs) (store_of e)
    (left_kept (variables_with (slots_of_text source) vs)
    (ran_where i (program_given source owner u) (inputs_in (slots_of_text source) vs) now budget
    (variables_with (slots_of_text source) vs))
    (ran_where i (program_given source owner u) (inputs_in (slots_of_text source) vs) now budget
    (variables_with (slots_of_text source) vs)) (runs_are_sound source owner u vs now budget i i values run) e left done)
    p k is
