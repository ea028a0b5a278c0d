use Rattle.std.proofs.Common.{refl}
use Rattle.st_meaning.specs.Runs.{ran_where, units_within}
use Rattle.st_meaning.specs.Evaluation.{truth_of}
use Rattle.st_meaning.proofs.AskedLemmas.{not_asked}
use Rattle.st_meaning.proofs.program_examples.asked.globals_not_asked.Goals as goal

pub returns-clause-assigned : goal.returns-clause-assigned
unfolding ran_where units_within truth_of
returns-clause-assigned c = not_asked _ _ _ _ _ _ refl

pub returns-clause-in_no_branch : goal.returns-clause-in_no_branch
unfolding ran_where units_within truth_of
returns-clause-in_no_branch c = not_asked _ _ _ _ _ _ refl

pub returns-clause-behind_a_fault : goal.returns-clause-behind_a_fault
unfolding ran_where units_within truth_of
returns-clause-behind_a_fault c = not_asked _ _ _ _ _ _ refl

pub returns-clause-assigned_in_a_branch : goal.returns-clause-assigned_in_a_branch
unfolding ran_where units_within truth_of
returns-clause-assigned_in_a_branch c = not_asked _ _ _ _ _ _ refl

pub returns-clause-other_element : goal.returns-clause-other_element
unfolding ran_where units_within truth_of
returns-clause-other_element c = not_asked _ _ _ _ _ _ refl

pub returns-clause-only_assigned : goal.returns-clause-only_assigned
unfolding ran_where units_within truth_of
returns-clause-only_assigned c = not_asked _ _ _ _ _ _ refl
