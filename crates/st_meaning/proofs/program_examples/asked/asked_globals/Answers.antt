use Rattle.std.proofs.Common.{refl}
use Rattle.st_meaning.specs.Runs.{ran_where, units_within}
use Rattle.st_meaning.specs.StandardBlocks.{block_of}
use Rattle.st_meaning.specs.Evaluation.{truth_of}
use Rattle.st_meaning.proofs.program_examples.asked.asked_globals.Goals as goal

pub returns-clause-without_effect : goal.returns-clause-without_effect
unfolding ran_where units_within truth_of
returns-clause-without_effect c = record { of_nobody = refl; is_there = refl; is_wanted = λ f. refl }

pub returns-clause-condition : goal.returns-clause-condition
unfolding ran_where units_within truth_of
returns-clause-condition c = record { of_nobody = refl; is_there = refl; is_wanted = λ f. refl }

pub returns-clause-subscript : goal.returns-clause-subscript
unfolding ran_where units_within truth_of
returns-clause-subscript c = record { of_nobody = refl; is_there = refl; is_wanted = λ f. refl }

pub returns-clause-element : goal.returns-clause-element
unfolding ran_where units_within truth_of
returns-clause-element c = record { of_nobody = refl; is_there = refl; is_wanted = λ f. refl }

pub returns-clause-subscript_of_a_target : goal.returns-clause-subscript_of_a_target
unfolding ran_where units_within truth_of
returns-clause-subscript_of_a_target c = record { of_nobody = refl; is_there = refl; is_wanted = λ f. refl }

pub returns-clause-before_a_fault : goal.returns-clause-before_a_fault
unfolding ran_where units_within truth_of
returns-clause-before_a_fault c = record { of_nobody = refl; is_there = refl; is_wanted = λ f. refl }

pub returns-clause-unless_assigned : goal.returns-clause-unless_assigned
unfolding ran_where units_within truth_of
returns-clause-unless_assigned c = record { of_nobody = refl; is_there = refl; is_wanted = λ f. refl }

pub returns-clause-input : goal.returns-clause-input
unfolding ran_where units_within truth_of
returns-clause-input c = record { of_nobody = refl; is_there = refl; is_wanted = λ f. refl }

pub returns-clause-in_a_block : goal.returns-clause-in_a_block
unfolding ran_where units_within block_of
returns-clause-in_a_block c = record { of_nobody = refl; is_there = refl; is_wanted = λ f. refl }
