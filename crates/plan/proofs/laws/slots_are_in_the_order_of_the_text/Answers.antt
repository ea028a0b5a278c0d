use Rattle.std.proofs.Common.{length, map}
use Rattle.st_meaning.specs.Layouts.{input_slot}
use Rattle.plan.proofs.SlotLemmas.{from_first, variables_merged, inputs_merged, typed_merged}
use Rattle.plan.proofs.SlotLemmas.{found_merged, variables_written, length_written}
use Rattle.plan.proofs.laws.slots_are_in_the_order_of_the_text.Goals as goal

pub returns-clause-variables : goal.returns-clause-variables
returns-clause-variables c places variables inputs vs image numbered a b =
    variables_merged (map input_slot inputs) places 0 0 variables inputs vs image
    (from_first places (length variables) (length inputs) numbered) a b

pub returns-clause-inputs : goal.returns-clause-inputs
returns-clause-inputs c places variables inputs vs image numbered a b =
    inputs_merged places 0 0 variables inputs vs image
    (from_first places (length variables) (length inputs) numbered) a b

pub returns-clause-typed : goal.returns-clause-typed
returns-clause-typed c places variables inputs vs image numbered a b = typed_merged places variables inputs vs image a b

pub returns-clause-found : goal.returns-clause-found
returns-clause-found c places vs image k h =
    found_merged places vs image k (from_first places (length vs) (length image) h)

pub returns-clause-written : goal.returns-clause-written
returns-clause-written c places variables inputs vs image cells h a b =
    variables_written places variables inputs cells vs image h a b

pub returns-clause-sized : goal.returns-clause-sized
returns-clause-sized c places vs cells = length_written places vs cells
