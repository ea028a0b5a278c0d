use Rattle.std.proofs.Common.{not, refl, sym, ap, ◌∙◌}
use Rattle.std.specs.List.{filter}
use Rattle.st_meaning.specs.Stores.{shape_of}
use Rattle.st_meaning.specs.Slots.{inputs_in, variables_with}
use Rattle.slot_run.specs.Inputs.{is_input_slot}
use Rattle.slot_run.specs.Commits.{committed}
use Rattle.slot_run.proofs.CommitLemmas.{inputs_stay, length_written, types_stay}
use Rattle.slot_run.proofs.InputLemmas.{left_out}
use Rattle.slot_run.proofs.TrueLemmas.{as_many_slots}
use Rattle.slot_run.proofs.laws.commits_do_what_programs_do.Goals as goal

pub returns : goal.returns
returns c = λ code moment budget reads writes outcome layout program vs is means typed agree.
    let run = is.run layout program vs means typed agree in
    let us = committed layout vs writes in
    let variables = left_out layout writes vs vs refl refl ∙ sym run.1 in
    let stay = c.variables_stay.ensures.types program budget (variables_with layout vs) (inputs_in layout vs) moment in
    record {
      ends = run.0;
      variables = variables;
      inputs = inputs_stay layout writes vs;
      typed = types_stay layout us vs
          (length_written (filter (λ c. not (is_input_slot layout c.0)) writes) vs)
          (as_many_slots layout vs typed) (ap shape_of variables ∙ stay) (inputs_stay layout writes vs) ∙ typed;
    }
