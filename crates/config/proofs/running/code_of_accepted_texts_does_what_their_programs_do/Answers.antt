use Rattle.std.proofs.Common.{◌≡◌, ℕ, ◌+◌, List, length, ◌∙◌, refl, subst, arith, Result, Ok, Err}
use Rattle.st_types.specs.Values.{Datum}
use Rattle.st_types.specs.declared.fault.Fault.{Fault}
use Rattle.st_meaning.specs.Failures.{in_runs}
use Rattle.st_meaning.specs.Runs.{store_after}
use Rattle.layout.specs.TextLayouts.{slots_of_text}
use Rattle.slot_trees.specs.Seeing.{Sees}
use Rattle.slot_trees.specs.SlotExecution.{SlotEnd}
use Rattle.slot_trees.specs.SlotRuns.{slot_outcome_in, slots_in}
use Rattle.machine_code.specs.Machine.{Ending, finished, failed}
use Rattle.machine_code.specs.Programs.{MachineEndsAs}
use Rattle.machine_code.specs.Endings.{outcome_at_end, values_at_end}
use Rattle.config.proofs.running.code_of_accepted_texts_does_what_their_programs_do.Goals as goal

same_outcome : (vs : List Datum) (r : Result (SlotEnd × ℕ) Fault) (e : Ending (List Datum))
    → MachineEndsAs (length vs) r e → slot_outcome_in r ≡ outcome_at_end e
same_outcome vs (Ok r) (finished m b) h = refl
same_outcome vs (Err f) (failed m g) h = let is : g ≡ f = h in cc
same_outcome vs (Ok r) (failed m g) h = absurd h
same_outcome vs (Err f) (finished m b) h = absurd h

same_values : (vs : List Datum) (r : Result (SlotEnd × ℕ) Fault) (e : Ending (List Datum))
    → MachineEndsAs (length vs) r e → slots_in r vs ≡ values_at_end e vs
same_values vs (Ok r) (finished m b) h = let is = h.1 in cc
same_values vs (Err f) (failed m g) h = refl
same_values vs (Ok r) (failed m g) h = absurd h
same_values vs (Err f) (finished m b) h = absurd h

pub returns : goal.returns
returns c = λ source g n p typed none only known there.
    let l = c.programs_of_accepted_texts_run_by_slots.ensures source g n p typed none only known there in
    let code = c.code_does_what_its_program_does.ensures in
    record {
      linked = l.linked;
      is = l.is;
      body = l.body;
      there = l.there;
      outcome = λ memory depth image s vs rest now budget fits sees room.
          l.outcome image now budget (depth + budget) s vs (omega arith) sees
          ∙ same_outcome vs _ _ (code in_runs l.linked.library 0 l.body now depth (depth + budget) memory vs rest budget
          fits (omega arith) room);
      store = λ memory depth image s vs rest now budget fits sees room.
          let P : List Datum → Type 0 = λ us. Sees (slots_of_text source) image (store_after p budget s image now) us in
          subst P (same_values vs _ _ (code in_runs l.linked.library 0 l.body now depth (depth + budget) memory vs rest
          budget fits (omega arith) room)) (l.store image now budget (depth + budget) s vs (omega arith) sees);
    }
