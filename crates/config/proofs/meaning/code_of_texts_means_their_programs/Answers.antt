use Rattle.std.proofs.Common.{◌+◌, List, length, ◌∙◌, ap, sym, subst}
use Rattle.st_types.specs.Values.{Datum}
use Rattle.st_meaning.specs.Failures.{in_runs}
use Rattle.st_meaning.specs.Runs.{store_after}
use Rattle.layout.specs.TextLayouts.{slots_of_text}
use Rattle.slot_trees.specs.Seeing.{Sees}
use Rattle.machine_code.specs.Machine.{Ending}
use Rattle.machine_code.specs.Endings.{outcome_at_end, values_at_end}
use Rattle.config.proofs.TextCodes.{same_run, fits_values, room_for, code_here}
use Rattle.config.proofs.meaning.code_of_texts_means_their_programs.Goals as goal

pub returns : goal.returns
returns c = λ source n p linked body depth code has linked_is there is.
    let here = code_here source n depth linked has.linked body has.body code linked_is has.is there has.there is in
    let layout = slots_of_text source in
    let memory = length layout + code.extra in
    record {
      kinds = sym here.kinds;
      outcome = λ image s vs rest now budget sees room.
          has.outcome memory depth image s vs rest now budget
          (fits_values has.linked has.body memory depth (length layout) (length vs) sees.length here.fits) sees
          (room_for vs rest (length layout) code.extra sees.length room)
          ∙ ap outcome_at_end
          (same_run in_runs code has.linked has.body depth now (length layout) vs rest budget here.instrs sees.length);
      store = λ image s vs rest now budget sees room.
          subst (λ (e : Ending (List Datum)). Sees layout image (store_after p budget s image now) (values_at_end e vs))
          (same_run in_runs code has.linked has.body depth now (length layout) vs rest budget here.instrs sees.length)
          (has.store memory depth image s vs rest now budget
          (fits_values has.linked has.body memory depth (length layout) (length vs) sees.length here.fits) sees
          (room_for vs rest (length layout) code.extra sees.length room));
    }
