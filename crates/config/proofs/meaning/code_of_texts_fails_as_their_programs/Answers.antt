use Rattle.std.proofs.Common.{◌+◌, List, length, sym, subst, arith}
use Rattle.st_types.specs.Values.{Datum}
use Rattle.st_meaning.specs.Runs.{ran_where}
use Rattle.layout.specs.TextLayouts.{slots_of_text}
use Rattle.slot_trees.specs.Alike.{EndsEqually}
use Rattle.slot_trees.specs.Seeing.{Sees}
use Rattle.slot_trees.specs.SlotRuns.{slots_ran}
use Rattle.machine_code.specs.Machine.{Ending}
use Rattle.machine_code.specs.Asking.{FailsWith}
use Rattle.config.proofs.TextCodes.{same_run, fits_values, room_for, code_here, fails_so}
use Rattle.config.proofs.meaning.code_of_texts_fails_as_their_programs.Goals as goal

pub returns : goal.returns
returns c = λ source n p linked body depth code has linked_is there is.
    let here = code_here source n depth linked has.linked body has.body code linked_is has.is there has.there is in
    let layout = slots_of_text source in
    let memory = length layout + code.extra in
    record {
      fails = λ t f image s vs rest now budget sees room fails.
          let run = same_run t code has.linked has.body depth now (length layout) vs rest budget here.instrs sees.length
          in
          fails_so (length vs) (EndsEqually (Sees layout image)) (ran_where t p image now budget s)
          (slots_ran t has.linked.library 0 has.body now (depth + budget) vs budget) _ f
          (has.ends t image now budget (depth + budget) s vs (omega arith) sees)
          (c.code_does_what_its_program_does.ensures t has.linked.library 0 has.body now depth (depth + budget) memory
          vs rest budget
          (fits_values has.linked has.body memory depth (length layout) (length vs) sees.length here.fits) (omega arith)
          (room_for vs rest (length layout) code.extra sees.length room))
          (subst (λ (e : Ending (List Datum)). FailsWith f e) (sym run) fails);
    }
