-- By both laws.
use Rattle.slot_code.proofs.Answering.{answers}
use Rattle.slot_code.proofs.laws.quick_code_answers_as_its_instructions.Goals as goal

pub returns : goal.returns
returns c library base calls depth extra body kinds p window stands room fits =
    answers c.quick_code_does_what_its_program_does.ensures c.marked_code_does_what_its_program_does.ensures library
    base
    calls depth extra body kinds p window stands room fits
