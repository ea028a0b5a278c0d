use Rattle.layout.proofs.LibraryLemmas.{plain_program_is}
use Rattle.layout.proofs.libraries.programs_that_call_nothing.Goals as goal

pub returns : goal.returns
returns c = plain_program_is
