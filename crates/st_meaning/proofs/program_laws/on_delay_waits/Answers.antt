use Rattle.st_meaning.proofs.TimerLemmas.{on_delay_was_on}
use Rattle.st_meaning.proofs.program_laws.on_delay_waits.Goals as goal

pub returns : goal.returns
returns c = on_delay_was_on
