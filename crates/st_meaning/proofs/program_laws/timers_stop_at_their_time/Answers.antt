use Rattle.st_meaning.specs.StandardBlocks.{on_delay, off_delay, pulse}
use Rattle.st_meaning.proofs.TimerLemmas.{last_within, on_delay_within, off_delay_within, pulse_within}
use Rattle.st_meaning.proofs.program_laws.timers_stop_at_their_time.Goals as goal

pub returns-clause-on_delay : goal.returns-clause-on_delay
returns-clause-on_delay c = last_within on_delay on_delay_within

pub returns-clause-off_delay : goal.returns-clause-off_delay
returns-clause-off_delay c = last_within off_delay off_delay_within

pub returns-clause-pulse : goal.returns-clause-pulse
returns-clause-pulse c = last_within pulse pulse_within
