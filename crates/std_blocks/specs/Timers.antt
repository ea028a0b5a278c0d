-- Timers of the code as the definitions see them.
use Rattle.st_meaning.specs.StandardBlocks as blocks
use Rattle.std_blocks.specs.declared.timer.Timer.{Timer}

abbrev pub timer_view : Timer → blocks.Timer
timer_view t = record { q = t.q; et = t.elapsed; run = t.run; start = t.start }
