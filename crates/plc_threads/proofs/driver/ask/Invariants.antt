use Rattle.std.proofs.Common.{◌≡◌}
use Rattle.plc_threads.proofs.driver.ask.Given as goal

abbrev pub invariant-loop : goal.invariant-loop
invariant-loop l = l.pass.mark ≡ l.initial.pass.mark
