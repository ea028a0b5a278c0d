use Rattle.std.proofs.Common.{◌≡◌}
use Rattle.plc_threads.proofs.driver.drive.Given as goal

abbrev pub invariant-loop : goal.invariant-loop
invariant-loop g l = l.pass.mark ≡ l.mark
