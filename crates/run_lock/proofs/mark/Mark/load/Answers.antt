use Rattle.std.proofs.Common.{rules, arith}
use mathlib.Core.Option.{none}
use Rattle.atomic_table.specs.Table.{step}
use Rattle.run_lock.proofs.Moves.{looks}
use Rattle.run_lock.proofs.mark.Mark.load.Goals as goal

pub load-requires : goal.load-requires
load-requires c = (search rules, omega (arith, c.self.invariant), looks _ _ _ (step 0 0 0 0 none))
