use Rattle.std.proofs.Common.{rules, arith, refl}
use mathlib.Core.Option.{none}
use Rattle.atomic_table.specs.Table.{step}
use Rattle.run_lock.proofs.Moves.{raises}
use Rattle.run_lock.proofs.mark.Mark.raise.Goals as goal

pub fetch_max-requires : goal.fetch_max-requires
fetch_max-requires c =
    (search rules, omega (arith, c.self.invariant), raises _ _ _ _ (step 0 0 c.args.to 0 none) c.pass.invariant refl)
