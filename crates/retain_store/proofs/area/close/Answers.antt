use Rattle.disk.specs.Runs.{weakens}
use Rattle.retain_store.proofs.Steps.{closing, closed_now}
use Rattle.retain_store.proofs.area.close.Goals as goal

pub returns-in_err-write_synced-clause-any_moment : goal.returns-in_err-write_synced-clause-any_moment
returns-in_err-write_synced-clause-any_moment g c = λ tells.
    weakens g.D.Disk.left_since g.D.Disk.may_leave _ _ _ _ (c.write_synced.ensures.any_moment tells)
    (λ file torn. closing c.args.at c.requires.half (g.D.Disk.seen c.args.disk.now) (c.requires.spare tells) file
    torn (c.requires.open tells))

pub returns-clause-any_moment : goal.returns-clause-any_moment
returns-clause-any_moment g c = λ tells.
    weakens g.D.Disk.left_since g.D.Disk.may_leave _ _ _ _ (c.write_synced.ensures.any_moment tells)
    (λ file torn. closing c.args.at c.requires.half (g.D.Disk.seen c.args.disk.now) (c.requires.spare tells) file
    torn (c.requires.open tells))

pub returns-clause-closed : goal.returns-clause-closed
returns-clause-closed g c = λ tells.
    closed_now c.args.at c.requires.half (g.D.Disk.seen c.args.disk.now) (c.requires.spare tells)
    (c.requires.open tells) _ (c.in_ok-write_synced.ensures.written tells)
