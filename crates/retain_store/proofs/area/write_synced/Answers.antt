use Rattle.disk.specs.Runs.{goes_on, one_write, wrote}
use Rattle.retain_store.proofs.area.write_synced.Goals as goal

pub returns-in_err-write_at-clause-any_moment : goal.returns-in_err-write_at-clause-any_moment
returns-in_err-write_at-clause-any_moment g c = λ tells.
    one_write g.D.Disk.left_since g.D.Disk.may_leave _ _ _ _ _
    (λ file left. g.met.D.Disk.only_now c.args.disk.now file tells left) (c.requires.synced tells)
    (c.write_at.ensures.stop tells) (c.write_at.ensures.past tells)

pub returns-clause-any_moment : goal.returns-clause-any_moment
returns-clause-any_moment g c = λ tells.
    let behind = one_write g.D.Disk.left_since g.D.Disk.may_leave _ _ _ _ _
    (λ file left. g.met.D.Disk.only_now c.args.disk.now file tells left) (c.requires.synced tells)
    (c.write_at.ensures.stop tells) (c.write_at.ensures.past tells) in
    goes_on g.D.Disk.left_since g.D.Disk.may_leave _ _ _ _ behind (c.sync.ensures.past tells)
    (λ file left. wrote g.D.Disk.left_since g.D.Disk.may_leave _ _ _ _ _ (c.requires.synced tells)
    (c.write_at.ensures.stop tells) file (c.sync.ensures.stop tells file left))
