use Rattle.retain_store.proofs.Quiet.{quiet_one, quiet_next}
use Rattle.retain_store.proofs.loading.synced_len.Goals as goal

pub returns-in_err-sync-clause-any_moment : goal.returns-in_err-sync-clause-any_moment
returns-in_err-sync-clause-any_moment g c = λ tells only.
    quiet_one g.D.Disk.left_since g.D.Disk.may_leave _ _ _
    (λ file left. g.met.D.Disk.only_now c.args.disk.now file tells left) only (c.sync.ensures.stop tells)
    (c.sync.ensures.past tells)

pub returns-in_err-len-clause-any_moment : goal.returns-in_err-len-clause-any_moment
returns-in_err-len-clause-any_moment g c = λ tells only.
    let first = quiet_one g.D.Disk.left_since g.D.Disk.may_leave _ _ _
    (λ file left. g.met.D.Disk.only_now c.args.disk.now file tells left) only (c.sync.ensures.stop tells)
    (c.sync.ensures.past tells) in
    quiet_next g.D.Disk.left_since g.D.Disk.may_leave _ _ _ _ first (c.len.ensures.stop tells)
    (c.len.ensures.past tells)

pub returns-clause-any_moment : goal.returns-clause-any_moment
returns-clause-any_moment g c = λ tells only.
    let first = quiet_one g.D.Disk.left_since g.D.Disk.may_leave _ _ _
    (λ file left. g.met.D.Disk.only_now c.args.disk.now file tells left) only (c.sync.ensures.stop tells)
    (c.sync.ensures.past tells) in
    quiet_next g.D.Disk.left_since g.D.Disk.may_leave _ _ _ _ first (c.len.ensures.stop tells)
    (c.len.ensures.past tells)
