use Rattle.std.proofs.Common.{arith}
use Rattle.retain_store.proofs.Stretches.{two_parts}
use Rattle.retain_store.proofs.Quiet.{quiet_one, quiet_next}
use Rattle.retain_store.proofs.loading.read_areas.Goals as goal

pub returns-in_err-read-clause-any_moment : goal.returns-in_err-read-clause-any_moment
returns-in_err-read-clause-any_moment g c = λ tells.
    quiet_one g.D.Disk.left_since g.D.Disk.may_leave _ _ _
    (λ file left. g.met.D.Disk.only_now c.args.disk.now file tells left) (c.requires.synced tells)
    (c.read.ensures.stop tells) (c.read.ensures.past tells)

pub returns-in_err-read-2-clause-any_moment : goal.returns-in_err-read-2-clause-any_moment
returns-in_err-read-2-clause-any_moment g c = λ tells.
    let first = quiet_one g.D.Disk.left_since g.D.Disk.may_leave _ _ _
    (λ file left. g.met.D.Disk.only_now c.args.disk.now file tells left) (c.requires.synced tells)
    (c.read.ensures.stop tells) (c.read.ensures.past tells) in
    quiet_next g.D.Disk.left_since g.D.Disk.may_leave _ _ _ _ first (c.read-2.ensures.stop tells)
    (c.read-2.ensures.past tells)

pub returns-clause-any_moment : goal.returns-clause-any_moment
returns-clause-any_moment g c = λ tells.
    let first = quiet_one g.D.Disk.left_since g.D.Disk.may_leave _ _ _
    (λ file left. g.met.D.Disk.only_now c.args.disk.now file tells left) (c.requires.synced tells)
    (c.read.ensures.stop tells) (c.read.ensures.past tells) in
    quiet_next g.D.Disk.left_since g.D.Disk.may_leave _ _ _ _ first (c.read-2.ensures.stop tells)
    (c.read-2.ensures.past tells)

pub returns-clause-value : goal.returns-clause-value
returns-clause-value g c = λ tells.
    two_parts _ _ (g.D.Disk.seen c.args.disk.now) (g.D.Disk.seen c.read.new.self) _ _
    (omega (arith, c.split_at_mut-first.ensures.front_len))
    (omega (arith, c.split_at_mut-first.ensures.back_len, c.requires.room)) (c.in_ok-read.ensures.value tells)
    (c.in_ok-read-2.ensures.value tells) (c.read.ensures.seen tells) (c.requires.whole tells)
