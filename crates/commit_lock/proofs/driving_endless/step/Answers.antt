use Rattle.std.proofs.Common.{Ok, Err, refl}
use Rattle.durable_core.proofs.FlushLemmas.{still}
use Rattle.commit_lock.specs.declared.event.Reply.TheVariants.{Latched, Refused}
use Rattle.commit_lock.proofs.EndlessDriveLemmas.{flush_step, latch_step, take_step}
use Rattle.commit_lock.proofs.driving_endless.step.Goals as goal

pub returns-in-Ok-clause-step : goal.returns-in-Ok-clause-step
returns-in-Ok-clause-step g c = rw c.in-Latch.is
    (latch_step g.D.Disk.failure_count g.D.Disk.tells g.D.Disk.left_since g.D.Disk.may_leave g.D.Disk.serves
    c.args.core.now c.latch.new.self c.in-Latch.row (Ok c.in-Ok.number) (Latched c.in-Ok.number) c.args.held.now.items
    c.args.held.now.items c.in-Ok.ensures refl refl)

pub returns-in-Take-clause-step : goal.returns-in-Take-clause-step
returns-in-Take-clause-step g c =
    let (taken, takes, is, more) = c.take_to_hold.ensures.takes in
    rw c.in-Take.is
    (take_step g.D.Disk.failure_count g.D.Disk.tells g.D.Disk.left_since g.D.Disk.may_leave g.D.Disk.serves
    c.args.core.now c.in-Take.resource taken c.take_to_hold.result c.args.held.now.items c.take_to_hold.new.held.items
    takes is more (λ tells. still g.D.Disk.left_since g.D.Disk.may_leave c.args.core.now
    (λ file left. g.met.D.Disk.only_now _ file tells left) (c.kept.ensures.survives tells)))

pub returns-clause-step : goal.returns-clause-step
returns-clause-step g c = rw c.in-Flush.is
    (flush_step g.D.Disk.failure_count g.D.Disk.tells g.D.Disk.left_since g.D.Disk.may_leave g.D.Disk.serves
    c.args.core.now c.flush.new.self (Err c.in-Err-flush.refusal) (Refused c.in-Err-flush.refusal)
    c.args.held.now.items c.args.held.now.items c.in-Err-flush.ensures.flushes c.in-Err-flush.ensures.device
    c.in-Err-flush.ensures.serves c.in-Err-flush.ensures.outlives refl refl)
