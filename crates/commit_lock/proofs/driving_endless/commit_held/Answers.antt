use Rattle.std.proofs.Common.{rules, ◌≡◌, None, Some, inl, refl}
use Rattle.core_engine.specs.declared.refusal.Refusal.TheVariants.{NotWaiting, NoMemory}
use Rattle.durable_core.specs.declared.refusal.Refusal.TheVariants.{Serial}
use Rattle.durable_core.proofs.FlushLemmas.{still}
use Rattle.commit_lock.specs.declared.event.Reply.TheVariants.{Refused}
use Rattle.commit_lock.proofs.EndlessDriveLemmas.{idle_step}
use Rattle.commit_lock.proofs.driving_endless.commit_held.Goals as goal

pub returns-in_default : goal.returns-in_default
returns-in_default g c =
    let none : c.args.held ≡ None = search rules in
    rw none (idle_step g.D.Disk.failure_count g.D.Disk.tells g.D.Disk.left_since g.D.Disk.may_leave g.D.Disk.serves
    c.args.core.now None NotWaiting (Refused (Serial NotWaiting)) refl (λ a. (refl, refl))
    (λ tells. still g.D.Disk.left_since g.D.Disk.may_leave c.args.core.now
    (λ file left. g.met.D.Disk.only_now _ file tells left) (c.kept.ensures.survives tells)))

pub returns-in-Err : goal.returns-in-Err
returns-in-Err g c = rw c.in-Some.is
    (idle_step g.D.Disk.failure_count g.D.Disk.tells g.D.Disk.left_since g.D.Disk.may_leave g.D.Disk.serves
    c.args.core.now (Some c.in-Some.snapshot) NoMemory (Refused (Serial NoMemory)) refl (λ a. inl (refl, refl))
    (λ tells. still g.D.Disk.left_since g.D.Disk.may_leave c.args.core.now
    (λ file left. g.met.D.Disk.only_now _ file tells left) (c.kept.ensures.survives tells)))
