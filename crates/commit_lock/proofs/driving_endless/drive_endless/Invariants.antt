use Rattle.std.proofs.Common.{◌+◌, ◌≤◌, length, vec_len, vec_capacity}
use Rattle.durable_core.specs.Endless.{EachCoreGoesOn}
use Rattle.commit_lock.proofs.EndlessDriveLemmas.{GoesOnWith}
use Rattle.commit_lock.proofs.driving_endless.drive_endless.Given as goal

abbrev pub invariant-loop-event : goal.invariant-loop-event
invariant-loop-event g l =
    EachCoreGoesOn (λ a b. GoesOnWith g.D.Disk.failure_count g.D.Disk.tells g.D.Disk.left_since g.D.Disk.may_leave
    g.D.Disk.serves l.initial.event-iterator.rest.items l.replies.items l.held.items l.event-iterator.rest.items a b)
    l.initial.core l.core
    × (vec_len l.held + length l.event-iterator.rest.items ≤ vec_capacity l.held)
    × (vec_len l.replies + length l.event-iterator.rest.items ≤ vec_capacity l.replies)
