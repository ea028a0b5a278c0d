use Rattle.std.proofs.Common.{◌+◌, ◌≤◌, ◌++◌, [], List, length, vec_len, vec_capacity}
use Rattle.std.specs.List.{AllByRecursion}
use Rattle.durable_core.specs.Cores.{CoreView}
use Rattle.commit_lock.specs.Driving.{Held, Drives, IsWell, IsWellAnswered}
use Rattle.commit_lock.specs.declared.event.Reply.{Reply}
use Rattle.commit_lock.proofs.driving.drive.Given as goal

abbrev pub invariant-loop-event : goal.invariant-loop-event
invariant-loop-event g l =
    ((replies : List Reply) (new : CoreView _) (kept : Held)
    → Drives g.D.Disk.failure_count g.D.Disk.tells g.D.Disk.left_since
    g.D.Disk.may_leave l.core l.held.items l.event-iterator.rest.items replies new kept
    → Drives g.D.Disk.failure_count g.D.Disk.tells g.D.Disk.left_since g.D.Disk.may_leave l.initial.core []
    l.initial.event-iterator.rest.items
    (l.replies.items ++ replies) new kept)
    × (vec_len l.held + length l.event-iterator.rest.items ≤ vec_capacity l.held)
    × (vec_len l.replies + length l.event-iterator.rest.items ≤ vec_capacity l.replies)
    × (IsWell g.D.Disk.serves l.initial.core
    → IsWell g.D.Disk.serves l.core × AllByRecursion IsWellAnswered l.replies.items)
