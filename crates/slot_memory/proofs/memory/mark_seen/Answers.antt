use Rattle.slot_memory.proofs.Marked.{read_stays, assigned_stays}
use Rattle.slot_memory.proofs.memory.mark_seen.Goals as goal
use Rattle.slot_memory.proofs.memory.mark_seen.Goals.{else-not-mark-via-then-not-mark+else-not-mark-2}
use Rattle.slot_memory.proofs.memory.mark_seen.Goals.{else-not-mark-via-else-not-mark}

pub returns-else-not-mark : goal.returns-else-not-mark
returns-else-not-mark c = elim c.else-not-mark.branch [
  | else-not-mark-via-then-not-mark+else-not-mark-2 w ↦
      assigned_stays c.args.marks.now c.args.slot _ c.if-slot-marks.true w.if-not-mark-2.false
  | else-not-mark-via-else-not-mark w ↦
      read_stays c.args.marks.now c.args.slot _ c.if-slot-marks.true w.if-not-mark.false
]
