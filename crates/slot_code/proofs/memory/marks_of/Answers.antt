-- One mark more.
use Rattle.std.proofs.Common.{rules, ◌≡◌, ◌++◌, ◌∷◌, []}
use Rattle.slot_code.proofs.Leaving.{marks_after}
use Rattle.slot_code.proofs.memory.marks_of.Goals as goal

pub loop-slot-preserved : goal.loop-slot-preserved
loop-slot-preserved c =
    let pushed : c.push.new.self.items ≡ c.loop-slot.marks.items ++ c.mark_of.result ∷ [] = search rules in
    marks_after c.args.notes.now c.loop-slot.slot c.note_at.result c.mark_of.result c.loop-slot.marks.items
    c.push.new.self.items c.note_at.ensures c.mark_of.ensures c.loop-slot.invariant pushed
