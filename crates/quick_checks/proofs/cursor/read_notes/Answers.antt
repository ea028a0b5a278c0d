use Rattle.std.proofs.Common.{◌≡◌}
use Rattle.std.specs.Prelude.{Some, slice_get}
use Rattle.quick_code.specs.declared.quick_instr.QuickInstr.TheVariants.{NoteRead, NoteWritten}
use Rattle.quick_trees.specs.Points.{look_of, assignment_of}
use Rattle.quick_checks.specs.Checking.{frame_of}
use Rattle.quick_checks.proofs.Noted.{noted_more}
use Rattle.quick_checks.proofs.cursor.read_notes.Goals as goal

pub loop-at-preserved-in-Continue-branch-2 : goal.loop-at-preserved-in-Continue-branch-2
loop-at-preserved-in-Continue-branch-2 c =
    let h : slice_get c.args.draft.now.code.instrs.items c.loop-at.at.place ≡ Some (NoteRead c.in-NoteRead.word) =
    cc (c.in_ok-instr.ensures, c.in-NoteRead.is) in
    λ now. noted_more (frame_of c.args.draft.now now) (look_of c.in-NoteRead.word) _ _ _ (c.loop-at.invariant now)
    (h, (c.in_ok-note_look-in-NoteRead.ensures.next, c.in_ok-note_look-in-NoteRead.ensures.changes))

pub loop-at-preserved : goal.loop-at-preserved
loop-at-preserved c =
    let h : slice_get c.args.draft.now.code.instrs.items c.loop-at.at.place ≡ Some (NoteWritten c.in-NoteWritten.word)
    =
    cc (c.in_ok-instr.ensures, c.in-NoteWritten.is) in
    λ now. noted_more (frame_of c.args.draft.now now) (assignment_of c.in-NoteWritten.word) _ _ _ (c.loop-at.invariant
    now)
    (h, (c.in_ok-note_assignment-in-NoteWritten.ensures.next, c.in_ok-note_assignment-in-NoteWritten.ensures.changes))
