-- Words and notes encode the values that the instructions leave.
use Rattle.std.proofs.Common.{rules, ◌≡◌, length, map, take}
use Rattle.quick_code.specs.QuickRuns.{left}
use Rattle.quick_machine.specs.Going.{memory}
use Rattle.slot_code.specs.Quick.{HasEnded, Wherever, frame_of, kinds_of, run_of}
use Rattle.slot_code.specs.WordValues.{mark_of, values_of}
use Rattle.slot_code.proofs.Ran.{ends}
use Rattle.slot_code.proofs.program.QuickProgram.run.Goals as goal

pub returns-in_ok-marks-in-Some : goal.returns-in_ok-marks-in-Some
returns-in_ok-marks-in-Some c =
    let self = c.args.self.now in
    let vs = c.args.values.now in
    let l = c.in-Some.left in
    let m = memory l.words.items l.notes.items in
    let ended : Wherever self.kinds self.window vs (λ slots. HasEnded
    (frame_of self.parts self.window self.kinds c.args.now) slots (left m l.ticks)
    (run_of self.instrs self.extra c.args.now slots c.args.budget)) = search rules in
    let values : c.in_ok-left_values-in-Some.left_values.items ≡ values_of (kinds_of vs) m.words = search rules in
    let marks : c.in_ok-marks-in-Some.marks.items ≡ map mark_of (take (length vs) m.notes) = search rules in
    ends self.instrs self.kinds self.extra c.args.now c.args.budget self.parts self.window vs m l.ticks _ _ ended values
    marks
