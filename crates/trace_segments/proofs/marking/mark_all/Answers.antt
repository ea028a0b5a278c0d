use Rattle.std.proofs.Common.{◌≡◌, ◌∙◌, ◌<◌, ◌^◌, Bool, ap, sym, subst, arith, length, slice_set}
use Rattle.std.specs.List.{All}
use Rattle.st_meaning.specs.declared.plan.Schedule.{Schedule}
use Rattle.ready_list.specs.Ready.{is_due_at}
use Rattle.checkpoints.specs.Checkpoints.{ProgramProgress, WaitingRow, progress_at}
use Rattle.checkpoints.specs.Compaction.{progress_with}
use Rattle.trace_segments.proofs.MarkLemmas.{all_at, marked_below, marked_all, marked_at, marked_long, marked_step}
use Rattle.trace_segments.proofs.marking.mark_all.Goals as goal

pub mark_one-requires-clause-there : goal.mark_one-requires-clause-there
mark_one-requires-clause-there c =
    let is_due : Schedule → Bool = λ s. is_due_at c.args.new s c.args.earlier.now c.args.samples.now in
    let new : WaitingRow = record { number = c.args.new.number; row = c.args.row.now } in
    omega (
      arith,
      c.loop-program-test.true,
      ap length c.loop-program.invariant,
      marked_long is_due new c.loop-program.program c.args.schedules.now c.args.programs.now.items,
      c.requires.sized,
    )

pub mark_one-requires-clause-room : goal.mark_one-requires-clause-room
mark_one-requires-clause-room c =
    let is_due : Schedule → Bool = λ s. is_due_at c.args.new s c.args.earlier.now c.args.samples.now in
    let new : WaitingRow = record { number = c.args.new.number; row = c.args.row.now } in
    subst (λ (p : ProgramProgress). p.overruns < 2 ^ 63)
    (sym (ap (λ ps. progress_at ps c.loop-program.program) c.loop-program.invariant
    ∙ marked_at is_due new c.loop-program.program c.args.schedules.now c.args.programs.now.items))
    (all_at (λ (p : ProgramProgress). p.overruns < 2 ^ 63) c.args.programs.now.items c.loop-program.program c.requires.room
    (omega (arith, c.loop-program-test.true, c.requires.sized)))

pub loop-program-preserved : goal.loop-program-preserved
loop-program-preserved c =
    let is_due : Schedule → Bool = λ s. is_due_at c.args.new s c.args.earlier.now c.args.samples.now in
    let new : WaitingRow = record { number = c.args.new.number; row = c.args.row.now } in
    c.in_ok-mark_one.ensures
    ∙ ap (λ ps. slice_set ps c.loop-program.program (progress_with (progress_at ps c.loop-program.program) c.is_due_at-is_due.result new)) c.loop-program.invariant
    ∙ ap (λ d. slice_set (marked_below is_due new c.loop-program.program c.args.schedules.now c.args.programs.now.items)
    c.loop-program.program (progress_with (progress_at (marked_below is_due new c.loop-program.program c.args.schedules.now c.args.programs.now.items) c.loop-program.program) d new)) c.is_due_at-is_due.ensures
    ∙ marked_step is_due new c.loop-program.program c.args.schedules.now c.args.programs.now.items
    (omega (arith, c.loop-program-test.true)) (omega (arith, c.loop-program-test.true, c.requires.sized))

pub returns : goal.returns
returns c =
    let is_due : Schedule → Bool = λ s. is_due_at c.args.new s c.args.earlier.now c.args.samples.now in
    let new : WaitingRow = record { number = c.args.new.number; row = c.args.row.now } in
    c.loop-program.invariant
    ∙ marked_all is_due new c.loop-program.program c.args.schedules.now c.args.programs.now.items
    (omega (arith, c.loop-program-test.false)) c.requires.sized
