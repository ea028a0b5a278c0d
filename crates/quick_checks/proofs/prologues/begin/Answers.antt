use Rattle.slot_trees.specs.LibraryViews.{slot_function_view}
use Rattle.quick_checks.specs.Checking.{frame_of, words_read}
use Rattle.quick_checks.proofs.Arguments.{begun_all, begun_more}
use Rattle.quick_checks.proofs.prologues.begin.Goals as goal

pub loop-slot-preserved : goal.loop-slot-preserved
loop-slot-preserved c = λ now. begun_more (frame_of c.args.draft.now now) (slot_function_view c.args.function.now)
    (words_read c.args.read.now) c.args.start c.loop-slot.slot c.loop-slot.seats.items _ c.in_ok-begin_one.field-0
    _ _ _ (c.in_ok-begin_one.ensures now) c.in_ok-push.ensures.items (c.loop-slot.invariant now)

pub returns-clause-begun : goal.returns-clause-begun
returns-clause-begun c = λ now. begun_all (frame_of c.args.draft.now now)
    (slot_function_view c.args.function.now) (words_read c.args.read.now) c.args.start c.loop-slot.slot
    c.loop-slot.seats.items _ _ (c.loop-slot.invariant now)
