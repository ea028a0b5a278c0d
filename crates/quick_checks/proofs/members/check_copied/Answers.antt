use Rattle.std.proofs.Common.{List, refl, subst, sym, ◌+◌}
use Rattle.slot_trees.specs.SlotTrees.{SlotArgument}
use Rattle.quick_trees.specs.Calls.{quick_units}
use Rattle.quick_trees.specs.TreeCode.{OutputsCopied}
use Rattle.quick_checks.specs.Checking.{frame_of, point_of, site_of}
use Rattle.quick_checks.proofs.Instances.{argument_next, arguments_over}
use Rattle.quick_checks.proofs.members.check_copied.Goals as goal

pub loop-index-preserved : goal.loop-index-preserved
loop-index-preserved c =
    let is = argument_next c.args.arguments.now c.loop-index.index (c.loop-index.index + 1)
    c.index-arguments-index.result c.loop-index-test.true refl c.index-arguments-index.is in
    λ now library calls q rest. c.loop-index.invariant now library calls q
    (subst (λ (xs : List SlotArgument). OutputsCopied (frame_of c.args.draft.now now) (site_of c.args.values.now)
    (quick_units (frame_of c.args.draft.now now) library calls) c.args.first xs (point_of c.loop-index.at) q) (sym is)
    (c.in_ok-check_output.ensures now library calls _ q rest))

pub returns : goal.returns
returns c =
    let is = arguments_over c.args.arguments.now c.loop-index.index c.loop-index-test.false in
    λ now library calls. c.loop-index.invariant now library calls (point_of c.loop-index.at)
    (subst (λ (xs : List SlotArgument). OutputsCopied (frame_of c.args.draft.now now) (site_of c.args.values.now)
    (quick_units (frame_of c.args.draft.now now) library calls) c.args.first xs (point_of c.loop-index.at)
    (point_of c.loop-index.at)) (sym is) refl)
