use Rattle.std.proofs.Common.{rules, refl, ◌+◌}
use Rattle.quick_trees.specs.Calls.{quick_units}
use Rattle.quick_checks.specs.Checking.{frame_of, point_of, site_of}
use Rattle.quick_checks.proofs.Instances.{given_next, given_over}
use Rattle.quick_checks.proofs.members.check_given.Goals as goal

pub loop-index-preserved : goal.loop-index-preserved
loop-index-preserved c = λ now library calls q rest. c.loop-index.invariant now library calls q
    (given_next (frame_of c.args.draft.now now) (site_of c.args.values.now)
    (quick_units (frame_of c.args.draft.now now) library calls) c.args.first c.args.inputs.now c.loop-index.index
    (c.loop-index.index + 1) c.in_ok-input.input c.in-Some.slot c.in_ok-to.to (point_of c.loop-index.at) (point_of
    c.give.new.at) q
    refl c.in_ok-input.ensures c.in-Some.ensures.1 (c.in_ok-to.ensures now library calls)
    (c.if-not-are_elsewhere.ensures (search rules)) rest)

pub returns : goal.returns
returns c = λ now library calls. c.loop-index.invariant now library calls (point_of c.loop-index.at)
    (given_over (frame_of c.args.draft.now now) (site_of c.args.values.now)
    (quick_units (frame_of c.args.draft.now now) library calls) c.args.first c.args.inputs.now c.loop-index.index
    (point_of c.loop-index.at) c.loop-index-test.false)
