use Rattle.std.proofs.Common.{◌≡◌, ◌∙◌, ap}
use Rattle.slot_trees.specs.SlotTrees.{copied}
use Rattle.slot_trees.specs.ExpressionViews.{anchor_view, place_view}
use Rattle.slot_trees.specs.StatementViews.{slot_argument_view}
use Rattle.quick_trees.specs.Calls.{quick_units}
use Rattle.quick_checks.specs.Checking.{frame_of, point_of, site_of}
use Rattle.quick_checks.proofs.Instances.{copied_next}
use Rattle.quick_checks.proofs.members.check_output.Goals as goal

pub returns : goal.returns
returns c =
    let seen : slot_argument_view c.args.argument.now ≡ copied c.in-Copied.member (place_view c.in-Copied.place) =
    ap slot_argument_view c.in-Copied.is in
    let is = seen ∙ ap (copied c.in-Copied.member) c.in-Some-Some.ensures in
    λ now library calls rest q more. copied_next (frame_of c.args.draft.now now) (site_of c.args.values.now)
    (quick_units (frame_of c.args.draft.now now) library calls) c.args.first (slot_argument_view c.args.argument.now)
    c.in-Copied.member (anchor_view c.in-Some-Some.target) c.in-Some-Some.from c.in_ok-slot.slot rest
    (point_of c.args.at.now) (point_of c.read_notes.new.at) (point_of c.give.new.at) q is c.in-Some-Some.ensures'.1
    c.in_ok-slot.ensures (c.in_ok-read_notes.ensures now) (record {
      kind = c.in_ok-read.read.kind;
      word = c.in_ok-read.read.word;
      looked = point_of c.read_slot.new.at;
      looks = record {
        of_type = c.in_ok-read.ensures.of_type now;
        has = c.in_ok-read.ensures.has;
        is = c.in_ok-read.ensures.same;
        touches = c.in_ok-read.ensures.touches;
      };
      to = c.in_ok-_to._to;
      gives = c.in_ok-_to.ensures now library calls;
    }) more
