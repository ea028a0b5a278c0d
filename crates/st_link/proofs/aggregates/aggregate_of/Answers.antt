use Rattle.std.proofs.Common.{◌≡◌, ap, subst, ◌+◌, ◌∷◌, map, drop}
use Rattle.std.proofs.lemmas.List.{drop_all}
use Rattle.st_meaning.specs.NameTypes.{Declared}
use Rattle.st_link.specs.NamedMembers.{named_member_view}
use Rattle.st_link.specs.Shapes.{HasAllButLast}
use Rattle.st_link.proofs.MemberLemmas.{grown_all}
use Rattle.st_link.proofs.WholeLemmas.{first_expanded}
use Rattle.st_link.proofs.aggregates.aggregate_of.Goals as goal
use Rattle.st_types.proofs.ListLemmas.{drop_next}

pub loop-member-preserved : goal.loop-member-preserved
loop-member-preserved c = record {
  serves = λ text serves. c.in_ok-slots.ensures.serves text (c.loop-member.invariant.serves text serves);
  grown = λ text serves expanded.
      let all = map named_member_view c.args.members.now in
      let left = map named_member_view (drop (c.loop-member.member-index + 1) c.args.members.now) in
      let before = subst (λ ms. HasAllButLast text all (map named_member_view ms) c.loop-member.whole)
      (drop_next c.args.members.now c.loop-member.member-index c.member-item.result c.loop-member-test.true
      c.member-item.is) (c.loop-member.invariant.grown text serves expanded) in
      c.in_ok-add.ensures text all left
      (c.in_ok-slots.ensures.size text (c.loop-member.invariant.serves text serves)
      (first_expanded text (named_member_view c.member-item.result) left before.expanded))
      before;
}

pub returns-clause-parts : goal.returns-clause-parts
returns-clause-parts c text serves expanded =
    let all = map named_member_view c.args.members.now in
    grown_all text all c.loop-member.whole
    (subst (λ ms. HasAllButLast text all (map named_member_view ms) c.loop-member.whole)
    (drop_all c.loop-member.member-index c.args.members.now c.loop-member-test.false)
    (c.loop-member.invariant.grown text serves expanded))
