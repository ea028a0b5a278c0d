use Rattle.std.proofs.Common.{Some, subst}
use Rattle.layout.specs.Types.{shape_of_type}
use Rattle.symbols.specs.Agreeing.{Agree}
use Rattle.symbols.specs.PlaceTypes.{place_type_view}
use Rattle.st_link.specs.Shapes.{IsMemberPlace, member_of}
use Rattle.st_link.proofs.InstanceLemmas.{far_member, member_agrees}
use Rattle.st_link.proofs.invocations.member_offset.Goals as goal

pub returns-then-member-gt-MAX_PATHS-clause-none : goal.returns-then-member-gt-MAX_PATHS-clause-none
returns-then-member-gt-MAX_PATHS-clause-none c same text t ps serves has =
    let x = c.args.name.now.name in
    let whole = place_type_view c.args.instance in
    let there = subst (λ o. Agree (IsMemberPlace text 0) o (member_of (shape_of_type text whole) x)) c.in-Some.is
    (c.member.ensures text serves.shapes has.expanded) in
    far_member text whole ps x c.in-Some.member has
    (member_agrees text whole ps x (Some c.in-Some.member) has there) c.if-member-gt-MAX_PATHS.true
