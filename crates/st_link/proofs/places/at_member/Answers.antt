use Rattle.std.proofs.Common.{refl, subst}
use Rattle.layout.specs.Types.{shape_of_type}
use Rattle.symbols.specs.Agreeing.{Agree}
use Rattle.symbols.specs.PlaceTypes.{place_type_view}
use Rattle.st_link.specs.Shapes.{IsMemberPlace, member_of}
use Rattle.st_link.proofs.PlaceLemmas.{leads_to_member}
use Rattle.st_link.proofs.places.at_member.Goals as goal

pub returns-clause-leads : goal.returns-clause-leads
returns-clause-leads c text t whole rest serves leads =
    let r = c.args.reached in
    let there = subst (λ o. Agree (IsMemberPlace text 0) o
    (member_of (shape_of_type text (place_type_view r.declared)) c.args.name.now.name)) c.in-Some.is
    (c.member.ensures text serves leads.expanded) in
    leads_to_member text t whole r (record {
      offset = c.sum.result;
      subscripts = r.subscripts;
      declared = c.in-Some.place.declared;
    }) c.args.name.now rest c.in-Some.place there c.sum.ensures refl refl leads
