use Rattle.std.proofs.Common.{◌≡◌, refl, ap, ◌∙◌, [], None, map}
use Rattle.std.proofs.lemmas.Result.{IfOk-weaker}
use Rattle.st_types.specs.declared.kind.Kind.TheVariants.{Bool}
use Rattle.st_meaning.specs.NameTypes.{elementary}
use Rattle.layout.specs.Types as made
use Rattle.layout.specs.Compositions.{composition_view}
use Rattle.st_link.specs.NamedMembers.{members_in, named_member_view, named_parts}
use Rattle.st_link.proofs.PartLemmas.{named_parts_of}
use Rattle.st_link.proofs.WholeLemmas.{not_array}
use Rattle.st_link.proofs.named_members.members_of.Goals as goal

pub returns : goal.returns
returns c =
    let s : made.Site = record { declared = elementary Bool; initial = None; retentions = [] } in
    let made = composition_view c.args.composed in
    let are = named_parts_of s made c.in_ok-parts.parts.items (not_array c.args.composed c.in_default.not-Elements)
    (c.in_ok-parts.ensures s refl) in
    IfOk-weaker c.named_parts.result _ (λ members. map named_member_view members.items ≡ members_in made)
    (λ members h. h ∙ ap named_parts c.deref.ensures.value ∙ are) c.named_parts.ensures
