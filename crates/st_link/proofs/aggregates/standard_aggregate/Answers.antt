use Rattle.std.proofs.Common.{◌≡◌, ap, sym, subst, ◌∙◌, ◌+◌, ◌∷◌, map, drop}
use Rattle.std.proofs.lemmas.List.{drop_all}
use Rattle.st_meaning.specs.NameTypes.{Declared}
use Rattle.st_meaning.specs.StandardBlocks.{members_of}
use Rattle.symbols.specs.Standard.{block_view}
use Rattle.symbols.specs.PlaceTypes.{place_type_view}
use Rattle.layout.specs.Types.{site_of_member}
use Rattle.st_link.specs.NamedMembers.{name_and_type, named_member_view}
use Rattle.st_link.specs.Shapes.{AreExpanded, HasAllButLast, HasParts}
use Rattle.st_link.proofs.MemberLemmas.{grown_all}
use Rattle.st_link.proofs.StandardLemmas.{AreElementary, elementary_expanded, elementary_members, elementary_size}
use Rattle.st_link.proofs.aggregates.standard_aggregate.Goals as goal
use Rattle.st_types.proofs.ListLemmas.{drop_next}

pub loop-member-init : goal.loop-member-init
loop-member-init c =
    let all = map named_member_view c.deref-member-items.result.now in
    let are : all ≡ map name_and_type (map site_of_member (members_of (block_view c.args.block))) =
    ap (map named_member_view) c.deref-member-items.ensures.value ∙ c.in_ok-members.ensures in
    let simple = subst AreElementary (sym are) (elementary_members (members_of (block_view c.args.block))) in
    record { left = simple; grown = λ text. c.new-whole.ensures text all (elementary_expanded text all simple) }

pub loop-member-preserved : goal.loop-member-preserved
loop-member-preserved c =
    let items = c.deref-member-items.result.now in
    let begins = drop_next items c.loop-member.member-index c.member-item.result c.loop-member-test.true
    c.member-item.is in
    let simple = subst (λ ms. AreElementary (map named_member_view ms)) begins c.loop-member.invariant.left in
    record {
      left = simple.1;
      grown = λ text.
          c.in_ok-add.ensures text (map named_member_view items)
          (map named_member_view (drop (c.loop-member.member-index + 1) items))
          (elementary_size text (place_type_view c.member-item.result.declared) simple.0.0 simple.0.1)
          (subst (λ ms. HasAllButLast text (map named_member_view items) (map named_member_view ms) c.loop-member.whole)
          begins (c.loop-member.invariant.grown text));
    }

pub returns : goal.returns
returns c text =
    let items = c.deref-member-items.result.now in
    let all = map named_member_view items in
    subst (λ es. HasParts text es c.loop-member.whole)
    (ap (map named_member_view) c.deref-member-items.ensures.value ∙ c.in_ok-members.ensures)
    (grown_all text all c.loop-member.whole
    (subst (λ ms. HasAllButLast text all (map named_member_view ms) c.loop-member.whole)
    (drop_all c.loop-member.member-index items c.loop-member-test.false) (c.loop-member.invariant.grown text)))
