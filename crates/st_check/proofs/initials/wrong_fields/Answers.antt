use Rattle.std.proofs.Common.{refl, sym}
use Rattle.st_types.specs.Initials.{members_of}
use Rattle.st_types.specs.InitialViews.{member_view}
use Rattle.st_rules.specs.InitialRules.{wrong_fields}
use Rattle.st_rules.proofs.CollectLemmas.{search_starts}
use Rattle.symbols.specs.PlaceTypes.{place_type_view}
use Rattle.st_check.proofs.LoopLemmas.{part_goes_on, parts_end}
use Rattle.st_check.proofs.TypeLemmas.{is_told}
use Rattle.st_check.proofs.initials.wrong_fields.Goals as goal

pub loop-member-init : goal.loop-member-init
loop-member-init c text fields = search_starts _ _ _ refl

pub loop-member-preserved : goal.loop-member-preserved
loop-member-preserved c text fields =
    let t = place_type_view c.args.declared in
    let known = is_told _ _ _ _ _ (c.field_of.ensures text fields) c.is_some-is_field.ensures refl in
    let one = rw (sym known, c.type_word.ensures) at c.add_unless.ensures in
    part_goes_on (λ xs. wrong_fields text t (members_of xs)) member_view c.args.members.now c.loop-member.member-index _
    _ _
    _ _ _ c.loop-member-test.true c.member-item.is refl (c.loop-member.invariant text fields) one

pub returns : goal.returns
returns c text fields =
    let t = place_type_view c.args.declared in
    parts_end (λ xs. wrong_fields text t (members_of xs)) member_view c.args.members.now c.loop-member.member-index _ _
    _
    c.loop-member-test.false refl (c.loop-member.invariant text fields)
