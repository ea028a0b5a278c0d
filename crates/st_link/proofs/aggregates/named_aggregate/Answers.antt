use Rattle.std.proofs.Common.{◌≡◌, refl, ap, sym, subst, ◌∙◌, ℕ, map}
use Rattle.std.proofs.lemmas.Result.{IfOk-weaker}
use Rattle.st_meaning.specs.NameTypes.{Declared}
use Rattle.layout.specs.Compositions.{ServesTypes, composition_view, named_type}
use Rattle.layout.specs.Sizes.{ServesSizes}
use Rattle.st_link.specs.NamedMembers.{members_in, named_member_view}
use Rattle.st_link.specs.Shapes.{AreExpanded, HasParts, IsExpanded, IsAggregate}
use Rattle.st_link.proofs.WholeLemmas.{expanded_members, has_members, whole_kind, whole_parts}
use Rattle.st_link.proofs.aggregates.named_aggregate.Goals as goal

pub returns-in-Kind-clause-whole : goal.returns-in-Kind-clause-whole
returns-in-Kind-clause-whole c text at serves expanded =
    let types = subst (λ y. ServesTypes y text) (sym c.types.ensures) serves.types in
    whole_kind text (named_type c.args.name.now at) c.in-Kind.field-0 (record { size = 1; members = c.new.result })
    (sym (c.composition_named-composed.ensures text at types) ∙ ap composition_view c.in-Kind.is) expanded refl
    c.new.ensures

pub returns-in_ok-members-in_default : goal.returns-in_ok-members-in_default
returns-in_ok-members-in_default c =
    let composed = c.composition_named-composed.result in
    let members : map named_member_view c.deref.result.now ≡ members_in (composition_view composed) =
    ap (map named_member_view) c.deref.ensures.value ∙ c.in_ok-members-in_default.ensures in
    record {
      serves = c.aggregate_of.ensures.serves;
      whole = IfOk-weaker c.aggregate_of.result _ (λ whole. (text : Declared) (at : ℕ) → ServesSizes c.args.sizes.now text
          → IsExpanded text (named_type c.args.name.now at) → IsAggregate text (named_type c.args.name.now at) whole)
          (λ whole parts text at serves expanded.
          let types = subst (λ y. ServesTypes y text) (sym c.types.ensures) serves.types in
          let made = sym (c.composition_named-composed.ensures text at types) in
          whole_parts text (named_type c.args.name.now at) (composition_view composed) whole made
          (has_members composed c.in_default.not-Kind c.in_default.not-Elements) expanded
          (subst (λ es. HasParts text es whole) members (parts text serves (subst (AreExpanded text) (sym members)
          (expanded_members text (named_type c.args.name.now at) (composition_view composed) made expanded)))))
          c.aggregate_of.ensures.parts;
    }
