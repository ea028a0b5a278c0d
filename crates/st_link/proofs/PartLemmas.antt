-- Parts with names, by the members of a composition.
use Rattle.std.proofs.Common.{◌≡◌, refl, ap, ◌∙◌, List, [], ◌∷◌, map, false}
use Rattle.st_types.specs.declared.data_type.VariableType.{VariableType}
use Rattle.st_meaning.specs.Scopes.{Name}
use Rattle.st_types.specs.declared.path.Step.TheVariants as steps
use Rattle.symbols.specs.PlaceTypes.{place_type_view}
use Rattle.layout.specs.Types.{Site, NamedSite, Composition, of_kind, of_elements, of_parts}
use Rattle.layout.specs.KeptSites.{kept_part, member_part, part_view, parts_below, step_view}
use Rattle.layout.specs.declared.sites.Part.{Part}
use Rattle.layout.specs.declared.sites.PartStep.{PartStep}
use Rattle.layout.specs.declared.sites.PartStep.TheVariants.{Member, Element}
use Rattle.st_link.specs.NamedMembers.{NamedType, members_in, name_and_type, named_part_then, named_parts}
use Rattle.st_link.proofs.WholeLemmas.{array_made}

named_step : (q : PartStep) (x : Name) (t : VariableType) (rest : List NamedType) → step_view q ≡ steps.Member x
    → named_part_then q t rest ≡ (x, t) ∷ rest
named_step (Member y) x t rest h = let e : y.now ≡ x = cc in ap (λ z. (z, t) ∷ rest) e
named_step (Element z) x t rest h = absurd (cc)

named_members : (s : Site) (ds : List NamedSite) (ps : List Part)
    → map part_view ps ≡ map kept_part (map (member_part s) ds) → named_parts ps ≡ map name_and_type ds
named_members s [] [] h = refl
named_members s [] (p ∷ ps) h = absurd (cc)
named_members s (d ∷ ds) [] h = absurd (cc)
named_members s (d ∷ ds) (p ∷ ps) h =
    let first : part_view p ≡ kept_part (member_part s d) = cc in
    let others : map part_view ps ≡ map kept_part (map (member_part s) ds) = cc in
    named_step p.step d.name (place_type_view p.site.declared) (named_parts ps) (ap (λ k. k.0) first)
    ∙ ap (λ t. (d.name, t) ∷ named_parts ps) (ap (λ k. k.1.declared) first)
    ∙ ap (λ es. name_and_type d ∷ es) (named_members s ds ps others)

pub named_parts_of : (s : Site) (c : Composition) (ps : List Part) → array_made c ≡ false
    → map part_view ps ≡ map kept_part (parts_below s c) → named_parts ps ≡ members_in c
named_parts_of s (of_kind k) [] none h = refl
named_parts_of s (of_kind k) (p ∷ ps) none h = absurd (cc)
named_parts_of s (of_elements a) ps none h = absurd (cc)
named_parts_of s (of_parts w ds) ps none h = named_members s ds ps h
