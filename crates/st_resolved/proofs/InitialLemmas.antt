-- Initial values, by the resolutions of their parts.
use Rattle.std.proofs.Common.{◌≡◌, ◌∙◌, ap, ℕ, List, Option, map}
use Rattle.st_types.specs.declared.identifier.Identifier.{Identifier}
use Rattle.st_types.specs.declared.data_type.VariableType.{VariableType}
use Rattle.st_types.specs.Initials.{Initial, Element, Member, list, structure, elements_of, members_of}
use Rattle.st_meaning.specs.NameTypes.{Declared}
use Rattle.st_meaning.specs.ResolvedUnits.{resolved_initial, resolved_element, resolved_elements, element_of, field_of}
use Rattle.st_resolved.specs.Arms.{resolved_member}
use Rattle.st_resolved.proofs.ListLemmas.{elements_resolved, members_resolved}

abbrev pair : Identifier → Initial → Member
pair x v = (x, v)

pub list_resolved : (text : Declared) (t u : Option VariableType) (at : ℕ) (xs ys : List Element)
    → u ≡ element_of text t → ys ≡ map (resolved_element text u) xs
    → list at (elements_of ys) ≡ resolved_initial text t (list at (elements_of xs))
list_resolved text t u at xs ys is each =
    ap (λ zs. list at (elements_of zs)) each ∙ ap (list at) (elements_resolved text u xs)
    ∙ ap (λ v. list at (resolved_elements text v (elements_of xs))) is

pub structure_resolved : (text : Declared) (t : Option VariableType) (at : ℕ) (xs ys : List Member)
    → ys ≡ map (resolved_member text t) xs
    → structure at (members_of ys) ≡ resolved_initial text t (structure at (members_of xs))
structure_resolved text t at xs ys each =
    ap (λ zs. structure at (members_of zs)) each ∙ ap (structure at) (members_resolved text t xs)

-- a member of a structure, by the resolution of its value
pub member_resolved : (text : Declared) (t u : Option VariableType) (x y : Identifier) (v w : Initial)
    → u ≡ field_of text t x.name → y ≡ x → w ≡ resolved_initial text u v
    → pair y w ≡ resolved_member text t (x, v)
member_resolved text t u x y v w field same value =
    ap (λ z. pair z w) same ∙ ap (pair x) (value ∙ ap (λ s. resolved_initial text s v) field)
