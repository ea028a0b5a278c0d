-- The depth of a type doesn't depend on literals.
use Rattle.std.proofs.Common.{◌≡◌, ℕ, zero, suc, Bool, true, false, ◌&&◌, List, [], ◌∷◌, map, Option, Some, None}
use Rattle.std.proofs.Common.{option_map, refl, sym, ap, ap₂, ◌∙◌}
use Rattle.std.specs.Prelude.{is_none}
use Rattle.std.specs.List.{list_all}
use Rattle.st_types.specs.declared.kind.Kind.{Kind}
use Rattle.st_types.specs.declared.data_type.VariableType.{VariableType}
use Rattle.st_types.specs.Declarations as declarations
use Rattle.st_types.specs.Declarations.{TypeDefinition}
use Rattle.st_meaning.specs.NameTypes.{Declared, definition_of, kind_among}
use Rattle.st_meaning.specs.ResolvedUnits.{resolved_type, resolved_definition, resolved_field}
use Rattle.layout.specs.Types.{NamedSite, site_of_field, BlockType, instance_of, of_kind, instance_parts}
use Rattle.layout.specs.Types.{defined_composition, composition_of, element_of, parts_within, is_within_depth}
use Rattle.layout.proofs.ResolvedLemmas.{Typed, typed, taking, taken_text, fields_typed, same_kind_among}
use Rattle.layout.proofs.ResolvedLemmas.{same_definition, SameBlock, same_instance}

module _ (text : Declared) (inner other : VariableType → Bool)
    (same : (t : VariableType) → other (resolved_type t) ≡ inner t) where
  all_named : (test : VariableType → Bool) (ds : List NamedSite)
      → list_all (λ d. test d.site.declared) ds ≡ list_all (λ e. test e.1) (map typed ds)
  all_named test [] = refl
  all_named test (d ∷ ds) = ap (λ b. test d.site.declared && b) (all_named test ds)

  all_taken : (es : List Typed) → list_all (λ e. other e.1) (map taking es) ≡ list_all (λ e. inner e.1) es
  all_taken [] = refl
  all_taken (e ∷ es) = ap₂ (λ a b. a && b) (same e.1) (all_taken es)

  all_parts : (ds es : List NamedSite) → map typed es ≡ map taking (map typed ds)
      → list_all (λ d. other d.site.declared) es ≡ list_all (λ d. inner d.site.declared) ds
  all_parts ds es h =
      all_named other es ∙ ap (list_all (λ e. other e.1)) h ∙ all_taken (map typed ds) ∙ sym (all_named inner ds)

  within_instance : (o p : Option BlockType) → SameBlock text o p
      → parts_within other (instance_parts o) ≡ parts_within inner (instance_parts p)
  within_instance None None h = refl
  within_instance None (Some c) h = let e = h.there in absurd (cc)
  within_instance (Some b) None h = let e = h.there in absurd (cc)
  within_instance (Some b) (Some c) h = all_parts c.members b.members (h.members b c refl refl)

  within_defined : (t : VariableType) (d : Option TypeDefinition)
      → parts_within other
      (defined_composition (taken_text text) (resolved_type t) (option_map (resolved_definition text) d))
      ≡ parts_within inner (defined_composition text t d)
  within_defined t None =
      within_instance (instance_of (taken_text text) (resolved_type t)) (instance_of text t) (same_instance text t)
  within_defined t (Some (declarations.array a)) = same (element_of a)
  within_defined t (Some (declarations.structure fields)) =
      all_parts (map site_of_field fields) (map site_of_field (map (resolved_field text) fields))
      (fields_typed text fields)
  within_defined t (Some (declarations.enumeration names)) = refl

  within_composed : (t : VariableType)
      → parts_within other (composition_of (taken_text text) (resolved_type t))
      ≡ parts_within inner (composition_of text t)
  within_composed t =
      ap (λ m. parts_within other (elim m [
        | Some k ↦ of_kind k
        | None ↦
            defined_composition (taken_text text) (resolved_type t) (definition_of (taken_text text) (resolved_type t))
      ])) (same_kind_among text t)
      ∙ by_kind (kind_among text.types t)
    where
      by_kind : (m : Option Kind) → parts_within other (elim m [
        | Some k ↦ of_kind k
        | None ↦
            defined_composition (taken_text text) (resolved_type t) (definition_of (taken_text text) (resolved_type t))
      ]) ≡ parts_within inner
          (elim m [ Some k ↦ of_kind k | None ↦ defined_composition text t (definition_of text t) ])
      by_kind (Some k) = refl
      by_kind None =
          ap (λ d. parts_within other (defined_composition (taken_text text) (resolved_type t) d))
          (same_definition text t)
          ∙ within_defined t (definition_of text t)

pub same_depth : (text : Declared) (n : ℕ) (t : VariableType)
    → is_within_depth n (taken_text text) (resolved_type t) ≡ is_within_depth n text t
unfolding is_within_depth
same_depth text zero t = refl
same_depth text (suc n) t =
    within_composed text (is_within_depth n text) (is_within_depth n (taken_text text)) (λ u. same_depth text n u) t
