-- Resolving literals changes no name of an enumerated type.
use Rattle.std.proofs.Common.{◌≡◌, refl, ap, ap₂, ◌∙◌, ℕ, ◌+◌, List, [], ◌∷◌, map, Some, None}
use Rattle.st_types.specs.Declarations as declarations
use Rattle.st_types.specs.Declarations.{TypeDefinition, TypeDeclaration}
use Rattle.st_types.specs.Sources.{Source}
use Rattle.st_meaning.specs.Enumerations.{Enumeration, enumerated_names, enumerations_from}
use Rattle.st_meaning.specs.NameTypes.{Declared, types_in, declared_in}
use Rattle.st_meaning.specs.ResolvedUnits.{resolved_definition, resolved_type_declaration}
use Rattle.layout.specs.TextLayouts.{enumeration_names, enumerations_of_text}
use Rattle.layout.proofs.ResolvedLemmas.{types_taken}

module _ (text : Declared) where
  same_names : (d : TypeDefinition) → enumerated_names (resolved_definition text d) ≡ enumerated_names d
  same_names (declarations.array a) = refl
  same_names (declarations.structure fields) = refl
  same_names (declarations.enumeration names) = refl

  same_enumerations : (n : ℕ) (ts : List TypeDeclaration)
      → enumerations_from n (map (resolved_type_declaration text) ts) ≡ enumerations_from n ts
  same_enumerations n [] = refl
  same_enumerations n (t ∷ ts) =
      ap (λ names. elim names [
        | Some xs ↦
            record { number = n; name = t.name.name; names = xs }
            ∷ enumerations_from (n + 1) (map (resolved_type_declaration text) ts)
        | None ↦ enumerations_from n (map (resolved_type_declaration text) ts)
      ]) (same_names t.definition)
      ∙ ap₂ (λ es fs. elim (enumerated_names t.definition)
      [ Some xs ↦ record { number = n; name = t.name.name; names = xs } ∷ es | None ↦ fs ])
      (same_enumerations (n + 1) ts) (same_enumerations n ts)

pub names_taken : (source : Source) → enumerations_of_text source ≡ enumeration_names (types_in source)
names_taken source =
    ap enumeration_names (types_taken (declared_in source) source)
    ∙ ap (λ (es : List Enumeration). map (λ e. map (λ x. x.name) e.names) es)
    (same_enumerations (declared_in source) 0 (types_in source))
