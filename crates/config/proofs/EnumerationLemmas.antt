-- Names of enumerated types.
use Rattle.std.proofs.Common.{◌≡◌, ◌+◌, ℕ, refl, sym, ap, ◌∙◌, List, [], ◌∷◌, ◌++◌, map, append_assoc, Some, None}
use Rattle.st_types.specs.Declarations.{TypeDeclaration, TypeDefinition, array, structure, enumeration}
use Rattle.st_types.specs.Sources as sources
use Rattle.st_types.specs.Sources.{Source}
use Rattle.st_meaning.specs.Enumerations.{Enumeration, enumerated_names, enumerations_from}
use Rattle.st_meaning.specs.NameTypes.{types_in}
use Rattle.st_meaning.specs.Scopes.{Name}
use Rattle.layout.specs.TextLayouts.{enumeration_names}
use Rattle.layout.specs.TypeNames.{names_of_type, names_of_types, names_in_text}

abbrev names_in : List Enumeration → List (List Name)
names_in es = map (λ (e : Enumeration). map (λ x. x.name) e.names) es

abbrev names_from : ℕ → List TypeDeclaration → List (List Name)
names_from n ts = names_in (enumerations_from n ts)

-- a type of this definition before others
abbrev names_then : ℕ → TypeDeclaration → List TypeDeclaration → TypeDefinition → List (List Name)
names_then n t ts d = names_in (elim (enumerated_names d) [
  | Some names ↦ record { number = n; name = t.name.name; names = names } ∷ enumerations_from (n + 1) ts
  | None ↦ enumerations_from n ts
])

by_definition : (t : TypeDeclaration) (ts : List TypeDeclaration) (n : ℕ) (d : TypeDefinition) → t.definition ≡ d
    → names_from n ts ≡ names_of_types ts → names_from (n + 1) ts ≡ names_of_types ts
    → names_from n (t ∷ ts) ≡ names_of_types (t ∷ ts)
by_definition t ts n (array a) e same more =
    ap (names_then n t ts) e ∙ same ∙ sym (ap (λ x. names_of_type x ++ names_of_types ts) e)
by_definition t ts n (structure fields) e same more =
    ap (names_then n t ts) e ∙ same ∙ sym (ap (λ x. names_of_type x ++ names_of_types ts) e)
by_definition t ts n (enumeration names) e same more =
    ap (names_then n t ts) e ∙ ap (λ xs. map (λ y. y.name) names ∷ xs) more
    ∙ sym (ap (λ x. names_of_type x ++ names_of_types ts) e)

numbered : (ts : List TypeDeclaration) (n : ℕ) → names_from n ts ≡ names_of_types ts
numbered [] n = refl
numbered (t ∷ ts) n = by_definition t ts n t.definition refl (numbered ts n) (numbered ts (n + 1))

both_types : (ts us : List TypeDeclaration) → names_of_types (ts ++ us) ≡ names_of_types ts ++ names_of_types us
both_types [] us = refl
both_types (t ∷ ts) us =
    ap (λ xs. names_of_type t.definition ++ xs) (both_types ts us)
    ∙ sym (joined (names_of_type t.definition) (names_of_types ts) (names_of_types us))
  where
    joined : (xs ys zs : List (List Name)) → (xs ++ ys) ++ zs ≡ xs ++ (ys ++ zs)
    joined xs ys zs = append_assoc xs ys zs

in_text : (source : Source) → names_in_text source ≡ names_of_types (types_in source)
in_text [] = refl
in_text (sources.types ts ∷ rest) =
    ap (λ xs. names_of_types ts ++ xs) (in_text rest) ∙ sym (both_types ts (types_in rest))
in_text (sources.unit u ∷ rest) = in_text rest
in_text (sources.configuration c ∷ rest) = in_text rest

-- the names of a text's enumerated types, in its order
pub names_are : (source : Source) → names_in_text source ≡ enumeration_names (types_in source)
names_are source = in_text source ∙ sym (numbered (types_in source) 0)
