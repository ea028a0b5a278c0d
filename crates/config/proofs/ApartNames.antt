-- No enumerated type of a text has a name twice.
use Rattle.std.proofs.Common.{◌≡◌, ◌∙◌, refl, sym, ap, ap₂, Bool, true, false, ◌||◌, not, if◌then◌else◌, List, []}
use Rattle.std.proofs.Common.{◌∷◌, ◌++◌, map}
use Rattle.std.specs.Prelude.{filter}
use Rattle.std.specs.List.{flat_map, list_all}
use Rattle.st_types.specs.declared.identifier.Identifier.{Identifier}
use Rattle.st_types.specs.Declarations.{TypeDeclaration, TypeDefinition, array, structure, enumeration}
use Rattle.st_types.specs.Sources as sources
use Rattle.st_types.specs.Sources.{Source}
use Rattle.st_meaning.specs.NameTypes.{is_named}
use Rattle.st_meaning.specs.Scopes.{Name, contains_name}
use Rattle.st_rules.specs.NameScopes.{scopes_of_element, scopes_of_type}
use Rattle.st_rules.specs.Places.{places_where, repeats}
use Rattle.st_rules.specs.Rules.{IsWellTyped}
use Rattle.st_link.proofs.WellTypedTexts.{parts_right}
use Rattle.layout.specs.TextLayouts.{enumerations_of_text}
use Rattle.config.proofs.ResolvedNames.{names_taken}
use Rattle.layout.specs.TypeNames.{names_of_type, names_of_types, names_in_text}
use Rattle.config.proofs.EnumerationLemmas.{names_are}
use Rattle.st_types.proofs.ListLemmas.{append_parts, flat_parts, all_append}
use Rattle.st_link.proofs.DifferentNames.{none_passes}
use Rattle.std.proofs.lemmas.Bool.{not_from_false, and_from}
use Rattle.layout.specs.Names.{are_different}

abbrev names_of : List Identifier → List Name
names_of xs = map (λ x. x.name) xs

not_again : (x : Name) (xs : List Identifier) → places_where (is_named x) xs ≡ []
    → contains_name (names_of xs) x ≡ false
not_again x [] h = refl
not_again x (y ∷ ys) h =
    let n = none_passes (is_named x) y ys h in
    ap₂ (λ a b. a || b) n.0 (not_again x ys n.1)

-- names that don't occur again are different
differ : (xs : List Identifier) → repeats xs ≡ [] → are_different (names_of xs) ≡ true
differ [] h = refl
differ (x ∷ xs) h =
    let e = append_parts (places_where (is_named x.name) xs) (repeats xs) h in
    and_from (not (contains_name (names_of xs) x.name)) (are_different (names_of xs))
    (not_from_false (contains_name (names_of xs) x.name) (not_again x.name xs e.0)) (differ xs e.1)

of_definition : (d : TypeDefinition) → flat_map repeats (scopes_of_type d) ≡ []
    → list_all are_different (names_of_type d) ≡ true
of_definition (array a) h = refl
of_definition (structure fields) h = refl
of_definition (enumeration names) h =
    and_from (are_different (names_of names)) true (differ names (append_parts (repeats names) [] h).0) refl

of_types : (ts : List TypeDeclaration) → flat_map repeats (flat_map (λ t. scopes_of_type t.definition) ts) ≡ []
    → list_all are_different (names_of_types ts) ≡ true
of_types [] h = refl
of_types (t ∷ ts) h =
    let e = flat_parts repeats (scopes_of_type t.definition) (flat_map (λ u. scopes_of_type u.definition) ts) h in
    all_append are_different (names_of_type t.definition) (names_of_types ts) (of_definition t.definition e.0)
    (of_types ts e.1)

of_text : (source : Source) → flat_map repeats (flat_map scopes_of_element source) ≡ []
    → list_all are_different (names_in_text source) ≡ true
of_text [] h = refl
of_text (sources.types ts ∷ rest) h =
    let e = flat_parts repeats (scopes_of_element (sources.types ts)) (flat_map scopes_of_element rest) h in
    all_append are_different (names_of_types ts) (names_in_text rest) (of_types ts e.0) (of_text rest e.1)
of_text (sources.unit u ∷ rest) h =
    of_text rest (flat_parts repeats (scopes_of_element (sources.unit u)) (flat_map scopes_of_element rest) h).1
of_text (sources.configuration c ∷ rest) h =
    of_text rest (flat_parts repeats (scopes_of_element (sources.configuration c)) (flat_map scopes_of_element rest) h).1

pub names_apart : (source : Source) → IsWellTyped source → list_all are_different (enumerations_of_text source) ≡ true
names_apart source well =
    ap (list_all are_different) (names_taken source ∙ sym (names_are source))
    ∙ of_text source (parts_right source well).names.scopes
