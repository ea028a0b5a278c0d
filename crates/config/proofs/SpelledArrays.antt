-- The arrays of plain declarations have bounds as the grammar gives them.
use Rattle.std.proofs.Common.{◌≡◌, refl, ◌∙◌, Bool, true, ◌&&◌, List, [], ◌∷◌, ◌++◌, map, Option, Some, None}
use Rattle.std.specs.List.{list_all, flat_map}
use Rattle.st_types.specs.declared.kind.Kind.{Kind}
use Rattle.st_types.specs.declared.kind.Kind.TheVariants.{Sint, Int, Dint, Lint, Usint, Uint, Udint, Ulint, Byte, Word}
use Rattle.st_types.specs.declared.kind.Kind.TheVariants.{Dword, Lword, Time, Bool as Boolean, Enumerated}
use Rattle.st_types.specs.declared.literal.Number.{Number}
use Rattle.st_types.specs.declared.data_type.ArrayType.{ArrayType}
use Rattle.st_types.specs.declared.data_type.VariableType.{VariableType}
use Rattle.st_types.specs.declared.data_type.VariableType.TheVariants as types
use Rattle.st_types.specs.declared.unit.UnitSort.{UnitSort}
use Rattle.st_types.specs.Declarations as declarations
use Rattle.st_types.specs.Declarations.{Field, TypeDefinition, TypeDeclaration, Declaration, VariableBlock}
use Rattle.st_types.specs.Units.{OrganisationUnit}
use Rattle.st_types.specs.Configurations.{GlobalDeclaration, GlobalBlock}
use Rattle.st_types.specs.Sources as sources
use Rattle.st_types.specs.Sources.{LibraryElement, Source}
use Rattle.st_rules.specs.DeclaredTypes.{Declaring, field, variable_of, global, declarings_of_definition}
use Rattle.st_rules.specs.DeclaredTypes.{declarings_of_block, declarings_of_globals, declarings_of_element}
use Rattle.st_rules.specs.DeclaredTypes.{declarings_in, array_of_definition, array_of_type, named_arrays_of_element}
use Rattle.st_rules.specs.DeclaredTypes.{arrays_in}
use Rattle.std.proofs.lemmas.List.Folds.{list_all-append}
use Rattle.config.specs.PlainDeclarations.{is_short, is_type_word, is_plain_number, is_plain_simple, is_plain_array}
use Rattle.config.specs.PlainDeclarations.{is_plain_type, is_plain_field, is_plain_definition, is_word, are_words}
use Rattle.config.specs.PlainDeclarations.{is_plain_type_declaration, is_plain_declaration, is_plain_block}
use Rattle.config.specs.PlainDeclarations.{is_plain_unit, is_plain_global, is_plain_globals, is_plain_resource}
use Rattle.config.specs.PlainDeclarations.{is_plain_element, is_plain}
use Rattle.config.specs.Spelled.{IsKeyword, AreSpelledArrays}
use Rattle.std.proofs.lemmas.Bool.{and_parts, and_from}

-- no enumerated type before a `#`
pub keyword_is : (o : Option Kind) → is_type_word o ≡ true → IsKeyword o
keyword_is None h = tt
keyword_is (Some Sint) h = tt
keyword_is (Some Int) h = tt
keyword_is (Some Dint) h = tt
keyword_is (Some Lint) h = tt
keyword_is (Some Usint) h = tt
keyword_is (Some Uint) h = tt
keyword_is (Some Udint) h = tt
keyword_is (Some Ulint) h = tt
keyword_is (Some Byte) h = tt
keyword_is (Some Word) h = tt
keyword_is (Some Dword) h = tt
keyword_is (Some Lword) h = tt
keyword_is (Some Time) h = tt
keyword_is (Some Boolean) h = tt
keyword_is (Some (Enumerated names number)) h = absurd (cc)

pub number_keyword : (n : Number) → is_plain_number n ≡ true → IsKeyword n.written
number_keyword n h = keyword_is n.written (and_parts (is_short n.magnitude) (is_type_word n.written) h).1

-- lists of arrays
joined : (xs ys : List ArrayType) → AreSpelledArrays xs → AreSpelledArrays ys → AreSpelledArrays (xs ++ ys)
joined [] ys h g = g
joined (a ∷ rest) ys h g = (h.0, joined rest ys h.1 g)

each : {A : Type 0} (p : A → Bool) (f : A → List ArrayType) → ((x : A) → p x ≡ true → AreSpelledArrays (f x))
    → (xs : List A) → list_all p xs ≡ true → AreSpelledArrays (flat_map f xs)
each p f one [] h = tt
each p f one (x ∷ xs) h =
    let b = and_parts (p x) (list_all p xs) h in
    joined (f x) (flat_map f xs) (one x b.0) (each p f one xs b.1)

array_spelled : (a : ArrayType) → is_plain_array a ≡ true → AreSpelledArrays (a ∷ [])
array_spelled a h =
    let b = and_parts (is_plain_number a.lower && is_plain_number a.upper) (is_plain_simple a.element) h in
    (number_keyword a.lower (and_parts (is_plain_number a.lower) (is_plain_number a.upper) b.0).0, tt)

-- arrays that are types of their own
definition_spelled : (d : TypeDefinition) → is_plain_definition d ≡ true → AreSpelledArrays (array_of_definition d)
definition_spelled (declarations.array a) h = array_spelled a h
definition_spelled (declarations.structure fields) h = tt
definition_spelled (declarations.enumeration names) h = tt

named_spelled : (x : LibraryElement) → is_plain_element x ≡ true → AreSpelledArrays (named_arrays_of_element x)
named_spelled (sources.types ts) h =
    each is_plain_type_declaration (λ t. array_of_definition t.definition)
    (λ t g. definition_spelled t.definition (and_parts (is_word t.name) (is_plain_definition t.definition) g).1) ts h
named_spelled (sources.unit u) h = tt
named_spelled (sources.configuration c) h = tt

-- arrays without a name
type_spelled : (t : VariableType) → is_plain_type t ≡ true → AreSpelledArrays (array_of_type t)
type_spelled (types.Simple t) h = tt
type_spelled (types.Array a) h = array_spelled a h

abbrev is_plain_declaring : Declaring → Bool
is_plain_declaring d = is_plain_type d.declared

all_joined : (xs ys : List Declaring) → list_all is_plain_declaring xs ≡ true → list_all is_plain_declaring ys ≡ true
    → list_all is_plain_declaring (xs ++ ys) ≡ true
all_joined xs ys h g = list_all-append is_plain_declaring xs ys
    ∙ and_from (list_all is_plain_declaring xs) (list_all is_plain_declaring ys) h g

all_each : {A : Type 0} (p : A → Bool) (f : A → List Declaring)
    → ((x : A) → p x ≡ true → list_all is_plain_declaring (f x) ≡ true)
    → (xs : List A) → list_all p xs ≡ true → list_all is_plain_declaring (flat_map f xs) ≡ true
all_each p f one [] h = refl
all_each p f one (x ∷ xs) h =
    let b = and_parts (p x) (list_all p xs) h in
    all_joined (f x) (flat_map f xs) (one x b.0) (all_each p f one xs b.1)

all_mapped : {A : Type 0} (p : A → Bool) (f : A → Declaring) → ((x : A) → p x ≡ true → is_plain_declaring (f x) ≡ true)
    → (xs : List A) → list_all p xs ≡ true → list_all is_plain_declaring (map f xs) ≡ true
all_mapped p f one [] h = refl
all_mapped p f one (x ∷ xs) h =
    let b = and_parts (p x) (list_all p xs) h in
    and_from (is_plain_declaring (f x)) (list_all is_plain_declaring (map f xs)) (one x b.0) (all_mapped p f one xs b.1)

fields_plain : (d : TypeDefinition) → is_plain_definition d ≡ true
    → list_all is_plain_declaring (declarings_of_definition d) ≡ true
fields_plain (declarations.array a) h = refl
fields_plain (declarations.structure fields) h =
    all_mapped is_plain_field (λ f. record { role = field; declared = f.declared; initial = f.initial })
    (λ f g. (and_parts (is_word f.name) (is_plain_type f.declared) g).1) fields h
fields_plain (declarations.enumeration names) h = refl

block_plain : (sort : UnitSort) (b : VariableBlock) → is_plain_block b ≡ true
    → list_all is_plain_declaring (declarings_of_block sort b) ≡ true
block_plain sort b h =
    all_mapped is_plain_declaration
    (λ d. record { role = variable_of sort b.section; declared = d.declared; initial = d.initial })
    (λ d g. (and_parts (list_all is_word d.names) (is_plain_type d.declared) g).1) b.declarations h

globals_plain : (b : GlobalBlock) → is_plain_globals b ≡ true
    → list_all is_plain_declaring (declarings_of_globals b) ≡ true
globals_plain b h =
    all_mapped is_plain_global (λ d. record { role = global; declared = d.declared; initial = d.initial })
    (λ d g. (and_parts (are_words d.names) (is_plain_type d.declared) g).1) b.declarations h

element_plain : (x : LibraryElement) → is_plain_element x ≡ true
    → list_all is_plain_declaring (declarings_of_element x) ≡ true
element_plain (sources.types ts) h =
    all_each is_plain_type_declaration (λ t. declarings_of_definition t.definition)
    (λ t g. fields_plain t.definition (and_parts (is_word t.name) (is_plain_definition t.definition) g).1) ts h
element_plain (sources.unit u) h =
    all_each is_plain_block (declarings_of_block u.sort) (block_plain u.sort) u.blocks
    (and_parts (is_word u.name) (list_all is_plain_block u.blocks) h).1
element_plain (sources.configuration c) h =
    all_each is_plain_globals declarings_of_globals globals_plain c.globals
    (and_parts (list_all is_plain_globals c.globals) (list_all is_plain_resource c.resources) h).0

pub arrays_spelled : (source : Source) → is_plain source ≡ true → AreSpelledArrays (arrays_in source)
arrays_spelled source h =
    joined (flat_map named_arrays_of_element source) (flat_map (λ d. array_of_type d.declared) (declarings_in source))
    (each is_plain_element named_arrays_of_element named_spelled source h)
    (each is_plain_declaring (λ d. array_of_type d.declared) (λ d g. type_spelled d.declared g) (declarings_in source)
    (all_each is_plain_element declarings_of_element element_plain source h))
