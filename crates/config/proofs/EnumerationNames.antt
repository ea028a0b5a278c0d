-- The enumerated types of a text whose names are words, and not too many, can be spelled in a record.
use Rattle.std.proofs.Common.{◌≡◌, refl, sym, ap, ◌∙◌, ℕ, suc, zero, ◌+◌, ◌<◌, ◌≤◌, Bool, true, false, ◌&&◌, ◌==◌}
use Rattle.std.proofs.Common.{if◌then◌else◌, List, [], ◌∷◌, ◌++◌, length, map, slice_get, Option, Some, None}
use Rattle.std.proofs.Common.{option_map, arith}
use Rattle.std.specs.Prelude.{bytes_eq, nat_le, nat_lt}
use Rattle.std.specs.List.{list_all, flat_map}
use Rattle.std.proofs.lemmas.Bool.{ltb-true, and_parts, and_from}
use Rattle.std.proofs.lemmas.Bool.Decides.{nat_tests}
use Rattle.std.proofs.lemmas.Grind.{flat_map-append}
use Rattle.std.proofs.lemmas.List.Folds.{list_all-append, list_all-map}
use Rattle.st_types.specs.declared.identifier.Identifier.{Identifier}
use Rattle.st_types.specs.UpperNames.{is_upper_name}
use Rattle.st_types.specs.Declarations as declarations
use Rattle.st_types.specs.Declarations.{TypeDefinition, TypeDeclaration}
use Rattle.st_types.specs.Sources as sources
use Rattle.st_types.specs.Sources.{Source}
use Rattle.st_meaning.specs.Enumerations.{Enumeration, enumerated_names, enumerations_from, enumerations_of}
use Rattle.st_meaning.specs.Enumerations.{enumeration_named, kind_of_enumeration}
use Rattle.st_meaning.specs.NameTypes.{types_in}
use Rattle.st_meaning.specs.Scopes.{Name}
use Rattle.st_rules.specs.declared.limits.TheConstants.{MAX_NAMES}
use Rattle.st_rules.specs.DeclaredTypes.{names_of_definition, enumerations_in}
use Rattle.st_rules.specs.TypeRules.{place_of_one, surplus_name}
use Rattle.layout.specs.TextLayouts.{enumeration_names}
use Rattle.config.specs.PlainDeclarations.{is_word, is_plain_definition, is_plain_type_declaration, is_plain_unit}
use Rattle.config.specs.PlainDeclarations.{is_plain_configuration, is_plain_element}
use Rattle.plan.specs.Sound.{has_names, has_spelling}
use Rattle.st_types.proofs.ListLemmas.{append_parts, length_map}
use Rattle.st_types.proofs.OptionLemmas.{some_is}
use Rattle.std.proofs.lemmas.Option.{slice_get-map}

-- not too many names, all words
abbrev is_sound_list : List Identifier → Bool
is_sound_list names = nat_lt 0 (length names) && nat_le (length names) MAX_NAMES && list_all is_word names

abbrev is_sound_definition : Option (List Identifier) → Bool
is_sound_definition None = true
is_sound_definition (Some names) = is_sound_list names

abbrev pub has_sound_names : TypeDeclaration → Bool
has_sound_names t = is_sound_definition (enumerated_names t.definition)

abbrev is_sound_enumeration : Enumeration → Bool
is_sound_enumeration e = is_sound_list e.names

-- the enumerated types of sound declarations, each at its number
sound_from : (n : ℕ) (ts : List TypeDeclaration) → list_all has_sound_names ts ≡ true
    → list_all is_sound_enumeration (enumerations_from n ts) ≡ true
sound_from n [] h = refl
sound_from n (t ∷ ts) h =
    let b = and_parts (has_sound_names t)
    (list_all has_sound_names ts) h in
    by_names (enumerated_names t.definition) b.0 (sound_from (n + 1) ts b.1) (sound_from n ts b.1)
  where
    by_names : (o : Option (List Identifier)) → is_sound_definition o ≡ true
        → list_all is_sound_enumeration (enumerations_from (n + 1) ts) ≡ true
        → list_all is_sound_enumeration (enumerations_from n ts) ≡ true
        → list_all is_sound_enumeration (elim o [
          | Some names ↦ record { number = n; name = t.name.name; names = names } ∷ enumerations_from (n + 1) ts
          | None ↦ enumerations_from n ts
        ]) ≡ true
    by_names (Some names) here more rest = and_from (is_sound_list names)
        (list_all is_sound_enumeration (enumerations_from (n + 1) ts)) here more
    by_names None here more rest = rest

-- numbered from n on
abbrev are_numbered : ℕ → List Enumeration → Type 0
are_numbered n [] = Unit {0}
are_numbered n (e ∷ es) = (e.number ≡ n) × are_numbered (n + 1) es

numbered_from : (n : ℕ) (ts : List TypeDeclaration) → are_numbered n (enumerations_from n ts)
numbered_from n [] = tt
numbered_from n (t ∷ ts) = by_names (enumerated_names t.definition) (numbered_from (n + 1) ts) (numbered_from n ts)
  where
    by_names : (o : Option (List Identifier)) → are_numbered (n + 1) (enumerations_from (n + 1) ts)
        → are_numbered n (enumerations_from n ts)
        → are_numbered n (elim o [
          | Some names ↦ record { number = n; name = t.name.name; names = names } ∷ enumerations_from (n + 1) ts
          | None ↦ enumerations_from n ts
        ])
    by_names (Some names) more rest = (refl, more)
    by_names None more rest = rest

-- a type that is found by its name is at its number
record IsAt (n : ℕ) (es : List Enumeration) (e : Enumeration) : Type 0 where
  from : ℕ
  number : e.number ≡ n + from
  there : slice_get es from ≡ Some e
  sound : is_sound_enumeration e ≡ true

found_at : (n : ℕ) (es : List Enumeration) (x : Name) (e : Enumeration) → are_numbered n es
    → list_all is_sound_enumeration es ≡ true → enumeration_named es x ≡ Some e → IsAt n es e
found_at n [] x e numbered sound h = absurd (cc)
found_at n (f ∷ fs) x e numbered sound h =
    let b = and_parts (is_sound_enumeration f) (list_all is_sound_enumeration fs) sound in
    by_test (bytes_eq x f.name) h numbered.0 b.0 (λ g. found_at (n + 1) fs x e numbered.1 b.1 g)
  where
    by_test : (t : Bool) → (if t then Some f else enumeration_named fs x) ≡ Some e → f.number ≡ n
        → is_sound_enumeration f ≡ true → (enumeration_named fs x ≡ Some e → IsAt (n + 1) fs e) → IsAt n (f ∷ fs) e
    by_test true h number sound rest =
        let s : f ≡ e = some_is h in
        record {
          from = 0;
          number = sym (ap (λ g. g.number) s) ∙ (number ∙ (omega arith));
          there = ap Some s;
          sound = ap is_sound_enumeration (sym s) ∙ sound;
        }
    by_test false h number sound rest =
        let r = rest h in
        let m = r.number in
        record { from = suc r.from; number = omega arith; there = r.there; sound = r.sound }

-- so it can be spelled
names_spelled : (names : List Identifier) → is_sound_list names ≡ true
    → has_names (Some (map (λ x. x.name) names)) (length names) ≡ true
names_spelled names h =
    let b = and_parts (nat_lt 0 (length names) && nat_le (length names) MAX_NAMES) (list_all is_word names) h in
    let c = and_parts (nat_lt 0 (length names)) (nat_le (length names) MAX_NAMES) b.0 in
    let some : 0 < length names = ltb-true 0 (length names) c.0 in
    let words = map (λ x. x.name) names in
    and_from ((length words == length names && nat_le 1 (length names)) && nat_le (length names) MAX_NAMES)
    (list_all is_upper_name words)
    (and_from (length words == length names && nat_le 1 (length names)) (nat_le (length names) MAX_NAMES)
    (and_from (length words == length names) (nat_le 1 (length names))
    (same_length (length words) (length names) (length_map (λ x. x.name) names))
    (at_least_one (length names) some)) c.1)
    (list_all-map is_upper_name (λ x. x.name) names ∙ b.1)
  where
    same_length : (m n : ℕ) → m ≡ n → (m == n) ≡ true
    same_length m n e = grind (arith, nat_tests)

    at_least_one : (n : ℕ) → 0 < n → nat_le 1 n ≡ true
    at_least_one n h = grind (arith, nat_tests)

pub enumeration_spelled : (ts : List TypeDeclaration)
    → list_all has_sound_names ts ≡ true → (x : Name) (e : Enumeration)
    → enumeration_named (enumerations_of ts) x ≡ Some e
    → has_spelling (enumeration_names ts) (kind_of_enumeration e) ≡ true
enumeration_spelled ts h x e is =
    let f = found_at 0 (enumerations_of ts) x e (numbered_from 0 ts) (sound_from 0 ts h) is in
    let n = f.number in
    let m : e.number ≡ f.from = omega arith in
    let names : slice_get (enumeration_names ts) e.number ≡ Some (map (λ x. x.name) e.names) =
    ap (slice_get (enumeration_names ts)) m ∙ slice_get-map (λ e. map (λ x. x.name) e.names) (enumerations_of ts) f.from
    ∙ ap (λ o. option_map (λ e. map (λ x. x.name) e.names) o) f.there in
    ap (λ o. has_names o (length e.names)) names ∙ names_spelled e.names f.sound

-- no list of names is too long
short_list : (n : ℕ) (names : List Identifier) → place_of_one (slice_get names n) ≡ [] → length names ≤ n
short_list n [] h = omega arith
short_list zero (x ∷ xs) h = absurd (cc)
short_list (suc n) (x ∷ xs) h = let i = short_list n xs h in omega arith

few_names : (names : List Identifier) → surplus_name names ≡ [] → nat_le (length names) MAX_NAMES ≡ true
few_names names h = at_most (length names) MAX_NAMES (short_list MAX_NAMES names h)
  where
    at_most : (m n : ℕ) → m ≤ n → nat_le m n ≡ true
    at_most m n h = grind (arith, nat_tests)

nothing_surplus : (xs ys : List (List Identifier)) → flat_map surplus_name (xs ++ ys) ≡ []
    → (flat_map surplus_name xs ≡ []) × (flat_map surplus_name ys ≡ [])
nothing_surplus xs ys h = append_parts (flat_map surplus_name xs) (flat_map surplus_name ys)
    (sym (flat_map-append surplus_name xs ys) ∙ h)

sound_definition : (d : TypeDefinition) → flat_map surplus_name (names_of_definition d) ≡ []
    → is_plain_definition d ≡ true → is_sound_definition (enumerated_names d) ≡ true
sound_definition (declarations.array a) h g = refl
sound_definition (declarations.structure fields) h g = refl
sound_definition (declarations.enumeration names) h g =
    let b = and_parts (nat_lt 0 (length names)) (list_all is_word names) g in
    let few = few_names names (append_parts (surplus_name names) [] h).0 in
    and_from (nat_lt 0 (length names) && nat_le (length names) MAX_NAMES) (list_all is_word names)
    (and_from (nat_lt 0 (length names)) (nat_le (length names) MAX_NAMES) b.0 few) b.1

abbrev lists_of : List TypeDeclaration → List (List Identifier)
lists_of ts = flat_map (λ t. names_of_definition t.definition) ts

sound_types : (ts : List TypeDeclaration) → flat_map surplus_name (lists_of ts) ≡ []
    → list_all is_plain_type_declaration ts ≡ true → list_all has_sound_names ts ≡ true
sound_types [] h g = refl
sound_types (t ∷ ts) h g =
    let e = nothing_surplus (names_of_definition t.definition) (lists_of ts) h in
    let b = and_parts (is_plain_type_declaration t) (list_all is_plain_type_declaration ts) g in
    and_from (has_sound_names t) (list_all has_sound_names ts)
    (sound_definition t.definition e.0 (and_parts (is_word t.name) (is_plain_definition t.definition) b.0).1)
    (sound_types ts e.1 b.1)

pub sound_names : (source : Source) → flat_map surplus_name (enumerations_in source) ≡ []
    → list_all is_plain_element source ≡ true → list_all has_sound_names (types_in source) ≡ true
sound_names [] h g = refl
sound_names (sources.types ts ∷ rest) h g =
    let e = nothing_surplus (lists_of ts) (enumerations_in rest) h in
    let b = and_parts (list_all is_plain_type_declaration ts) (list_all is_plain_element rest) g in
    list_all-append has_sound_names ts (types_in rest)
    ∙ and_from (list_all has_sound_names ts) (list_all has_sound_names (types_in rest)) (sound_types ts e.0 b.0)
    (sound_names rest e.1 b.1)
sound_names (sources.unit u ∷ rest) h g =
    sound_names rest h (and_parts (is_plain_unit u) (list_all is_plain_element rest) g).1
sound_names (sources.configuration c ∷ rest) h g =
    sound_names rest h (and_parts (is_plain_configuration c) (list_all is_plain_element rest) g).1
