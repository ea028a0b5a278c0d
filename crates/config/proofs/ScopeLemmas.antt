-- The globals of a text that breaks no rule are declared once.
use Rattle.std.proofs.Common.{◌≡◌, refl, sym, ap, ◌∙◌, List, [], ◌∷◌, ◌++◌, map}
use Rattle.std.specs.List.{flat_map}
use Rattle.std.proofs.lemmas.Grind.{flat_map-append}
use Rattle.st_types.specs.Configurations.{Configuration}
use Rattle.st_types.specs.Sources.{Source, types, unit, configuration}
use Rattle.st_rules.specs.ConfigurationRules.{configurations_in}
use Rattle.st_rules.specs.NameScopes.{globals_of, names_in, names_of_text, scopes_in_globals, scopes_of_element}
use Rattle.st_rules.specs.Places.{repeats}
use Rattle.st_rules.specs.Rules.{IsWellTyped, wrong_declarations, wrong_types, wrong_starts, wrong_bodies}
use Rattle.st_rules.specs.TwiceDeclared.{twice_declared}
use Rattle.layout.proofs.NameLaws.{names_free}
use Rattle.st_types.proofs.ListLemmas.{append_first, append_second}

flat_first : {A B : Type 0} (f : A → List B) (xs ys : List A) → flat_map f (xs ++ ys) ≡ [] → flat_map f xs ≡ []
flat_first f xs ys h = append_first (flat_map f xs) (flat_map f ys) (sym (flat_map-append f xs ys) ∙ h)

flat_rest : {A B : Type 0} (f : A → List B) (xs ys : List A) → flat_map f (xs ++ ys) ≡ [] → flat_map f ys ≡ []
flat_rest f xs ys h = append_second (flat_map f xs) (flat_map f ys) (sym (flat_map-append f xs ys) ∙ h)

only_one : {A : Type 0} (x y : A) (xs : List A) → (x ∷ xs) ≡ (y ∷ []) → x ≡ y
only_one {A = A} x y xs h = ap (first x) h
  where
    first : A → List A → A
    first d [] = d
    first d (z ∷ zs) = z

of_configuration : (c : Configuration) → flat_map repeats (scopes_of_element (configuration c)) ≡ []
    → repeats (globals_of c) ≡ []
of_configuration c h = append_first (repeats (globals_of c)) (flat_map repeats (flat_map scopes_in_globals c.globals))
    (flat_first repeats (globals_of c ∷ flat_map scopes_in_globals c.globals)
    (map (λ r. r.name) c.resources ∷ map names_in c.resources) h)

among_scopes : (source : Source) (c : Configuration) → flat_map repeats (flat_map scopes_of_element source) ≡ []
    → configurations_in source ≡ c ∷ [] → repeats (globals_of c) ≡ []
among_scopes [] c h one = absurd (cc)
among_scopes (types ts ∷ rest) c h one =
    among_scopes rest c (flat_rest repeats (scopes_of_element (types ts)) (flat_map scopes_of_element rest) h) one
among_scopes (unit u ∷ rest) c h one =
    among_scopes rest c (flat_rest repeats (scopes_of_element (unit u)) (flat_map scopes_of_element rest) h) one
among_scopes (configuration d ∷ rest) c h one =
    ap (λ e. repeats (globals_of e)) (sym (only_one d c (configurations_in rest) one))
    ∙ of_configuration d
    (flat_first repeats (scopes_of_element (configuration d)) (flat_map scopes_of_element rest) h)

first_of_five : {A : Type 0} (xs ys zs us vs : List A) → xs ++ ys ++ zs ++ us ++ vs ≡ [] → xs ≡ []
first_of_five xs ys zs us vs h = append_first xs ys (append_first (xs ++ ys) zs
    (append_first (xs ++ ys ++ zs) us (append_first (xs ++ ys ++ zs ++ us) vs h)))

pub globals_once : (source : Source) (c : Configuration) → IsWellTyped source → configurations_in source ≡ c ∷ []
    → repeats (globals_of c) ≡ []
globals_once source c typed one =
    let declared = append_first (wrong_declarations source) (wrong_types source)
    (append_first (wrong_declarations source ++ wrong_types source) (wrong_starts source)
    (append_first (wrong_declarations source ++ wrong_types source ++ wrong_starts source)
    (wrong_bodies source) typed)) in
    let free = names_free source (first_of_five (twice_declared source) _ _ _ _ declared) in
    let names = names_of_text source in
    among_scopes source c
    (append_second (repeats names) (flat_map repeats (flat_map scopes_of_element source)) free.again) one
