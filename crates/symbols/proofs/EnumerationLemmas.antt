-- Enumerated types and their values, in the order of a text.
use Rattle.std.proofs.Common.{◌≡◌, refl, sym, ap, subst, ◌∙◌, arith, ℕ, ◌+◌, ◌<◌, List, [], ◌∷◌, ◌++◌, Bool, true, false}
use Rattle.std.proofs.Common.{◌&&◌, not, if◌then◌else◌, Option, Some, None, take, length, slice_index_or}
use Rattle.std.specs.Prelude.{option_map, is_some, bytes_eq}
use Rattle.std.proofs.lemmas.List.{take_more, length-take-le, append-nil}
use Rattle.st_types.specs.declared.identifier.Identifier.{Identifier}
use Rattle.st_types.specs.Declarations.{TypeDeclaration}
use Rattle.st_meaning.specs.Scopes.{Name}
use Rattle.st_meaning.specs.Enumerations.{Enumeration, Member, enumerated_names, enumerations_from, enumerations_of}
use Rattle.st_meaning.specs.Enumerations.{enumeration_named, place_among, member_of, members_named}
use Rattle.symbols.specs.Found.{or_found}
use Rattle.symbols.specs.declared.enumerations.ValueNames.{ValueNames}
use Rattle.symbols.specs.Enumerated.{listed, IsListedAs}
use Rattle.symbols.proofs.ConversionLemmas.{or_if}

-- the place of a name in a list that gets one name more
place_step : (b c : Bool) (o : Option ℕ) (n m : ℕ) → m ≡ n + 1
    → (if b then Some 0 else option_map (λ i. i + 1) (or_found o (if c then Some n else None)))
    ≡ or_found (if b then Some 0 else option_map (λ i. i + 1) o) (if c then Some m else None)
place_step true c o n m h = refl
place_step false c (Some i) n m h = refl
place_step false true None n m h = ap Some (sym h)
place_step false false None n m h = refl

place_append : (xs : List Identifier) (y : Identifier) (q : Name)
    → place_among (xs ++ y ∷ []) q ≡ or_found (place_among xs q) (if bytes_eq q y.name then Some (length xs) else None)
place_append [] y q = refl
place_append (x ∷ xs) y q =
    ap (λ o. if bytes_eq q x.name then Some 0 else option_map (λ i. i + 1) o) (place_append xs y q)
    ∙ place_step (bytes_eq q x.name) (bytes_eq q y.name) (place_among xs q) (length xs) (length (x ∷ xs)) (omega arith)

pub place_more : (xs : List Identifier) (i : ℕ) (y : Identifier) (q : Name) → i < length xs
    → y ≡ slice_index_or xs i y
    → place_among (take (i + 1) xs) q
    ≡ or_found (place_among (take i xs) q) (if bytes_eq q y.name then Some i else None)
place_more xs i y q lt is =
    ap (λ ys. place_among ys q) (take_more xs i y lt ∙ ap (λ z. take i xs ++ z ∷ []) (sym is))
    ∙ place_append (take i xs) y q
    ∙ ap (λ n. or_found (place_among (take i xs) q) (if bytes_eq q y.name then Some n else None))
    (length-take-le i xs (omega arith))

-- the values of a name, as a type's names are gone through
values_step : (f : ℕ → Member) (ms : List Member) (b : Bool) (o p : Option ℕ) (i : ℕ) → p ≡ o
    → (if b && not (is_some p) then (ms ++ listed (option_map f o)) ++ f i ∷ [] else ms ++ listed (option_map f o))
    ≡ ms ++ listed (option_map f (or_found o (if b then Some i else None)))
values_step f ms true None p i h = rw h (ap (λ ys. ys ++ f i ∷ []) (append-nil ms))
values_step f ms false None p i h = refl
values_step f ms true (Some n) p i h = rw h refl
values_step f ms false (Some n) p i h = refl

pub values_more : (f : ℕ → Member) (values : ValueNames) (ms : List Member) (xs : List Identifier) (i : ℕ)
    (y : Identifier) (q : Name) (p : Option ℕ) → i < length xs → y ≡ slice_index_or xs i y
    → p ≡ place_among (take i xs) q
    → IsListedAs values q (if bytes_eq q y.name && not (is_some p)
    then (ms ++ listed (option_map f (place_among (take i xs) q))) ++ f i ∷ []
    else ms ++ listed (option_map f (place_among (take i xs) q)))
    → IsListedAs values q (ms ++ listed (option_map f (place_among (take (i + 1) xs) q)))
values_more f values ms xs i y q p lt is h told =
    subst (IsListedAs values q)
    (values_step f ms (bytes_eq q y.name) (place_among (take i xs) q) p i h
    ∙ ap (λ o. ms ++ listed (option_map f o)) (sym (place_more xs i y q lt is))) told

-- one type more
abbrev put : ℕ → Name → List Enumeration → List Enumeration → Option (List Identifier) → List Enumeration
put n x more same o = elim o [ Some names ↦ record { number = n; name = x; names = names } ∷ more | None ↦ same ]

put_append : (n : ℕ) (x : Name) (t : TypeDeclaration) (more same more_all same_all : List Enumeration)
    (o : Option (List Identifier))
    → more_all ≡ more ++ enumerations_from ((n + 1) + length more) (t ∷ [])
    → same_all ≡ same ++ enumerations_from (n + length same) (t ∷ [])
    → put n x more_all same_all o
    ≡ put n x more same o ++ enumerations_from (n + length (put n x more same o)) (t ∷ [])
put_append n x t more same more_all same_all (Some names) h k =
    ap (λ es. record { number = n; name = x; names = names } ∷ es)
    (h ∙ ap (λ m. more ++ enumerations_from m (t ∷ [])) (omega arith))
put_append n x t more same more_all same_all None h k = k

from_append : (n : ℕ) (ts : List TypeDeclaration) (t : TypeDeclaration)
    → enumerations_from n (ts ++ t ∷ [])
    ≡ enumerations_from n ts ++ enumerations_from (n + length (enumerations_from n ts)) (t ∷ [])
from_append n [] t = ap (λ m. enumerations_from m (t ∷ [])) (omega arith)
from_append n (x ∷ ts) t =
    put_append n x.name.name t (enumerations_from (n + 1) ts) (enumerations_from n ts)
    (enumerations_from (n + 1) (ts ++ t ∷ [])) (enumerations_from n (ts ++ t ∷ [])) (enumerated_names x.definition)
    (from_append (n + 1) ts t) (from_append n ts t)

only_names : (m : ℕ) (t : TypeDeclaration) (o : Option (List Identifier)) → enumerated_names t.definition ≡ o
    → enumerations_from m (t ∷ []) ≡ put m t.name.name [] [] o
only_names m t o h = ap (put m t.name.name [] []) h

pub not_enumerated : (ts : List TypeDeclaration) (t : TypeDeclaration) → enumerated_names t.definition ≡ None
    → enumerations_of (ts ++ t ∷ []) ≡ enumerations_of ts
not_enumerated ts t h =
    from_append 0 ts t ∙ ap (λ es. enumerations_of ts ++ es) (only_names (0 + length (enumerations_of ts)) t None h)
    ∙ append-nil (enumerations_of ts)

pub enumerated : (ts : List TypeDeclaration) (t : TypeDeclaration) (names : List Identifier)
    → enumerated_names t.definition ≡ Some names
    → enumerations_of (ts ++ t ∷ [])
    ≡ enumerations_of ts ++ record { number = length (enumerations_of ts); name = t.name.name; names = names } ∷ []
enumerated ts t names h =
    from_append 0 ts t
    ∙ ap (λ es. enumerations_of ts ++ es) (only_names (0 + length (enumerations_of ts)) t (Some names) h)
    ∙ ap (λ n. enumerations_of ts ++ record { number = n; name = t.name.name; names = names } ∷ []) (omega arith)

pub named_append : (es : List Enumeration) (e : Enumeration) (x : Name)
    → enumeration_named (es ++ e ∷ []) x
    ≡ or_found (enumeration_named es x) (if bytes_eq x e.name then Some e else None)
named_append [] e x = refl
named_append (f ∷ es) e x =
    ap (λ o. if bytes_eq x f.name then Some f else o) (named_append es e x)
    ∙ or_if (bytes_eq x f.name) f (enumeration_named es x) (if bytes_eq x e.name then Some e else None)

abbrev put_first : Option Member → List Member → List Member
put_first o ms = elim o [ Some m ↦ m ∷ ms | None ↦ ms ]

put_member : (o : Option Member) (all some : List Member) (p : Option Member) → all ≡ some ++ listed p
    → put_first o all ≡ put_first o some ++ listed p
put_member (Some m) all some p h = ap (λ ms. m ∷ ms) h
put_member None all some p h = h

alone : (o : Option Member) → put_first o [] ≡ listed o
alone None = refl
alone (Some m) = refl

pub members_append : (es : List Enumeration) (e : Enumeration) (q : Name)
    → members_named (es ++ e ∷ []) q ≡ members_named es q ++ listed (member_of q e)
members_append [] e q = alone (member_of q e)
members_append (f ∷ es) e q = put_member (member_of q f) (members_named (es ++ e ∷ []) q) (members_named es q)
    (member_of q e) (members_append es e q)
