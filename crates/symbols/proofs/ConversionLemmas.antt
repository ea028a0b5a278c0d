-- Conversions by their names.
use Rattle.std.specs.Prelude.{bytes_eq, codes}
use Rattle.std.specs.List.{flat_map}
use Rattle.std.proofs.Common.{◌≡◌, ℕ, ◌+◌, ◌<◌, List, [], ◌∷◌, ◌++◌, length, drop, slice_index_or, Bool, true, false}
use Rattle.std.proofs.Common.{not, ◌&&◌, if◌then◌else◌, Option, Some, None, refl, sym, ap, ◌∙◌}
use Rattle.std.proofs.lemmas.List.{drop_more}
use Rattle.st_types.specs.declared.kind.Kind.{Kind}
use Rattle.st_types.specs.Kinds.{row_of, same_kind}
use Rattle.st_meaning.specs.Scopes.{Name}
use Rattle.st_meaning.specs.StandardFunctions.{Standard, ABS, MIN, MAX, LIMIT, SEL, SHL, SHR, ROL, ROR, CONVERT}
use Rattle.st_meaning.specs.StandardFunctions.{convertible, conversion_name, conversions_from, named, standard_functions}
use Rattle.st_meaning.specs.StandardFunctions.{standard_of}
use Rattle.symbols.specs.Found.{or_found}
use Rattle.std.proofs.lemmas.Bool.{and_right}

-- one conversion among others
no_hit : (same b : Bool) (x name : Name) (f : Standard) (rest : List (List ℕ × Standard)) → bytes_eq x name ≡ b
    → (not same && b) ≡ false → named (if same then rest else (name, f) ∷ rest) x ≡ named rest x
no_hit true b x name f rest is h = refl
no_hit false true x name f rest is h = absurd (cc)
no_hit false false x name f rest is h = ap (λ c. if c then Some f else named rest x) is

pub no_target : (k : Kind) (ls : List Kind) (x : Name)
    → ((to : List ℕ) → bytes_eq x ((row_of k).keyword ++ codes "_TO_" ++ to) ≡ false)
    → named (conversions_from k ls) x ≡ None
no_target k [] x h = refl
no_target k (l ∷ ls) x h =
    no_hit (same_kind k l) false x (conversion_name k l) (CONVERT k l) (conversions_from k ls) (h (row_of l).keyword)
    (and_right (not (same_kind k l)) false refl)
    ∙ no_target k ls x h

-- those from one type, and the others
pub or_if : {T : Type 0} (b : Bool) (x : T) (o p : Option T)
    → (if b then Some x else or_found o p) ≡ or_found (if b then Some x else o) p
or_if true x o p = refl
or_if false x o p = refl

pub named_append : (es fs : List (List ℕ × Standard)) (x : Name)
    → named (es ++ fs) x ≡ or_found (named es x) (named fs x)
named_append [] fs x = refl
named_append (e ∷ es) fs x =
    ap (λ o. if bytes_eq x e.0 then Some e.1 else o) (named_append es fs x)
    ∙ or_if (bytes_eq x e.0) e.1 (named es x) (named fs x)

pub from_more : (ks to : List Kind) (i : ℕ) (k : Kind) (x : Name) → i < length ks
    → named (flat_map (λ l. conversions_from l to) (drop i ks)) x
    ≡ or_found (named (conversions_from (slice_index_or ks i k) to) x)
    (named (flat_map (λ l. conversions_from l to) (drop (i + 1) ks)) x)
from_more ks to i k x lt =
    ap (λ ms. named (flat_map (λ l. conversions_from l to) ms) x) (drop_more ks i k lt)
    ∙ named_append (conversions_from (slice_index_or ks i k) to) (flat_map (λ l. conversions_from l to) (drop (i + 1) ks))
    x

-- the nine names that aren't a conversion's, and the conversions after them
abbrev pub simple : Name → Option Standard
simple x = if bytes_eq x (codes "ABS") then Some ABS
    else if bytes_eq x (codes "MIN") then Some MIN else if bytes_eq x (codes "MAX") then Some MAX
    else if bytes_eq x (codes "LIMIT") then Some LIMIT else if bytes_eq x (codes "SEL") then Some SEL
    else if bytes_eq x (codes "SHL") then Some SHL else if bytes_eq x (codes "SHR") then Some SHR
    else if bytes_eq x (codes "ROL") then Some ROL else if bytes_eq x (codes "ROR") then Some ROR else None

chain : (a b c d e f g h i : Bool) (o : Option Standard)
    → (if a then Some ABS else if b then Some MIN else if c then Some MAX else if d then Some LIMIT else if e then
    Some SEL else if f then Some SHL else if g then Some SHR else if h then Some ROL else if i then Some ROR else o)
    ≡ or_found (if a then Some ABS else if b then Some MIN else if c then Some MAX else if d then Some LIMIT
    else if e then Some SEL else if f then Some SHL else if g then Some SHR else if h then Some ROL
    else if i then Some ROR else None) o
chain true b c d e f g h i o = refl
chain false true c d e f g h i o = refl
chain false false true d e f g h i o = refl
chain false false false true e f g h i o = refl
chain false false false false true f g h i o = refl
chain false false false false false true g h i o = refl
chain false false false false false false true h i o = refl
chain false false false false false false false true i o = refl
chain false false false false false false false false true o = refl
chain false false false false false false false false false o = refl

behind_simple : (rest : List (List ℕ × Standard)) (x : Name)
    → named ((codes "ABS", ABS) ∷ (codes "MIN", MIN) ∷ (codes "MAX", MAX) ∷ (codes "LIMIT", LIMIT)
    ∷ (codes "SEL", SEL) ∷ (codes "SHL", SHL) ∷ (codes "SHR", SHR) ∷ (codes "ROL", ROL) ∷ (codes "ROR", ROR) ∷ rest) x
    ≡ or_found (simple x) (named rest x)
behind_simple rest x = chain (bytes_eq x (codes "ABS")) (bytes_eq x (codes "MIN")) (bytes_eq x (codes "MAX"))
    (bytes_eq x (codes "LIMIT")) (bytes_eq x (codes "SEL")) (bytes_eq x (codes "SHL")) (bytes_eq x (codes "SHR"))
    (bytes_eq x (codes "ROL")) (bytes_eq x (codes "ROR")) (named rest x)

standard_by_parts : (x : Name) → standard_of x
    ≡ or_found (simple x) (named (flat_map (λ k. conversions_from k convertible) convertible) x)
unfolding standard_of standard_functions
standard_by_parts x = behind_simple (flat_map (λ k. conversions_from k convertible) convertible) x

pub simple_found : (x : Name) (f : Standard) → simple x ≡ Some f → Some f ≡ standard_of x
simple_found x f h = sym (standard_by_parts x
    ∙ ap (λ o. or_found o (named (flat_map (λ k. conversions_from k convertible) convertible) x)) h)

pub simple_missed : (x : Name) → simple x ≡ None
    → named (flat_map (λ k. conversions_from k convertible) convertible) x ≡ standard_of x
simple_missed x h = sym (standard_by_parts x
    ∙ ap (λ o. or_found o (named (flat_map (λ k. conversions_from k convertible) convertible) x)) h)
