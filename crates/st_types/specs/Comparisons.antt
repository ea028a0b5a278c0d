-- Comparisons that are equality, and their laws.
use Rattle.std.specs.Prelude.{◌≡◌, ℕ, Bool, true, ◌&&◌, List, ◌++◌, Option, Some, None, refl, bytes_eq}
use Rattle.std.proofs.Common.{sym, ap, subst, ◌∙◌}
use Rattle.std.specs.Bool.{Decides}
use Rattle.std.specs.Cmp.{IsEquivalence, both_ways}
use Rattle.std.specs.Cmp.Lexicographic.{bytes_decides, pointwise_decides}
use Rattle.std.proofs.lemmas.Bool.Decides.{Decides-int_eq}
use Rattle.std.specs.Hash as fed
use Rattle.std.specs.Hash.{HashWrites}
use Rattle.std.proofs.lemmas.Bool.{and_parts}
use Rattle.st_types.specs.declared.path.Owner.{Owner}
use Rattle.st_types.specs.declared.path.Step.{Step}
use Rattle.st_types.specs.declared.path.Step.TheVariants.{Member, Element}
use Rattle.st_types.specs.Paths.{Path, same_names, same_owner, same_step, same_steps, same_path}

-- the test is true exactly when the two are equal
abbrev pub IsEquality : {K : Type 0} → (K → K → Bool) → Type 0
IsEquality {K} E = (x y : K) → Decides (E x y) (x ≡ y)

-- a test that is true only of equal values, and always of those
equality : {K : Type 0} (E : K → K → Bool) → ((x y : K) → E x y ≡ true → x ≡ y) → ((x : K) → E x x ≡ true) → IsEquality E
equality E only itself x y = (only x y, λ e. subst (λ z. E x z ≡ true) e (itself x))

pub equality_equiv : {K : Type 0} {E : K → K → Bool} → IsEquality E → IsEquivalence E
equality_equiv {K} {E} d = record {
  refl = λ x. (d x x).1 refl;
  symm = λ x y. both_ways (E x y) (E y x) (λ h. (d y x).1 (sym ((d x y).0 h))) (λ h. (d x y).1 (sym ((d y x).0 h)));
  congr = λ x y z h. ap (λ w. E w z) ((d x y).0 h);
}

pub same_bytes : (x y : List ℕ) → bytes_eq x y ≡ true → x ≡ y
same_bytes x y h = (bytes_decides x y).0 h

pub same_bytes_itself : (x : List ℕ) → bytes_eq x x ≡ true
same_bytes_itself x = (bytes_decides x x).1 refl

-- owners
abbrev owner_of : List ℕ → List ℕ → Owner
owner_of r i = record { resource = r; instance = i }

same_names_are : (a b : Owner) → same_names a b ≡ true → a ≡ b
same_names_are a b h =
    let t = and_parts (bytes_eq a.resource b.resource) (bytes_eq a.instance b.instance) h in
    ap (λ r. owner_of r a.instance) (same_bytes a.resource b.resource t.0)
    ∙ ap (λ i. owner_of b.resource i) (same_bytes a.instance b.instance t.1)

same_names_themselves : (a : Owner) → same_names a a ≡ true
same_names_themselves a = let r = same_bytes_itself a.resource in let i = same_bytes_itself a.instance in cc

pub owners_are_compared : IsEquality same_names
owners_are_compared = equality same_names same_names_are same_names_themselves

pub same_owner_is : (a b : Option Owner) → same_owner a b ≡ true → a ≡ b
same_owner_is None None h = refl
same_owner_is None (Some b) h = absurd (cc)
same_owner_is (Some a) None h = absurd (cc)
same_owner_is (Some a) (Some b) h = ap Some (same_names_are a b h)

pub same_owner_itself : (o : Option Owner) → same_owner o o ≡ true
same_owner_itself None = refl
same_owner_itself (Some a) = same_names_themselves a

-- steps
same_step_is : (x y : Step) → same_step x y ≡ true → x ≡ y
same_step_is (Member x) (Member y) h = ap Member (same_bytes x y h)
same_step_is (Element i) (Element j) h = ap Element ((Decides-int_eq i j).0 h)
same_step_is (Member x) (Element j) h = absurd (cc)
same_step_is (Element i) (Member y) h = absurd (cc)

same_step_itself : (x : Step) → same_step x x ≡ true
same_step_itself (Member x) = same_bytes_itself x
same_step_itself (Element i) = (Decides-int_eq i i).1 refl

pub steps_are_compared : IsEquality same_step
steps_are_compared = equality same_step same_step_is same_step_itself

-- paths
abbrev path_of : Option Owner → List ℕ → List Step → Path
path_of o x steps = record { owner = o; name = x; steps = steps }

pub same_path_is : (p q : Path) → same_path p q ≡ true → p ≡ q
same_path_is p q h =
    let t = and_parts (same_owner p.owner q.owner && bytes_eq p.name q.name) (same_steps p.steps q.steps) h in
    let u = and_parts (same_owner p.owner q.owner) (bytes_eq p.name q.name) t.0 in
    ap (λ o. path_of o p.name p.steps) (same_owner_is p.owner q.owner u.0)
    ∙ ap (λ x. path_of q.owner x p.steps) (same_bytes p.name q.name u.1)
    ∙ ap (λ steps. path_of q.owner q.name steps) ((pointwise_decides steps_are_compared p.steps q.steps).0 t.1)

pub same_path_itself : (p : Path) → same_path p p ≡ true
same_path_itself p = let o = same_owner_itself p.owner in let n = same_bytes_itself p.name in
    let s : same_steps p.steps p.steps ≡ true = (pointwise_decides steps_are_compared p.steps p.steps).1 refl in cc

pub paths_are_compared : IsEquality same_path
paths_are_compared = equality same_path same_path_is same_path_itself

-- the writes of each to a hasher
abbrev pub name_writes : List ℕ → HashWrites
name_writes = fed.slice fed.u8

abbrev pub owner_writes : Owner → HashWrites
owner_writes a = name_writes a.resource ++ name_writes a.instance

abbrev pub step_writes : Step → HashWrites
step_writes (Member x) = fed.u8 0 ++ name_writes x
step_writes (Element i) = fed.u8 1 ++ fed.i128 i

abbrev pub path_writes : Path → HashWrites
path_writes p = fed.option owner_writes p.owner ++ name_writes p.name ++ fed.slice step_writes p.steps
