-- The number of values at the beginning of calls, unit by unit.
use Rattle.std.proofs.Common.{◌≡◌, refl, sym, ap, subst, ◌∙◌, arith, ℕ, ◌+◌, ◌-◌, ◌^◌, ◌<◌, ◌≤◌, Bool, true, false}
use Rattle.std.proofs.Common.{List, [], ◌∷◌, ◌++◌, map, take, drop, length, if◌then◌else◌, slice_index_or}
use Rattle.std.specs.Prelude.{min, nat_lt}
use Rattle.std.specs.List.{list_all}
use Rattle.std.proofs.lemmas.List.{map-append, take-append-drop}
use Rattle.st_types.specs.declared.limits.TheConstants.{MAX_PATHS}
use Rattle.st_types.specs.declared.data_type.SimpleType.{SimpleType}
use Rattle.st_types.specs.declared.unit.UnitSort.TheVariants.{Function, FunctionBlock, Program}
use Rattle.st_types.specs.Units.{OrganisationUnit}
use Rattle.st_meaning.specs.NameTypes.{Declared}
use Rattle.st_meaning.specs.Scopes.{Name}
use Rattle.layout.specs.Sizes.{capped_size}
use Rattle.st_link.specs.CalledFunctions.{if_room, values_by, values_of_call, values_of_unit, values_of_units}
use Rattle.st_link.proofs.FirstSlotLemmas.{all_front}
use Rattle.std.proofs.lemmas.Bool.{and_parts}

-- a size that is capped has no room either
pub room_cut : (a n : ℕ) → a ≡ capped_size n → if_room a ≡ if_room n
room_cut a n is = by_room (nat_lt MAX_PATHS n) refl
  where
    by_room : (b : Bool) → nat_lt MAX_PATHS n ≡ b → if_room a ≡ if_room n
    by_room b e = grind (arith, e, is)

pub of_no_function : (called : Name → Bool) (text : Declared) (u : OrganisationUnit) (t : SimpleType)
    → u.sort ≡ Function t → called u.name.name ≡ false → 0 ≡ values_of_unit called text u
of_no_function called text u t sort e =
    sym (ap (λ s. values_by called text s u) sort ∙ ap (λ b. if b then values_of_call text t u else 0) e)

pub of_function : (called : Name → Bool) (text : Declared) (u : OrganisationUnit) (t : SimpleType)
    → u.sort ≡ Function t → called u.name.name ≡ true → values_of_call text t u ≡ values_of_unit called text u
of_function called text u t sort e =
    sym (ap (λ s. values_by called text s u) sort ∙ ap (λ b. if b then values_of_call text t u else 0) e)

values_appended : (called : Name → Bool) (text : Declared) (us : List OrganisationUnit) (u : OrganisationUnit)
    → values_of_units called text (us ++ u ∷ []) ≡ values_of_units called text us + values_of_unit called text u
values_appended called text [] u = omega arith
values_appended called text (v ∷ us) u = let rest = values_appended called text us u in omega (arith, rest)

more_held : (v s n r : ℕ) → v ≡ min s (2 ^ 64 - 1) → r ≡ min (v + n) (2 ^ 64 - 1) → r ≡ min (s + n) (2 ^ 64 - 1)
more_held v s n r a b = omega (arith, a, b)

-- one turn over units
pub values_more : {A : Type 0} (f : A → OrganisationUnit) (called : Name → Bool) (text : Declared) (xs : List A) (i : ℕ)
    (x : A) (v n r : ℕ) → take (i + 1) xs ≡ take i xs ++ x ∷ []
    → v ≡ min (values_of_units called text (map f (take i xs))) (2 ^ 64 - 1)
    → n ≡ values_of_unit called text (f x) → r ≡ min (v + n) (2 ^ 64 - 1)
    → r ≡ min (values_of_units called text (map f (take (i + 1) xs))) (2 ^ 64 - 1)
values_more f called text xs i x v n r more so_far one sum =
    more_held v (values_of_units called text (map f (take i xs))) n r so_far sum
    ∙ ap (λ k. min (values_of_units called text (map f (take i xs)) + k) (2 ^ 64 - 1)) one
    ∙ ap (λ k. min k (2 ^ 64 - 1)) (sym (values_appended called text (map f (take i xs)) (f x)))
    ∙ ap (λ us. min (values_of_units called text us) (2 ^ 64 - 1))
    (sym (map-append f (take i xs) (x ∷ [])) ∙ ap (map f) (sym more))

-- a property of all units holds for the one at hand
pub holds_of : {A B : Type 0} (f : A → B) (p : B → Bool) (xs : List A) (i : ℕ) (x : A)
    → take (i + 1) xs ≡ take i xs ++ x ∷ [] → list_all p (map f xs) ≡ true → p (f x) ≡ true
holds_of {A = A} {B = B} f p xs i x more h =
    last_one (take i xs) (ap (λ ys. list_all p (map f ys)) (sym more)
    ∙ all_front p (map f (take (i + 1) xs)) (map f (drop (i + 1) xs))
    (ap (list_all p) (sym (map-append f (take (i + 1) xs) (drop (i + 1) xs))
    ∙ ap (map f) (take-append-drop (i + 1) xs)) ∙ h))
  where
    last_one : (ys : List A) → list_all p (map f (ys ++ x ∷ [])) ≡ true → p (f x) ≡ true
    last_one [] g = (and_parts (p (f x)) true g).0
    last_one (y ∷ ys) g = last_one ys (and_parts (p (f y)) (list_all p (map f (ys ++ x ∷ []))) g).1
