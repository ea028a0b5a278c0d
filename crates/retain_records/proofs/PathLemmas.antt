-- Paths in order, and neighbours that differ.
use Rattle.std.proofs.Common.{◌≡◌, ℕ, suc, ◌+◌, ◌≤◌, Bool, true, false, cond, not, List, [], ◌∷◌, map, get_or, Option}
use Rattle.std.proofs.Common.{Some, None, Bor, refl, sym, ap, subst, ◌∙◌, arith, inl, inr, Ordering, is_lt}
use Rattle.std.specs.Prelude.{◌||◌, bytes_eq}
use Rattle.std.specs.declared.cmp.Ordering.TheVariants.{Less, Equal, Greater}
use Rattle.std.specs.Ordering.{nat_cmp, is_eq, ordering_reverse}
use Rattle.std.specs.Cmp.Lexicographic.{slice_cmp}
use Rattle.std.specs.List.{list_any, sum_by, AllByRecursion}
use Rattle.std.specs.List.Sorted.{IsPermutation, IsSortedByKey}
use Rattle.std.proofs.lemmas.Bool.{and_parts, and_from, not-true, not_from_false, or_parts, or_from, cases_Bool}
use Rattle.std.proofs.lemmas.Cmp.{nat_list_cmp_total}
use Rattle.std.proofs.lemmas.List.Sorted.{IsPermutation-map, IsPermutation-sym, sum_by-IsPermutation}
use Rattle.std.proofs.lemmas.List.Sums.{sum_by-cons}
use Rattle.std.proofs.lemmas.Map.Text.{is_eq-slice_cmp}
use Rattle.std.proofs.lemmas.Slice.Eq.{bytes_eq-Decides}
use Rattle.retain_records.specs.Reading.{are_distinct, neighbours_differ, differs_from}

-- the bytes of the path before, if there was one
abbrev pub last_of : Option (Bor (List ℕ)) → Option (List ℕ)
last_of None = None
last_of (Some x) = Some x.now

abbrev pub differ_after : Option (List ℕ) → List (List ℕ) → Bool
differ_after None xs = neighbours_differ xs
differ_after (Some x) xs = differs_from x xs

-- ---- how often a path occurs in a list

abbrev times : List ℕ → List (List ℕ) → ℕ
times x xs = sum_by (λ y. cond (bytes_eq x y) 1 0) xs

times_more : (x y : List ℕ) (ys : List (List ℕ)) (b : Bool) → bytes_eq x y ≡ b
    → times x (y ∷ ys) ≡ cond b 1 0 + times x ys
times_more x y ys b is = sum_by-cons (λ z. cond (bytes_eq x z) 1 0) y ys ∙ ap (λ (t : Bool). cond t 1 0 + times x ys) is

none_of : (x : List ℕ) (xs : List (List ℕ)) → list_any (bytes_eq x) xs ≡ false → times x xs ≡ 0
none_of x [] h = refl
none_of x (y ∷ ys) h =
    let p = or_parts (bytes_eq x y) (list_any (bytes_eq x) ys) h in
    omega (arith, times_more x y ys false p.0, none_of x ys p.1)

of_none : (x : List ℕ) (xs : List (List ℕ)) → times x xs ≡ 0 → list_any (bytes_eq x) xs ≡ false
of_none x [] h = refl
of_none x (y ∷ ys) h = elim (cases_Bool (bytes_eq x y)) [
  | inl same ↦ absurd (omega (arith, times_more x y ys true same))
  | inr other ↦ or_from (bytes_eq x y) (list_any (bytes_eq x) ys) other
      (of_none x ys (omega (arith, times_more x y ys false other)))
]

abbrev AreFew : List (List ℕ) → Type 0
AreFew xs = (x : List ℕ) → times x xs ≤ 1

few_from : (xs : List (List ℕ)) → are_distinct xs ≡ true → AreFew xs
few_from [] h x = omega arith
few_from (y ∷ ys) h x =
    let p = and_parts (not (list_any (bytes_eq y) ys)) (are_distinct ys) h in
    let none : times y ys ≡ 0 = none_of y ys (not-true (list_any (bytes_eq y) ys) p.0) in
    let rest : times x ys ≤ 1 = few_from ys p.1 x in
    elim (cases_Bool (bytes_eq x y)) [
      | inl same ↦
          let is : x ≡ y = (bytes_eq-Decides x y).0 same in
          let gone : times x ys ≡ 0 = ap (λ (z : List ℕ). times z ys) is ∙ none in
          omega (arith, times_more x y ys true same)
      | inr other ↦ omega (arith, times_more x y ys false other)
    ]

from_few : (xs : List (List ℕ)) → AreFew xs → are_distinct xs ≡ true
from_few [] h = refl
from_few (y ∷ ys) h =
    let same : bytes_eq y y ≡ true = (bytes_eq-Decides y y).1 refl in
    let none : times y ys ≡ 0 = omega (arith, h y, times_more y y ys true same) in
    and_from (not (list_any (bytes_eq y) ys)) (are_distinct ys)
    (not_from_false (list_any (bytes_eq y) ys) (of_none y ys none))
    (from_few ys (λ x. let more = times_more x y ys (bytes_eq x y) refl in omega (arith, h x, more)))

distinct_again : (xs ys : List (List ℕ)) → IsPermutation xs ys → are_distinct xs ≡ true → are_distinct ys ≡ true
distinct_again xs ys moved h =
    from_few ys (λ x. omega (arith, few_from xs h x, sum_by-IsPermutation (λ y. cond (bytes_eq x y) 1 0) xs ys moved))

-- ---- in order

abbrev order : List ℕ → List ℕ → Ordering
order = slice_cmp nat_cmp

abbrev IsRising : List (List ℕ) → Type 0
IsRising [] = Unit {0}
IsRising (x ∷ []) = Unit {0}
IsRising (x ∷ y ∷ ys) = (is_lt (order y x) ≡ false) × IsRising (y ∷ ys)

rising : (f : ℕ → List ℕ) (xs : List ℕ) → IsSortedByKey f order xs → IsRising (map f xs)
rising f [] h = tt
rising f (x ∷ []) h = tt
rising f (x ∷ y ∷ ys) h = (
  h 0 0 (omega arith) (omega arith),
  rising f (y ∷ ys) (λ k d low lt. let next : suc k + 1 ≡ suc (k + 1) = omega arith in
      subst (λ (n : ℕ). is_lt (order (f (get_or (x ∷ y ∷ ys) n d)) (f (get_or (x ∷ y ∷ ys) (suc k) d))) ≡ false) next
      (h (suc k) d (omega arith) (omega arith))),
)

-- one path comes before the next
comes_before : (x y : List ℕ) → is_lt (order y x) ≡ false → bytes_eq x y ≡ false → order x y ≡ Less
comes_before x y up other =
    from (order x y) (order y x) (nat_list_cmp_total.antisymm x y) up (sym other ∙ sym (is_eq-slice_cmp x y))
  where
    from : (a b : Ordering) → a ≡ ordering_reverse b → is_lt b ≡ false → false ≡ is_eq a → a ≡ Less
    from Less b turned up other = refl
    from Equal b turned up other = absurd cc
    from Greater Less turned up other = absurd cc
    from Greater Equal turned up other = absurd cc
    from Greater Greater turned up other = absurd cc

later_too : (x y : List ℕ) (ys : List (List ℕ)) → order x y ≡ Less → AllByRecursion (λ z. order y z ≡ Less) ys
    → AllByRecursion (λ z. order x z ≡ Less) ys
later_too x y [] here h = tt
later_too x y (z ∷ zs) here h = (nat_list_cmp_total.trans x y z here h.0, later_too x y zs here h.1)

none_same : (x : List ℕ) (xs : List (List ℕ)) → AllByRecursion (λ y. order x y ≡ Less) xs
    → list_any (bytes_eq x) xs ≡ false
none_same x [] h = refl
none_same x (y ∷ ys) h =
    or_from (bytes_eq x y) (list_any (bytes_eq x) ys) (sym (is_eq-slice_cmp x y) ∙ ap is_eq h.0) (none_same x ys h.1)

-- and before all that follow
all_before : (x : List ℕ) (xs : List (List ℕ)) → IsRising (x ∷ xs) → differs_from x xs ≡ true
    → AllByRecursion (λ y. order x y ≡ Less) xs × (are_distinct xs ≡ true)
all_before x [] up differ = (tt, refl)
all_before x (y ∷ ys) up differ =
    let p = and_parts (not (bytes_eq x y)) (differs_from y ys) differ in
    let r = all_before y ys up.1 p.1 in
    let here : order x y ≡ Less = comes_before x y up.0 (not-true (bytes_eq x y) p.0) in (
      (here, later_too x y ys here r.0),
      and_from (not (list_any (bytes_eq y) ys)) (are_distinct ys)
          (not_from_false (list_any (bytes_eq y) ys) (none_same y ys r.0)) r.1,
    )

sorted_neighbours : (xs : List (List ℕ)) → IsRising xs → neighbours_differ xs ≡ true → are_distinct xs ≡ true
sorted_neighbours [] up differ = refl
sorted_neighbours (x ∷ xs) up differ =
    let r = all_before x xs up differ in
    and_from (not (list_any (bytes_eq x) xs)) (are_distinct xs)
    (not_from_false (list_any (bytes_eq x) xs) (none_same x xs r.0)) r.1

neighbours_from : (xs : List (List ℕ)) → are_distinct xs ≡ true → neighbours_differ xs ≡ true
neighbours_from [] h = refl
neighbours_from (x ∷ []) h = refl
neighbours_from (x ∷ y ∷ ys) h =
    let p = and_parts (not (bytes_eq x y || list_any (bytes_eq x) ys)) (are_distinct (y ∷ ys)) h in
    let o =
    or_parts (bytes_eq x y) (list_any (bytes_eq x) ys) (not-true (bytes_eq x y || list_any (bytes_eq x) ys) p.0) in
    and_from (not (bytes_eq x y)) (differs_from y ys) (not_from_false (bytes_eq x y) o.0) (neighbours_from (y ∷ ys) p.1)

same_tests : (a b : Bool) → (a ≡ true → b ≡ true) → (b ≡ true → a ≡ true) → a ≡ b
same_tests true b there back = sym (there refl)
same_tests false true there back = back refl
same_tests false false there back = refl

-- after a sort a comparison of neighbours is enough
pub sorted_distinct : (f : ℕ → List ℕ) (xs ys : List ℕ) → IsPermutation xs ys → IsSortedByKey f (slice_cmp nat_cmp) ys
    → neighbours_differ (map f ys) ≡ are_distinct (map f xs)
sorted_distinct f xs ys moved up =
    let maps : IsPermutation (map f xs) (map f ys) = IsPermutation-map f xs ys moved in
    same_tests (neighbours_differ (map f ys)) (are_distinct (map f xs))
    (λ differ. distinct_again (map f ys) (map f xs) (IsPermutation-sym (map f xs) (map f ys) maps)
    (sorted_neighbours (map f ys) (rising f ys up) differ))
    (λ once. neighbours_from (map f ys) (distinct_again (map f xs) (map f ys) maps once))
