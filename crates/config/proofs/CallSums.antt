-- Sums over lists of numbers: of those that are as great as a first one, and of one list of many.
use Rattle.std.proofs.Common.{◌≡◌, refl, arith, ℕ, suc, ◌+◌, ◌*◌, ◌≤◌, ◌<◌, Bool, true, false, List, [], ◌∷◌, ◌++◌}
use Rattle.std.proofs.Common.{length, if◌then◌else◌}
use Rattle.std.proofs.lemmas.Bool.Decides.{nat_tests}
use Rattle.std.specs.Prelude.{nat_lt}
use Rattle.st_link.proofs.Among.{Among, here, later}

-- of each element
abbrev pub sum_of : {A : Type 0} → (A → ℕ) → List A → ℕ
sum_of w [] = 0
sum_of w (x ∷ xs) = w x + sum_of w xs

-- of the numbers that are not less than a first one
abbrev pub or_less : (ℕ → ℕ) → ℕ → ℕ → ℕ
or_less w first x = if nat_lt x first then 0 else w x

abbrev pub sum_from : (ℕ → ℕ) → ℕ → List ℕ → ℕ
sum_from w first xs = sum_of (or_less w first) xs

pub sum_appended : {A : Type 0} (w : A → ℕ) (xs ys : List A) → sum_of w (xs ++ ys) ≡ sum_of w xs + sum_of w ys
sum_appended w [] ys = omega arith
sum_appended w (x ∷ xs) ys = let rest = sum_appended w xs ys in omega (arith, rest)

one_further : (w : ℕ → ℕ) (first x : ℕ) → or_less w (suc first) x ≤ or_less w first x
one_further w first x = grind (arith, nat_tests)

one_whole : (w : ℕ → ℕ) (first x : ℕ) → or_less w first x ≤ w x
one_whole w first x = grind (arith, nat_tests)

one_itself : (w : ℕ → ℕ) (x : ℕ) → w x + or_less w (suc x) x ≤ or_less w x x
one_itself w x = grind (arith, nat_tests)

pub sum_further : (w : ℕ → ℕ) (first : ℕ) (xs : List ℕ) → sum_from w (suc first) xs ≤ sum_from w first xs
sum_further w first [] = omega arith
sum_further w first (x ∷ xs) =
    let one = one_further w first x in
    let rest = sum_further w first xs in
    omega (arith, one, rest)

pub sum_whole : (w : ℕ → ℕ) (first : ℕ) (xs : List ℕ) → sum_from w first xs ≤ sum_of w xs
sum_whole w first [] = omega arith
sum_whole w first (x ∷ xs) =
    let one = one_whole w first x in
    let rest = sum_whole w first xs in
    omega (arith, one, rest)

-- a number that is among them counts along with all that are greater
pub sum_beside : (w : ℕ → ℕ) (x : ℕ) (xs : List ℕ) → Among x xs → w x + sum_from w (suc x) xs ≤ sum_from w x xs
sum_beside w x xs (here {rest = rest}) =
    let one = one_itself w x in
    let others = sum_further w x rest in
    omega (arith, one, others)
sum_beside w x xs (later {b = y} {rest = rest} h) =
    let one = one_further w x y in
    let others = sum_beside w x rest h in
    omega (arith, one, others)

-- an element with more than a bound
pub record HasMore {A : Type 0} (w : A → ℕ) (bound : ℕ) (xs : List A) : Type 0 where
  pub element : A
  pub among : Among element xs
  pub more : bound < w element

-- if all have together more than the bound for each, one has more
pub one_has_more : {A : Type 0} (w : A → ℕ) (bound : ℕ) (xs : List A) → length xs * bound < sum_of w xs
    → HasMore w bound xs
one_has_more w bound [] h = absurd (omega (arith, h))
one_has_more {A = A} w bound (x ∷ xs) h = by_first (nat_lt bound (w x)) refl (one_has_more w bound xs)
  where
    by_first : (b : Bool) → nat_lt bound (w x) ≡ b
        → (length xs * bound < sum_of w xs → HasMore w bound xs) → HasMore w bound (x ∷ xs)
    by_first true is rest = record { element = x; among = here; more = grind (arith, nat_tests, is) }
    by_first false is rest =
        let small : w x ≤ bound = grind (arith, nat_tests, is) in
        let found = rest (omega (arith, h, small)) in
        record { element = found.element; among = later found.among; more = found.more }
