-- Words of slots.
use Rattle.std.proofs.Common.{◌≡◌, ℕ, ◌<◌, Bool, true, false, List, Some, refl, arith}
use Rattle.std.specs.Prelude.{nat_lt, slice_get}
use Rattle.std.proofs.lemmas.Bool.Decides.{nat_tests}
use Rattle.quick_trees.specs.Windows.{IsWindow}

-- a slot has one word
pub one_word : (count : ℕ) (window : List ℕ) → IsWindow count window → (u w k : ℕ) → slice_get window u ≡ Some k
    → slice_get window w ≡ Some k → u ≡ w
one_word count window is u w k at here = by_first (nat_lt u w) refl (nat_lt w u) refl
  where
    by_first : (p : Bool) → nat_lt u w ≡ p → (q : Bool) → nat_lt w u ≡ q → u ≡ w
    by_first true e q h =
        let lt : u < w = grind (arith, nat_tests) in
        let none : k < k = is.increasing u w k k at here lt in
        absurd (omega arith)
    by_first false e true h =
        let lt : w < u = grind (arith, nat_tests) in
        let none : k < k = is.increasing w u k k here at lt in
        absurd (omega arith)
    by_first false e false h = grind (arith, nat_tests)
