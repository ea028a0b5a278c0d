-- Slots each of which is after the one before it are in increasing order.
use Rattle.std.proofs.Common.{◌≡◌, ℕ, zero, suc, List, length, arith, ap, ◌∙◌, subst, sym, ◌<◌, ◌+◌, ◌-◌}
use Rattle.std.specs.Prelude.{Some, slice_get}
use Rattle.std.proofs.lemmas.Option.{slice_get_within}
use Rattle.quick_trees.specs.Windows.{IsWindow}
use Rattle.quick_trees.proofs.Lists.{within_there}

-- each is after the one before it
abbrev pub IsBehind : List ℕ → ℕ → Type 0
IsBehind ws w = (u j k : ℕ) → w ≡ u + 1 → slice_get ws u ≡ Some j → slice_get ws w ≡ Some k → j < k

module _ (ws : List ℕ) (behind : (w : ℕ) → w < length ws → IsBehind ws w) where
  further : (d u w j k : ℕ) → w ≡ u + 1 + d → slice_get ws u ≡ Some j → slice_get ws w ≡ Some k → j < k
  further zero u w j k e a b =
      let lt = slice_get_within ws w k b in
      behind w lt u j k (omega arith) a b
  further (suc d) u w j k e a b =
      let lt = slice_get_within ws w k b in
      let v : ℕ = u + 1 + d in
      let middle = within_there ws v (omega arith) in
      let first = further d u v j middle.0 (omega arith) a middle.1 in
      let second = behind w lt v middle.0 k (omega arith) middle.1 b in
      omega arith

  pub in_order : (u w j k : ℕ) → slice_get ws u ≡ Some j → slice_get ws w ≡ Some k → u < w → j < k
  in_order u w j k a b lt = further (w - (u + 1)) u w j k (omega arith) a b
