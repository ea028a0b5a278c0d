-- The slots that code names: word by word.
use Rattle.std.specs.Prelude.{◌≡◌, ◌<◌, ℕ, List, Some, slice_get}
use Rattle.machine_code.specs.Tracking.{Tracked}

-- Slots in increasing order, all below `count`.
pub record IsWindow (count : ℕ) (window : List ℕ) : Type 0 where
  pub inside : (w k : ℕ) → slice_get window w ≡ Some k → k < count
  pub increasing : (u w j k : ℕ) → slice_get window u ≡ Some j → slice_get window w ≡ Some k → u < w → j < k

-- no word is the slot's
abbrev pub IsOutside : List ℕ → ℕ → Type 0
IsOutside window k = (w : ℕ) → slice_get window w ≡ Some k → ⊥

-- The values and the marks of slots that have no word are as they were.
pub record StaysOutside (window : List ℕ) (before after : Tracked) : Type 0 where
  pub values : (k : ℕ) → IsOutside window k → slice_get after.values k ≡ slice_get before.values k
  pub marks : (k : ℕ) → IsOutside window k → slice_get after.marks k ≡ slice_get before.marks k
