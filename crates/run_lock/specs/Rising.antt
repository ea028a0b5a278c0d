-- The rule of a mark's word, and the facts that a step on it gives.
use Rattle.std.specs.Prelude.{◌≡◌, ℕ, ◌≤◌, [], ◌∷◌, true, false, max}
use mathlib.Core.Option.{some}
use lib.ListN.{get_elem?}
use Rattle.atomic_table.specs.Table.{State, Me, Step}
use Rattle.run_lock.specs.declared.mark.View.{View}

abbrev pub raiser : ℕ → View
raiser n = record { raises = true; top = n }

abbrev pub looker : ℕ → View
looker n = record { raises = false; top = n }

-- A pass has seen no more than the word holds, and the one at the seat that raises knows the word.
abbrev pub Fits : ℕ → ℕ → ℕ → View → Type 0
Fits seat word by v = (v.top ≤ word) × (v.raises ≡ true → (by ≡ seat) × (v.top ≡ word))

-- One seat raises, and every view fits the one word.
abbrev pub IsRising : State (Unit {0}) View → Type 0
IsRising s = (seat : ℕ) × (word : ℕ) × (s.words ≡ word ∷ [])
    × ((by : ℕ) (v : View) → get_elem? s.views by ≡ some v → Fits seat word by v)

-- The number found is at least the seen one, and counts as seen from then on.
abbrev pub Looked : Step (Unit {0}) → Me (Unit {0}) View → ℕ → Me (Unit {0}) View → Type 0
Looked s before found after = (before.0.top ≤ found) × (after.0 ≡ record { raises = before.0.raises; top = found })

-- The raised number is the greater of the two numbers.
abbrev pub Raised : Step (Unit {0}) → Me (Unit {0}) View → ℕ → Me (Unit {0}) View → Type 0
Raised s before found after = after.0 ≡ record { raises = before.0.raises; top = max before.0.top s.first }
