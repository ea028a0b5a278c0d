-- Slots that have no word stay as they were.
use Rattle.std.proofs.Common.{◌≡◌, ℕ, List, Some, refl, ap, subst, ◌∙◌}
use Rattle.std.specs.Prelude.{slice_get, slice_set}
use Rattle.st_types.specs.Values.{Datum}
use Rattle.machine_code.specs.Tracking.{Tracked, assigned, seen, with_mark, assigned_slot}
use Rattle.quick_trees.specs.Windows.{IsOutside, StaysOutside}
use Rattle.quick_trees.proofs.Lists.{set_elsewhere}
use Rattle.quick_trees.proofs.Notings.{other_mark}

pub stays_all : (window : List ℕ) (t : Tracked) → StaysOutside window t t
stays_all window t = record { values = λ k out. refl; marks = λ k out. refl }

module _ (window : List ℕ) (before t : Tracked) (stays : StaysOutside window before t) (w k : ℕ)
    (slot : slice_get window w ≡ Some k) where
  apart : (j : ℕ) → IsOutside window j → j ≡ k → ⊥
  apart j out is = out w (slot ∙ ap (λ k. Some k) (subst (λ i. i ≡ j) is refl))

  -- a slot that has a word is looked up
  pub stays_looked : StaysOutside window before (record { values = t.values; marks = with_mark seen t.marks k })
  stays_looked = record {
    values = stays.values;
    marks = λ j out. other_mark seen t.marks k j (apart j out) ∙ stays.marks j out;
  }

  -- or it is assigned
  pub stays_written : (v : Datum) → StaysOutside window before (assigned_slot t k v)
  stays_written v = record {
    values = λ j out. set_elsewhere t.values j k v (apart j out) ∙ stays.values j out;
    marks = λ j out. other_mark assigned t.marks k j (apart j out) ∙ stays.marks j out;
  }
