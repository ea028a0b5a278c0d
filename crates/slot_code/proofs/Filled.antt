-- Values of all slots that have these values in a window.
use Rattle.std.proofs.Common.{◌≡◌, ℕ, zero, suc, ◌+◌, ◌<◌, ◌==◌, Bool, true, false, pos, List, [], ◌∷◌, length, map}
use Rattle.std.proofs.Common.{Option, Some, None, refl, sym, ap, ap₂, subst, ◌∙◌, arith}
use Rattle.std.specs.Prelude.{if◌then◌else◌, option_map, slice_get}
use Rattle.std.proofs.lemmas.Bool.Decides.{nat_tests}
use Rattle.st_types.specs.declared.kind.Kind.{Kind}
use Rattle.st_types.specs.Values.{Datum}
use Rattle.quick_trees.specs.Windows.{IsWindow}
use Rattle.quick_trees.proofs.Lists.{some_is, there_within, within_there}
use Rattle.slot_code.specs.Quick.{AreIn, AreTyped, kinds_of}
use Rattle.st_types.proofs.ListLemmas.{length_map}

-- the value of a slot, if the window has it
abbrev found : List ℕ → List Datum → ℕ → Option Datum
found [] vs k = None
found (x ∷ xs) [] k = None
found (x ∷ xs) (v ∷ vs) k = if x == k then Some v else found xs vs k

-- or else some value of its type
abbrev or_some : Kind → Option Datum → Datum
or_some t (Some v) = v
or_some t None = record { kind = t; number = pos 0 }

module _ (window : List ℕ) (vs : List Datum) where
  abbrev filled_from : ℕ → List Kind → List Datum
  filled_from i [] = []
  filled_from i (t ∷ ts) = or_some t (found window vs i) ∷ filled_from (suc i) ts

  filled_at : (i : ℕ) (ts : List Kind) (d : ℕ) (t : Kind) → slice_get ts d ≡ Some t
      → slice_get (filled_from i ts) d ≡ Some (or_some t (found window vs (i + d)))
  filled_at i [] d t at = absurd cc
  filled_at i (u ∷ ts) zero t at =
      (let same : u ≡ t = some_is at in let here : i ≡ i + 0 = omega arith in
      ap₂ (λ (u : Kind) (n : ℕ). Some (or_some u (found window vs n))) same here)
  filled_at i (u ∷ ts) (suc d) t at =
      (let there : suc i + d ≡ i + suc d = omega arith in
      filled_at (suc i) ts d t at ∙ ap (λ n. Some (or_some t (found window vs n))) there)

  -- the types, if the values found are of them
  filled_kinds : (i : ℕ) (ts : List Kind)
      → ((d : ℕ) (t : Kind) (v : Datum) → slice_get ts d ≡ Some t → found window vs (i + d) ≡ Some v → v.kind ≡ t)
      → kinds_of (filled_from i ts) ≡ ts
  filled_kinds i [] are = refl
  filled_kinds i (t ∷ ts) are =
      ap₂ (λ (u : Kind) (us : List Kind). u ∷ us) (first (found window vs i) refl)
      (filled_kinds (suc i) ts (λ d u v at is. are (suc d) u v at (behind d v is)))
    where
      behind : (d : ℕ) (v : Datum) → found window vs (suc i + d) ≡ Some v → found window vs (i + suc d) ≡ Some v
      behind d v is = (let same : i + suc d ≡ suc i + d = omega arith in ap (found window vs) same ∙ is)

      first : (o : Option Datum) → found window vs i ≡ o → (or_some t o).kind ≡ t
      first (Some v) is = (let same : i + 0 ≡ i = omega arith in
          are 0 t v refl (ap (found window vs) same ∙ is))
      first None is = refl

-- the value found is of its slot's type
found_kind : (kinds : List Kind) (window : List ℕ) (vs : List Datum) (k : ℕ) (v : Datum) → AreTyped kinds window vs
    → found window vs k ≡ Some v → slice_get kinds k ≡ Some v.kind
found_kind kinds [] vs k v typed is = absurd cc
found_kind kinds (x ∷ xs) [] k v typed is = absurd cc
found_kind kinds (x ∷ xs) (u ∷ us) k v typed is =
    by_test (x == k) refl is (λ later. found_kind kinds xs us k v (cc) later)
  where
    by_test : (b : Bool) → (x == k) ≡ b → (if b then Some u else found xs us k) ≡ Some v
        → (found xs us k ≡ Some v → slice_get kinds k ≡ Some v.kind) → slice_get kinds k ≡ Some v.kind
    by_test true e is later =
        let same : x ≡ k = grind (arith, nat_tests) in
        let first : slice_get kinds x ≡ Some u.kind = cc in
        ap (slice_get kinds) (sym same) ∙ first ∙ ap (λ (v : Datum). Some v.kind) (some_is is)
    by_test false e is later = later is

-- the value found for a slot of the window is its value
found_here : (window : List ℕ) (vs : List Datum) (w k : ℕ)
    → ((u w j k : ℕ) → slice_get window u ≡ Some j → slice_get window w ≡ Some k → u < w → j < k)
    → slice_get window w ≡ Some k → found window vs k ≡ slice_get vs w
found_here [] vs w k increasing at = absurd cc
found_here (x ∷ xs) [] w k increasing at = refl
found_here (x ∷ xs) (v ∷ vs) zero k increasing at =
    (let same : x ≡ k = some_is at in let here : (x == k) ≡ true = grind (arith, nat_tests) in
    ap (λ b. if b then Some v else found xs vs k) here)
found_here (x ∷ xs) (v ∷ vs) (suc w) k increasing at =
    (let less = increasing 0 (suc w) x k refl at (omega arith) in
    let other : (x == k) ≡ false = grind (arith, nat_tests) in
    ap (λ b. if b then Some v else found xs vs k) other
    ∙ found_here xs vs w k (λ u w j k a b lt. increasing (suc u) (suc w) j k a b (omega arith)) at)

module _ (kinds : List Kind) (window : List ℕ) (vs : List Datum) (is_window : IsWindow (length kinds) window)
    (typed : AreTyped kinds window vs) where
  abbrev pub filled : List Datum
  filled = filled_from window vs 0 kinds

  pub filled_typed : kinds_of filled ≡ kinds
  filled_typed = filled_kinds window vs 0 kinds (λ d t v at is. kind d t v at is)
    where
      kind : (d : ℕ) (t : Kind) (v : Datum) → slice_get kinds d ≡ Some t → found window vs (0 + d) ≡ Some v
          → v.kind ≡ t
      kind d t v at is =
          (let same : 0 + d ≡ d = omega arith in
          some_is (sym (found_kind kinds window vs d v typed (ap (found window vs) (sym same) ∙ is)) ∙ at))

  pub as_long : length vs ≡ length window
  as_long = sym (length_map (λ (v : Datum). Some v.kind) vs) ∙ ap length (sym typed) ∙ length_map (slice_get kinds) window

  pub filled_in : AreIn window filled vs
  filled_in = record { long = as_long; each = each }
    where
      each : (w k : ℕ) → slice_get window w ≡ Some k → slice_get vs w ≡ slice_get filled k
      each w k at =
          let inside = is_window.inside w k at in
          let t = within_there kinds k inside in
          let lt = there_within window w k at in
          let long = as_long in
          let v = within_there vs w (omega arith) in
          let same : 0 + k ≡ k = omega arith in
          let here : found window vs (0 + k) ≡ Some v.0 =
          ap (found window vs) same ∙ found_here window vs w k is_window.increasing at ∙ v.1 in
          v.1 ∙ sym (filled_at window vs 0 kinds k t.0 t.1 ∙ ap (λ o. Some (or_some t.0 o)) here)

-- values of a window's slots are of their types
pub typed_in : (window : List ℕ) (slots vs : List Datum) → IsWindow (length slots) window → AreIn window slots vs
    → AreTyped (kinds_of slots) window vs
typed_in window slots vs is_window is_in = typed window vs is_in.long (λ w k at. (is_window.inside w k at, is_in.each w k at))
  where
    one : (k : ℕ) (v : Datum) → slice_get slots k ≡ Some v → slice_get (kinds_of slots) k ≡ Some v.kind
    one k v at = kind slots k at
      where
        kind : (us : List Datum) (k : ℕ) → slice_get us k ≡ Some v → slice_get (kinds_of us) k ≡ Some v.kind
        kind [] k at = absurd cc
        kind (u ∷ us) zero at = ap (λ (v : Datum). Some v.kind) (some_is at)
        kind (u ∷ us) (suc k) at = kind us k at

    typed : (window : List ℕ) (vs : List Datum) → length vs ≡ length window
        → ((w k : ℕ) → slice_get window w ≡ Some k → (k < length slots) × (slice_get vs w ≡ slice_get slots k))
        → AreTyped (kinds_of slots) window vs
    typed [] [] long each = refl
    typed [] (v ∷ vs) long each = absurd (omega arith)
    typed (x ∷ xs) [] long each = absurd (omega arith)
    typed (x ∷ xs) (v ∷ vs) long each =
        let first = each 0 x refl in
        let there : slice_get slots x ≡ Some v = sym first.1 in
        ap₂ (λ (o : Option Kind) (os : List (Option Kind)). o ∷ os) (one x v there)
        (typed xs vs (omega arith) (λ w k at. each (suc w) k at))
