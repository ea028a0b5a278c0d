-- The values of the slots of a window, one more at a time.
use Rattle.std.proofs.Common.{◌≡◌, ◌+◌, ◌++◌, ℕ, zero, suc, List, [], ◌∷◌, length, take, Some, refl, ap, sym, subst}
use Rattle.std.proofs.Common.{add-one, arith, ◌∙◌}
use Rattle.std.specs.Prelude.{slice_get}
use Rattle.st_types.specs.Values.{Datum}
use Rattle.slot_code.specs.Quick.{AreIn}
use Rattle.quick_trees.proofs.Lists.{some_is}

module _ (slots : List Datum) where
  -- the values of a window, from that of its first slot and those of the others
  in_cons : (x : ℕ) (window : List ℕ) (u : Datum) (vs : List Datum) → Some u ≡ slice_get slots x → AreIn window slots vs
      → AreIn (x ∷ window) slots (u ∷ vs)
  in_cons x window u vs first rest = record { long = ap suc rest.long; each = each }
    where
      each : (w k : ℕ) → slice_get (x ∷ window) w ≡ Some k → slice_get (u ∷ vs) w ≡ slice_get slots k
      each zero k at = first ∙ ap (slice_get slots) (some_is at)
      each (suc w) k at = rest.each w k at

  in_tail : (x : ℕ) (window : List ℕ) (u : Datum) (vs : List Datum) → AreIn (x ∷ window) slots (u ∷ vs)
      → AreIn window slots vs
  in_tail x window u vs is =
      record { long = (let long = is.long in omega arith); each = λ w k at. is.each (suc w) k at }

  on : (k : ℕ) (window : List ℕ) (slot : ℕ) (v : Datum) (vs : List Datum) → slice_get window k ≡ Some slot
      → slice_get slots slot ≡ Some v → AreIn (take k window) slots vs
      → AreIn (take (suc k) window) slots (vs ++ v ∷ [])
  on k [] slot v vs at there is = absurd cc
  on zero (x ∷ window) slot v [] at there is =
      in_cons x [] v [] (sym there ∙ ap (slice_get slots) (sym (some_is at))) is
  on zero (x ∷ window) slot v (u ∷ vs) at there is = absurd (let long = is.long in omega arith)
  on (suc k) (x ∷ window) slot v [] at there is = absurd (let long = is.long in omega arith)
  on (suc k) (x ∷ window) slot v (u ∷ vs) at there is =
      in_cons x (take (suc k) window) u (vs ++ v ∷ []) (is.each 0 x refl)
      (on k window slot v vs at there (in_tail x (take k window) u vs is))

  pub one_further : (k : ℕ) (window : List ℕ) (slot : ℕ) (v : Datum) (vs new : List Datum)
      → slice_get window k ≡ Some slot → slice_get slots slot ≡ Some v → new ≡ vs ++ v ∷ []
      → AreIn (take k window) slots vs → AreIn (take (k + 1) window) slots new
  one_further k window slot v vs new at there pushed is =
      subst (λ xs. AreIn (take (k + 1) window) slots xs) (sym pushed)
      (subst (λ j. AreIn (take j window) slots (vs ++ v ∷ [])) (sym (add-one k)) (on k window slot v vs at there is))

pub take_all : (window : List ℕ) → take (length window) window ≡ window
take_all [] = refl
take_all (x ∷ xs) = ap (λ ys. x ∷ ys) (take_all xs)
