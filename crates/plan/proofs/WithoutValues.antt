-- The variables and the inputs of a layout without a value.
use Rattle.std.proofs.Common.{◌≡◌, ℕ, zero, suc, ◌==◌, Bool, true, false, if◌then◌else◌, List, [], ◌∷◌, Some}
use Rattle.std.proofs.Common.{refl, sym, ap, ◌∙◌, arith}
use Rattle.std.specs.Prelude.{slice_get, slice_set}
use Rattle.std.proofs.lemmas.Bool.Decides.{nat_tests}
use Rattle.st_types.specs.Values.{Datum}
use Rattle.st_types.specs.Paths.{Path, same_path}
use Rattle.st_meaning.specs.Stores.{Store}
use Rattle.st_meaning.specs.Slots.{Slot, IsLayout, slot_of, variables_with, inputs_in}
use Rattle.st_meaning.specs.Asked.{not_held, without_value}
use Rattle.st_types.specs.Comparisons.{same_path_is, same_path_itself}
use Rattle.std.proofs.lemmas.Option.{same_Some}
use Rattle.std.proofs.lemmas.Bool.{false_from_ne_true}
use Rattle.st_types.proofs.TestLemmas.{other_numbers}

-- the path is that of the slot of this number alone
abbrev StandsAt : List Slot → Path → ℕ → Type 0
StandsAt layout p k = (j : ℕ) (l : Slot) → slice_get layout j ≡ Some l → same_path p l.path ≡ (j == k)

-- it isn't the path of a slot
abbrev StandsNowhere : List Slot → Path → Type 0
StandsNowhere layout p = (j : ℕ) (l : Slot) → slice_get layout j ≡ Some l → same_path p l.path ≡ false

-- one more entry, of a variable or of an input
abbrev with_entry : Bool → Path → Datum → Store → Store
with_entry t q v s = if t then (q, v) ∷ s else s

entry_stays : (t : Bool) (p q : Path) (v : Datum) (s : Store) → same_path p q ≡ false
    → without_value (with_entry t q v s) p ≡ with_entry t q v (without_value s p)
entry_stays true p q v s e = rw e refl
entry_stays false p q v s e = refl

entry_goes : (t : Bool) (p q : Path) (v : Datum) (s : Store) → same_path p q ≡ true
    → without_value (with_entry t q v s) p ≡ with_entry t q (not_held v) (without_value s p)
entry_goes true p q v s e = rw e refl
entry_goes false p q v s e = refl

variable_entry : (t : Bool) (q : Path) (v : Datum) (s : Store)
    → (if t then s else (q, v) ∷ s) ≡ with_entry (if t then false else true) q v s
variable_entry true q v s = refl
variable_entry false q v s = refl

module _ (sort : Bool → Bool) where
  -- the entries of a sort
  entries : List Slot → List Datum → Store
  entries [] vs = []
  entries (l ∷ ls) [] = []
  entries (l ∷ ls) (v ∷ vs) = with_entry (sort l.is_input) l.path v (entries ls vs)

  none_goes : (layout : List Slot) (vs : List Datum) (p : Path) → StandsNowhere layout p
      → without_value (entries layout vs) p ≡ entries layout vs
  unfolding entries
  none_goes [] vs p h = refl
  none_goes (l ∷ ls) [] p h = refl
  none_goes (l ∷ ls) (v ∷ vs) p h =
      entry_stays (sort l.is_input) p l.path v (entries ls vs) (h 0 l refl)
      ∙ ap (with_entry (sort l.is_input) l.path v) (none_goes ls vs p (λ j m at. h (suc j) m at))

  one_goes : (layout : List Slot) (vs : List Datum) (p : Path) (k : ℕ) (v : Datum) → StandsAt layout p k
      → slice_get vs k ≡ Some v
      → entries layout (slice_set vs k (not_held v)) ≡ without_value (entries layout vs) p
  unfolding entries
  one_goes [] vs p k v h at = refl
  one_goes (l ∷ ls) [] p k v h at = absurd (cc)
  one_goes (l ∷ ls) (u ∷ vs) p zero v h at =
      let is : u ≡ v = cc in
      ap (λ w. with_entry (sort l.is_input) l.path (not_held w) (entries ls vs)) (sym is)
      ∙ ap (with_entry (sort l.is_input) l.path (not_held u))
      (sym (none_goes ls vs p (λ j m there. h (suc j) m there ∙ later j)))
      ∙ sym (entry_goes (sort l.is_input) p l.path u (entries ls vs) (h 0 l refl))
    where
      later : (j : ℕ) → (suc j == 0) ≡ false
      later j = grind (arith, nat_tests)
  one_goes (l ∷ ls) (u ∷ vs) p (suc k) v h at =
      ap (with_entry (sort l.is_input) l.path u)
      (one_goes ls vs p k v (λ j m there. h (suc j) m there ∙ lower j) at)
      ∙ sym (entry_stays (sort l.is_input) p l.path u (entries ls vs) (h 0 l refl ∙ first))
    where
      lower : (j : ℕ) → (suc j == suc k) ≡ (j == k)
      lower j = grind (arith, nat_tests)

      first : (0 == suc k) ≡ false
      first = grind (arith, nat_tests)

abbrev other : Bool → Bool
other t = if t then false else true

abbrev itself : Bool → Bool
itself t = t

variables_are : (layout : List Slot) (vs : List Datum) → variables_with layout vs ≡ entries other layout vs
unfolding entries
variables_are [] vs = refl
variables_are (l ∷ ls) [] = refl
variables_are (l ∷ ls) (v ∷ vs) =
    variable_entry l.is_input l.path v (variables_with ls vs)
    ∙ ap (with_entry (other l.is_input) l.path v) (variables_are ls vs)

inputs_are : (layout : List Slot) (vs : List Datum) → inputs_in layout vs ≡ entries itself layout vs
unfolding entries
inputs_are [] vs = refl
inputs_are (l ∷ ls) [] = refl
inputs_are (l ∷ ls) (v ∷ vs) = ap (with_entry l.is_input l.path v) (inputs_are ls vs)

-- in a layout a path is in its slot alone
stands_alone : (layout : List Slot) (k : ℕ) (l : Slot) → IsLayout layout → slice_get layout k ≡ Some l
    → StandsAt layout l.path k
stands_alone layout k l distinct at j m there = by_test (j == k) refl
  where
    place : (j == k) ≡ true → j ≡ k
    place e = grind (arith, nat_tests)

    by_test : (b : Bool) → (j == k) ≡ b → same_path l.path m.path ≡ b
    by_test true e =
        let is = same_Some _ _ (sym there ∙ ap (slice_get layout) (place e) ∙ at) in
        ap (same_path l.path) (ap (λ (x : Slot). x.path) is) ∙ same_path_itself l.path
    by_test false e =
        false_from_ne_true (same_path l.path m.path) (λ same.
        let path = same_path_is l.path m.path same in
        other_numbers j k e (same_Some _ _ (sym (distinct j m there) ∙ ap (slot_of layout) (sym path) ∙ distinct k l at)))

pub variables_without : (layout : List Slot) (vs : List Datum) (k : ℕ) (l : Slot) (v : Datum) → IsLayout layout
    → slice_get layout k ≡ Some l → slice_get vs k ≡ Some v
    → without_value (variables_with layout vs) l.path ≡ variables_with layout (slice_set vs k (not_held v))
variables_without layout vs k l v distinct at here =
    ap (λ s. without_value s l.path) (variables_are layout vs)
    ∙ sym (one_goes other layout vs l.path k v (stands_alone layout k l distinct at) here)
    ∙ sym (variables_are layout (slice_set vs k (not_held v)))

pub inputs_without : (layout : List Slot) (vs : List Datum) (k : ℕ) (l : Slot) (v : Datum) → IsLayout layout
    → slice_get layout k ≡ Some l → slice_get vs k ≡ Some v
    → without_value (inputs_in layout vs) l.path ≡ inputs_in layout (slice_set vs k (not_held v))
inputs_without layout vs k l v distinct at here =
    ap (λ s. without_value s l.path) (inputs_are layout vs)
    ∙ sym (one_goes itself layout vs l.path k v (stands_alone layout k l distinct at) here)
    ∙ sym (inputs_are layout (slice_set vs k (not_held v)))
