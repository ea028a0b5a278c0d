-- Reading and assigning by a path is reading and writing in its slot.
use Rattle.std.proofs.Common.{◌≡◌, ℕ, zero, suc, Bool, true, false, ◌||◌, if◌then◌else◌, List, [], ◌∷◌, length}
use Rattle.std.proofs.Common.{slice_get}
use Rattle.std.proofs.Common.{slice_set, Option, Some, None, Ok, Err, refl, sym, ap, ap₂, ◌∙◌, subst, length-set, arith}
use Rattle.st_types.specs.Values.{Datum}
use Rattle.st_types.specs.Paths.{Path, is_within}
use Rattle.st_meaning.specs.Failures.{ill_typed}
use Rattle.st_meaning.specs.Stores.{Store, get, may_replace, assigned, has_part}
use Rattle.st_meaning.specs.Scopes.{seen}
use Rattle.st_meaning.specs.Slots.{Slot, IsLayout, variables_with, inputs_in}
use Rattle.st_meaning.proofs.SlotLemmas.{seen_slot, get_variable, assigned_slot}
use Rattle.layout.specs.VariableSlots.{slot, has_slot_within}
use Rattle.slot_trees.specs.SlotExecution.{stored_over, stored_at}
use Rattle.slot_trees.specs.Seeing.{Sees, IsSlotOf}
use Rattle.slot_trees.proofs.Sim.{ResultAlike}

-- a subscript is out of bounds exactly when no variable's path begins with it
or_third : (a b c : Bool) → ((a || b) || c) ≡ (a || (b || c))
or_third true b c = refl
or_third false b c = refl

or_middle : (a b c : Bool) → (b || (a || c)) ≡ (a || (b || c))
or_middle true true c = refl
or_middle true false c = refl
or_middle false b c = refl

part_by_sort : (x y : Store) (e : Path × Datum) (p : Path) (c : Bool) → (has_part x p || has_part y p) ≡ c
    → (input : Bool) → (has_part (if input then e ∷ x else x) p || has_part (if input then y else e ∷ y) p)
    ≡ (is_within p e.0 || c)
part_by_sort x y e p c h true =
    or_third (is_within p e.0) (has_part x p) (has_part y p) ∙ ap (λ b. is_within p e.0 || b) h
part_by_sort x y e p c h false =
    or_middle (is_within p e.0) (has_part x p) (has_part y p) ∙ ap (λ b. is_within p e.0 || b) h

pub has_part_slots : (layout : List Slot) (vs : List Datum) (p : Path) → length layout ≡ length vs
    → (has_part (inputs_in layout vs) p || has_part (variables_with layout vs) p) ≡ has_slot_within layout p
has_part_slots [] vs p len = refl
has_part_slots (l ∷ ls) [] p len = absurd (omega arith)
has_part_slots (l ∷ ls) (v ∷ vs) p len =
    part_by_sort (inputs_in ls vs) (variables_with ls vs) (l.path, v) p (has_slot_within ls p)
    (has_part_slots ls vs p (omega arith)) l.is_input

-- a write to a slot of a variable leaves the inputs
inputs_at : (layout : List Slot) (vs : List Datum) (k : ℕ) (v : Datum) (l : Slot) → slice_get layout k ≡ Some l
    → l.is_input ≡ false → inputs_in layout (slice_set vs k v) ≡ inputs_in layout vs
inputs_at [] vs k v l at out = refl
inputs_at (m ∷ ls) [] k v l at out = refl
inputs_at (m ∷ ls) (u ∷ vs) zero v l at out = let e : m.is_input ≡ false = cc in rw e refl
inputs_at (m ∷ ls) (u ∷ vs) (suc k) v l at out = rw (inputs_at ls vs k v l at out) refl

value_there : (layout : List Slot) (vs : List Datum) (k : ℕ) (l : Slot) → length layout ≡ length vs
    → slice_get layout k ≡ Some l → slice_get vs k ≡ None → ⊥
value_there [] vs k l len at none = absurd (cc)
value_there (m ∷ ls) [] k l len at none = absurd (omega arith)
value_there (m ∷ ls) (v ∷ vs) zero l len at none = absurd (cc)
value_there (m ∷ ls) (v ∷ vs) (suc k) l len at none = value_there ls vs k l (omega arith) at none

-- a store and an image that see these values
module _ (layout : List Slot) (distinct : IsLayout layout) (image s : Store) (vs : List Datum)
    (h : Sees layout image s vs) (p : Path) (k : ℕ) where
  pub seen_there : (input : Bool) → IsSlotOf layout input p k → seen image s p ≡ slice_get vs k
  seen_there input at =
      ap₂ (λ i t. seen i t p) h.inputs h.variables
      ∙ seen_slot layout vs distinct h.length k (slot p at.kind input) at.there

  module _ (at : IsSlotOf layout false p k) where
    pub got_there : get s p ≡ slice_get vs k
    got_there =
        ap (λ t. get t p) h.variables
        ∙ get_variable layout vs p k (slot p at.kind false) h.length (distinct k (slot p at.kind false) at.there)
        at.there refl

    module _ (v : Datum) where
      still : Sees layout image (variables_with layout (slice_set vs k v)) (slice_set vs k v)
      still = record {
        variables = refl;
        inputs = h.inputs ∙ sym (inputs_at layout vs k v (slot p at.kind false) at.there refl);
        length = h.length ∙ sym (length-set vs k v);
      }

      stored_cases : (b : Bool) → ResultAlike (Sees layout image)
          (if b then Ok (variables_with layout (slice_set vs k v)) else Err ill_typed)
          (if b then Ok (slice_set vs k v) else Err ill_typed)
      stored_cases true = still
      stored_cases false = refl

      over_cases : (o : Option Datum) → slice_get vs k ≡ o
          → ResultAlike (Sees layout image) (assigned (variables_with layout vs) p v) (stored_over o vs k v)
      over_cases None e = absurd (value_there layout vs k (slot p at.kind false) h.length at.there e)
      over_cases (Some old) e =
          let a = assigned_slot layout vs distinct h.length k (slot p at.kind false) old v at.there refl e in
          rw a (stored_cases (may_replace old v))

      pub stored_there : ResultAlike (Sees layout image) (assigned s p v) (stored_at vs k v)
      stored_there =
          subst (λ t. ResultAlike (Sees layout image) (assigned t p v) (stored_at vs k v)) (sym h.variables)
          (over_cases (slice_get vs k) refl)
