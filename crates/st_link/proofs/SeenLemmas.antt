-- Look-ups over the values of a layout's slots.
use Rattle.std.proofs.Common.{◌≡◌, ℕ, zero, suc, Bool, true, false, ◌||◌, if◌then◌else◌, List, [], ◌∷◌, length}
use Rattle.std.proofs.Common.{slice_get, Some, None, option_map, refl, sym, ap, ◌∙◌, arith}
use Rattle.std.specs.List.{list_all}
use Rattle.st_types.specs.declared.kind.Kind.{Kind}
use Rattle.st_types.specs.Kinds.{holds}
use Rattle.st_types.specs.Values.{Datum}
use Rattle.st_types.specs.Paths.{Path, is_within}
use Rattle.st_meaning.specs.Stores.{get, has_part}
use Rattle.st_meaning.specs.Scopes.{or_datum}
use Rattle.st_meaning.specs.Slots.{Slot, slot_of, IsLayout, variables_with, inputs_in}
use Rattle.st_meaning.proofs.SlotLemmas.{input_has, none_where, seen_slot}
use Rattle.st_link.specs.Soundness.{IsOf}
use Rattle.layout.specs.VariableSlots.{has_slot_within}
use Rattle.st_types.proofs.ListLemmas.{length_map}
use Rattle.st_link.specs.Homes.{AreValuesOf}
use Rattle.st_types.proofs.OptionLemmas.{some_is, map_some}
use Rattle.std.proofs.lemmas.Bool.{and_parts}
use Rattle.std.proofs.lemmas.Option.{slice_get-map}

-- a value of each slot's type, in the type's range
pub record IsValueAt (vs : List Datum) (k : ℕ) (kind : Kind) : Type 0 where
  pub datum : Datum
  pub is : slice_get vs k ≡ Some datum
  pub is_of : IsOf kind datum

value_there : (vs : List Datum) (k : ℕ) (v : Datum) → list_all (λ v. holds v.kind v.number) vs ≡ true
    → slice_get vs k ≡ Some v → holds v.kind v.number ≡ true
value_there [] k v h g = absurd (cc)
value_there (w ∷ vs) zero v h g =
    let b = and_parts (holds w.kind w.number) (list_all (λ v. holds v.kind v.number) vs) h in
    let q : w ≡ v = some_is g in ap (λ u. holds u.kind u.number) (sym q) ∙ b.0
value_there (w ∷ vs) (suc k) v h g =
    value_there vs k v (and_parts (holds w.kind w.number) (list_all (λ v. holds v.kind v.number) vs) h).1 g

pub value_at : (layout : List Slot) (vs : List Datum) → AreValuesOf layout vs → (k : ℕ) (l : Slot)
    → slice_get layout k ≡ Some l → IsValueAt vs k l.kind
value_at layout vs h k l at =
    let a : option_map (λ v. v.kind) (slice_get vs k) ≡ Some l.kind =
    sym (slice_get-map (λ v. v.kind) vs k) ∙ ap (λ ks. slice_get ks k) h.types ∙ slice_get-map (λ l. l.kind) layout k
    ∙ ap (option_map (λ l. l.kind)) at in
    let i = map_some (λ v. v.kind) (slice_get vs k) l.kind a in
    record {
      datum = i.0;
      is = i.1;
      is_of = record { kind = i.2; held = value_there vs k i.0 h.held i.1 };
    }

pub same_length : (layout : List Slot) (vs : List Datum) → AreValuesOf layout vs → length layout ≡ length vs
same_length layout vs h =
    sym (length_map (λ l. l.kind) layout) ∙ sym (ap length h.types) ∙ length_map (λ v. v.kind) vs

-- a variable is among the variables
pub variable_there : (layout : List Slot) (vs : List Datum) → IsLayout layout → length layout ≡ length vs → (k : ℕ)
    (l : Slot) → slice_get layout k ≡ Some l → l.is_input ≡ false
    → get (variables_with layout vs) l.path ≡ slice_get vs k
variable_there layout vs distinct len k l at e =
    let n : get (inputs_in layout vs) l.path ≡ None = none_where (inputs_in layout vs) l.path (λ w h.
    let i = input_has layout vs l.path w h in
    let a : slot_of layout l.path ≡ Some k = distinct k l at in
    let b : slot_of layout i.slot.path ≡ Some i.number = distinct i.number i.slot i.at in
    let c : slot_of layout l.path ≡ Some i.number = ap (slot_of layout) i.path ∙ b in
    let m : k ≡ i.number = some_is (sym a ∙ c) in
    let f : slice_get layout k ≡ Some i.slot = ap (slice_get layout) m ∙ i.at in
    let g : l ≡ i.slot = some_is (sym at ∙ f) in
    let j : l.is_input ≡ true = ap (λ x. x.is_input) g ∙ i.sort in
    absurd (cc)) in
    sym (ap (λ o. or_datum o (get (variables_with layout vs) l.path)) n) ∙ seen_slot layout vs distinct len k l at

-- some variable or input is within a path exactly when some slot is
pub or_between : (a b c : Bool) → (a || (b || c)) ≡ (b || (a || c))
or_between true true c = refl
or_between true false c = refl
or_between false b c = refl

or_first : (a b c : Bool) → (a || b) ≡ c → (d : Bool) → ((d || a) || b) ≡ (d || c)
or_first a b c h true = refl
or_first a b c h false = h

or_second : (a b c : Bool) → (a || b) ≡ c → (d : Bool) → (a || (d || b)) ≡ (d || c)
or_second a b c h d = or_between a d b ∙ ap (λ x. d || x) h

pub parts_by_slots : (layout : List Slot) (vs : List Datum) → length layout ≡ length vs → (p : Path)
    → (has_part (inputs_in layout vs) p || has_part (variables_with layout vs) p) ≡ has_slot_within layout p
parts_by_slots [] vs len p = refl
parts_by_slots (l ∷ ls) [] len p = absurd (omega arith)
parts_by_slots (l ∷ ls) (v ∷ vs) len p =
    by_sort l.is_input (parts_by_slots ls vs (omega arith) p)
  where
    by_sort : (input : Bool)
        → (has_part (inputs_in ls vs) p || has_part (variables_with ls vs) p) ≡ has_slot_within ls p
        → (has_part (if input then (l.path, v) ∷ inputs_in ls vs else inputs_in ls vs) p
        || has_part (if input then variables_with ls vs else (l.path, v) ∷ variables_with ls vs) p)
        ≡ (is_within p l.path || has_slot_within ls p)
    by_sort true h = or_first (has_part (inputs_in ls vs) p) (has_part (variables_with ls vs) p)
        (has_slot_within ls p) h (is_within p l.path)
    by_sort false h = or_second (has_part (inputs_in ls vs) p) (has_part (variables_with ls vs) p)
        (has_slot_within ls p) h (is_within p l.path)
