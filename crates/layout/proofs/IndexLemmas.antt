-- Slots by their paths.
use Rattle.std.proofs.Common.{◌≡◌, refl, sym, ap, ◌∙◌, subst, arith, ℕ, zero, suc, List, [], ◌∷◌, ◌++◌, map, length, Bool}
use Rattle.std.proofs.Common.{true, false, Option, Some, None, append_assoc, if◌then◌else◌, drop}
use Rattle.std.proofs.lemmas.List.{append-nil}
use Rattle.std.proofs.Math.Numerals.{suc-eq-add-one}
use Rattle.std.specs.Prelude.{◌+◌, slice_get, option_map, position}
use Rattle.std.specs.Map.{keys_of, values_of}
use Rattle.indexmap.specs.IndexMap.{insert_entry, insert_all}
use Rattle.st_types.specs.Paths.{Path, same_path}
use Rattle.st_meaning.specs.Slots.{Slot, IsLayout, slot_of}
use Rattle.layout.specs.Indexed.{entry_of, facts_of, slot_number, slot_of_entry}
use Rattle.layout.specs.KeptLayouts.{slot_view, variable_of, input_of, variables_among, inputs_among}
use Rattle.layout.proofs.Positions.{position_step}
use Rattle.layout.specs.declared.slots.LayoutSlot.{LayoutSlot}
use Rattle.layout.specs.declared.slots.SlotFacts.{SlotFacts}

at_end : (done : List LayoutSlot) (x : LayoutSlot) (rest : List LayoutSlot)
    → slice_get (map slot_view (done ++ x ∷ rest)) (length done) ≡ Some (slot_view x)
at_end [] x rest = refl
at_end (d ∷ ds) x rest = at_end ds x rest

-- one number more
pub one_less : (o : Option ℕ) (n : ℕ) → option_map suc o ≡ Some (suc n) → o ≡ Some n
one_less None n h = absurd (cc)
one_less (Some m) n h = let e : m ≡ n = cc in ap Some e

-- a path that comes first after these slots is appended to them
goes_last : (done : List LayoutSlot) (x : LayoutSlot) (rest : List LayoutSlot)
    → slot_of (map slot_view (done ++ x ∷ rest)) x.path ≡ Some (length done)
    → insert_entry same_path (map entry_of done) x.path (facts_of x) ≡ map entry_of (done ++ x ∷ [])
goes_last [] x rest h = refl
goes_last (d ∷ ds) x rest h = by_test (same_path x.path d.path) refl (goes_last ds x rest)
  where
    by_test : (b : Bool) → same_path x.path d.path ≡ b
        → (slot_of (map slot_view (ds ++ x ∷ rest)) x.path ≡ Some (length ds)
        → insert_entry same_path (map entry_of ds) x.path (facts_of x) ≡ map entry_of (ds ++ x ∷ []))
        → insert_entry same_path (entry_of d ∷ map entry_of ds) x.path (facts_of x)
        ≡ entry_of d ∷ map entry_of (ds ++ x ∷ [])
    by_test true e inside = absurd (cc)
    by_test false e inside =
        let later : option_map suc (slot_of (map slot_view (ds ++ x ∷ rest)) x.path) ≡ Some (suc (length ds)) = cc in
        let more = inside (one_less (slot_of (map slot_view (ds ++ x ∷ rest)) x.path) (length ds) later) in
        cc

-- slots of different paths are all there, in their order
all_behind : (done rest : List LayoutSlot) → IsLayout (map slot_view (done ++ rest))
    → insert_all same_path (map entry_of done) (map entry_of rest) ≡ map entry_of (done ++ rest)
all_behind done [] h = ap (map entry_of) (sym (append-nil done))
all_behind done (x ∷ rest) h =
    let more : (done ++ x ∷ []) ++ rest ≡ done ++ x ∷ rest = append_assoc done (x ∷ []) rest in
    ap (λ es. insert_all same_path es (map entry_of rest))
    (goes_last done x rest (h (length done) (slot_view x) (at_end done x rest)))
    ∙ all_behind (done ++ x ∷ []) rest (subst (λ ss. IsLayout (map slot_view ss)) (sym more) h)
    ∙ ap (map entry_of) more

back : (ss : List LayoutSlot) → map slot_of_entry (map entry_of ss) ≡ ss
back [] = refl
back (s ∷ ss) = ap (λ zs. s ∷ zs) (back ss)

pub slots_are_indexed : (ss : List LayoutSlot) → IsLayout (map slot_view ss)
    → map slot_of_entry (insert_all same_path [] (map entry_of ss)) ≡ ss
slots_are_indexed ss h = ap (map slot_of_entry) (all_behind [] ss h) ∙ back ss

-- one slot more
from_number : (es : List (Path × SlotFacts)) (n : ℕ) (e : Path × SlotFacts) → slice_get es n ≡ Some e
    → drop n (map slot_of_entry es) ≡ slot_of_entry e ∷ drop (suc n) (map slot_of_entry es)
from_number [] n e h = absurd (cc)
from_number (x ∷ es) zero e h = let same : x ≡ e = cc in ap (λ y. slot_of_entry y ∷ map slot_of_entry es) same
from_number (x ∷ es) (suc n) e h = from_number es n e h

variables_then : (s : LayoutSlot) (ss : List LayoutSlot)
    → variables_among (s ∷ ss) ≡ variables_among (s ∷ []) ++ variables_among ss
variables_then s ss = by_test s.is_input refl
  where
    by_test : (b : Bool) → s.is_input ≡ b
        → variables_among (s ∷ ss) ≡ variables_among (s ∷ []) ++ variables_among ss
    by_test true e = cc
    by_test false e = cc

inputs_then : (s : LayoutSlot) (ss : List LayoutSlot)
    → inputs_among (s ∷ ss) ≡ inputs_among (s ∷ []) ++ inputs_among ss
inputs_then s ss = by_test s.is_input refl
  where
    by_test : (b : Bool) → s.is_input ≡ b → inputs_among (s ∷ ss) ≡ inputs_among (s ∷ []) ++ inputs_among ss
    by_test true e = cc
    by_test false e = cc

pub variables_from : (es : List (Path × SlotFacts)) (n : ℕ) (e : Path × SlotFacts) → slice_get es n ≡ Some e
    → variables_among (drop n (map slot_of_entry es))
    ≡ variables_among (slot_of_entry e ∷ []) ++ variables_among (drop (n + 1) (map slot_of_entry es))
variables_from es n e at =
    ap variables_among (from_number es n e at)
    ∙ variables_then (slot_of_entry e) (drop (suc n) (map slot_of_entry es))
    ∙ ap (λ k. variables_among (slot_of_entry e ∷ []) ++ variables_among (drop k (map slot_of_entry es)))
    (suc-eq-add-one n)

pub inputs_from : (es : List (Path × SlotFacts)) (n : ℕ) (e : Path × SlotFacts) → slice_get es n ≡ Some e
    → inputs_among (drop n (map slot_of_entry es))
    ≡ inputs_among (slot_of_entry e ∷ []) ++ inputs_among (drop (n + 1) (map slot_of_entry es))
inputs_from es n e at =
    ap inputs_among (from_number es n e at)
    ∙ inputs_then (slot_of_entry e) (drop (suc n) (map slot_of_entry es))
    ∙ ap (λ k. inputs_among (slot_of_entry e ∷ []) ++ inputs_among (drop k (map slot_of_entry es)))
    (suc-eq-add-one n)

-- the number of a path
pub number_found : (p : Path) (es : List (Path × SlotFacts))
    → position (same_path p) (keys_of es) ≡ slot_number (map slot_of_entry es) p
number_found p [] = refl
number_found p (e ∷ es) =
    position_step (same_path p) e.0 (keys_of es)
    ∙ ap (λ o. if same_path p e.0 then Some 0 else option_map suc o) (number_found p es)

-- the facts of the slots
pub facts_are : (es : List (Path × SlotFacts)) → values_of es ≡ map facts_of (map slot_of_entry es)
facts_are [] = refl
facts_are (e ∷ es) = ap (λ xs. e.1 ∷ xs) (facts_are es)
