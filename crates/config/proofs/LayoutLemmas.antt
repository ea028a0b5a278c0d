-- Variables one after another, and the inputs after them, are a layout if the slots in their order are one.
use Rattle.std.proofs.Common.{◌≡◌, ℕ, zero, suc, refl, sym, ap, ◌∙◌, arith, Bool, true, false}
use Rattle.std.proofs.Common.{if◌then◌else◌, List, [], ◌∷◌, ◌++◌, map, slice_get, Option, Some, None}
use Rattle.std.proofs.Common.{option_map}
use Rattle.st_types.specs.Paths.{Path, same_path}
use Rattle.st_types.specs.Comparisons.{same_path_is, same_path_itself}
use Rattle.st_meaning.specs.Slots.{Slot, slot_of, IsLayout}
use Rattle.st_meaning.specs.Layouts.{layout_of, variable_slot, input_slot}
use Rattle.layout.specs.declared.slots.LayoutSlot.{LayoutSlot}
use Rattle.layout.specs.KeptLayouts.{slot_view, variable_of, input_of, variables_among, inputs_among}
use Rattle.layout.proofs.StoreLemmas.{others_layout}
use Rattle.st_types.proofs.OptionLemmas.{some_is}
use Rattle.layout.proofs.IndexLemmas.{one_less}

-- ---- the slot of a path

-- the slot that is found has the path
pub record Found (ls : List Slot) (p : Path) (k : ℕ) : Type 0 where
  pub slot : Slot
  pub at : slice_get ls k ≡ Some slot
  pub path : p ≡ slot.path

never_zero : (o : Option ℕ) → option_map suc o ≡ Some 0 → ⊥
never_zero None h = absurd (cc)
never_zero (Some n) h = let q : suc n ≡ 0 = some_is h in absurd (omega arith)

pub found : (ls : List Slot) (p : Path) (k : ℕ) → slot_of ls p ≡ Some k → Found ls p k
found [] p k h = absurd (cc)
found (l ∷ ls) p k h = by_test (same_path p l.path) refl k h (found ls p)
  where
    by_test : (b : Bool) → same_path p l.path ≡ b → (k : ℕ)
        → (if b then Some 0 else option_map suc (slot_of ls p)) ≡ Some k
        → ((j : ℕ) → slot_of ls p ≡ Some j → Found ls p j) → Found (l ∷ ls) p k
    by_test true e zero h rest = record { slot = l; at = refl; path = same_path_is p l.path e }
    by_test true e (suc k) h rest = let q : 0 ≡ suc k = some_is h in absurd (omega arith)
    by_test false e zero h rest = absurd (never_zero (slot_of ls p) h)
    by_test false e (suc k) h rest =
        let f = rest k (one_less (slot_of ls p) k h) in record { slot = f.slot; at = f.at; path = f.path }

-- ---- each path occurs once

abbrev pub Apart : List Slot → Type 0
Apart [] = Unit {0}
Apart (l ∷ ls) = (slot_of ls l.path ≡ None) × Apart ls

first_apart : (l : Slot) (ls : List Slot) → IsLayout (l ∷ ls) → slot_of ls l.path ≡ None
first_apart l ls h = by_found (slot_of ls l.path) refl
  where
    by_found : (o : Option ℕ) → slot_of ls l.path ≡ o → o ≡ None
    by_found None e = refl
    by_found (Some k) e =
        let f = found ls l.path k e in
        let a : slot_of (l ∷ ls) f.slot.path ≡ Some (suc k) = h (suc k) f.slot f.at in
        let b : slot_of (l ∷ ls) l.path ≡ Some 0 = h 0 l refl in
        let q : 0 ≡ suc k = some_is (sym b ∙ ap (slot_of (l ∷ ls)) f.path ∙ a) in
        absurd (omega arith)

apart_of : (ls : List Slot) → IsLayout ls → Apart ls
apart_of [] h = tt
apart_of (l ∷ ls) h = (first_apart l ls h, apart_of ls (others_layout l ls h))

-- a path that is not there is different from all of theirs
not_there : (ls : List Slot) (p : Path) (k : ℕ) (m : Slot) → slot_of ls p ≡ None → slice_get ls k ≡ Some m
    → same_path m.path p ≡ false
not_there [] p k m h g = absurd (cc)
not_there (l ∷ ls) p k m h g = by_test (same_path p l.path) refl h k g (λ j n f. not_there ls p j m n f)
  where
    turned : same_path p l.path ≡ false → (b : Bool) → same_path l.path p ≡ b → b ≡ false
    turned e false i = refl
    turned e true i =
        let q : l.path ≡ p = same_path_is l.path p i in
        let r : same_path p l.path ≡ true = ap (λ x. same_path p x) q ∙ same_path_itself p in
        absurd (cc)

    none : (o : Option ℕ) → option_map suc o ≡ None → o ≡ None
    none None i = refl
    none (Some n) i = absurd (cc)

    by_test : (b : Bool) → same_path p l.path ≡ b → (if b then Some 0 else option_map suc (slot_of ls p)) ≡ None
        → (k : ℕ) → slice_get (l ∷ ls) k ≡ Some m
        → ((j : ℕ) → slot_of ls p ≡ None → slice_get ls j ≡ Some m → same_path m.path p ≡ false)
        → same_path m.path p ≡ false
    by_test true e i k g rest = absurd (cc)
    by_test false e i zero g rest =
        let q : l ≡ m = some_is g in
        ap (λ x. same_path x.path p) (sym q) ∙ turned e (same_path l.path p) refl
    by_test false e i (suc k) g rest = rest k (none (slot_of ls p) i) g

layout_apart : (ls : List Slot) → Apart ls → IsLayout ls
layout_apart [] a k m g = absurd (cc)
layout_apart (l ∷ ls) a zero m g =
    let q : l ≡ m = some_is g in
    ap (λ x. slot_of (l ∷ ls) x.path) (sym q)
    ∙ ap (λ b. if b then Some 0 else option_map suc (slot_of ls l.path)) (same_path_itself l.path)
layout_apart (l ∷ ls) a (suc k) m g =
    ap (λ b. if b then Some 0 else option_map suc (slot_of ls m.path)) (not_there ls l.path k m a.0 g)
    ∙ ap (option_map suc) (layout_apart ls a.1 k m g)

-- ---- slots in two parts

by_first : (b : Bool) (o : Option ℕ) → (if b then Some 0 else option_map suc o) ≡ None → (b ≡ false) × (o ≡ None)
by_first true o h = absurd (cc)
by_first false None h = (refl, refl)
by_first false (Some n) h = absurd (cc)

both_none : (xs ys : List Slot) (p : Path) → slot_of xs p ≡ None → slot_of ys p ≡ None → slot_of (xs ++ ys) p ≡ None
both_none [] ys p h k = k
both_none (x ∷ xs) ys p h k =
    let n = by_first (same_path p x.path) (slot_of xs p) h in
    ap (λ b. if b then Some 0 else option_map suc (slot_of (xs ++ ys) p)) n.0
    ∙ ap (option_map suc) (both_none xs ys p n.1 k)

left_none : (xs ys : List Slot) (p : Path) → slot_of (xs ++ ys) p ≡ None → slot_of xs p ≡ None
left_none [] ys p h = refl
left_none (x ∷ xs) ys p h =
    let n = by_first (same_path p x.path) (slot_of (xs ++ ys) p) h in
    ap (λ b. if b then Some 0 else option_map suc (slot_of xs p)) n.0 ∙ ap (option_map suc) (left_none xs ys p n.1)

right_none : (xs ys : List Slot) (p : Path) → slot_of (xs ++ ys) p ≡ None → slot_of ys p ≡ None
right_none [] ys p h = h
right_none (x ∷ xs) ys p h =
    right_none xs ys p (by_first (same_path p x.path) (slot_of (xs ++ ys) p) h).1

swapped : (x l : Slot) (b : Bool) → same_path l.path x.path ≡ false → same_path x.path l.path ≡ b → b ≡ false
swapped x l false h e = refl
swapped x l true h e =
    let q : x.path ≡ l.path = same_path_is x.path l.path e in
    let r : same_path l.path x.path ≡ true = ap (λ y. same_path l.path y) q ∙ same_path_itself l.path in
    absurd (cc)

-- one more between them
between : (xs ys : List Slot) (l : Slot) → Apart (xs ++ ys) → slot_of (xs ++ ys) l.path ≡ None → Apart (xs ++ l ∷ ys)
between [] ys l a h = (h, a)
between (x ∷ xs) ys l a h =
    let n = by_first (same_path l.path x.path) (slot_of (xs ++ ys) l.path) h in
    let apart : same_path x.path l.path ≡ false = swapped x l (same_path x.path l.path) n.0 refl in
    let more : slot_of (l ∷ ys) x.path ≡ None =
    ap (λ b. if b then Some 0 else option_map suc (slot_of ys x.path)) apart
    ∙ ap (option_map suc) (right_none xs ys x.path a.0) in
    (both_none xs (l ∷ ys) x.path (left_none xs ys x.path a.0) more, between xs ys l a.1 n.1)

-- ---- variables, and inputs after them

abbrev in_parts : List LayoutSlot → List Slot
in_parts ss = layout_of (variables_among ss) (inputs_among ss)

part_none : (ss : List LayoutSlot) (p : Path) → slot_of (map slot_view ss) p ≡ None → slot_of (in_parts ss) p ≡ None
part_none [] p h = refl
part_none (s ∷ ss) p h =
    let n = by_first (same_path p s.path) (slot_of (map slot_view ss) p) h in
    by_sort s.is_input refl n.0 (part_none ss p n.1)
  where
    by_sort : (b : Bool) → s.is_input ≡ b → same_path p s.path ≡ false → slot_of (in_parts ss) p ≡ None
        → slot_of (in_parts (s ∷ ss)) p ≡ None
    by_sort false e n rest =
        rw e (ap (λ b. if b then Some 0 else option_map suc (slot_of (in_parts ss) p)) n ∙ ap (option_map suc) rest)
    by_sort true e n rest =
        let vs = map variable_slot (variables_among ss) in
        let is = map input_slot (inputs_among ss) in
        let here : slot_of (input_slot (input_of s) ∷ is) p ≡ None =
        ap (λ b. if b then Some 0 else option_map suc (slot_of is p)) n
        ∙ ap (option_map suc) (right_none vs is p rest) in
        rw e (both_none vs (input_slot (input_of s) ∷ is) p (left_none vs is p rest) here)

parts_apart : (ss : List LayoutSlot) → Apart (map slot_view ss) → Apart (in_parts ss)
parts_apart [] a = tt
parts_apart (s ∷ ss) a = by_sort s.is_input refl (part_none ss s.path a.0) (parts_apart ss a.1)
  where
    by_sort : (b : Bool) → s.is_input ≡ b → slot_of (in_parts ss) s.path ≡ None → Apart (in_parts ss)
        → Apart (in_parts (s ∷ ss))
    by_sort false e none rest = rw e (none, rest)
    by_sort true e none rest =
        rw e (between (map variable_slot (variables_among ss)) (map input_slot (inputs_among ss)) (input_slot (input_of s))
        rest none)

pub parts_are_layout : (ss : List LayoutSlot) → IsLayout (map slot_view ss)
    → IsLayout (layout_of (variables_among ss) (inputs_among ss))
parts_are_layout ss h = layout_apart (in_parts ss) (parts_apart ss (apart_of (map slot_view ss) h))

-- ---- each slot is in one of the parts

pub record InParts (ss : List LayoutSlot) (l : Slot) : Type 0 where
  pub number : ℕ
  pub at : slice_get (layout_of (variables_among ss) (inputs_among ss)) number ≡ Some l

behind : (xs ys : List Slot) (l m : Slot) (n : ℕ) → slice_get (xs ++ ys) n ≡ Some l
    → (k : ℕ) × (slice_get (xs ++ m ∷ ys) k ≡ Some l)
behind [] ys l m n h = (suc n, h)
behind (x ∷ xs) ys l m zero h = (0, h)
behind (x ∷ xs) ys l m (suc n) h = let r = behind xs ys l m n h in (suc r.0, r.1)

first_of : (xs ys : List Slot) (l : Slot) → (k : ℕ) × (slice_get (xs ++ l ∷ ys) k ≡ Some l)
first_of [] ys l = (0, refl)
first_of (x ∷ xs) ys l = let r = first_of xs ys l in (suc r.0, r.1)

pub in_one_part : (ss : List LayoutSlot) (k : ℕ) (l : Slot) → slice_get (map slot_view ss) k ≡ Some l → InParts ss l
in_one_part [] k l h = absurd (cc)
in_one_part (s ∷ ss) zero l h = by_sort s.is_input refl
  where
    is : slot_view s ≡ l
    is = some_is h

    vs : List Slot
    vs = map variable_slot (variables_among ss)

    xs : List Slot
    xs = map input_slot (inputs_among ss)

    by_sort : (b : Bool) → s.is_input ≡ b → InParts (s ∷ ss) l
    by_sort false e =
        let v : variable_slot (variable_of s) ≡ l =
        ap (λ b. record { path = s.path; kind = s.initial.kind; is_input = b }) (sym e) ∙ is in
        record { number = 0; at = rw e (ap Some v) }
    by_sort true e =
        let v : input_slot (input_of s) ≡ l =
        ap (λ b. record { path = s.path; kind = s.initial.kind; is_input = b }) (sym e) ∙ is in
        let r = first_of vs xs (input_slot (input_of s)) in
        record { number = r.0; at = rw e (r.1 ∙ ap Some v) }
in_one_part (s ∷ ss) (suc k) l h = by_sort s.is_input refl (in_one_part ss k l h)
  where
    by_sort : (b : Bool) → s.is_input ≡ b → InParts ss l → InParts (s ∷ ss) l
    by_sort false e r = record { number = suc r.number; at = rw e r.at }
    by_sort true e r =
        let n = behind (map variable_slot (variables_among ss)) (map input_slot (inputs_among ss)) l
        (input_slot (input_of s)) r.number r.at in
        record { number = n.0; at = rw e n.1 }
