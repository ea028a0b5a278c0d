-- Paths have the same places in a layout and in a plan.
use Rattle.std.proofs.Common.{◌≡◌, ◌<◌, ◌+◌, ℕ, zero, suc, refl, sym, ap, ap₂, ◌∙◌, subst, arith, Bool, true, false}
use Rattle.std.proofs.Common.{if◌then◌else◌, List, [], ◌∷◌, ◌++◌, map, length, Option, Some, None}
use Rattle.std.proofs.lemmas.List.{length-map}
use Rattle.std.specs.Prelude.{option_and_then, option_map, position, slice_get}
use Rattle.st_types.specs.Comparisons.{same_path_is}
use Rattle.st_types.specs.Paths.{Path, same_path}
use Rattle.st_meaning.specs.Slots.{Slot, IsLayout, slot_of}
use Rattle.st_meaning.specs.declared.plan.PlanInput.{PlanInput}
use Rattle.st_meaning.specs.declared.plan.PlanVariable.{PlanVariable}
use Rattle.st_meaning.specs.Layouts.{Enumerations, input_slot, layout_of, variable_slot}
use Rattle.layout.specs.Indexed.{LayoutView, slot_number}
use Rattle.layout.specs.KeptLayouts.{input_of, inputs_among, variable_of, variables_among}
use Rattle.layout.specs.declared.slots.LayoutSlot.{LayoutSlot}
use Rattle.layout.proofs.Positions.{position_step}
use Rattle.plan.specs.LaidOut.{IsLaidOut}
use Rattle.plan.specs.NumberedSlots.{numbered_from}
use Rattle.plan.specs.SlotPlaces.{place_among, place_of}
use Rattle.plan.specs.declared.slots.SlotPlace.{SlotPlace}
use Rattle.plan.specs.declared.slots.SlotPlace.TheVariants.{Input, Variable}

-- a path is not both among the inputs and among the variables
abbrev IsApart : Option ℕ → Option ℕ → Type 0
IsApart i v = (k j : ℕ) → i ≡ Some k → v ≡ Some j → ⊥

abbrev among_inputs : Path → List PlanInput → Option ℕ
among_inputs p xs = position (λ i. same_path p i.path) xs

abbrev among_variables : Path → List PlanVariable → Option ℕ
among_variables p xs = position (λ v. same_path p v.path) xs

-- the first slot of a path, if the numbers begin at these
abbrev first_place : ℕ → ℕ → List LayoutSlot → Path → Option SlotPlace
first_place v i [] p = None
first_place v i (s ∷ ss) p = if same_path p s.path
    then (if s.is_input then Some (Input i) else Some (Variable v))
    else (if s.is_input then first_place v (suc i) ss p else first_place (suc v) i ss p)

abbrev pub at_number : List SlotPlace → Option ℕ → Option SlotPlace
at_number ps o = option_and_then (slice_get ps) o

-- it is found by the path's number
one_place : (t : Bool) (x : SlotPlace) (xs : List SlotPlace) (o : Option ℕ) (rest : Option SlotPlace)
    → at_number xs o ≡ rest → at_number (x ∷ xs) (if t then Some 0 else option_map suc o) ≡ (if t then Some x else rest)
one_place true x xs o rest h = refl
one_place false x xs None rest h = h
one_place false x xs (Some n) rest h = h

place_at : (ss : List LayoutSlot) (v i : ℕ) (p : Path)
    → at_number (numbered_from v i ss) (slot_number ss p) ≡ first_place v i ss p
place_at [] v i p = refl
place_at (s ∷ ss) v i p = by_test s.is_input refl (place_at ss v (suc i) p) (place_at ss (suc v) i p)
  where
    by_test : (b : Bool) → s.is_input ≡ b
        → at_number (numbered_from v (suc i) ss) (slot_number ss p) ≡ first_place v (suc i) ss p
        → at_number (numbered_from (suc v) i ss) (slot_number ss p) ≡ first_place (suc v) i ss p
        → at_number (numbered_from v i (s ∷ ss)) (slot_number (s ∷ ss) p) ≡ first_place v i (s ∷ ss) p
    by_test true e one other = rw e (one_place (same_path p s.path) (Input i) (numbered_from v (suc i) ss)
        (slot_number ss p) (first_place v (suc i) ss p) one)
    by_test false e one other = rw e (one_place (same_path p s.path) (Variable v) (numbered_from (suc v) i ss)
        (slot_number ss p) (first_place (suc v) i ss p) other)

-- it is the place among the inputs, or else among the variables, counted on from these numbers
abbrev IsPlace : ℕ → ℕ → Option SlotPlace → Option ℕ → Option ℕ → Type 0
IsPlace v i place x y =
    IsApart x y → place ≡ place_among (option_map (λ n. i + n) x) (option_map (λ n. v + n) y)

one_more : (i : ℕ) (o : Option ℕ) → option_map (λ n. suc i + n) o ≡ option_map (λ n. i + n) (option_map suc o)
one_more i None = refl
one_more i (Some n) = let e : suc i + n ≡ i + suc n = omega arith in ap Some e

on_input : (t : Bool) (v i : ℕ) (x y : Option ℕ) (rest : Option SlotPlace) → IsPlace v (suc i) rest x y
    → IsPlace v i (if t then Some (Input i) else rest) (if t then Some 0 else option_map suc x) y
on_input true v i x y rest h a = let e : i ≡ i + 0 = omega arith in ap (λ n. Some (Input n)) e
on_input false v i x y rest h a =
    h (λ k j e f. a (suc k) j (ap (option_map suc) e) f)
    ∙ ap (λ o. place_among o (option_map (λ n. v + n) y)) (one_more i x)

on_variable : (t : Bool) (v i : ℕ) (x y : Option ℕ) (rest : Option SlotPlace) → IsPlace (suc v) i rest x y
    → IsPlace v i (if t then Some (Variable v) else rest) x (if t then Some 0 else option_map suc y)
on_variable true v i None y rest h a = let e : v ≡ v + 0 = omega arith in ap (λ n. Some (Variable n)) e
on_variable true v i (Some k) y rest h a = absurd (a k 0 refl refl)
on_variable false v i x y rest h a =
    h (λ k j e f. a k (suc j) e (ap (option_map suc) f))
    ∙ ap (λ o. place_among (option_map (λ n. i + n) x) o) (one_more v y)

places : (ss : List LayoutSlot) (v i : ℕ) (p : Path)
    → IsPlace v i (first_place v i ss p) (among_inputs p (inputs_among ss)) (among_variables p (variables_among ss))
places [] v i p = λ a. refl
places (s ∷ ss) v i p = by_test s.is_input refl (places ss v (suc i) p) (places ss (suc v) i p)
  where
    by_test : (b : Bool) → s.is_input ≡ b
        → IsPlace v (suc i) (first_place v (suc i) ss p) (among_inputs p (inputs_among ss))
        (among_variables p (variables_among ss))
        → IsPlace (suc v) i (first_place (suc v) i ss p) (among_inputs p (inputs_among ss))
        (among_variables p (variables_among ss))
        → IsPlace v i (first_place v i (s ∷ ss) p) (among_inputs p (inputs_among (s ∷ ss)))
        (among_variables p (variables_among (s ∷ ss)))
    by_test true e one other = rw e (subst (λ o. IsPlace v i
        (if same_path p s.path then Some (Input i) else first_place v (suc i) ss p) o
        (among_variables p (variables_among ss)))
        (sym (position_step (λ x. same_path p x.path) (input_of s) (inputs_among ss)))
        (on_input (same_path p s.path) v i (among_inputs p (inputs_among ss)) (among_variables p (variables_among ss))
        (first_place v (suc i) ss p) one))
    by_test false e one other = rw e (subst (λ o. IsPlace v i
        (if same_path p s.path then Some (Variable v) else first_place (suc v) i ss p)
        (among_inputs p (inputs_among ss)) o)
        (sym (position_step (λ x. same_path p x.path) (variable_of s) (variables_among ss)))
        (on_variable (same_path p s.path) v i (among_inputs p (inputs_among ss)) (among_variables p (variables_among ss))
        (first_place (suc v) i ss p) other))

-- no path of the inputs is one of the variables, if each path has one slot
numbered_variable : (vs : List PlanVariable) (rest : List Slot) (p : Path) (j : ℕ) → among_variables p vs ≡ Some j
    → (slot_of (map variable_slot vs ++ rest) p ≡ Some j) × (j < length vs)
numbered_variable [] rest p j h = absurd (cc)
numbered_variable (v ∷ vs) rest p j h =
    by_test (same_path p v.path) (among_variables p vs) refl
    (sym (position_step (λ x. same_path p x.path) v vs) ∙ h) (numbered_variable vs rest p) j
  where
    by_test : (t : Bool) (o : Option ℕ) → among_variables p vs ≡ o
        → (if t then Some 0 else option_map suc o) ≡ Some j
        → ((k : ℕ) → among_variables p vs ≡ Some k → (slot_of (map variable_slot vs ++ rest) p ≡ Some k) × (k < length vs))
        → (n : ℕ)
        → ((if t then Some 0 else option_map suc (slot_of (map variable_slot vs ++ rest) p)) ≡ Some j) × (j < suc (length vs))
    by_test true o is e more n = (e, let z : 0 ≡ j = cc in omega arith)
    by_test false None is e more n = absurd (cc)
    by_test false (Some k) is e more n =
        let m = more k is in
        let z : suc k ≡ j = cc in
        (ap (option_map suc) m.0 ∙ e, let l : k < length vs = m.1 in omega arith)

input_there : (is : List PlanInput) (p : Path) (k : ℕ) → among_inputs p is ≡ Some k
    → (l : Slot) × (slice_get (map input_slot is) k ≡ Some l) × (p ≡ l.path)
input_there [] p k h = absurd (cc)
input_there (i ∷ is) p k h =
    by_test (same_path p i.path) refl (among_inputs p is) refl (sym (position_step (λ x. same_path p x.path) i is) ∙ h)
    (input_there is p)
  where
    by_test : (t : Bool) → same_path p i.path ≡ t → (o : Option ℕ) → among_inputs p is ≡ o
        → (if t then Some 0 else option_map suc o) ≡ Some k
        → ((n : ℕ) → among_inputs p is ≡ Some n → (l : Slot) × (slice_get (map input_slot is) n ≡ Some l) × (p ≡ l.path))
        → (l : Slot) × (slice_get (map input_slot (i ∷ is)) k ≡ Some l) × (p ≡ l.path)
    by_test true same o is_o e more =
        let z : 0 ≡ k = cc in
        (input_slot i, ap (slice_get (map input_slot (i ∷ is))) (sym z), same_path_is p i.path same)
    by_test false same None is_o e more = absurd (cc)
    by_test false same (Some n) is_o e more =
        let z : suc n ≡ k = cc in
        let (l, at, p_is) = more n is_o in
        (l, ap (slice_get (map input_slot (i ∷ is))) (sym z) ∙ at, p_is)

behind : (xs ys : List Slot) (k : ℕ) → slice_get (xs ++ ys) (length xs + k) ≡ slice_get ys k
behind [] ys k = let e : 0 + k ≡ k = omega arith in ap (slice_get ys) e
behind (x ∷ xs) ys k =
    let e : suc (length xs) + k ≡ suc (length xs + k) = omega arith in
    ap (slice_get (x ∷ xs ++ ys)) e ∙ behind xs ys k

apart : (vs : List PlanVariable) (is : List PlanInput) (p : Path) → IsLayout (layout_of vs is)
    → IsApart (among_inputs p is) (among_variables p vs)
apart vs is p once k j there found =
    let (l, at, p_is) = input_there is p k there in
    let n = length (map variable_slot vs) + k in
    let number : slot_of (layout_of vs is) l.path ≡ Some n =
    once n l (behind (map variable_slot vs) (map input_slot is) k ∙ at) in
    let v = numbered_variable vs (map input_slot is) p j found in
    let same : Some j ≡ Some n = sym v.0 ∙ ap (slot_of (layout_of vs is)) p_is ∙ number in
    let is_n : j ≡ n = cc in
    let long : length (map variable_slot vs) ≡ length vs = length-map vs variable_slot in
    let below : j < length vs = v.1 in
    absurd (omega arith)

none_more : (o : Option ℕ) → option_map (λ n. 0 + n) o ≡ o
none_more None = refl
none_more (Some n) = let e : 0 + n ≡ n = omega arith in ap Some e

-- the place in the slot of a path
place_is : (ss : List LayoutSlot) (p : Path) → IsLayout (layout_of (variables_among ss) (inputs_among ss))
    → at_number (numbered_from 0 0 ss) (slot_number ss p) ≡ place_of (variables_among ss) (inputs_among ss) p
place_is ss p once =
    place_at ss 0 0 p
    ∙ places ss 0 0 p (apart (variables_among ss) (inputs_among ss) p once)
    ∙ ap₂ place_among (none_more (among_inputs p (inputs_among ss))) (none_more (among_variables p (variables_among ss)))

pub laid_place : (types : Enumerations) (vs : List PlanVariable) (is : List PlanInput) (ps : List SlotPlace)
    (layout : LayoutView) → IsLaidOut types vs is ps layout → IsLayout (layout_of vs is) → (p : Path) (o : Option ℕ)
    → o ≡ slot_number layout.slots p → at_number ps o ≡ place_of vs is p
laid_place types vs is ps layout laid once p o e =
    let apart = subst IsLayout (ap₂ layout_of laid.variables_are laid.inputs_are) once in
    ap₂ at_number laid.places_are e ∙ place_is layout.slots p apart
    ∙ sym (ap₂ (λ xs ys. place_of xs ys p) laid.variables_are laid.inputs_are)
