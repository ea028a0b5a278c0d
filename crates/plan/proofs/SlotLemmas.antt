-- The contents of a plan's slots.
use Rattle.std.proofs.Common.{◌≡◌, ◌<◌, ◌≤◌, ◌+◌, ℕ, zero, suc, refl, sym, ap, ap₂, ◌∙◌, subst, arith, true}
use Rattle.std.proofs.Common.{List, [], ◌∷◌, ◌++◌, map, length, Option, Some, None}
use Rattle.std.proofs.Common.{drop, slice_index_or, append_assoc}
use Rattle.std.proofs.Math.Seq.{drop-cons}
use Rattle.std.proofs.Math.Numerals.{suc-eq-add-one}
use Rattle.std.proofs.Common.{◌-◌}
use Rattle.std.proofs.lemmas.List.{length-set}
use Rattle.std.specs.Prelude.{◌==◌, slice_get, slice_set}
use Rattle.std.proofs.lemmas.Bool.{and_parts}
use Rattle.st_types.specs.Values.{Datum}
use Rattle.st_meaning.specs.Slots.{Slot, Cell, variables_with, inputs_in, after_writes, AreOfTypes}
use Rattle.st_meaning.specs.declared.plan.PlanInput.{PlanInput}
use Rattle.st_meaning.specs.declared.plan.PlanVariable.{PlanVariable}
use Rattle.st_meaning.specs.Layouts.{layout_of, variable_slot, input_slot}
use Rattle.st_meaning.specs.Plans.{image_of}
use Rattle.plan.specs.declared.slots.SlotPlace.{SlotPlace}
use Rattle.plan.specs.declared.slots.SlotPlace.TheVariants.{Input, Variable}
use Rattle.plan.specs.SlotPlaces.{are_numbered, merged, slots_among, value_at_place, put_in, written_variables}
use Rattle.st_types.proofs.ListLemmas.{map_map}

-- variables and inputs are numbered in their order
abbrev pub AreNumbered : ℕ → ℕ → List SlotPlace → ℕ → ℕ → Type 0
AreNumbered v i [] n m = (v ≡ n) × (i ≡ m)
AreNumbered v i (Variable k ∷ ps) n m = (k ≡ v) × AreNumbered (suc v) i ps n m
AreNumbered v i (Input k ∷ ps) n m = (k ≡ i) × AreNumbered v (suc i) ps n m

pub numbered : (ps : List SlotPlace) (v i n m : ℕ) → are_numbered v i ps n m ≡ true → AreNumbered v i ps n m
numbered [] v i n m h =
    let b = and_parts (v == n) (i == m) h in
    let x : (v == n) ≡ true = b.0 in let y : (i == m) ≡ true = b.1 in (grind arith, grind arith)
numbered (Variable k ∷ ps) v i n m h =
    let b = and_parts (k == v) (are_numbered (suc v) i ps n m) h in
    let x : (k == v) ≡ true = b.0 in (grind arith, numbered ps (suc v) i n m b.1)
numbered (Input k ∷ ps) v i n m h =
    let b = and_parts (k == i) (are_numbered v (suc i) ps n m) h in
    let x : (k == i) ≡ true = b.0 in (grind arith, numbered ps v (suc i) n m b.1)

-- from the first on
pub from_first : (ps : List SlotPlace) (n m : ℕ) → are_numbered 0 0 ps n m ≡ true → AreNumbered 0 0 ps (0 + n) (0 + m)
from_first ps n m h =
    let a : n ≡ 0 + n = omega arith in
    let b : m ≡ 0 + m = omega arith in
    subst (λ x. AreNumbered 0 0 ps x (0 + m)) a (subst (λ y. AreNumbered 0 0 ps n y) b (numbered ps 0 0 n m h))

-- numbers only rise
pub rising : (ps : List SlotPlace) (v i n m : ℕ) → AreNumbered v i ps n m → (v ≤ n) × (i ≤ m)
rising [] v i n m h = (omega arith, omega arith)
rising (Variable k ∷ ps) v i n m h = let r = rising ps (suc v) i n m h.1 in (omega arith, r.1)
rising (Input k ∷ ps) v i n m h = let r = rising ps v (suc i) n m h.1 in (r.0, omega arith)

-- one variable less, or one input less
one_variable : (ps : List SlotPlace) (v i n m : ℕ) → AreNumbered (suc v) i ps (v + suc n) m
    → AreNumbered (suc v) i ps (suc v + n) m
one_variable ps v i n m h = let e : v + suc n ≡ suc v + n = omega arith in
    subst (λ a. AreNumbered (suc v) i ps a m) e h

one_input : (ps : List SlotPlace) (v i n m : ℕ) → AreNumbered v (suc i) ps n (i + suc m)
    → AreNumbered v (suc i) ps n (suc i + m)
one_input ps v i n m h = let e : i + suc m ≡ suc i + m = omega arith in
    subst (λ a. AreNumbered v (suc i) ps n a) e h

-- there is a variable
some_variable : {A : Type 0} (ps : List SlotPlace) (v i m : ℕ) (vs : List A) → AreNumbered (suc v) i ps (v + length vs) m
    → 0 < length vs
some_variable ps v i m vs h = let r = rising ps (suc v) i (v + length vs) m h in
    let le : suc v ≤ v + length vs = r.0 in omega arith

some_input : {A : Type 0} (ps : List SlotPlace) (v i n : ℕ) (xs : List A) → AreNumbered v (suc i) ps n (i + length xs)
    → 0 < length xs
some_input ps v i n xs h = let r = rising ps v (suc i) n (i + length xs) h in
    let le : suc i ≤ i + length xs = r.1 in omega arith

no_values : (all : List Slot) → variables_with all [] ≡ []
no_values [] = refl
no_values (l ∷ ls) = refl

pub variables_merged : (all : List Slot) (ps : List SlotPlace) (v i : ℕ) (ws : List PlanVariable) (js : List PlanInput)
    (vs xs : List Datum) → AreNumbered v i ps (v + length ws) (i + length js) → length vs ≡ length ws
    → length xs ≡ length js
    → variables_with (merged ps (map variable_slot ws) (map input_slot js)) (merged ps vs xs)
    ≡ variables_with (map variable_slot ws ++ all) vs
variables_merged all [] v i [] js [] xs h a b = sym (no_values all)
variables_merged all [] v i [] js (x ∷ vs) xs h a b = absurd (omega arith)
variables_merged all [] v i (w ∷ ws) js vs xs h a b = absurd (omega arith)
variables_merged all (Variable k ∷ ps) v i [] js vs xs h a b =
    absurd (let lt : 0 < length (map variable_slot []) = some_variable ps v i (i + length js) (map variable_slot []) h.1
    in omega arith)
variables_merged all (Variable k ∷ ps) v i (w ∷ ws) js [] xs h a b = absurd (omega arith)
variables_merged all (Variable k ∷ ps) v i (w ∷ ws) js (x ∷ vs) xs h a b =
    ap (λ s. (w.path, x) ∷ s) (variables_merged all ps (suc v) i ws js vs xs
    (one_variable ps v i (length ws) (i + length js) h.1) (omega arith) b)
variables_merged all (Input k ∷ ps) v i ws [] vs xs h a b =
    absurd (let lt : 0 < length (map input_slot []) = some_input ps v i (v + length ws) (map input_slot []) h.1
    in omega arith)
variables_merged all (Input k ∷ ps) v i ws (j ∷ js) vs [] h a b = absurd (omega arith)
variables_merged all (Input k ∷ ps) v i ws (j ∷ js) vs (x ∷ xs) h a b =
    variables_merged all ps v (suc i) ws js vs xs (one_input ps v i (v + length ws) (length js) h.1) a (omega arith)

pub inputs_merged : (ps : List SlotPlace) (v i : ℕ) (ws : List PlanVariable) (js : List PlanInput)
    (vs xs : List Datum) → AreNumbered v i ps (v + length ws) (i + length js) → length vs ≡ length ws
    → length xs ≡ length js
    → inputs_in (merged ps (map variable_slot ws) (map input_slot js)) (merged ps vs xs) ≡ image_of js xs
inputs_merged [] v i ws [] vs xs h a b = refl
inputs_merged [] v i ws (j ∷ js) vs xs h a b = absurd (omega arith)
inputs_merged (Variable k ∷ ps) v i [] js vs xs h a b =
    absurd (let lt : 0 < length (map variable_slot []) = some_variable ps v i (i + length js) (map variable_slot []) h.1
    in omega arith)
inputs_merged (Variable k ∷ ps) v i (w ∷ ws) js [] xs h a b = absurd (omega arith)
inputs_merged (Variable k ∷ ps) v i (w ∷ ws) js (x ∷ vs) xs h a b =
    inputs_merged ps (suc v) i ws js vs xs (one_variable ps v i (length ws) (i + length js) h.1) (omega arith) b
inputs_merged (Input k ∷ ps) v i ws [] vs xs h a b =
    absurd (let lt : 0 < length (map input_slot []) = some_input ps v i (v + length ws) (map input_slot []) h.1
    in omega arith)
inputs_merged (Input k ∷ ps) v i ws (j ∷ js) vs [] h a b = absurd (omega arith)
inputs_merged (Input k ∷ ps) v i ws (j ∷ js) vs (x ∷ xs) h a b =
    ap (λ s. (j.path, x) ∷ s)
    (inputs_merged ps v (suc i) ws js vs xs (one_input ps v i (v + length ws) (length js) h.1) a (omega arith))

pub map_merged : {A B : Type 0} (f : A → B) (ps : List SlotPlace) (vs xs : List A)
    → map f (merged ps vs xs) ≡ merged ps (map f vs) (map f xs)
map_merged f [] vs xs = refl
map_merged f (Variable k ∷ ps) [] xs = refl
map_merged f (Variable k ∷ ps) (v ∷ vs) xs = ap (λ s. f v ∷ s) (map_merged f ps vs xs)
map_merged f (Input k ∷ ps) vs [] = refl
map_merged f (Input k ∷ ps) vs (x ∷ xs) = ap (λ s. f x ∷ s) (map_merged f ps vs xs)

pub typed_merged : (ps : List SlotPlace) (ws : List PlanVariable) (js : List PlanInput) (vs xs : List Datum)
    → map (λ v. v.kind) vs ≡ map (λ w. w.initial.kind) ws → map (λ v. v.kind) xs ≡ map (λ j. j.kind) js
    → AreOfTypes (slots_among ps ws js) (merged ps vs xs)
typed_merged ps ws js vs xs a b =
    map_merged (λ v. v.kind) ps vs xs ∙ ap₂ (merged ps) (a ∙ sym (map_map (λ l. l.kind) variable_slot ws))
    (b ∙ sym (map_map (λ l. l.kind) input_slot js))
    ∙ sym (map_merged (λ l. l.kind) ps (map variable_slot ws) (map input_slot js))

-- the value in a place, if the numbers begin at these
abbrev value_from : ℕ → ℕ → List Datum → List Datum → Option SlotPlace → Option Datum
value_from v i vs xs None = None
value_from v i vs xs (Some (Variable n)) = slice_get vs (n - v)
value_from v i vs xs (Some (Input n)) = slice_get xs (n - i)

-- the numbers of the places from one on are not below those that they begin with
abbrev IsFrom : ℕ → ℕ → Option SlotPlace → Type 0
IsFrom v i None = Unit {0}
IsFrom v i (Some (Variable n)) = v ≤ n
IsFrom v i (Some (Input n)) = i ≤ n

later_variable : (v i : ℕ) (o : Option SlotPlace) → IsFrom (suc v) i o → IsFrom v i o
later_variable v i None h = tt
later_variable v i (Some (Variable n)) h = omega arith
later_variable v i (Some (Input n)) h = h

later_input : (v i : ℕ) (o : Option SlotPlace) → IsFrom v (suc i) o → IsFrom v i o
later_input v i None h = tt
later_input v i (Some (Variable n)) h = h
later_input v i (Some (Input n)) h = omega arith

from_there : (ps : List SlotPlace) (v i n m k : ℕ) → AreNumbered v i ps n m → IsFrom v i (slice_get ps k)
from_there [] v i n m k h = tt
from_there (Variable a ∷ ps) v i n m zero h = let e : a ≡ v = h.0 in omega arith
from_there (Input a ∷ ps) v i n m zero h = let e : a ≡ i = h.0 in omega arith
from_there (Variable a ∷ ps) v i n m (suc k) h =
    later_variable v i (slice_get ps k) (from_there ps (suc v) i n m k h.1)
from_there (Input a ∷ ps) v i n m (suc k) h =
    later_input v i (slice_get ps k) (from_there ps v (suc i) n m k h.1)

behind_variable : (v i : ℕ) (x : Datum) (vs xs : List Datum) (o : Option SlotPlace) → IsFrom (suc v) i o
    → value_from (suc v) i vs xs o ≡ value_from v i (x ∷ vs) xs o
behind_variable v i x vs xs None h = refl
behind_variable v i x vs xs (Some (Variable n)) h =
    let e : n - v ≡ suc (n - suc v) = omega arith in sym (ap (slice_get (x ∷ vs)) e)
behind_variable v i x vs xs (Some (Input n)) h = refl

behind_input : (v i : ℕ) (x : Datum) (vs xs : List Datum) (o : Option SlotPlace) → IsFrom v (suc i) o
    → value_from v (suc i) vs xs o ≡ value_from v i vs (x ∷ xs) o
behind_input v i x vs xs None h = refl
behind_input v i x vs xs (Some (Variable n)) h = refl
behind_input v i x vs xs (Some (Input n)) h =
    let e : n - i ≡ suc (n - suc i) = omega arith in sym (ap (slice_get (x ∷ xs)) e)

found_from : (ps : List SlotPlace) (v i : ℕ) (vs xs : List Datum) (k : ℕ)
    → AreNumbered v i ps (v + length vs) (i + length xs)
    → slice_get (merged ps vs xs) k ≡ value_from v i vs xs (slice_get ps k)
found_from [] v i vs xs k h = refl
found_from (Variable m ∷ ps) v i [] xs k h =
    absurd (let lt : 0 < length {A = Datum} [] = some_variable {A = Datum} ps v i (i + length xs) [] h.1 in omega arith)
found_from (Variable m ∷ ps) v i (x ∷ vs) xs zero h =
    let a : m ≡ v = h.0 in let e : m - v ≡ 0 = omega arith in sym (ap (slice_get (x ∷ vs)) e)
found_from (Variable m ∷ ps) v i (x ∷ vs) xs (suc k) h =
    let n = one_variable ps v i (length vs) (i + length xs) h.1 in
    found_from ps (suc v) i vs xs k n
    ∙ behind_variable v i x vs xs (slice_get ps k) (from_there ps (suc v) i (suc v + length vs) (i + length xs) k n)
found_from (Input m ∷ ps) v i vs [] k h =
    absurd (let lt : 0 < length {A = Datum} [] = some_input {A = Datum} ps v i (v + length vs) [] h.1 in omega arith)
found_from (Input m ∷ ps) v i vs (x ∷ xs) zero h =
    let a : m ≡ i = h.0 in let e : m - i ≡ 0 = omega arith in sym (ap (slice_get (x ∷ xs)) e)
found_from (Input m ∷ ps) v i vs (x ∷ xs) (suc k) h =
    let n = one_input ps v i (v + length vs) (length xs) h.1 in
    found_from ps v (suc i) vs xs k n
    ∙ behind_input v i x vs xs (slice_get ps k) (from_there ps v (suc i) (v + length vs) (suc i + length xs) k n)

from_none : (vs xs : List Datum) (o : Option SlotPlace) → value_from 0 0 vs xs o ≡ value_at_place vs xs o
from_none vs xs None = refl
from_none vs xs (Some (Variable n)) = let e : n - 0 ≡ n = omega arith in ap (slice_get vs) e
from_none vs xs (Some (Input n)) = let e : n - 0 ≡ n = omega arith in ap (slice_get xs) e

pub found_merged : (ps : List SlotPlace) (vs xs : List Datum) (k : ℕ)
    → AreNumbered 0 0 ps (0 + length vs) (0 + length xs)
    → slice_get (merged ps vs xs) k ≡ value_at_place vs xs (slice_get ps k)
found_merged ps vs xs k h = found_from ps 0 0 vs xs k h ∙ from_none vs xs (slice_get ps k)

-- a value in a slot, if the numbers begin at these
abbrev set_from : ℕ → List Datum → Option SlotPlace → Datum → List Datum
set_from v vs None d = vs
set_from v vs (Some (Variable n)) d = slice_set vs (n - v) d
set_from v vs (Some (Input n)) d = vs

abbrev set_input : ℕ → List Datum → Option SlotPlace → Datum → List Datum
set_input i xs None d = xs
set_input i xs (Some (Variable n)) d = xs
set_input i xs (Some (Input n)) d = slice_set xs (n - i) d

set_behind : (v i : ℕ) (x d : Datum) (vs : List Datum) (o : Option SlotPlace) → IsFrom (suc v) i o
    → x ∷ set_from (suc v) vs o d ≡ set_from v (x ∷ vs) o d
set_behind v i x d vs None h = refl
set_behind v i x d vs (Some (Variable n)) h =
    let e : n - v ≡ suc (n - suc v) = omega arith in sym (ap (λ j. slice_set (x ∷ vs) j d) e)
set_behind v i x d vs (Some (Input n)) h = refl

input_behind : (v i : ℕ) (x d : Datum) (xs : List Datum) (o : Option SlotPlace) → IsFrom v (suc i) o
    → x ∷ set_input (suc i) xs o d ≡ set_input i (x ∷ xs) o d
input_behind v i x d xs None h = refl
input_behind v i x d xs (Some (Variable n)) h = refl
input_behind v i x d xs (Some (Input n)) h =
    let e : n - i ≡ suc (n - suc i) = omega arith in sym (ap (λ j. slice_set (x ∷ xs) j d) e)

set_merged : (ps : List SlotPlace) (v i : ℕ) (vs xs : List Datum) (k : ℕ) (d : Datum)
    → AreNumbered v i ps (v + length vs) (i + length xs)
    → slice_set (merged ps vs xs) k d
    ≡ merged ps (set_from v vs (slice_get ps k) d) (set_input i xs (slice_get ps k) d)
set_merged [] v i vs xs k d h = refl
set_merged (Variable m ∷ ps) v i [] xs k d h =
    absurd (let lt : 0 < length {A = Datum} [] = some_variable {A = Datum} ps v i (i + length xs) [] h.1 in omega arith)
set_merged (Variable m ∷ ps) v i (x ∷ vs) xs zero d h =
    let a : m ≡ v = h.0 in let e : m - v ≡ 0 = omega arith in
    sym (ap (λ j. merged (Variable m ∷ ps) (slice_set (x ∷ vs) j d) xs) e)
set_merged (Variable m ∷ ps) v i (x ∷ vs) xs (suc k) d h =
    let n = one_variable ps v i (length vs) (i + length xs) h.1 in
    ap (λ s. x ∷ s) (set_merged ps (suc v) i vs xs k d n)
    ∙ ap (λ ys. merged (Variable m ∷ ps) ys (set_input i xs (slice_get ps k) d))
    (set_behind v i x d vs (slice_get ps k) (from_there ps (suc v) i (suc v + length vs) (i + length xs) k n))
set_merged (Input m ∷ ps) v i vs [] k d h =
    absurd (let lt : 0 < length {A = Datum} [] = some_input {A = Datum} ps v i (v + length vs) [] h.1 in omega arith)
set_merged (Input m ∷ ps) v i vs (x ∷ xs) zero d h =
    let a : m ≡ i = h.0 in let e : m - i ≡ 0 = omega arith in
    sym (ap (λ j. merged (Input m ∷ ps) vs (slice_set (x ∷ xs) j d)) e)
set_merged (Input m ∷ ps) v i vs (x ∷ xs) (suc k) d h =
    let n = one_input ps v i (v + length vs) (length xs) h.1 in
    ap (λ s. x ∷ s) (set_merged ps v (suc i) vs xs k d n)
    ∙ ap (λ ys. merged (Input m ∷ ps) (set_from v vs (slice_get ps k) d) ys)
    (input_behind v i x d xs (slice_get ps k) (from_there ps v (suc i) (v + length vs) (suc i + length xs) k n))

put_from : (vs : List Datum) (o : Option SlotPlace) (d : Datum) → set_from 0 vs o d ≡ put_in vs o d
put_from vs None d = refl
put_from vs (Some (Variable n)) d = let e : n - 0 ≡ n = omega arith in ap (λ j. slice_set vs j d) e
put_from vs (Some (Input n)) d = refl

length_put : (vs : List Datum) (o : Option SlotPlace) (d : Datum) → length (put_in vs o d) ≡ length vs
length_put vs None d = refl
length_put vs (Some (Variable n)) d = length-set vs n d
length_put vs (Some (Input n)) d = refl

length_input : (i : ℕ) (xs : List Datum) (o : Option SlotPlace) (d : Datum) → length (set_input i xs o d) ≡ length xs
length_input i xs None d = refl
length_input i xs (Some (Variable n)) d = refl
length_input i xs (Some (Input n)) d = length-set xs (n - i) d

pub length_written : (ps : List SlotPlace) (vs : List Datum) (cells : List Cell)
    → length (written_variables ps vs cells) ≡ length vs
length_written ps vs [] = refl
length_written ps vs (c ∷ cells) =
    length_written ps (put_in vs (slice_get ps c.0) c.1) cells ∙ length_put vs (slice_get ps c.0) c.1

-- the variables after cells are written to slots
pub variables_written : (ps : List SlotPlace) (ws : List PlanVariable) (js : List PlanInput) (cells : List Cell)
    (vs xs : List Datum) → are_numbered 0 0 ps (length ws) (length js) ≡ true → length vs ≡ length ws
    → length xs ≡ length js
    → variables_with (slots_among ps ws js) (after_writes (merged ps vs xs) cells)
    ≡ variables_with (layout_of ws js) (written_variables ps vs cells)
variables_written ps ws js [] vs xs h a b =
    variables_merged (map input_slot js) ps 0 0 ws js vs xs (from_first ps (length ws) (length js) h) a b
variables_written ps ws js (c ∷ cells) vs xs h a b =
    let n : AreNumbered 0 0 ps (0 + length vs) (0 + length xs) =
    subst (λ x. AreNumbered 0 0 ps (0 + x) (0 + length xs)) (sym a)
    (subst (λ y. AreNumbered 0 0 ps (0 + length ws) (0 + y)) (sym b) (from_first ps (length ws) (length js) h)) in
    let o = slice_get ps c.0 in
    ap (λ t. variables_with (slots_among ps ws js) (after_writes t cells))
    (set_merged ps 0 0 vs xs c.0 c.1 n ∙ ap (λ t. merged ps t (set_input 0 xs o c.1)) (put_from vs o c.1))
    ∙ variables_written ps ws js cells (put_in vs o c.1) (set_input 0 xs o c.1) h (length_put vs o c.1 ∙ a)
    (length_input 0 xs o c.1 ∙ b)

-- the next value, and those merged after it
pub record Next (ps : List SlotPlace) (v i : ℕ) (vs xs : List Datum) (place : SlotPlace) (d : Datum) : Type 0 where
  pub variables : ℕ
  pub inputs : ℕ
  pub few : variables ≤ length vs
  pub few_inputs : inputs ≤ length xs
  pub numbered : AreNumbered variables inputs ps (length vs) (length xs)
  pub merged_is : d ∷ merged ps (drop variables vs) (drop inputs xs) ≡ merged (place ∷ ps) (drop v vs) (drop i xs)

pub next_variable : (k : ℕ) (ps : List SlotPlace) (v i : ℕ) (vs xs : List Datum) (d : Datum)
    → AreNumbered v i (Variable k ∷ ps) (length vs) (length xs) → i ≤ length xs → d ≡ slice_index_or vs k d
    → Next ps v i vs xs (Variable k) d
next_variable k ps v i vs xs d h le is =
    let r : suc v ≤ length vs = (rising ps (suc v) i (length vs) (length xs) h.1).0 in
    let e : d ≡ slice_index_or vs v d = is ∙ ap (λ n. slice_index_or vs n d) h.0 in
    record {
      variables = suc v;
      inputs = i;
      few = r;
      few_inputs = le;
      numbered = h.1;
      merged_is = ap (λ y. y ∷ merged ps (drop (suc v) vs) (drop i xs)) e
          ∙ sym (ap (λ ys. merged (Variable k ∷ ps) ys (drop i xs)) (drop-cons vs v d (omega arith)));
    }

pub next_input : (k : ℕ) (ps : List SlotPlace) (v i : ℕ) (vs xs : List Datum) (d : Datum)
    → AreNumbered v i (Input k ∷ ps) (length vs) (length xs) → v ≤ length vs → d ≡ slice_index_or xs k d
    → Next ps v i vs xs (Input k) d
next_input k ps v i vs xs d h le is =
    let r : suc i ≤ length xs = (rising ps v (suc i) (length vs) (length xs) h.1).1 in
    let e : d ≡ slice_index_or xs i d = is ∙ ap (λ n. slice_index_or xs n d) h.0 in
    record {
      variables = v;
      inputs = suc i;
      few = le;
      few_inputs = r;
      numbered = h.1;
      merged_is = ap (λ y. y ∷ merged ps (drop v vs) (drop (suc i) xs)) e
          ∙ sym (ap (λ ys. merged (Input k ∷ ps) (drop v vs) ys) (drop-cons xs i d (omega arith)));
    }

-- a number that is used is one of those
pub below_variables : (k : ℕ) (ps : List SlotPlace) (v i n m : ℕ) → AreNumbered v i (Variable k ∷ ps) n m → k < n
below_variables k ps v i n m h =
    let r : suc v ≤ n = (rising ps (suc v) i n m h.1).0 in let e : k ≡ v = h.0 in omega arith

pub below_inputs : (k : ℕ) (ps : List SlotPlace) (v i n m : ℕ) → AreNumbered v i (Input k ∷ ps) n m → k < m
below_inputs k ps v i n m h =
    let r : suc i ≤ m = (rising ps v (suc i) n m h.1).1 in let e : k ≡ i = h.0 in omega arith

-- one more value
pub goes_on : (ps qs : List SlotPlace) (v i : ℕ) (vs xs done all whole : List Datum) (place : SlotPlace) (d : Datum)
    → qs ≡ place ∷ ps → done ++ merged qs (drop v vs) (drop i xs) ≡ whole → all ≡ done ++ d ∷ []
    → (n : Next ps v i vs xs place d)
    → all ++ merged ps (drop n.variables vs) (drop n.inputs xs) ≡ whole
goes_on ps qs v i vs xs done all whole place d is so pushed n =
    ap (λ a. a ++ merged ps (drop n.variables vs) (drop n.inputs xs)) pushed
    ∙ append_assoc done (d ∷ []) (merged ps (drop n.variables vs) (drop n.inputs xs))
    ∙ ap (λ m. done ++ m) (n.merged_is ∙ sym (ap (λ q. merged q (drop v vs) (drop i xs)) is))
    ∙ so

-- from a place on
pub from_place : (ps : List SlotPlace) (i : ℕ) (p q : SlotPlace) → i < length ps → slice_index_or ps i q ≡ p
    → drop i ps ≡ p ∷ drop (i + 1) ps
from_place ps i p q lt is =
    drop-cons ps i q lt ∙ ap (λ x. x ∷ drop (suc i) ps) is ∙ ap (λ n. p ∷ drop n ps) (suc-eq-add-one i)

-- an item doesn't depend on the stand-in for one that doesn't exist
pub item_at : (vs : List Datum) (k : ℕ) (d e : Datum) → k < length vs → d ≡ slice_index_or vs k e
    → d ≡ slice_index_or vs k d
item_at [] k d e lt is = absurd (omega arith)
item_at (v ∷ vs) zero d e lt is = is
item_at (v ∷ vs) (suc k) d e lt is = item_at vs k d e (omega arith) is
