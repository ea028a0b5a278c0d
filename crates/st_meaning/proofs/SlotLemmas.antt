-- Values read and assigned by paths are those read and written by slots.
use Rattle.std.proofs.Common.{◌≡◌, ℕ, suc, Bool, true, false, ◌&&◌, if◌then◌else◌, List, [], ◌∷◌, length, slice_get}
use Rattle.std.proofs.Common.{slice_set, Option, Some, None, option_map, Ok, Err, refl, sym, ap, ◌∙◌, ℤ, arith}
use Rattle.st_types.specs.Values.{Datum}
use Rattle.st_types.specs.Comparisons.{same_path_is}
use Rattle.st_types.specs.Paths.{Path, same_path}
use Rattle.st_meaning.specs.Failures.{ill_typed}
use Rattle.st_meaning.specs.Stores.{Store, get, may_replace, replaced, with_entry, assigned}
use Rattle.st_meaning.specs.Scopes.{seen, or_datum}
use Rattle.st_meaning.specs.Slots.{Slot, slot_of, IsLayout, variables_with, inputs_in, after_write}

-- a slot's value, by the number that its path has
variable_cases : (l : Slot) (ls : List Slot) (v : Datum) (vs : List Datum) (p : Path) (i : ℕ) (m : Slot)
    (t input : Bool) (o : Option ℕ) → (l.is_input ≡ input) → (t ≡ same_path p l.path) → slice_get (l ∷ ls) i ≡ Some m
    → m.is_input ≡ false
    → ((j : ℕ) → o ≡ Some j → slice_get ls j ≡ Some m → get (variables_with ls vs) p ≡ slice_get vs j)
    → (if t then Some 0 else option_map suc o) ≡ Some i
    → get (if input then variables_with ls vs else (l.path, v) ∷ variables_with ls vs) p ≡ slice_get (v ∷ vs) i
variable_cases l ls v vs p i m true true o e t at out rest h =
    let z : i ≡ 0 = cc in let q : Some l ≡ Some m = rw z at at in let r : l ≡ m = cc in
    let w : true ≡ false = sym e ∙ ap (λ x. x.is_input) r ∙ out in absurd (cc)
variable_cases l ls v vs p i m true false o e t at out rest h = let z : i ≡ 0 = cc in rw (z, ← t) refl
variable_cases l ls v vs p i m false input None e t at out rest h = absurd (cc)
variable_cases l ls v vs p i m false true (Some j) e t at out rest h = let z : i ≡ suc j = cc in
    let at' : slice_get ls j ≡ Some m = rw z at at in rw z (rest j refl at')
variable_cases l ls v vs p i m false false (Some j) e t at out rest h = let z : i ≡ suc j = cc in
    let at' : slice_get ls j ≡ Some m = rw z at at in rw (z, ← t) (rest j refl at')

pub get_variable : (layout : List Slot) (vs : List Datum) (p : Path) (i : ℕ) (m : Slot) → length layout ≡ length vs
    → slot_of layout p ≡ Some i → slice_get layout i ≡ Some m → m.is_input ≡ false
    → get (variables_with layout vs) p ≡ slice_get vs i
get_variable [] vs p i m len h at out = absurd (cc)
get_variable (l ∷ ls) [] p i m len h at out = absurd (omega arith)
get_variable (l ∷ ls) (v ∷ vs) p i m len h at out =
    variable_cases l ls v vs p i m (same_path p l.path) l.is_input (slot_of ls p) refl refl at out
    (λ j is there. get_variable ls vs p j m (omega arith) is there out) h

-- an input's value, by the number that its path has
input_cases : (l : Slot) (ls : List Slot) (v : Datum) (vs : List Datum) (p : Path) (i : ℕ) (m : Slot) (t input : Bool)
    (o : Option ℕ) → (l.is_input ≡ input) → (t ≡ same_path p l.path) → slice_get (l ∷ ls) i ≡ Some m → m.is_input ≡ true
    → ((j : ℕ) → o ≡ Some j → slice_get ls j ≡ Some m → get (inputs_in ls vs) p ≡ slice_get vs j)
    → (if t then Some 0 else option_map suc o) ≡ Some i
    → get (if input then (l.path, v) ∷ inputs_in ls vs else inputs_in ls vs) p ≡ slice_get (v ∷ vs) i
input_cases l ls v vs p i m true false o e t at out rest h =
    let z : i ≡ 0 = cc in let q : Some l ≡ Some m = rw z at at in let r : l ≡ m = cc in
    let w : false ≡ true = sym e ∙ ap (λ x. x.is_input) r ∙ out in absurd (cc)
input_cases l ls v vs p i m true true o e t at out rest h = let z : i ≡ 0 = cc in rw (z, ← t) refl
input_cases l ls v vs p i m false input None e t at out rest h = absurd (cc)
input_cases l ls v vs p i m false false (Some j) e t at out rest h = let z : i ≡ suc j = cc in
    let at' : slice_get ls j ≡ Some m = rw z at at in rw z (rest j refl at')
input_cases l ls v vs p i m false true (Some j) e t at out rest h = let z : i ≡ suc j = cc in
    let at' : slice_get ls j ≡ Some m = rw z at at in rw (z, ← t) (rest j refl at')

get_input : (layout : List Slot) (vs : List Datum) (p : Path) (i : ℕ) (m : Slot) → length layout ≡ length vs
    → slot_of layout p ≡ Some i → slice_get layout i ≡ Some m → m.is_input ≡ true
    → get (inputs_in layout vs) p ≡ slice_get vs i
get_input [] vs p i m len h at out = absurd (cc)
get_input (l ∷ ls) [] p i m len h at out = absurd (omega arith)
get_input (l ∷ ls) (v ∷ vs) p i m len h at out =
    input_cases l ls v vs p i m (same_path p l.path) l.is_input (slot_of ls p) refl refl at out
    (λ j is there. get_input ls vs p j m (omega arith) is there out) h

-- a path with a value among the variables or the inputs has a slot of its kind
pub record HasSlot (layout : List Slot) (p : Path) (input : Bool) : Type 0 where
  pub number : ℕ
  pub slot : Slot
  pub at : slice_get layout number ≡ Some slot
  pub sort : slot.is_input ≡ input
  pub path : p ≡ slot.path

behind_slot : (l : Slot) (ls : List Slot) (p : Path) (input : Bool) → HasSlot ls p input → HasSlot (l ∷ ls) p input
behind_slot l ls p input h = record { number = suc h.number; slot = h.slot; at = h.at; sort = h.sort; path = h.path }

here_or : (l : Slot) (ls : List Slot) (v w : Datum) (s : Store) (p : Path) (sort t : Bool) → l.is_input ≡ sort
    → (t ≡ true → p ≡ l.path) → (get s p ≡ Some w → HasSlot ls p sort) → (if t then Some v else get s p) ≡ Some w
    → HasSlot (l ∷ ls) p sort
here_or l ls v w s p sort true e is rest h = record { number = 0; slot = l; at = refl; sort = e; path = is refl }
here_or l ls v w s p sort false e is rest h = behind_slot l ls p sort (rest h)

variable_found : (l : Slot) (ls : List Slot) (v w : Datum) (vs : List Datum) (p : Path) (input : Bool)
    → l.is_input ≡ input → (get (variables_with ls vs) p ≡ Some w → HasSlot ls p false)
    → get (if input then variables_with ls vs else (l.path, v) ∷ variables_with ls vs) p ≡ Some w → HasSlot (l ∷ ls) p false
variable_found l ls v w vs p true e rest h = behind_slot l ls p false (rest h)
variable_found l ls v w vs p false e rest h =
    here_or l ls v w (variables_with ls vs) p false (same_path p l.path) e (same_path_is p l.path) rest h

pub variable_has : (layout : List Slot) (vs : List Datum) (p : Path) (w : Datum)
    → get (variables_with layout vs) p ≡ Some w → HasSlot layout p false
variable_has [] vs p w h = absurd (cc)
variable_has (l ∷ ls) [] p w h = absurd (cc)
variable_has (l ∷ ls) (v ∷ vs) p w h = variable_found l ls v w vs p l.is_input refl (variable_has ls vs p w) h

input_found : (l : Slot) (ls : List Slot) (v w : Datum) (vs : List Datum) (p : Path) (input : Bool) → l.is_input ≡ input
    → (get (inputs_in ls vs) p ≡ Some w → HasSlot ls p true)
    → get (if input then (l.path, v) ∷ inputs_in ls vs else inputs_in ls vs) p ≡ Some w → HasSlot (l ∷ ls) p true
input_found l ls v w vs p true e rest h =
    here_or l ls v w (inputs_in ls vs) p true (same_path p l.path) e (same_path_is p l.path) rest h
input_found l ls v w vs p false e rest h = behind_slot l ls p true (rest h)

pub input_has : (layout : List Slot) (vs : List Datum) (p : Path) (w : Datum) → get (inputs_in layout vs) p ≡ Some w
    → HasSlot layout p true
input_has [] vs p w h = absurd (cc)
input_has (l ∷ ls) [] p w h = absurd (cc)
input_has (l ∷ ls) (v ∷ vs) p w h = input_found l ls v w vs p l.is_input refl (input_has ls vs p w) h

either : (o : Option Datum) → or_datum o None ≡ o
either (Some v) = refl
either None = refl

-- in a layout a path has one slot, so it is not both a variable's and an input's
one_sort : (layout : List Slot) → IsLayout layout → (k : ℕ) (l : Slot) (input : Bool) → slice_get layout k ≡ Some l
    → HasSlot layout l.path input → l.is_input ≡ input
one_sort layout distinct k l input at h =
    let a : slot_of layout l.path ≡ Some k = distinct k l at in
    let b : slot_of layout h.slot.path ≡ Some h.number = distinct h.number h.slot h.at in
    let c : slot_of layout l.path ≡ Some h.number = ap (slot_of layout) h.path ∙ b in
    let e : k ≡ h.number = cc in
    let f : slice_get layout k ≡ Some h.slot = ap (slice_get layout) e ∙ h.at in
    let g : l ≡ h.slot = cc in
    ap (λ x. x.is_input) g ∙ h.sort

pub none_where : (s : Store) (p : Path) → ((w : Datum) → get s p ≡ Some w → ⊥) → get s p ≡ None
none_where s p h = cases (get s p) h
  where
    cases : (o : Option Datum) → ((w : Datum) → o ≡ Some w → ⊥) → o ≡ None
    cases None k = refl
    cases (Some w) k = absurd (k w refl)

pub seen_slot : (layout : List Slot) (vs : List Datum) → IsLayout layout → length layout ≡ length vs
    → (k : ℕ) (l : Slot) → slice_get layout k ≡ Some l
    → seen (inputs_in layout vs) (variables_with layout vs) l.path ≡ slice_get vs k
seen_slot layout vs distinct len k l at = by_sort l.is_input refl
  where
    by_sort : (input : Bool) → l.is_input ≡ input
        → seen (inputs_in layout vs) (variables_with layout vs) l.path ≡ slice_get vs k
    by_sort true e =
        let a = get_input layout vs l.path k l len (distinct k l at) at e in
        let b = none_where (variables_with layout vs) l.path (λ w h. let f = one_sort layout distinct k l false at
        (variable_has layout vs l.path w h) in let g : true ≡ false = sym e ∙ f in absurd (cc)) in
        rw (a, b) (either (slice_get vs k))
    by_sort false e =
        let a = get_variable layout vs l.path k l len (distinct k l at) at e in
        let b = none_where (inputs_in layout vs) l.path (λ w h. let f = one_sort layout distinct k l true at
        (input_has layout vs l.path w h) in let g : false ≡ true = sym e ∙ f in absurd (cc)) in
        rw (b, a) refl

behind_written : (e : Path × Datum) (ls : List Slot) (vs : List Datum) (j : ℕ) (old v : Datum) (b : Bool)
    → with_entry e (if b then Ok (variables_with ls (slice_set vs j v)) else Err ill_typed)
    ≡ (if b then Ok (e ∷ variables_with ls (slice_set vs j v)) else Err ill_typed)
behind_written e ls vs j old v true = refl
behind_written e ls vs j old v false = refl

assigned_cases : (l : Slot) (ls : List Slot) (u : Datum) (vs : List Datum) (p : Path) (i : ℕ) (m : Slot) (old v : Datum)
    (t input : Bool) (o : Option ℕ) → (l.is_input ≡ input) → (t ≡ same_path p l.path) → slice_get (l ∷ ls) i ≡ Some m
    → m.is_input ≡ false → slice_get (u ∷ vs) i ≡ Some old
    → ((j : ℕ) → o ≡ Some j → slice_get ls j ≡ Some m → slice_get vs j ≡ Some old
    → assigned (variables_with ls vs) p v ≡ after_write ls vs j old v)
    → (if t then Some 0 else option_map suc o) ≡ Some i
    → assigned (if input then variables_with ls vs else (l.path, u) ∷ variables_with ls vs) p v
    ≡ (if may_replace old v then Ok (variables_with (l ∷ ls) (slice_set (u ∷ vs) i v)) else Err ill_typed)
assigned_cases l ls u vs p i m old v true true o e t at out here rest h =
    let z : i ≡ 0 = cc in let q : Some l ≡ Some m = rw z at at in let r : l ≡ m = cc in
    let w : true ≡ false = sym e ∙ ap (λ x. x.is_input) r ∙ out in absurd (cc)
assigned_cases l ls u vs p i m old v true false o e t at out here rest h =
    let z : i ≡ 0 = cc in let q : Some u ≡ Some old = rw z at here in let r : u ≡ old = cc in rw (z, ← t, r, e) refl
assigned_cases l ls u vs p i m old v false input None e t at out here rest h = absurd (cc)
assigned_cases l ls u vs p i m old v false true (Some j) e t at out here rest h =
    let z : i ≡ suc j = cc in let at' : slice_get ls j ≡ Some m = rw z at at in
    let here' : slice_get vs j ≡ Some old = rw z at here in
    rw (z, rest j refl at' here', e) refl
assigned_cases l ls u vs p i m old v false false (Some j) e t at out here rest h =
    let z : i ≡ suc j = cc in let at' : slice_get ls j ≡ Some m = rw z at at in
    let here' : slice_get vs j ≡ Some old = rw z at here in
    rw (z, ← t, rest j refl at' here', e) (behind_written (l.path, u) ls vs j old v (may_replace old v))

assigned_at : (layout : List Slot) (vs : List Datum) (p : Path) (i : ℕ) (m : Slot) (old v : Datum)
    → length layout ≡ length vs → slot_of layout p ≡ Some i → slice_get layout i ≡ Some m → m.is_input ≡ false
    → slice_get vs i ≡ Some old
    → assigned (variables_with layout vs) p v ≡ after_write layout vs i old v
assigned_at [] vs p i m old v len h at out here = absurd (cc)
assigned_at (l ∷ ls) [] p i m old v len h at out here = absurd (omega arith)
assigned_at (l ∷ ls) (u ∷ vs) p i m old v len h at out here =
    assigned_cases l ls u vs p i m old v (same_path p l.path) l.is_input (slot_of ls p) refl refl at out here
    (λ j is there old_there. assigned_at ls vs p j m old v (omega arith) is there out old_there) h

pub assigned_slot : (layout : List Slot) (vs : List Datum) → IsLayout layout → length layout ≡ length vs
    → (k : ℕ) (l : Slot) (old v : Datum) → slice_get layout k ≡ Some l → l.is_input ≡ false → slice_get vs k ≡ Some old
    → assigned (variables_with layout vs) l.path v ≡ after_write layout vs k old v
assigned_slot layout vs distinct len k l old v at out here =
    assigned_at layout vs l.path k l old v len (distinct k l at) at out here

none_behind : (e : Path × Datum) (s : Store) (p : Path) (v : Datum) (b : Bool)
    → (get s p ≡ None → assigned s p v ≡ Err ill_typed) → (if b then Some e.1 else get s p) ≡ None
    → (if b then replaced e v s else with_entry e (assigned s p v)) ≡ Err ill_typed
none_behind e s p v true ih g = absurd (cc)
none_behind e s p v false ih g = rw (ih g) refl

none_assigned : (s : Store) (p : Path) (v : Datum) → get s p ≡ None → assigned s p v ≡ Err ill_typed
none_assigned [] p v h = refl
none_assigned (e ∷ s) p v h = none_behind e s p v (same_path p e.0) (none_assigned s p v) h

pub assigned_input : (layout : List Slot) (vs : List Datum) → IsLayout layout → (k : ℕ) (l : Slot) (v : Datum)
    → slice_get layout k ≡ Some l → l.is_input ≡ true → assigned (variables_with layout vs) l.path v ≡ Err ill_typed
assigned_input layout vs distinct k l v at e =
    none_assigned (variables_with layout vs) l.path v
    (none_where (variables_with layout vs) l.path (λ w h. let f = one_sort layout distinct k l false at
    (variable_has layout vs l.path w h) in let g : true ≡ false = sym e ∙ f in absurd (cc)))
