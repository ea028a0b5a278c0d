-- The values of a unit in a memory, and the marks of the first few of them.
use Rattle.std.proofs.Common.{◌≡◌, ℕ, zero, suc, ◌+◌, ◌==◌, ◌<◌, ◌≤◌, Bool, true, false, List, [], ◌∷◌, ◌++◌, length}
use Rattle.std.proofs.Common.{take, Some, refl, sym, ap, ◌∙◌, subst, arith}
use Rattle.std.specs.Prelude.{slice_get, slice_set, option_map}
use Rattle.std.proofs.lemmas.Bool.Decides.{nat_tests}
use Rattle.st_types.specs.Values.{Datum}
use Rattle.machine_code.specs.declared.mark.Mark.{Mark}
use Rattle.machine_code.specs.Tracking.{Tracked, tracked, with_mark, seen, assigned, assigned_slot}
use Rattle.machine_code.proofs.MarkLemmas.{set_here, set_elsewhere, set_long, there_within, within_there, mark_here}
use Rattle.machine_code.proofs.MarkLemmas.{mark_elsewhere, mark_long}
use Rattle.machine_code.specs.UnitFrames.{UnitFrame, instance_frame}
use Rattle.machine_code.specs.MarkedRuns.{unmarked_values}

-- the elements of a list, `count` of them, are in another one from a place on; those before them are as in `below`
pub record StandsFrom {A : Type 0} (start count : ℕ) (below xs ys : List A) : Type 0 where
  pub long : length xs ≡ count
  pub lower : (k : ℕ) → k < start → slice_get ys k ≡ slice_get below k
  pub here : (k : ℕ) → k < count → slice_get ys (start + k) ≡ slice_get xs k

module _ {A : Type 0} (start count : ℕ) (below xs ys : List A) where
  -- one of them is changed
  stands_changed : (k : ℕ) (us vs : List A) → length us ≡ length xs
      → ((j : ℕ) → (j ≡ k → ⊥) → slice_get us j ≡ slice_get xs j)
      → ((j : ℕ) → (j ≡ start + k → ⊥) → slice_get vs j ≡ slice_get ys j)
      → (k < count → slice_get vs (start + k) ≡ slice_get us k) → StandsFrom start count below xs ys
      → StandsFrom start count below us vs
  stands_changed k us vs long others elsewhere same h = record {
    long = long ∙ h.long;
    lower = λ j l. (elsewhere j (λ e. omega arith) ∙ h.lower j l);
    here = λ j l. at j l (j == k) refl;
  }
    where
      at : (j : ℕ) → j < count → (t : Bool) → (j == k) ≡ t → slice_get vs (start + j) ≡ slice_get us j
      at j l true e =
          let is : k ≡ j = grind (arith, nat_tests) in
          subst (λ i. i < count → slice_get vs (start + i) ≡ slice_get us i) is same l
      at j l false e =
          let apart : j ≡ k → ⊥ = λ is. grind (arith, nat_tests) in
          elsewhere (start + j) (λ is. apart (omega arith)) ∙ h.here j l ∙ sym (others j apart)

  -- the elements after them don't matter
  stands_under : (top : ℕ) (zs : List A) → start + count ≤ top
      → ((k : ℕ) → k < top → slice_get zs k ≡ slice_get ys k) → StandsFrom start count below xs ys
      → StandsFrom start count below xs zs
  stands_under top zs le same h = record {
    long = h.long;
    lower = λ k l. (same k (omega arith) ∙ h.lower k l);
    here = λ k l. (same (start + k) (omega arith) ∙ h.here k l);
  }

-- A memory holds the values of a unit at its site, and the marks of the first `told` of them; below them it is unchanged.
pub record Holds (memory : ℕ) (s : UnitFrame) (told : ℕ) (below vs m : Tracked) : Type 0 where
  pub long : length m.values ≡ memory
  pub told_within : told ≤ s.size
  pub values : StandsFrom s.start s.size below.values vs.values m.values
  pub marks : StandsFrom s.start told below.marks vs.marks m.marks

-- a memory in which all below a slot is as it was
pub record Frame (memory : ℕ) (top : ℕ) (m n : Tracked) : Type 0 where
  pub long : length n.values ≡ memory
  pub values : (k : ℕ) → k < top → slice_get n.values k ≡ slice_get m.values k
  pub marks : (k : ℕ) → k < top → slice_get n.marks k ≡ slice_get m.marks k

-- the memory after a look at a slot
abbrev pub looked_at : Tracked → ℕ → Tracked
looked_at m k = tracked m.values (with_mark seen m.marks k)

-- one of the values is marked
marked_too : (f : Mark → Mark) (start told : ℕ) (below xs ys : List Mark) (k : ℕ)
    → StandsFrom start told below xs ys
    → StandsFrom start told below (with_mark f xs k) (with_mark f ys (start + k))
marked_too f start told below xs ys k h =
    stands_changed start told below xs ys k (with_mark f xs k) (with_mark f ys (start + k)) (mark_long f xs k)
    (λ j. mark_elsewhere f xs k j) (λ j. mark_elsewhere f ys (start + k) j)
    (λ l. mark_here f ys (start + k) ∙ ap (option_map f) (h.here k l) ∙ sym (mark_here f xs k)) h

module _ (memory : ℕ) (s : UnitFrame) (told : ℕ) (below vs m : Tracked) where
  -- one of the values is looked up
  pub holds_look : (k : ℕ) → Holds memory s told below vs m
      → Holds memory s told below (looked_at vs k) (looked_at m (s.start + k))
  holds_look k h = record {
    long = h.long;
    told_within = h.told_within;
    values = h.values;
    marks = marked_too seen s.start told below.marks vs.marks m.marks k h.marks;
  }

  -- an assignment to one of the values
  pub holds_set : (k : ℕ) (v : Datum) → s.start + s.size ≤ memory → k < s.size → Holds memory s told below vs m
      → Holds memory s told below (assigned_slot vs k v) (assigned_slot m (s.start + k) v)
  holds_set k v room lt h = record {
    long = set_long m.values (s.start + k) v ∙ h.long;
    told_within = h.told_within;
    values = stands_changed s.start s.size below.values vs.values m.values k (slice_set vs.values k v)
        (slice_set m.values (s.start + k) v) (set_long vs.values k v) (λ j. set_elsewhere vs.values j k v)
        (λ j. set_elsewhere m.values j (s.start + k) v) (λ l.
        set_here m.values (s.start + k) v (let a = h.long in omega arith)
        ∙ sym (set_here vs.values k v (let a = h.values.long in omega arith))) h.values;
    marks = marked_too assigned s.start told below.marks vs.marks m.marks k h.marks;
  }

  -- the memory that a call leaves below the values of the unit that it called
  pub holds_frame : (n : Tracked) → Holds memory s told below vs m → Frame memory (s.start + s.size) m n
      → Holds memory s told below vs n
  holds_frame n h f = record {
    long = f.long;
    told_within = h.told_within;
    values = stands_under s.start s.size below.values vs.values m.values (s.start + s.size) n.values (omega arith)
        f.values h.values;
    marks = stands_under s.start told below.marks vs.marks m.marks (s.start + s.size) n.marks
        (let l = h.told_within in omega arith) f.marks h.marks;
  }

  -- the same values, seen by an instance of a block
  pub holds_at : (base : ℕ) → Holds memory s told below vs m → Holds memory (instance_frame s base) told below vs m
  holds_at base h = record { long = h.long; told_within = h.told_within; values = h.values; marks = h.marks }

  pub holds_back : (base : ℕ) → Holds memory (instance_frame s base) told below vs m → Holds memory s told below vs m
  holds_back base h = record { long = h.long; told_within = h.told_within; values = h.values; marks = h.marks }

  pub frame_of : Holds memory s told below vs m → Frame memory s.start below m
  frame_of h = record { long = h.long; values = h.values.lower; marks = h.marks.lower }

-- values put from a slot on
abbrev pub reset_all : ℕ → List Datum → Tracked → Tracked
reset_all k [] m = m
reset_all k (v ∷ vs) m = reset_all (suc k) vs (assigned_slot m k v)

reset_long : (k : ℕ) (vs : List Datum) (m : Tracked) → length (reset_all k vs m).values ≡ length m.values
reset_long k [] m = refl
reset_long k (v ∷ vs) m = reset_long (suc k) vs (assigned_slot m k v) ∙ set_long m.values k v

reset_lower : (k : ℕ) (vs : List Datum) (m : Tracked) (j : ℕ) → j < k
    → slice_get (reset_all k vs m).values j ≡ slice_get m.values j
reset_lower k [] m j lt = refl
reset_lower k (v ∷ vs) m j lt =
    reset_lower (suc k) vs (assigned_slot m k v) j (omega arith) ∙ set_elsewhere m.values j k v (λ e. omega arith)

reset_marks : (k : ℕ) (vs : List Datum) (m : Tracked) (j : ℕ) → j < k
    → slice_get (reset_all k vs m).marks j ≡ slice_get m.marks j
reset_marks k [] m j lt = refl
reset_marks k (v ∷ vs) m j lt =
    reset_marks (suc k) vs (assigned_slot m k v) j (omega arith) ∙ mark_elsewhere assigned m.marks k j (λ e. omega arith)

reset_values : (k : ℕ) (vs : List Datum) (m : Tracked) (j : ℕ) → k + length vs ≤ length m.values → j < length vs
    → slice_get (reset_all k vs m).values (k + j) ≡ slice_get vs j
reset_values k [] m j le lt = absurd (omega arith)
reset_values k (v ∷ vs) m zero le lt =
    let at : k + 0 ≡ k = omega arith in
    ap (λ i. slice_get (reset_all (suc k) vs (assigned_slot m k v)).values i) at
    ∙ reset_lower (suc k) vs (assigned_slot m k v) k (omega arith) ∙ set_here m.values k v (omega arith)
reset_values k (v ∷ vs) m (suc j) le lt =
    let at : k + suc j ≡ suc k + j = omega arith in
    let l = set_long m.values k v in
    ap (λ i. slice_get (reset_all (suc k) vs (assigned_slot m k v)).values i) at
    ∙ reset_values (suc k) vs (assigned_slot m k v) j (omega arith) (omega arith)

-- a memory after a function's variables were put from a slot on
pub holds_reset : (memory start : ℕ) (fresh : List Datum) (m : Tracked) → length m.values ≡ memory
    → start + length fresh ≤ memory
    → Holds memory (record { start = start; base = 0; size = length fresh }) 0 m (unmarked_values fresh)
    (reset_all start fresh m)
holds_reset memory start fresh m long room = record {
  long = reset_long start fresh m ∙ long;
  told_within = omega arith;
  values = record {
    long = refl;
    lower = λ k l. reset_lower start fresh m k l;
    here = λ k l. reset_values start fresh m k (omega arith) l;
  };
  marks = record { long = refl; lower = λ k l. reset_marks start fresh m k l; here = λ k l. absurd (omega arith) };
}

module _ {A : Type 0} where
  -- elements that are the same one by one
  same_elements : (us vs : List A) → length us ≡ length vs
      → ((k : ℕ) → k < length vs → slice_get us k ≡ slice_get vs k) → us ≡ vs
  same_elements [] [] long at = refl
  same_elements [] (v ∷ vs) long at = absurd (omega arith)
  same_elements (u ∷ us) [] long at = absurd (omega arith)
  same_elements (u ∷ us) (v ∷ vs) long at =
      let first : Some u ≡ Some v = at 0 (omega arith) in
      let rest = same_elements us vs (omega arith) (λ k l. at (suc k) (omega arith)) in
      let same : u ≡ v = cc in
      cc

  get_take : (n : ℕ) (vs : List A) (k : ℕ) → k < n → slice_get (take n vs) k ≡ slice_get vs k
  get_take zero vs k lt = absurd (omega arith)
  get_take (suc n) [] k lt = refl
  get_take (suc n) (v ∷ vs) zero lt = refl
  get_take (suc n) (v ∷ vs) (suc k) lt = get_take n vs k (omega arith)

  long_take : (n : ℕ) (vs : List A) → n ≤ length vs → length (take n vs) ≡ n
  long_take zero vs le = refl
  long_take (suc n) [] le = absurd (omega arith)
  long_take (suc n) (v ∷ vs) le = ap suc (long_take n vs (omega arith))

  get_front : (vs rest : List A) (k : ℕ) → k < length vs → slice_get (vs ++ rest) k ≡ slice_get vs k
  get_front [] rest k lt = absurd (omega arith)
  get_front (v ∷ vs) rest zero lt = refl
  get_front (v ∷ vs) rest (suc k) lt = get_front vs rest k (omega arith)

  -- the first elements of a list, from its beginning on
  pub stands_first : (count : ℕ) (xs rest : List A) → length xs ≡ count
      → StandsFrom 0 count (xs ++ rest) xs (xs ++ rest)
  stands_first count xs rest long = record {
    long = long;
    lower = λ k l. refl;
    here = λ k l. (let e : 0 + k ≡ k = omega arith in
        ap (slice_get (xs ++ rest)) e ∙ get_front xs rest k (omega arith));
  }

  has_room : (count : ℕ) (below xs ys : List A) → StandsFrom 0 count below xs ys → count ≤ length ys
  has_room zero below xs ys h = omega arith
  has_room (suc n) below xs ys h =
      let last = within_there xs n (let l = h.long in omega arith) in
      let there = there_within ys (0 + n) last.0 (h.here n (omega arith) ∙ last.1) in
      omega arith

  pub first_ones : (count : ℕ) (below xs ys : List A) → StandsFrom 0 count below xs ys → take count ys ≡ xs
  first_ones count below xs ys h =
      let long = long_take count ys (has_room count below xs ys h) in
      same_elements (take count ys) xs (long ∙ sym h.long) (λ k lt.
      (let within : k < count = (let l = h.long in omega arith) in
      let e : 0 + k ≡ k = omega arith in
      get_take count ys k within ∙ ap (slice_get ys) (sym e) ∙ h.here k within))
