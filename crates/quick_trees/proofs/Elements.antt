-- Where elements are.
use Rattle.std.proofs.Common.{◌≡◌, ℕ, suc, ◌+◌, ◌*◌, ◌^◌, ◌<◌, ◌+ℤ◌, ◌-ℤ◌, ℤ, pos, negsuc, Bool, true, false, Option}
use Rattle.std.proofs.Common.{Some, None, refl, sym, ap, subst, ◌∙◌, arith, inl, inr, length}
use Rattle.std.specs.Prelude.{if◌then◌else◌, nat_lt}
use Rattle.std.proofs.Math.IntN.{+ℤ_idr}
use Rattle.std.proofs.lemmas.Bool.Decides.{nat_tests}
use Rattle.std.proofs.lemmas.Int.{ints}
use Rattle.st_types.specs.declared.kind.Kind.{Kind}
use Rattle.st_types.specs.Words.{is_wide, number_at}
use Rattle.st_meaning.specs.Operators.{natural}
use Rattle.layout.specs.Shapes.{distance, in_bounds}
use Rattle.quick_code.specs.QuickRuns.{Left}
use Rattle.quick_code.specs.QuickSteps.{offset_by, offset_put, nested_place, within, Memory, load, look, note, noted_read}
use Rattle.quick_code.specs.QuickSteps.{noted_written, store, with_word}
use Rattle.quick_code.specs.Words.{kept, kind_of, element_place}
use Rattle.quick_code.specs.declared.operation.Signed.TheVariants.{Lint}
use Rattle.st_types.specs.Kinds.{holds}
use Rattle.quick_trees.proofs.Stepping.{has_put, Follows, stepped}
use Rattle.quick_trees.proofs.Lists.{some_is}
use Rattle.quick_trees.specs.QuickMemory.{EndsWellAt, Frame}
use Rattle.quick_trees.specs.Pieces.{Loads, Stores}

-- the words of a type that is not wide are its numbers
pub narrow_number : (t : Kind) (w : ℤ) → is_wide t ≡ false → number_at t w ≡ w
narrow_number t w h = ap (λ (b : Bool). w +ℤ (if b then pos (2 ^ 63) else pos 0)) h ∙ +ℤ_idr w

-- A subscript leads to a slot, by its index from the first element.
pub record LeadsTo (lower : ℤ) (first count stride : ℕ) (n : ℤ) (k : ℕ) : Type 0 where
  pub before : ℕ
  pub less : before < count
  pub place : k ≡ first + before * stride
  pub inside : in_bounds lower count n ≡ true
  pub distance_is : distance lower n ≡ before

inside_is : (lower n : ℤ) (j count : ℕ) → n ≡ lower +ℤ pos j → j < count → in_bounds lower count n ≡ true
inside_is lower n j count is less = grind (arith, ints)

-- An element's word is at its index from the first one, and its slot likewise.
pub record IsElement (lower : ℤ) (first word count stride : ℕ) (n : ℤ) (w : ℕ) : Type 0 where
  pub before : ℕ
  pub less : before < count
  pub place : w ≡ word + before * stride
  pub number : n ≡ lower +ℤ pos before
  pub leads : LeadsTo lower first count stride n (first + before * stride)

leads_to : (lower shift : ℤ) (first word count stride : ℕ) (n z : ℤ) (w : ℕ) → lower +ℤ shift ≡ pos 0 → z ≡ n +ℤ shift
    → element_place word count stride z ≡ Some w → IsElement lower first word count stride n w
leads_to lower shift first word count stride n (pos j) w from is e = by_test (nat_lt j count) refl e
  where
    by_test : (t : Bool) → nat_lt j count ≡ t → (if t then Some (word + j * stride) else None) ≡ Some w
        → IsElement lower first word count stride n w
    by_test true h e =
        let less : j < count = grind (arith, nat_tests) in
        let at : n ≡ lower +ℤ pos j = omega (arith, ints) in
        let apart : n -ℤ lower ≡ pos j = omega (arith, ints) in record {
          before = j;
          less = less;
          place = cc;
          number = at;
          leads = record {
            before = j;
            less = less;
            place = refl;
            inside = inside_is lower n j count at less;
            distance_is = ap natural apart;
          };
        }
    by_test false h e = absurd cc
leads_to lower shift first word count stride n (negsuc j) w from is e = absurd cc

pub element_is : (lower shift : ℤ) (first word count stride : ℕ) (t : Kind) (v : ℤ) (w : ℕ) → lower +ℤ shift ≡ pos 0
    → is_wide t ≡ false → element_place word count stride (v +ℤ shift) ≡ Some w
    → IsElement lower first word count stride (number_at t v) w
element_is lower shift first word count stride t v w from narrow e =
    leads_to lower shift first word count stride (number_at t v) (v +ℤ shift) w from
    (ap (λ n. n +ℤ shift) (sym (narrow_number t v narrow))) e

-- A place at a distance after an offset.
pub record IsBehind (o : Option ℕ) (offset place : ℕ) : Type 0 where
  pub before : ℕ
  pub is : o ≡ Some before
  pub place_is : place ≡ offset + before

pub is_behind : (w : ℤ) (o : Option ℕ) (offset place : ℕ) → w ≡ pos offset → offset_by w o ≡ Some place
    → IsBehind o offset place
is_behind w o offset place is e = by_offset o (ap (λ w. offset_by w o) (sym is) ∙ e)
  where
    by_offset : (o : Option ℕ) → offset_by (pos offset) o ≡ Some place → IsBehind o offset place
    by_offset (Some k) e = record { before = k; is = refl; place_is = some_is (sym e) }
    by_offset None e = absurd cc

within_is : (n : ℕ) (o : Option ℕ) (k : ℕ) → within n o ≡ Some k → o ≡ Some k
within_is n (Some j) k e = by_test (nat_lt j n) e
  where
    by_test : (t : Bool) → (if t then Some j else None) ≡ Some k → Some j ≡ Some k
    by_test true e = e
    by_test false e = absurd cc
within_is n None k e = absurd cc

-- an element after the one that an offset leads to
pub place_is : (m : Memory) (d offset place : ℕ) (o : Option ℕ) → look m d ≡ pos offset
    → nested_place m d o ≡ Some place → IsBehind o offset place
place_is m d offset place o is e =
    is_behind (look m d) o offset place is
    (within_is (length m.notes) (offset_by (look m d) o) place
    (within_is (length m.words) (within (length m.notes) (offset_by (look m d) o)) place e))

module _ (f : Frame) (p : ℕ) (e : Left) (m : Memory) (b : ℕ) where
  -- A word at a place was loaded, or assigned.
  pub record HasLoaded (o : Option ℕ) (to : ℕ) : Type 0 where
    pub place : ℕ
    pub is : o ≡ Some place
    pub ends : EndsWellAt f (suc p) (with_word (note noted_read place m) to (look m place)) b e

  pub of_load : (o : Option ℕ) (to : ℕ) → Follows f p e (load o to m b) → HasLoaded o to
  of_load (Some k) to h = record { place = k; is = refl; ends = h }
  of_load None to h = absurd h

  pub has_loaded : (i : ℕ) (shift : ℤ) (to first count stride : ℕ) → Loads f i shift to first count stride p
      → EndsWellAt f p m b e → HasLoaded (element_place first count stride (look m i +ℤ shift)) to
  has_loaded i shift to first count stride (inl is) runs =
      subst (λ s. HasLoaded (element_place first count s (look m i +ℤ shift)) to) (sym is.0)
      (of_load (element_place first count 1 (look m i +ℤ shift)) to (stepped f p e m b _ runs is.1))
  has_loaded i shift to first count stride (inr is) runs =
      of_load (element_place first count stride (look m i +ℤ shift)) to (stepped f p e m b _ runs is)

  pub record HasStored (o : Option ℕ) (w : ℤ) : Type 0 where
    pub place : ℕ
    pub is : o ≡ Some place
    pub ends : EndsWellAt f (suc p) (with_word (note noted_written place m) place w) b e

  pub of_store : (o : Option ℕ) (w : ℤ) → Follows f p e (store o w m b) → HasStored o w
  of_store (Some k) w h = record { place = k; is = refl; ends = h }
  of_store None w h = absurd h

  pub has_stored : (i : ℕ) (shift : ℤ) (from first count stride : ℕ) → Stores f i shift from first count stride p
      → EndsWellAt f p m b e → HasStored (element_place first count stride (look m i +ℤ shift)) (look m from)
  has_stored i shift from first count stride (inl is) runs =
      subst (λ s. HasStored (element_place first count s (look m i +ℤ shift)) (look m from)) (sym is.0)
      (of_store (element_place first count 1 (look m i +ℤ shift)) (look m from) (stepped f p e m b _ runs is.1))
  has_stored i shift from first count stride (inr is) runs =
      of_store (element_place first count stride (look m i +ℤ shift)) (look m from) (stepped f p e m b _ runs is)

  -- An offset was assigned.
  pub record HasLocated (to : ℕ) (o : Option ℕ) : Type 0 where
    pub offset : ℕ
    pub is : o ≡ Some offset
    pub ends : EndsWellAt f (suc p) (with_word m to (pos offset)) b e

  pub has_located : (to : ℕ) (o : Option ℕ) → Follows f p e (offset_put to o m b) → HasLocated to o
  has_located to (Some k) h =
      let done = has_put f p e to (kept Lint (pos k)) m b h in record {
        offset = k;
        is = refl;
        ends = subst (λ w. EndsWellAt f (suc p) (with_word m to w) b e)
            (sym (same (holds (kind_of Lint) (pos k)) done.word done.is)) done.ends;
      }
    where
      same : (t : Bool) (w : ℤ) → (if t then Some (pos k) else None) ≡ Some w → pos k ≡ w
      same true w e = some_is e
      same false w e = absurd cc
  has_located to None h = absurd h
