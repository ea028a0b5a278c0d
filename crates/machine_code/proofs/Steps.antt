-- Single instructions of code that is part of the whole code, over the values of the slots and their marks.
use Rattle.std.proofs.Common.{◌≡◌, ℕ, zero, suc, ◌+◌, ◌≤◌, ◌<◌, Bool, true, false, if◌then◌else◌, List, [], ◌∷◌, ◌++◌}
use Rattle.std.proofs.Common.{length, Option, Some, None, Result, Ok, Err, refl, ap, ◌∙◌, arith}
use Rattle.std.specs.Prelude.{slice_get, slice_set}
use Rattle.std.proofs.lemmas.Bool.{le-leb}
use Rattle.st_types.specs.Values.{Datum}
use Rattle.st_types.specs.declared.fault.Fault.{Fault}
use Rattle.st_meaning.specs.Failures.{Failure, valueless, ill_typed, StuckFaults, or_failure}
use Rattle.st_meaning.specs.Stores.{may_replace}
use Rattle.st_meaning.specs.Ticks.{Run, follow, give, attempt}
use Rattle.st_meaning.specs.Evaluation.{known}
use Rattle.slot_trees.specs.SlotExecution.{Slots, stored_over, stored_at}
use Rattle.machine_code.specs.declared.instr.Instr.{Instr}
use Rattle.machine_code.specs.declared.instr.Instr.TheVariants.{LoopBack}
use Rattle.machine_code.specs.Tracking.{Tracked, tracking, looked, replaced, assigned_slot}
use Rattle.machine_code.specs.Machine.{Ending, failed, Next, on_result, on_tops, on_tick, jump_down, on_look, on_put}
use Rattle.machine_code.specs.Machine.{on_variable, act, runs}
use Rattle.machine_code.proofs.Fixpoint.{at_instr}
use Rattle.machine_code.specs.Growing.{Code, ◌◂◌, closed}
use Rattle.machine_code.specs.UnitFrames.{UnitFrame, end_of}
use Rattle.machine_code.specs.MarkedEvaluation.{marked_look, marked_load}
use Rattle.machine_code.specs.MarkedExecution.{marked_put}
use Rattle.machine_code.specs.MarkedRuns.{unmarked_values}
use Rattle.machine_code.proofs.Places.{Grows, Has, at_back, at_put, place_put, length_closed}
use Rattle.machine_code.proofs.Gives.{Gives, GivesBy, by_eq, given, taking}
use Rattle.machine_code.proofs.Regions.{Holds, looked_at, holds_look, holds_set}

-- values on a stack, the last on top
abbrev pub stacked : List Datum → List Datum → List Datum
stacked [] st = st
stacked (x ∷ xs) st = stacked xs (x ∷ st)

module _ (t : StuckFaults) where
  pub down : {M : Type 0} (to most : ℕ) (m : M) (e : Ending M) → to ≤ most → jump_down t to most m e ≡ e
  down to most m e le = ap (λ go. if go then e else failed m t.wrong) (le-leb to most le)

  pub under_tick : {M : Type 0} (b : ℕ) (m : M) (f g : ℕ → Ending M) → ((a : ℕ) → f a ≡ g a)
      → on_tick b m f ≡ on_tick b m g
  under_tick zero m f g h = refl
  under_tick (suc b) m f g h = h b

  -- values that were put on the stack come back in their order
  tops_more : {M : Type 0} (xs : List Datum) (k : ℕ) (ys st : List Datum) (m : M)
      (go : List Datum → List Datum → Ending M)
      → on_tops t (length xs + k) ys (stacked xs st) m go ≡ on_tops t k (xs ++ ys) st m go
  tops_more [] k ys st m go = let e : 0 + k ≡ k = omega arith in ap (λ n. on_tops t n ys st m go) e
  tops_more (x ∷ xs) k ys st m go =
      let e : length (x ∷ xs) + k ≡ length xs + suc k = omega arith in
      ap (λ n. on_tops t n ys (stacked xs (x ∷ st)) m go) e ∙ tops_more xs (suc k) ys (x ∷ st) m go

  with_nothing : (xs : List Datum) → xs ++ [] ≡ xs
  with_nothing [] = refl
  with_nothing (x ∷ xs) = ap (λ ys. x ∷ ys) (with_nothing xs)

  pub tops : {M : Type 0} (xs : List Datum) (n : ℕ) (st : List Datum) (m : M) (go : List Datum → List Datum → Ending M)
      → length xs ≡ n → on_tops t n [] (stacked xs st) m go ≡ go xs st
  tops xs n st m go e =
      let k : n ≡ length xs + 0 = omega arith in
      ap (λ j. on_tops t j [] (stacked xs st) m go) k ∙ tops_more xs 0 [] st m go
      ∙ ap (λ ys. go ys st) (with_nothing xs)

module _ (t : StuckFaults) (now : ℕ) (F : Code) where
  -- the run from a place on
  abbrev pub G : Next Tracked
  G = runs tracking t now F

  pub stepped : (c : Code) (i : Instr) (st : List Datum) (m : Tracked) (b : ℕ) → Has F (length c) (c ◂ i)
      → G (length (c ◂ i)) st m b ≡ act tracking t now (length F) (Some i) G (length c) st m b
  stepped c i st m b has =
      ap (λ n. G n st m b) (place_put c i) ∙ at_instr tracking t now F (length c) st m b
      ∙ ap (λ o. act tracking t now (length F) o G (length c) st m b) (at_put c i has)

  -- one instruction
  pub one : {A : Type 0} {r : Result (A × ℕ) Fault} {Good : A → Tracked → Type 0}
      {on : A → Tracked → ℕ → Ending Tracked} (c : Code) (i : Instr) (st : List Datum) (m : Tracked) (b : ℕ)
      → Has F (length c) (c ◂ i)
      → Gives r b Good on (act tracking t now (length F) (Some i) G (length c) st m b)
      → Gives r b Good on (G (length (c ◂ i)) st m b)
  one c i st m b has h = by_eq (stepped c i st m b has) h

  -- the jump back of a loop takes a tick, and leads to the loop's first instruction
  pub ticks_back : (c d : Code) (st : List Datum) → Grows (c ◂ LoopBack 0) d → Has F (length c) (closed (length c) d)
      → (m : Tracked) (b : ℕ) → G (length (c ◂ LoopBack 0)) st m b ≡ on_tick b m (λ a. G (length d) st m a)
  ticks_back c d st g has m b =
      let within : length d ≤ length F =
      (let w = has.within in let l = length_closed (length c) d in omega arith) in
      ap (λ n. G n st m b) (place_put c (LoopBack 0)) ∙ at_instr tracking t now F (length c) st m b
      ∙ ap (λ o. act tracking t now (length F) o G (length c) st m b) (at_back c d (LoopBack 0) g has)
      ∙ under_tick t b m _ _ (λ a. down t (length d) (length F) m (G (length d) st m a) within)

-- Slots of a unit's values, read and assigned.
module _ (t : StuckFaults) (memory : ℕ) (s : UnitFrame) (room : end_of s ≤ memory) (told : ℕ) (below : Tracked) where
  module _ {B : Type 0} (Good : B → Tracked → Type 0) (on : B → Tracked → ℕ → Ending Tracked) where
    stored_so : (go : Bool) (us m n : Tracked) (f : Tracked → Run B) (b : ℕ) (next : Tracked → Ending Tracked)
        → Gives (f us b) b Good on (next n)
        → GivesBy (follow (attempt t (or_failure ill_typed (if go then Some us else None)) b) f) b Good on
        (on_result t (or_failure ill_typed (if go then Some n else None)) m next)
    stored_so true us m n f b next h = h.by
    stored_so false us m n f b next h = (m, refl)

    stored_by : (o : Option Datum) (vs m : Tracked) (k : ℕ) (v : Datum) (f : Tracked → Run B) (b : ℕ)
        (next : Tracked → Ending Tracked) → Gives (f (assigned_slot vs k v) b) b Good on (next (assigned_slot m (s.start + k) v))
        → GivesBy (follow (attempt t (or_failure ill_typed (replaced vs k v o)) b) f) b Good on
        (on_result t (or_failure ill_typed (replaced m (s.start + k) v o)) m next)
    stored_by (Some old) vs m k v f b next h =
        stored_so (may_replace old v) (assigned_slot vs k v) m (assigned_slot m (s.start + k) v) f b next h
    stored_by None vs m k v f b next h = (m, refl)

    -- a value is assigned to a slot
    pub storing : (vs m : Tracked) (k : ℕ) (v : Datum) (f : Tracked → Run B) (b : ℕ) (next : Tracked → Ending Tracked)
        → Holds memory s told below vs m → k < s.size
        → ((us n : Tracked) → Holds memory s told below us n → Gives (f us b) b Good on (next n))
        → Gives (follow (marked_put t vs k v b) f) b Good on (on_put tracking t m (s.start + k) v next)
    storing vs m k v f b next holds lt h =
        by_eq (ap (λ o. on_result t (or_failure ill_typed (replaced m (s.start + k) v o)) m next)
        (holds.values.here k lt))
        (record {
          by = stored_by (slice_get vs.values k) vs m k v f b next
              (h _ _ (holds_set memory s told below vs m k v room lt holds));
        })

    looked_by : (o : Option Datum) (e : Failure) (vs m : Tracked) (k : ℕ) (f : Datum × Tracked → Run B) (b : ℕ)
        (next : Datum → Tracked → Ending Tracked)
        → ((v : Datum) → Gives (f (v, looked_at vs k) b) b Good on (next v (looked_at m (s.start + k))))
        → GivesBy (follow (attempt t (or_failure e (looked vs k o)) b) f) b Good on
        (on_result t (or_failure e (looked m (s.start + k) o)) m (λ r. next r.0 r.1))
    looked_by (Some v) e vs m k f b next h = (h v).by
    looked_by None e vs m k f b next h = (m, refl)

    -- a slot's value as it is
    pub looking : (e : Failure) (vs m : Tracked) (k : ℕ) (f : Datum × Tracked → Run B) (b : ℕ)
        (next : Datum → Tracked → Ending Tracked) → Holds memory s told below vs m → k < s.size
        → ((v : Datum) (us n : Tracked) → Holds memory s told below us n → Gives (f (v, us) b) b Good on (next v n))
        → Gives (follow (marked_look t e vs k b) f) b Good on (on_look tracking t e m (s.start + k) next)
    looking e vs m k f b next holds lt h =
        by_eq (ap (λ o. on_result t (or_failure e (looked m (s.start + k) o)) m (λ r. next r.0 r.1))
        (holds.values.here k lt))
        (record {
          by = looked_by (slice_get vs.values k) e vs m k f b next
              (λ v. h v _ _ (holds_look memory s told below vs m k holds));
        })

    own_so : (go : Bool) (us : Slots) (m n : Tracked) (f : Slots → Run B) (b : ℕ) (next : Tracked → Ending Tracked)
        → Gives (f us b) b Good on (next n)
        → GivesBy (follow (attempt t (if go then Ok us else Err ill_typed) b) f) b Good on
        (on_result t (or_failure ill_typed (if go then Some n else None)) m next)
    own_so true us m n f b next h = h.by
    own_so false us m n f b next h = (m, refl)

    own_by : (o : Option Datum) (vs : Slots) (m : Tracked) (k : ℕ) (v : Datum) (f : Slots → Run B) (b : ℕ)
        (next : Tracked → Ending Tracked) → Gives (f (slice_set vs k v) b) b Good on (next (assigned_slot m (s.start + k) v))
        → GivesBy (follow (attempt t (stored_over o vs k v) b) f) b Good on
        (on_result t (or_failure ill_typed (replaced m (s.start + k) v o)) m next)
    own_by (Some old) vs m k v f b next h =
        own_so (may_replace old v) (slice_set vs k v) m (assigned_slot m (s.start + k) v) f b next h
    own_by None vs m k v f b next h = (m, refl)

    -- a value is assigned to a slot of a function, whose marks are unknown
    pub storing_own : (vs : Slots) (m : Tracked) (k : ℕ) (v : Datum) (f : Slots → Run B) (b : ℕ)
        (next : Tracked → Ending Tracked) → Holds memory s told below (unmarked_values vs) m → k < s.size
        → ((us : Slots) (n : Tracked) → Holds memory s told below (unmarked_values us) n
        → Gives (f us b) b Good on (next n))
        → Gives (follow (attempt t (stored_at vs k v) b) f) b Good on (on_put tracking t m (s.start + k) v next)
    storing_own vs m k v f b next holds lt h =
        by_eq (ap (λ o. on_result t (or_failure ill_typed (replaced m (s.start + k) v o)) m next)
        (holds.values.here k lt))
        (record {
          by = own_by (slice_get vs k) vs m k v f b next
              (h _ _ (holds_set memory s told below (unmarked_values vs) m k v room lt holds));
        })

  -- the value of a variable
  pub loading : (Good : Datum × Tracked → Tracked → Type 0) (on : Datum → Tracked → ℕ → Ending Tracked)
      (vs m : Tracked) (k b : ℕ) → Holds memory s told below vs m → k < s.size
      → ((v : Datum) (us n : Tracked) → Holds memory s told below us n → Good (v, us) n)
      → Gives (marked_load t vs k b) b Good (λ r. on r.0) (on_variable tracking t m (s.start + k) (λ v n. on v n b))
  loading Good on vs m k b holds lt h =
      looking Good (λ r. on r.0) valueless vs m k _ b _ holds lt (λ v us n g.
      taking t (or_failure valueless (known (Some v))) (λ w. give (w, us)) b n (λ w. on w n b) (λ w.
      given n (h w us n g)))

  last_by : (Good : Datum → Tracked → Type 0) (on : Datum → Tracked → ℕ → Ending Tracked) (o : Option Datum)
      (m : Tracked) (k b : ℕ) → ((v : Datum) → Good v (looked_at m k))
      → Gives (attempt t (or_failure ill_typed o) b) b Good on
      (on_result t (or_failure ill_typed (looked m k o)) m (λ r. on r.0 r.1 b))
  last_by Good on (Some v) m k b h = given (looked_at m k) (h v)
  last_by Good on None m k b h = record { by = (m, refl) }

  -- a slot's value as it is, at the end
  pub looking_last : (Good : Datum → Tracked → Type 0) (on : Datum → Tracked → ℕ → Ending Tracked) (vs m : Tracked)
      (k b : ℕ) → Holds memory s told below vs m → k < s.size
      → ((v : Datum) (us n : Tracked) → Holds memory s told below us n → Good v n)
      → Gives (attempt t (or_failure ill_typed (slice_get vs.values k)) b) b Good on
      (on_look tracking t ill_typed m (s.start + k) (λ v n. on v n b))
  looking_last Good on vs m k b holds lt h =
      by_eq (ap (λ o. on_result t (or_failure ill_typed (looked m (s.start + k) o)) m (λ r. on r.0 r.1 b))
      (holds.values.here k lt))
      (last_by Good on (slice_get vs.values k) m (s.start + k) b
      (λ v. h v _ _ (holds_look memory s told below vs m k holds)))
