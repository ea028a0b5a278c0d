-- A run that marks is the plain one, and over other values that agree where it read it ends alike.
use Rattle.std.proofs.Common.{◌≡◌, ℕ, suc, ◌==◌, ◌<◌, Bool, true, false, if◌then◌else◌, List, [], length}
use Rattle.std.proofs.Common.{Option, Some, None, refl, sym, ap, ◌∙◌, subst, arith}
use Rattle.std.specs.Prelude.{slice_get, slice_set}
use Rattle.std.proofs.lemmas.Bool.Decides.{nat_tests}
use Rattle.st_types.specs.Values.{Datum}
use Rattle.st_types.specs.declared.fault.Fault.{Fault}
use Rattle.st_meaning.specs.Failures.{Failure, ill_typed, StuckFaults, fault_for, or_failure}
use Rattle.st_meaning.specs.Stores.{may_replace}
use Rattle.machine_code.specs.declared.instr.Instr.{Instr}
use Rattle.machine_code.specs.Memories.{plain}
use Rattle.machine_code.specs.Memories as plainly
use Rattle.machine_code.specs.Machine.{Ending, finished, failed, on_result, runs, most}
use Rattle.machine_code.specs.Simulation.{Simulation}
use Rattle.machine_code.specs.Tracking.{Tracked, tracked, tracking, with_mark, seen, assigned, looked, assigned_slot}
use Rattle.machine_code.specs.Tracking.{replaced}
use Rattle.machine_code.specs.Tracking.{overwritten, is_read_in, is_assigned_in, read_by, assigned_by, memory_of}
use Rattle.machine_code.specs.Tracking.{unmarked}
use Rattle.machine_code.specs.Tracking.{EndsLike, AreOfKind}
use Rattle.machine_code.proofs.MarkLemmas.{set_here, set_elsewhere, set_long, there_within, within_there, mark_here}
use Rattle.machine_code.proofs.MarkLemmas.{mark_elsewhere, mark_long, seen_reads, seen_assigns, seen_first}
use Rattle.machine_code.proofs.MarkLemmas.{assigned_reads, assigned_assigns}
use Rattle.machine_code.proofs.Simulating.{exec_sim}

-- without its marks the run is the plain one
record Own (m : Tracked) (vs : List Datum) (e : Ending Tracked) (d : Ending (List Datum)) : Type 0 where
  by : vs ≡ m.values → d ≡ unmarked e

module _ (t : StuckFaults) where
  look_own : (e : Failure) (m : Tracked) (vs : List Datum) (k : ℕ) (f : Datum → Tracked → Ending Tracked)
      (g : Datum → List Datum → Ending (List Datum))
      → ((v : Datum) (n : Tracked) (us : List Datum) → Own n us (f v n) (g v us)) → vs ≡ m.values → (o : Option Datum)
      → on_result t (or_failure e (plainly.looked vs o)) vs (λ r. g r.0 r.1)
      ≡ unmarked (on_result t (or_failure e (looked m k o)) m (λ r. f r.0 r.1))
  look_own e m vs k f g h is (Some v) = (h v (tracked m.values (with_mark seen m.marks k)) vs).by is
  look_own e m vs k f g h is None = ap (λ x. failed x (fault_for t e)) is

  write_own : (m : Tracked) (vs : List Datum) (k : ℕ) (v : Datum) (f : Tracked → Ending Tracked)
      (g : List Datum → Ending (List Datum)) → ((n : Tracked) (us : List Datum) → Own n us (f n) (g us))
      → vs ≡ m.values → (go : Bool)
      → on_result t (or_failure ill_typed (if go then Some (slice_set vs k v) else None)) vs g
      ≡ unmarked (on_result t (or_failure ill_typed (if go then Some (assigned_slot m k v) else None)) m f)
  write_own m vs k v f g h is true = (h (assigned_slot m k v) (slice_set vs k v)).by (ap (λ x. slice_set x k v) is)
  write_own m vs k v f g h is false = ap (λ x. failed x t.wrong) is

  put_own : (m : Tracked) (vs : List Datum) (k : ℕ) (v : Datum) (f : Tracked → Ending Tracked)
      (g : List Datum → Ending (List Datum)) → ((n : Tracked) (us : List Datum) → Own n us (f n) (g us))
      → vs ≡ m.values → (o : Option Datum)
      → on_result t (or_failure ill_typed (plainly.replaced vs k v o)) vs g
      ≡ unmarked (on_result t (or_failure ill_typed (replaced m k v o)) m f)
  put_own m vs k v f g h is (Some old) = write_own m vs k v f g h is (may_replace old v)
  put_own m vs k v f g h is None = ap (λ x. failed x t.wrong) is

  reset_own : (m : Tracked) (vs : List Datum) (k : ℕ) (v : Datum) (f : Tracked → Ending Tracked)
      (g : List Datum → Ending (List Datum)) → ((n : Tracked) (us : List Datum) → Own n us (f n) (g us))
      → vs ≡ m.values → (o : Option Datum)
      → on_result t (or_failure ill_typed (plainly.overwritten vs k v o)) vs g
      ≡ unmarked (on_result t (or_failure ill_typed (overwritten m k v o)) m f)
  reset_own m vs k v f g h is (Some old) = write_own m vs k v f g h is true
  reset_own m vs k v f g h is None = ap (λ x. failed x t.wrong) is

  own_sim : Simulation tracking plain t Own
  own_sim = record {
    at_fault = λ m vs f. record { by = λ is. ap (λ x. failed x f) is };
    at_end = λ m vs b. record { by = λ is. ap (λ x. finished x b) is };
    at_look = λ e m vs k f g h. record {
      by = λ is. ap (λ x. on_result t (or_failure e (plainly.looked vs (slice_get x k))) vs (λ r. g r.0 r.1)) is
          ∙ look_own e m vs k f g h is (slice_get m.values k);
    };
    at_put = λ m vs k v f g h. record {
      by = λ is. ap (λ x. on_result t (or_failure ill_typed (plainly.replaced vs k v (slice_get x k))) vs g) is
          ∙ put_own m vs k v f g h is (slice_get m.values k);
    };
    at_reset = λ m vs k v f g h. record {
      by = λ is. ap (λ x. on_result t (or_failure ill_typed (plainly.overwritten vs k v (slice_get x k))) vs g) is
          ∙ reset_own m vs k v f g h is (slice_get m.values k);
    };
  }

pub marked_runs_alike : (t : StuckFaults) (now : ℕ) (code : List Instr) (p : ℕ) (m : Tracked) (b : ℕ)
    → runs plain t now code p [] m.values b ≡ unmarked (runs tracking t now code p [] m b)
unfolding runs
marked_runs_alike t now code p m b =
    (exec_sim tracking plain t Own (own_sim t) now code (suc (most code p b)) p [] m m.values b).by refl

-- The other values ws, now, beside the marked ones: alike where the run assigned them, and else as at first.
record Tie (vs us : List Datum) (m : Tracked) (ws : List Datum) : Type 0 where
  long : length m.marks ≡ length m.values
  kinds : (k : ℕ) → AreOfKind (slice_get m.values k) (slice_get ws k)
  same : (k : ℕ) → is_assigned_in m k ≡ true → slice_get m.values k ≡ slice_get ws k
  rest : (k : ℕ) → is_assigned_in m k ≡ false
      → (slice_get ws k ≡ slice_get us k) × (slice_get m.values k ≡ slice_get vs k)

abbrev Agree : List Datum → List Datum → Tracked → Type 0
Agree vs us m = (k : ℕ) → is_read_in m k ≡ true → slice_get vs k ≡ slice_get us k

record Good (vs us : List Datum) (m : Tracked) (ws : List Datum) (e : Ending Tracked) (d : Ending
    (List Datum)) : Type 0 where
  grown : (k : ℕ) → is_read_in m k ≡ true → is_read_in (memory_of e) k ≡ true
  alike : Tie vs us m ws → Agree vs us (memory_of e) → EndsLike us e d

same_place : (j k : ℕ) → (k == j) ≡ true → k ≡ j
same_place j k e = grind (arith, nat_tests)

other_place : (j k : ℕ) → (k == j) ≡ false → j ≡ k → ⊥
other_place j k e is = grind (arith, nat_tests)

module _ (t : StuckFaults) (vs us : List Datum) where
  failing : (m : Tracked) (ws : List Datum) (f : Fault) → Good vs us m ws (failed m f) (failed ws f)
  failing m ws f = record { grown = λ k h. h; alike = λ tie ag. refl }

  -- the marked values are alike, so that only one of two ways can be
  unlike : (m : Tracked) (ws : List Datum) (f : Fault) (d : Ending (List Datum)) → (Tie vs us m ws → ⊥)
      → Good vs us m ws (failed m f) d
  unlike m ws f d never = record { grown = λ k h. h; alike = λ tie ag. absurd (never tie) }

  ending : (m : Tracked) (ws : List Datum) (b : ℕ) → Good vs us m ws (finished m b) (finished ws b)
  ending m ws b = record { grown = λ k h. h; alike = λ tie ag. (refl, λ k. at tie k (is_assigned_in m k) refl) }
    where
      at : Tie vs us m ws → (k : ℕ) (b : Bool) → is_assigned_in m k ≡ b
          → slice_get ws k ≡ (if b then slice_get m.values k else slice_get us k)
      at tie k true e = sym (tie.same k e)
      at tie k false e = (tie.rest k e).0

  -- a slot is looked up
  abbrev after_look : Tracked → ℕ → Tracked
  after_look m k = tracked m.values (with_mark seen m.marks k)

  look_reads : (m : Tracked) (k j : ℕ) → is_read_in m j ≡ true → is_read_in (after_look m k) j ≡ true
  look_reads m k j h = by_test (k == j) refl
    where
      by_test : (b : Bool) → (k == j) ≡ b → is_read_in (after_look m k) j ≡ true
      by_test true e =
          let is = same_place j k e in
          subst (λ i. is_read_in m i ≡ true → is_read_in (after_look m k) i ≡ true) is
          (λ h. ap read_by (mark_here seen m.marks k) ∙ seen_reads (slice_get m.marks k) h) h
      by_test false e = ap read_by (mark_elsewhere seen m.marks k j (other_place j k e)) ∙ h

  look_assigns : (m : Tracked) (k j : ℕ) → is_assigned_in (after_look m k) j ≡ is_assigned_in m j
  look_assigns m k j = by_test (k == j) refl
    where
      by_test : (b : Bool) → (k == j) ≡ b → is_assigned_in (after_look m k) j ≡ is_assigned_in m j
      by_test true e =
          subst (λ i. is_assigned_in (after_look m k) i ≡ is_assigned_in m i) (same_place j k e)
          (ap assigned_by (mark_here seen m.marks k) ∙ seen_assigns (slice_get m.marks k))
      by_test false e = ap assigned_by (mark_elsewhere seen m.marks k j (other_place j k e))

  look_tie : (m : Tracked) (ws : List Datum) (k : ℕ) → Tie vs us m ws → Tie vs us (after_look m k) ws
  look_tie m ws k tie = record {
    long = mark_long seen m.marks k ∙ tie.long;
    kinds = tie.kinds;
    same = λ j h. tie.same j (sym (look_assigns m k j) ∙ h);
    rest = λ j h. tie.rest j (sym (look_assigns m k j) ∙ h);
  }

  -- a value that was looked up is the same in both
  value_same : (m : Tracked) (ws : List Datum) (k : ℕ) (v w : Datum) → slice_get m.values k ≡ Some v
      → slice_get ws k ≡ Some w → Tie vs us m ws
      → (is_read_in (after_look m k) k ≡ true → slice_get vs k ≡ slice_get us k) → v ≡ w
  value_same m ws k v w at there tie read = by_test (is_assigned_in m k) refl
    where
      by_test : (b : Bool) → is_assigned_in m k ≡ b → v ≡ w
      by_test true e = (let is : Some v ≡ Some w = sym at ∙ tie.same k e ∙ there in cc)
      by_test false e =
          let lt = there_within m.values k v at in
          let mark = within_there m.marks k (let l = tie.long in omega arith) in
          let first : is_read_in (after_look m k) k ≡ true =
          ap read_by (mark_here seen m.marks k) ∙ seen_first (slice_get m.marks k) mark.0 mark.1 e in
          let r = tie.rest k e in
          let is : Some v ≡ Some w = sym at ∙ r.1 ∙ read first ∙ sym r.0 ∙ there in
          cc

  looking : (e : Failure) (m : Tracked) (ws : List Datum) (k : ℕ) (f : Datum → Tracked → Ending Tracked)
      (g : Datum → List Datum → Ending (List Datum))
      → ((v : Datum) (n : Tracked) (xs : List Datum) → Good vs us n xs (f v n) (g v xs)) → (o p : Option Datum)
      → slice_get m.values k ≡ o → slice_get ws k ≡ p
      → Good vs us m ws (on_result t (or_failure e (looked m k o)) m (λ r. f r.0 r.1))
      (on_result t (or_failure e (plainly.looked ws p)) ws (λ r. g r.0 r.1))
  looking e m ws k f g h None None at there = failing m ws (fault_for t e)
  looking e m ws k f g h None (Some w) at there =
      unlike m ws (fault_for t e) _ (λ tie. subst (λ x. AreOfKind None x) there
      (subst (λ x. AreOfKind x (slice_get ws k)) at (tie.kinds k)))
  looking e m ws k f g h (Some v) None at there = record {
    grown = λ j r. (h v (after_look m k) ws).grown j (look_reads m k j r);
    alike = λ tie ag. absurd (subst (λ x. AreOfKind (Some v) x) there
        (subst (λ x. AreOfKind x (slice_get ws k)) at (tie.kinds k)));
  }
  looking e m ws k f g h (Some v) (Some w) at there =
      let n = after_look m k in
      let good = h v n ws in
      record {
        grown = λ j r. good.grown j (look_reads m k j r);
        alike = λ tie ag. subst (λ x. EndsLike us (f v n) (g x ws))
            (value_same m ws k v w at there tie (λ r. ag k (good.grown k r))) (good.alike (look_tie m ws k tie) ag);
      }

  -- a slot is assigned in both
  write_reads : (m : Tracked) (k : ℕ) (v : Datum) (j : ℕ) → is_read_in (assigned_slot m k v) j ≡ is_read_in m j
  write_reads m k v j = by_test (k == j) refl
    where
      by_test : (b : Bool) → (k == j) ≡ b → is_read_in (assigned_slot m k v) j ≡ is_read_in m j
      by_test true e =
          subst (λ i. is_read_in (assigned_slot m k v) i ≡ is_read_in m i) (same_place j k e)
          (ap read_by (mark_here assigned m.marks k) ∙ assigned_reads (slice_get m.marks k))
      by_test false e = ap read_by (mark_elsewhere assigned m.marks k j (other_place j k e))

  write_tie : (m : Tracked) (ws : List Datum) (k : ℕ) (v old w : Datum) → slice_get m.values k ≡ Some old
      → slice_get ws k ≡ Some w → Tie vs us m ws → Tie vs us (assigned_slot m k v) (slice_set ws k v)
  write_tie m ws k v old w at there tie = record {
    long = mark_long assigned m.marks k ∙ tie.long ∙ sym (set_long m.values k v);
    kinds = λ j. kind_at j (k == j) refl;
    same = λ j h. same_at j (k == j) refl h;
    rest = λ j h. rest_at j (k == j) refl h;
  }
    where
      in_values : k < length m.values
      in_values = there_within m.values k old at

      both : slice_get (slice_set m.values k v) k ≡ slice_get (slice_set ws k v) k
      both = set_here m.values k v in_values ∙ sym (set_here ws k v (there_within ws k w there))

      kind_at : (j : ℕ) (b : Bool) → (k == j) ≡ b
          → AreOfKind (slice_get (slice_set m.values k v) j) (slice_get (slice_set ws k v) j)
      kind_at j true e =
          subst (λ i. AreOfKind (slice_get (slice_set m.values k v) i) (slice_get (slice_set ws k v) i))
          (same_place j k e)
          (rw (set_here m.values k v in_values, set_here ws k v (there_within ws k w there)) refl)
      kind_at j false e =
          rw (set_elsewhere m.values j k v (other_place j k e), set_elsewhere ws j k v (other_place j k e))
          (tie.kinds j)

      before : (j : ℕ) → (k == j) ≡ false → is_assigned_in (assigned_slot m k v) j ≡ is_assigned_in m j
      before j e = ap assigned_by (mark_elsewhere assigned m.marks k j (other_place j k e))

      same_at : (j : ℕ) (b : Bool) → (k == j) ≡ b → is_assigned_in (assigned_slot m k v) j ≡ true
          → slice_get (slice_set m.values k v) j ≡ slice_get (slice_set ws k v) j
      same_at j true e h =
          subst (λ i. slice_get (slice_set m.values k v) i ≡ slice_get (slice_set ws k v) i) (same_place j k e) both
      same_at j false e h =
          set_elsewhere m.values j k v (other_place j k e) ∙ tie.same j (sym (before j e) ∙ h)
          ∙ sym (set_elsewhere ws j k v (other_place j k e))

      assigned_here : is_assigned_in (assigned_slot m k v) k ≡ true
      assigned_here =
          let mark = within_there m.marks k (let l = tie.long in let i = in_values in omega arith) in
          ap assigned_by (mark_here assigned m.marks k) ∙ assigned_assigns (slice_get m.marks k) mark.0 mark.1

      rest_at : (j : ℕ) (b : Bool) → (k == j) ≡ b → is_assigned_in (assigned_slot m k v) j ≡ false
          → (slice_get (slice_set ws k v) j ≡ slice_get us j) × (slice_get (slice_set m.values k v) j ≡ slice_get vs j)
      rest_at j true e h =
          absurd (let f : true ≡ false = sym (subst (λ i. is_assigned_in (assigned_slot m k v) i ≡ true) (same_place j k e)
          assigned_here) ∙ h in cc)
      rest_at j false e h =
          let r = tie.rest j (sym (before j e) ∙ h) in
          (set_elsewhere ws j k v (other_place j k e) ∙ r.0, set_elsewhere m.values j k v (other_place j k e) ∙ r.1)

  writing_so : (m : Tracked) (ws : List Datum) (k : ℕ) (v old w : Datum) (f : Tracked → Ending Tracked)
      (g : List Datum → Ending (List Datum)) → ((n : Tracked) (xs : List Datum) → Good vs us n xs (f n) (g xs))
      → slice_get m.values k ≡ Some old → slice_get ws k ≡ Some w → (a b : Bool) → (Tie vs us m ws → a ≡ b)
      → Good vs us m ws (on_result t (or_failure ill_typed (if a then Some (assigned_slot m k v) else None)) m f)
      (on_result t (or_failure ill_typed (if b then Some (slice_set ws k v) else None)) ws g)
  writing_so m ws k v old w f g h at there true true same =
      let good = h (assigned_slot m k v) (slice_set ws k v) in
      record {
        grown = λ j r. good.grown j (write_reads m k v j ∙ r);
        alike = λ tie ag. good.alike (write_tie m ws k v old w at there tie) ag;
      }
  writing_so m ws k v old w f g h at there false false same = failing m ws t.wrong
  writing_so m ws k v old w f g h at there true false same =
      let good = h (assigned_slot m k v) (slice_set ws k v) in
      record {
        grown = λ j r. good.grown j (write_reads m k v j ∙ r);
        alike = λ tie ag. absurd (let e = same tie in cc);
      }
  writing_so m ws k v old w f g h at there false true same =
      unlike m ws t.wrong _ (λ tie. (let e = same tie in cc))

  -- values that are in one alone
  one_alone : (m : Tracked) (ws : List Datum) (k : ℕ) (v old : Datum) (f : Tracked → Ending Tracked) (go : Bool)
      (d : Ending (List Datum)) (g : List Datum → Ending (List Datum))
      → ((n : Tracked) (xs : List Datum) → Good vs us n xs (f n) (g xs)) → (Tie vs us m ws → ⊥)
      → Good vs us m ws (on_result t (or_failure ill_typed (if go then Some (assigned_slot m k v) else None)) m f) d
  one_alone m ws k v old f true d g h never = record {
    grown = λ j r. (h (assigned_slot m k v) ws).grown j (write_reads m k v j ∙ r);
    alike = λ tie ag. absurd (never tie);
  }
  one_alone m ws k v old f false d g h never = unlike m ws t.wrong d never

  putting : (m : Tracked) (ws : List Datum) (k : ℕ) (v : Datum) (f : Tracked → Ending Tracked)
      (g : List Datum → Ending (List Datum)) → ((n : Tracked) (xs : List Datum) → Good vs us n xs (f n) (g xs))
      → (o p : Option Datum) → slice_get m.values k ≡ o → slice_get ws k ≡ p
      → Good vs us m ws (on_result t (or_failure ill_typed (replaced m k v o)) m f)
      (on_result t (or_failure ill_typed (plainly.replaced ws k v p)) ws g)
  putting m ws k v f g h None None at there = failing m ws t.wrong
  putting m ws k v f g h None (Some w) at there =
      unlike m ws t.wrong _ (λ tie. subst (λ x. AreOfKind None x) there
      (subst (λ x. AreOfKind x (slice_get ws k)) at (tie.kinds k)))
  putting m ws k v f g h (Some old) None at there =
      one_alone m ws k v old f (may_replace old v) _ g h (λ tie. subst (λ x. AreOfKind (Some old) x) there
      (subst (λ x. AreOfKind x (slice_get ws k)) at (tie.kinds k)))
  putting m ws k v f g h (Some old) (Some w) at there =
      writing_so m ws k v old w f g h at there (may_replace old v) (may_replace w v)
      (λ tie. (let e : old.kind ≡ w.kind = subst (λ x. AreOfKind (Some old) x) there
      (subst (λ x. AreOfKind x (slice_get ws k)) at (tie.kinds k)) in rw e refl))

  resetting : (m : Tracked) (ws : List Datum) (k : ℕ) (v : Datum) (f : Tracked → Ending Tracked)
      (g : List Datum → Ending (List Datum)) → ((n : Tracked) (xs : List Datum) → Good vs us n xs (f n) (g xs))
      → (o p : Option Datum) → slice_get m.values k ≡ o → slice_get ws k ≡ p
      → Good vs us m ws (on_result t (or_failure ill_typed (overwritten m k v o)) m f)
      (on_result t (or_failure ill_typed (plainly.overwritten ws k v p)) ws g)
  resetting m ws k v f g h None None at there = failing m ws t.wrong
  resetting m ws k v f g h None (Some w) at there =
      unlike m ws t.wrong _ (λ tie. subst (λ x. AreOfKind None x) there
      (subst (λ x. AreOfKind x (slice_get ws k)) at (tie.kinds k)))
  resetting m ws k v f g h (Some old) None at there =
      one_alone m ws k v old f true _ g h (λ tie. subst (λ x. AreOfKind (Some old) x) there
      (subst (λ x. AreOfKind x (slice_get ws k)) at (tie.kinds k)))
  resetting m ws k v f g h (Some old) (Some w) at there =
      writing_so m ws k v old w f g h at there true true (λ tie. refl)

  simulation : Simulation tracking plain t (Good vs us)
  simulation = record {
    at_fault = failing;
    at_end = ending;
    at_look = λ e m ws k f g h. looking e m ws k f g h (slice_get m.values k) (slice_get ws k) refl refl;
    at_put = λ m ws k v f g h. putting m ws k v f g h (slice_get m.values k) (slice_get ws k) refl refl;
    at_reset = λ m ws k v f g h. resetting m ws k v f g h (slice_get m.values k) (slice_get ws k) refl refl;
  }

-- The run over other values of the same types that agree where it read ends alike.
pub marked_reads_suffice : (t : StuckFaults) (now : ℕ) (code : List Instr) (p : ℕ) (m : Tracked) (us : List Datum) (b : ℕ)
    → length m.marks ≡ length m.values → ((k : ℕ) → is_assigned_in m k ≡ false)
    → ((k : ℕ) → AreOfKind (slice_get m.values k) (slice_get us k))
    → ((k : ℕ) → is_read_in (memory_of (runs tracking t now code p [] m b)) k ≡ true
    → slice_get m.values k ≡ slice_get us k)
    → EndsLike us (runs tracking t now code p [] m b) (runs plain t now code p [] us b)
unfolding runs
marked_reads_suffice t now code p m us b long none kinds ag =
    (exec_sim tracking plain t (Good m.values us) (simulation t m.values us) now code (suc (most code p b)) p [] m us
    b).alike (record {
      long = long;
      kinds = kinds;
      same = λ k h. absurd (let e = none k in cc);
      rest = λ k h. (refl, refl);
    }) ag
