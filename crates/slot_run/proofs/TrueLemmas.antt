-- The effect of a run is true over every layout whose programs its code means.
use Rattle.std.proofs.Common.{◌≡◌, ℕ, zero, suc, ◌≤◌, Bool, true, false, if◌then◌else◌, List, [], ◌∷◌, ◌++◌, map}
use Rattle.std.proofs.Common.{length, take, Option, Some, None, refl, sym, ap, ◌∙◌, subst, arith}
use Rattle.std.specs.Prelude.{slice_get, replicate}
use Rattle.std.proofs.lemmas.List.{length-replicate, length-take, length-append}
use Rattle.st_types.specs.Values.{Datum, bool_datum}
use Rattle.st_types.specs.declared.fault.Fault.{Fault}
use Rattle.st_types.specs.declared.kind.Kind.{Kind}
use Rattle.st_meaning.specs.declared.outcome.Outcome.{Outcome}
use Rattle.st_meaning.specs.declared.outcome.Outcome.TheVariants.{Done, Faulted}
use Rattle.st_meaning.specs.Failures.{in_runs}
use Rattle.st_meaning.specs.Slots.{Slot, Cell, AreOfTypes, variables_with, inputs_in, agrees, after_writes}
use Rattle.slot_trees.specs.Seeing.{Sees}
use Rattle.machine_code.specs.declared.mark.Mark.{Mark}
use Rattle.machine_code.specs.Machine.{Ending, finished, failed, runs}
use Rattle.machine_code.specs.Tracking.{Tracked, tracked, tracking, memory_of, are_read, are_assigned, read_by}
use Rattle.machine_code.specs.Tracking.{assigned_by}
use Rattle.machine_code.specs.Tracking.{EndsLike, AreOfKind}
use Rattle.machine_code.specs.Endings.{outcome_at_end, values_at_end}
use Rattle.machine_code.proofs.Tracks.{marked_reads_suffice}
use Rattle.slot_code.specs.Codes.{CodeView}
use Rattle.slot_code.specs.Meanings.{code_run}
use Rattle.slot_memory.specs.Cells.{picked, writes_left, AreAscending}
use Rattle.slot_run.specs.Runs.{memory_over, marked_run, reads_of, writes_of, EndsAs}
use Rattle.slot_run.specs.Runs.{HasRoomFor}
use Rattle.slot_run.specs.Effects.{IsTrueOf}
use Rattle.slot_memory.proofs.PickedLemmas.{picked_ascend, read_agrees, written_behind, picked_none}
use Rattle.slot_code.specs.Quick.{unmarked, unmarked_slots}

-- Values of slots and the values after them.
abbrev kinds_of : List Datum → List Kind
kinds_of vs = map (λ v. v.kind) vs

kind_itself : (o : Option Datum) → AreOfKind o o
kind_itself (Some v) = refl
kind_itself None = tt

same_kinds : (us vs rest : List Datum) → kinds_of us ≡ kinds_of vs → (k : ℕ)
    → AreOfKind (slice_get (us ++ rest) k) (slice_get (vs ++ rest) k)
same_kinds [] [] rest e k = kind_itself (slice_get rest k)
same_kinds [] (v ∷ vs) rest e k = absurd (cc)
same_kinds (u ∷ us) [] rest e k = absurd (cc)
same_kinds (u ∷ us) (v ∷ vs) rest e zero = cc
same_kinds (u ∷ us) (v ∷ vs) rest e (suc k) = same_kinds us vs rest (cc) k

as_many : (us vs : List Datum) → kinds_of us ≡ kinds_of vs → length us ≡ length vs
as_many [] [] e = refl
as_many [] (v ∷ vs) e = absurd (cc)
as_many (u ∷ us) [] e = absurd (cc)
as_many (u ∷ us) (v ∷ vs) e = ap suc (as_many us vs (cc))

pub as_many_slots : (layout : List Slot) (vs : List Datum) → AreOfTypes layout vs → length layout ≡ length vs
as_many_slots [] [] e = refl
as_many_slots [] (v ∷ vs) e = absurd (cc)
as_many_slots (l ∷ layout) [] e = absurd (cc)
as_many_slots (l ∷ layout) (v ∷ vs) e = ap suc (as_many_slots layout vs (cc))

pub in_front : (us rest : List Datum) (k : ℕ) (u : Datum) → slice_get us k ≡ Some u → slice_get (us ++ rest) k ≡ Some u
in_front [] rest k u e = absurd (cc)
in_front (v ∷ us) rest zero u e = e
in_front (v ∷ us) rest (suc k) u e = in_front us rest k u e

same_behind : (us vs rest : List Datum) (k : ℕ) → length us ≡ length vs → slice_get us k ≡ None
    → slice_get (us ++ rest) k ≡ slice_get (vs ++ rest) k
same_behind [] [] rest k long e = refl
same_behind [] (v ∷ vs) rest k long e = absurd (omega arith)
same_behind (u ∷ us) [] rest k long e = absurd (omega arith)
same_behind (u ∷ us) (v ∷ vs) rest zero long e = absurd (cc)
same_behind (u ∷ us) (v ∷ vs) rest (suc k) long e = same_behind us vs rest k (omega arith) e

same_read : (us vs rest : List Datum) (marks : List Mark) → length us ≡ length vs
    → agrees vs (picked (are_read marks) 0 us) ≡ true → (k : ℕ) → read_by (slice_get marks k) ≡ true
    → slice_get (us ++ rest) k ≡ slice_get (vs ++ rest) k
same_read us vs rest marks long agree k read = by_value (slice_get us k) refl
  where
    by_value : (o : Option Datum) → slice_get us k ≡ o → slice_get (us ++ rest) k ≡ slice_get (vs ++ rest) k
    by_value None e = same_behind us vs rest k long e
    by_value (Some u) e =
        in_front us rest k u e ∙ sym (in_front vs rest k u (read_agrees marks us vs k u agree read e))

-- no mark at the unmarked_slots
pub none_marked : (n k : ℕ) → assigned_by (slice_get (replicate n unmarked) k) ≡ false
none_marked zero k = refl
none_marked (suc n) zero = refl
none_marked (suc n) (suc k) = none_marked n k

-- The values that the run assigned, over other values.
abbrev assigned_or_kept : List Mark → List Datum → List Datum → ℕ → Option Datum
assigned_or_kept marks us vs k = if assigned_by (slice_get marks k) then slice_get us k else slice_get vs k

first_is : (ws vs : List Datum) (w : Datum) → slice_get ws 0 ≡ Some w → (us : List Datum) × (ws ≡ w ∷ us)
first_is [] vs w e = absurd (cc)
first_is (x ∷ ws) vs w e = (ws, let is : x ≡ w = cc in ap (λ y. y ∷ ws) is)

rest_of : (ws us : List Datum) (w : Datum) (k : ℕ) → ws ≡ w ∷ us → slice_get ws (suc k) ≡ slice_get us k
rest_of ws us w k e = ap (λ xs. slice_get xs (suc k)) e

values_left : (marks : List Mark) (us vs rest ws : List Datum) → length vs ≤ length us
    → ((k : ℕ) → slice_get ws k ≡ assigned_or_kept marks us (vs ++ rest) k)
    → take (length vs) ws ≡ after_writes vs (picked (are_assigned marks) 0 (take (length vs) us))
values_left marks us [] rest ws le h = ap (after_writes []) (sym (picked_none (are_assigned marks) 0))
values_left marks [] (v ∷ vs) rest ws le h = absurd (omega arith)
values_left [] (u ∷ us) (v ∷ vs) rest ws le h =
    let f = first_is ws vs v (h 0) in
    ap (take (suc (length vs))) f.1
    ∙ ap (λ xs. v ∷ xs) (values_left [] us vs rest f.0 (omega arith) (λ k. sym (rest_of ws f.0 v k f.1) ∙ h (suc k)))
values_left (x ∷ marks) (u ∷ us) (v ∷ vs) rest ws le h =
    by_test x.is_assigned (h 0)
    (λ w f e. values_left marks us vs rest f (omega arith) (λ k. sym (rest_of ws f w k e) ∙ h (suc k)))
  where
    by_test : (t : Bool) → slice_get ws 0 ≡ (if t then Some u else Some v)
        → ((w : Datum) (f : List Datum) → ws ≡ w ∷ f → take (length vs) f
        ≡ after_writes vs (picked (are_assigned marks) 0 (take (length vs) us)))
        → take (suc (length vs)) ws ≡ after_writes (v ∷ vs)
        (if t then (0, u) ∷ picked (are_assigned marks) 1 (take (length vs) us)
        else picked (are_assigned marks) 1 (take (length vs) us))
    by_test true at go =
        let f = first_is ws vs u at in
        ap (take (suc (length vs))) f.1 ∙ ap (λ xs. u ∷ xs) (go u f.0 f.1)
        ∙ sym (written_behind (are_assigned marks) (take (length vs) us) 0 u vs)
    by_test false at go =
        let f = first_is ws vs v at in
        ap (take (suc (length vs))) f.1 ∙ ap (λ xs. v ∷ xs) (go v f.0 f.1)
        ∙ sym (written_behind (are_assigned marks) (take (length vs) us) 0 v vs)

-- Equal ends.
same_outcome : (us : List Datum) (e : Ending Tracked) (d : Ending (List Datum)) → EndsLike us e d
    → outcome_at_end d ≡ outcome_at_end e
same_outcome us (finished m b) (finished ws c) h = refl
same_outcome us (failed m f) (failed ws g) h = ap Faulted (sym h)
same_outcome us (finished m b) (failed ws g) h = absurd h
same_outcome us (failed m f) (finished ws c) h = absurd h

same_values : (us vs rest : List Datum) (e : Ending Tracked) (d : Ending (List Datum)) → length us ≡ length vs
    → HasRoomFor (length us) e → EndsLike (vs ++ rest) e d → values_at_end d vs ≡ after_writes vs (writes_of e us)
same_values us vs rest (finished m b) (finished ws c) long enough h =
    values_left m.marks m.values vs rest ws (omega arith) h.1
    ∙ ap (λ n. after_writes vs (picked (are_assigned m.marks) 0 (take n m.values))) (sym long)
same_values us vs rest (failed m f) (failed ws g) long enough h = refl
same_values us vs rest (finished m b) (failed ws g) long enough h = absurd h
same_values us vs rest (failed m f) (finished ws c) long enough h = absurd h

none_written : (us : List Datum) (e : Ending Tracked) (f : Fault) → outcome_at_end e ≡ Faulted f → writes_of e us ≡ []
none_written us (finished m b) f is = absurd (cc)
none_written us (failed m g) f is = refl

writes_ascend : (us : List Datum) (e : Ending Tracked) (most : ℕ) → length us ≤ most
    → AreAscending 0 most (writes_of e us)
writes_ascend us (finished m b) most le =
    picked_ascend (are_assigned m.marks) 0 most (take (length us) m.values)
    (let l = length-take (length us) m.values in omega arith)
writes_ascend us (failed m f) most le = tt

module _ (code : CodeView) (now : ℕ) (us : List Datum) (budget : ℕ) (typed : kinds_of us ≡ code.kinds) where
  abbrev spare : List Datum
  spare = replicate code.extra (bool_datum false)

  -- over other values that agree with the reads
  alike : (vs : List Datum) → kinds_of us ≡ kinds_of vs
      → agrees vs (reads_of (marked_run code now us budget) us) ≡ true
      → EndsLike (vs ++ spare) (marked_run code now us budget) (code_run code now (vs ++ spare) budget)
  alike vs same agree =
      let memory = us ++ spare in
      marked_reads_suffice in_runs now code.instrs (length code.instrs) (unmarked_slots memory) (vs ++ spare) budget
      (length-replicate (length memory) unmarked) (none_marked (length memory)) (same_kinds us vs spare same)
      (same_read us vs spare (memory_of (marked_run code now us budget)).marks (as_many us vs same) agree)

  seen_by : (layout : List Slot) (vs : List Datum) → AreOfTypes layout vs
      → Sees layout (inputs_in layout vs) (variables_with layout vs) vs
  seen_by layout vs typed = record { variables = refl; inputs = refl; length = as_many_slots layout vs typed }

  pub run_is_true : HasRoomFor (length us) (marked_run code now us budget)
      → IsTrueOf code now budget (reads_of (marked_run code now us budget) us)
      (writes_of (marked_run code now us budget) us) (outcome_at_end (marked_run code now us budget))
  run_is_true enough =
      let e = marked_run code now us budget in
      let many : length us ≤ length code.kinds = many_kinds in
      record {
        run = λ layout program vs means right agree.
            let same = typed ∙ sym means.kinds ∙ sym right in
            let like = alike vs same agree in
            let sees = seen_by layout vs right in
            let room = length-replicate code.extra (bool_datum false) in (
              means.outcome (inputs_in layout vs) (variables_with layout vs) vs spare now budget sees room
                  ∙ same_outcome (vs ++ spare) e _ like,
              (means.store (inputs_in layout vs) (variables_with layout vs) vs spare now budget sees room).variables
                  ∙ ap (variables_with layout) (same_values us vs spare e _ (as_many us vs same) enough like),
            );
        reads_once = picked_ascend (are_read (memory_of e).marks) 0 (length code.kinds) us (omega (arith, many));
        writes_once = writes_ascend us e (length code.kinds) many;
        none = none_written us e;
      }
    where
      many_of : (xs : List Datum) → length (kinds_of xs) ≡ length xs
      many_of [] = refl
      many_of (x ∷ xs) = ap suc (many_of xs)

      many_kinds : length us ≤ length code.kinds
      many_kinds = let a = many_of us in let b = ap length typed in omega arith

-- The effect of a run, by how it ended.
-- the memory with which a run begins
pub begins : (us memory : List Datum) (n : ℕ) (marks : List Mark) → memory ≡ memory_over us n
    → marks ≡ replicate (length memory) unmarked → tracked memory marks ≡ unmarked_slots (memory_over us n)
begins us memory n marks is clean = ap (tracked memory) clean ∙ ap unmarked_slots is

pub outcome_told : (o : Outcome) (e : Ending Tracked) (n : Tracked) → EndsAs o e n → o ≡ outcome_at_end e
outcome_told Done (finished m b) n h = refl
outcome_told (Faulted f) (failed m g) n h = ap Faulted (sym h.0)
outcome_told Done (failed m g) n h = absurd h
outcome_told (Faulted f) (finished m b) n h = absurd h

pub reads_told : (o : Outcome) (e : Ending Tracked) (n : Tracked) (vs : List Datum) → EndsAs o e n
    → picked (are_read n.marks) 0 vs ≡ reads_of e vs
reads_told Done (finished m b) n vs h = ap (λ m. picked (are_read m.marks) 0 vs) h
reads_told (Faulted f) (failed m g) n vs h = ap (λ bs. picked bs 0 vs) (sym h.1)
reads_told Done (failed m g) n vs h = absurd h
reads_told (Faulted f) (finished m b) n vs h = absurd h

pub writes_told : (o : Outcome) (e : Ending Tracked) (n : Tracked) (vs : List Datum) → EndsAs o e n
    → writes_left o (take (length vs) n.values) n.marks ≡ writes_of e vs
writes_told Done (finished m b) n vs h = ap (λ m. picked (are_assigned m.marks) 0 (take (length vs) m.values)) h
writes_told (Faulted f) (failed m g) n vs h = refl
writes_told Done (failed m g) n vs h = absurd h
writes_told (Faulted f) (finished m b) n vs h = absurd h

pub long_told : (o : Outcome) (e : Ending Tracked) (n : Tracked) (k : ℕ) → EndsAs o e n → k ≤ length n.values
    → HasRoomFor k e
long_told Done (finished m b) n k h le = subst (λ m. k ≤ length m.values) h le
long_told (Faulted f) (failed m g) n k h le = tt
long_told Done (failed m g) n k h le = absurd h
long_told (Faulted f) (finished m b) n k h le = absurd h

module _ (code : CodeView) (now : ℕ) (us : List Datum) (budget : ℕ) (o : Outcome) (n begun : Tracked)
    (reads writes : List Cell) (starts : begun ≡ unmarked_slots (memory_over us code.extra))
    (ends : EndsAs o (runs tracking in_runs now code.instrs (length code.instrs) [] begun budget) n)
    (reads_are : reads ≡ picked (are_read n.marks) 0 us)
    (writes_are : writes ≡ writes_left o (take (length us) n.values) n.marks) where
  ended : EndsAs o (marked_run code now us budget) n
  ended = subst (λ m. EndsAs o (runs tracking in_runs now code.instrs (length code.instrs) [] m budget) n) starts ends

  pub outcome_is : o ≡ outcome_at_end (marked_run code now us budget)
  outcome_is = outcome_told o (marked_run code now us budget) n ended

  pub reads_is : reads ≡ reads_of (marked_run code now us budget) us
  reads_is = reads_are ∙ reads_told o (marked_run code now us budget) n us ended

  pub writes_is : writes ≡ writes_of (marked_run code now us budget) us
  writes_is = writes_are ∙ writes_told o (marked_run code now us budget) n us ended

  pub is_long : length us ≤ length n.values → HasRoomFor (length us) (marked_run code now us budget)
  is_long le = long_told o (marked_run code now us budget) n (length us) ended le

-- the reported result of a run is true
pub told_is_true : (code : CodeView) (now : ℕ) (us : List Datum) (budget : ℕ) (reads writes : List Cell) (o : Outcome)
    → kinds_of us ≡ code.kinds → HasRoomFor (length us) (marked_run code now us budget)
    → reads ≡ reads_of (marked_run code now us budget) us → writes ≡ writes_of (marked_run code now us budget) us
    → o ≡ outcome_at_end (marked_run code now us budget) → IsTrueOf code now budget reads writes o
told_is_true code now us budget reads writes o typed long reads_are writes_are outcome_is =
    let e = marked_run code now us budget in
    subst (λ x. IsTrueOf code now budget reads writes x) (sym outcome_is)
    (subst (λ x. IsTrueOf code now budget reads x (outcome_at_end e)) (sym writes_are)
    (subst (λ x. IsTrueOf code now budget x (writes_of e us) (outcome_at_end e)) (sym reads_are)
    (run_is_true code now us budget typed long)))

-- the memory with which a run begins has the values of the slots
pub begins_long : (us memory : List Datum) (n k : ℕ) → memory ≡ memory_over us n → k ≡ length memory → length us ≤ k
begins_long us memory n k is long =
    let a = length-append us (replicate n (bool_datum false)) in let b = ap length is in omega arith
