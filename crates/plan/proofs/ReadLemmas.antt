-- A slot that a run reads is asked for.
use Rattle.std.proofs.Common.{◌≡◌, ℕ, zero, suc, ◌==◌, ◌+◌, ◌-◌, ◌||◌, ◌&&◌, nat_le, Bool, true, false}
use Rattle.std.proofs.Common.{if◌then◌else◌, List, [], ◌∷◌, ◌++◌, length, Option, Some, None, refl, sym, ap}
use Rattle.std.proofs.Common.{◌∙◌, subst, arith}
use Rattle.std.specs.Prelude.{pos, ◌+ℤ◌, slice_get, slice_set, replicate, IsSome}
use Rattle.std.specs.List.{list_any}
use Rattle.std.proofs.lemmas.Bool.Decides.{nat_tests}
use Rattle.std.proofs.lemmas.List.{length-replicate}
use Rattle.st_types.specs.declared.kind.Kind.{Kind}
use Rattle.st_types.specs.declared.kind.Kind.TheVariants.{Sint, Int, Dint, Lint, Usint, Uint, Udint, Ulint, Byte, Word}
use Rattle.st_types.specs.declared.kind.Kind.TheVariants.{Dword, Lword, Time, Bool as Boolean, Enumerated}
use Rattle.st_types.specs.Kinds.{holds, greatest}
use Rattle.st_types.specs.Values.{Datum, bool_datum}
use Rattle.st_types.specs.declared.fault.Fault.{Fault}
use Rattle.st_meaning.specs.Failures.{in_runs, with_missing}
use Rattle.st_meaning.specs.Evaluation.{known}
use Rattle.st_meaning.specs.Asked.{IsAsked, not_held, without_value}
use Rattle.st_meaning.specs.Runs.{Program}
use Rattle.st_meaning.specs.Slots.{Slot, IsLayout, AreOfTypes, variables_with, inputs_in}
use Rattle.st_meaning.proofs.SlotLemmas.{seen_slot}
use Rattle.slot_trees.specs.Seeing.{Sees}
use Rattle.machine_code.specs.declared.mark.Mark.{Mark}
use Rattle.machine_code.specs.Tracking.{are_read, read_by, assigned_by, memory_of}
use Rattle.machine_code.specs.Asking.{IsOnlyLookedUp, FailsWith}
use Rattle.machine_code.proofs.Asks.{reads_are_asked}
use Rattle.slot_code.specs.Codes.{CodeView}
use Rattle.slot_code.specs.Meanings.{FailsEqually, code_run_where}
use Rattle.slot_memory.specs.Cells.{picked}
use Rattle.slot_run.specs.Runs.{marked_run, reads_of}
use Rattle.plan.proofs.WithoutValues.{variables_without, inputs_without}
use Rattle.st_meaning.proofs.AskedLemmas.{past_the_greatest}
use Rattle.slot_run.proofs.TrueLemmas.{in_front, none_marked, as_many_slots}
use Rattle.slot_code.specs.Quick.{unmarked, unmarked_slots}

-- A slot that was picked at a number was marked, and has a value.
record WasPicked (marks : List Mark) (us : List Datum) (i : ℕ) : Type 0 where
  mark : read_by (slice_get marks i) ≡ true
  value : Datum
  there : slice_get us i ≡ Some value

abbrev Found : List Mark → List Datum → ℕ → ℕ → Type 0
Found marks us j k = (i : ℕ) × (k ≡ j + i) × WasPicked marks us i

found_here : (x : Mark) (marks : List Mark) (u : Datum) (us : List Datum) (j k : ℕ) → x.is_read ≡ true
    → (j == k) ≡ true → Found (x ∷ marks) (u ∷ us) j k
found_here x marks u us j k read is =
    let e : j ≡ k = grind (arith, nat_tests) in
    (0, omega arith, record { mark = read; value = u; there = refl })

found_behind : (x : Mark) (marks : List Mark) (u : Datum) (us : List Datum) (j k : ℕ) → Found marks us (suc j) k
    → Found (x ∷ marks) (u ∷ us) j k
found_behind x marks u us j k p =
    let e = p.1 in
    (suc p.0, omega arith, record { mark = p.2.mark; value = p.2.value; there = p.2.there })

by_place : (x : Mark) (marks : List Mark) (u : Datum) (us : List Datum) (j k : ℕ) (b : Bool) → (j == k) ≡ b
    → x.is_read ≡ true → (rest : Bool) → (rest ≡ true → Found marks us (suc j) k) → (b || rest) ≡ true
    → Found (x ∷ marks) (u ∷ us) j k
by_place x marks u us j k true is read rest later h = found_here x marks u us j k read is
by_place x marks u us j k false is read rest later h = found_behind x marks u us j k (later h)

by_mark : (x : Mark) (marks : List Mark) (u : Datum) (us : List Datum) (j k : ℕ) (b : Bool) → x.is_read ≡ b
    → (list_any (λ c. c.0 == k) (picked (are_read marks) (suc j) us) ≡ true → Found marks us (suc j) k)
    → list_any (λ c. c.0 == k)
    (if b then (j, u) ∷ picked (are_read marks) (suc j) us else picked (are_read marks) (suc j) us) ≡ true
    → Found (x ∷ marks) (u ∷ us) j k
by_mark x marks u us j k true read later h =
    by_place x marks u us j k (j == k) refl read
    (list_any (λ c. c.0 == k) (picked (are_read marks) (suc j) us)) later h
by_mark x marks u us j k false read later h = found_behind x marks u us j k (later h)

picked_at : (marks : List Mark) (us : List Datum) (j k : ℕ)
    → list_any (λ c. c.0 == k) (picked (are_read marks) j us) ≡ true → Found marks us j k
picked_at [] us j k h = absurd (cc)
picked_at (x ∷ marks) [] j k h = absurd (cc)
picked_at (x ∷ marks) (u ∷ us) j k h =
    by_mark x marks u us j k x.is_read refl (λ later. picked_at marks us (suc j) k later) h

was_picked : (marks : List Mark) (us : List Datum) (k : ℕ)
    → list_any (λ c. c.0 == k) (picked (are_read marks) 0 us) ≡ true → WasPicked marks us k
was_picked marks us k h =
    let p = picked_at marks us 0 k h in
    let e : p.0 ≡ k = (let f = p.1 in omega arith) in
    subst (WasPicked marks us) e p.2

set_in_front : (us rest : List Datum) (k : ℕ) (u w : Datum) → slice_get us k ≡ Some u
    → slice_set (us ++ rest) k w ≡ slice_set us k w ++ rest
set_in_front [] rest k u w e = absurd (cc)
set_in_front (v ∷ us) rest zero u w e = refl
set_in_front (v ∷ us) rest (suc k) u w e = ap (λ xs. v ∷ xs) (set_in_front us rest k u w e)

none_read : (n k : ℕ) → read_by (slice_get (replicate n unmarked) k) ≡ false
none_read zero k = refl
none_read (suc n) zero = refl
none_read (suc n) (suc k) = none_read n k

set_kinds : (layout : List Slot) (vs : List Datum) (k : ℕ) (v : Datum) → slice_get vs k ≡ Some v
    → AreOfTypes layout vs → length layout ≡ length (slice_set vs k (not_held v))
set_kinds [] [] k v e h = absurd (cc)
set_kinds [] (u ∷ vs) k v e h = absurd (cc)
set_kinds (l ∷ ls) [] k v e h = absurd (cc)
set_kinds (l ∷ ls) (u ∷ vs) zero v e h = ap suc (as_many_slots ls vs (cc))
set_kinds (l ∷ ls) (u ∷ vs) (suc k) v e h = ap suc (set_kinds ls vs k v e (cc))

no_value : (w : Datum) → holds w.kind w.number ≡ false → known (Some w) ≡ None
no_value w e = rw e refl

is_some : (o : Option Datum) (v : Datum) → o ≡ Some v → IsSome o
is_some o v e = subst IsSome (sym e) refl

module _ (layout : List Slot) (code : CodeView) (program : Program) (now budget : ℕ) (us : List Datum)
    (k : ℕ) (l : Slot) (alike : FailsEqually layout code program)
    (distinct : IsLayout layout) (typed : AreOfTypes layout us) (at : slice_get layout k ≡ Some l)
    (only : IsOnlyLookedUp code.instrs k)
    (read : list_any (λ c. c.0 == k) (reads_of (marked_run code now us budget) us) ≡ true) where
  abbrev spare : List Datum
  spare = replicate code.extra (bool_datum false)

  picked_so : WasPicked (memory_of (marked_run code now us budget)).marks us k
  picked_so = was_picked (memory_of (marked_run code now us budget)).marks us k read

  -- the machine ends with the stand-in for the value
  machine_fails : (f : Fault) → FailsWith f (code_run_where (with_missing f) code now
      (slice_set us k (not_held picked_so.value) ++ spare) budget)
  machine_fails f =
      let v = picked_so.value in
      let memory = us ++ spare in
      let h = reads_are_asked in_runs (with_missing f) now code.instrs (length code.instrs) (unmarked_slots memory) budget k
      v (not_held v) (length-replicate (length memory) unmarked) (none_read (length memory) k)
      (none_marked (length memory) k) (in_front us spare k v picked_so.there) refl
      (no_value (not_held v) (past_the_greatest v.kind)) only picked_so.mark in
      subst (λ xs. FailsWith f (code_run_where (with_missing f) code now xs budget))
      (set_in_front us spare k v (not_held v) picked_so.there) h

  seen_without : Sees layout (without_value (inputs_in layout us) l.path)
      (without_value (variables_with layout us) l.path) (slice_set us k (not_held picked_so.value))
  seen_without = record {
    variables = variables_without layout us k l picked_so.value distinct at picked_so.there;
    inputs = inputs_without layout us k l picked_so.value distinct at picked_so.there;
    length = set_kinds layout us k picked_so.value picked_so.there typed;
  }

  pub is_asked : l.path.owner ≡ None
      → IsAsked program budget (variables_with layout us) (inputs_in layout us) now l.path
  is_asked of_nobody = record {
    of_nobody = of_nobody;
    is_there = is_some _ picked_so.value (seen_slot layout us distinct (as_many_slots layout us typed) k l at
        ∙ picked_so.there);
    is_wanted = λ f. alike.fails (with_missing f) f (without_value (inputs_in layout us) l.path)
        (without_value (variables_with layout us) l.path) (slice_set us k (not_held picked_so.value)) spare now budget
        seen_without (length-replicate code.extra (bool_datum false)) (machine_fails f);
  }
