-- Lemmas on overruns.
use Rattle.std.proofs.Common.{◌≡◌, ℕ, zero, suc, ◌+◌, ◌<◌, ◌≤◌, ◌==◌, inl, inr, Bool, true, false, if◌then◌else◌, List}
use Rattle.std.proofs.Common.{[], ◌∷◌, length, refl, sym, ap, ◌∙◌, arith, length-append}
use Rattle.std.proofs.lemmas.Bool.Decides.{nat_tests, eqb_tells}
use Rattle.st_meaning.specs.declared.plan.Schedule.{Schedule}
use Rattle.st_meaning.specs.Due.{SampledRow, History, due, served, run_count, due_count, Waits, HasOverruns, no_history}
use Rattle.st_meaning.specs.Due.{with_row, with_run}
use Rattle.st_meaning.proofs.DueLemmas.{due-there, due-old, due_count-new, run_count-add, done_waits_no_more}

-- If none of the program waits, it is due at no row after its last Done: the first such row would wait.
due_at_end : (schedules : List Schedule) (h : History) (p n k : ℕ)
    → ((k : ℕ) → Waits schedules h record { program = p; row = k } → ⊥)
    → ((j : ℕ) → served p h.runs ≤ j → j < n → due schedules p h.sampled j ≡ false)
    → served p h.runs ≤ k → k ≡ n → (b : Bool) → due schedules p h.sampled n ≡ b → due schedules p h.sampled k ≡ false
due_at_end schedules h p n k none before s t false e = ap (due schedules p h.sampled) t ∙ e
due_at_end schedules h p n k none before s t true e =
    absurd (none n record { is = e; unserved = omega (arith, s, t); first = before })

pub due_none : (schedules : List Schedule) (h : History) (p : ℕ)
    → ((k : ℕ) → Waits schedules h record { program = p; row = k } → ⊥) → (n k : ℕ) → served p h.runs ≤ k → k < n
    → due schedules p h.sampled k ≡ false
due_none schedules h p none zero k s l = absurd (omega (arith, l))
due_none schedules h p none (suc n) k s l = elim (eqb_tells k n) [
  | inl t ↦ due_at_end schedules h p n k none (due_none schedules h p none n) s t.1 (due schedules p h.sampled n) refl
  | inr f ↦ due_none schedules h p none n k s (omega (arith, l, f.1))
]

module _ (schedules : List Schedule) (h : History) (moment : ℕ) (samples : List Bool) (p : ℕ) where
  abbrev new : SampledRow
  new = record { moment = moment; samples = samples }

  abbrev later : History
  later = with_row h moment samples

  pub waits_on : (k : ℕ) → Waits schedules h record { program = p; row = k }
      → Waits schedules later record { program = p; row = k }
  waits_on k w =
      let there = due-there schedules p h.sampled k w.is in
      record {
        is = due-old h.sampled new schedules p k there.1 ∙ w.is;
        unserved = w.unserved;
        first = λ j a b. due-old h.sampled new schedules p j (omega (arith, there.1, b)) ∙ w.first j a b;
      }

  pub waited_before : (k : ℕ) → k < length h.sampled → Waits schedules later record { program = p; row = k }
      → Waits schedules h record { program = p; row = k }
  waited_before k l w = record {
    is = sym (due-old h.sampled new schedules p k l) ∙ w.is;
    unserved = w.unserved;
    first = λ j a b. sym (due-old h.sampled new schedules p j (omega (arith, l, b))) ∙ w.first j a b;
  }

  counted : (b : Bool) → due schedules p later.sampled (length h.sampled) ≡ b → due_count schedules p later.sampled
      (length later.sampled) ≡ due_count schedules p h.sampled (length h.sampled) + (if b then 1 else 0)
  counted b e = due_count-new h.sampled new schedules p
      ∙ ap (λ b. due_count schedules p h.sampled (length h.sampled) + (if b then 1 else 0)) e

  pub met : (k n : ℕ) → Waits schedules h record { program = p; row = k } → HasOverruns schedules h p n
      → due schedules p later.sampled (length h.sampled) ≡ true → HasOverruns schedules later p (n + 1)
  met k n w o d =
      let more = counted true d in
      let was = o.waiting k w in
      record {
        waiting = λ j v. omega (arith, more, was);
        resting = λ none. absurd (none k (waits_on k w));
      }

  pub begun : (n : ℕ) → served p h.runs ≤ length h.sampled
      → ((k : ℕ) → Waits schedules h record { program = p; row = k } → ⊥) → HasOverruns schedules h p n
      → due schedules p later.sampled (length h.sampled) ≡ true → HasOverruns schedules later p n
  begun n s none o d =
      let more = counted true d in
      let was = o.resting none in
      record {
        waiting = λ j v. omega (arith, more, was);
        resting = λ rests. absurd (rests (length h.sampled) record {
          is = d;
          unserved = s;
          first = λ j a b. due-old h.sampled new schedules p j b ∙ due_none schedules h p none (length h.sampled) j a b;
        });
      }

  not_new : (j : ℕ) → due schedules p later.sampled j ≡ true → due schedules p later.sampled (length h.sampled) ≡ false
      → j ≡ length h.sampled → ⊥
  not_new j e d i = let x = ap (due schedules p later.sampled) i in cc

  earlier : (j : ℕ) → due schedules p later.sampled (length h.sampled) ≡ false
      → Waits schedules later record { program = p; row = j } → j < length h.sampled
  earlier j d v = elim (eqb_tells j (length h.sampled)) [
    | inl t ↦ absurd (not_new j v.is d t.1)
    | inr f ↦ omega (arith, f.1, (due-there schedules p later.sampled j v.is).1, length-append h.sampled (new ∷ []))
  ]

  pub passed : (n : ℕ) → HasOverruns schedules h p n → due schedules p later.sampled (length h.sampled) ≡ false
      → HasOverruns schedules later p n
  passed n o d =
      let same = counted false d in
      record {
        waiting = λ j v. omega (arith, same, o.waiting j (waited_before j (earlier j d v) v));
        resting = λ rests. omega (arith, same, o.resting (λ k w. rests k (waits_on k w)));
      }

pub done : (schedules : List Schedule) (h : History) (p k n : ℕ) → Waits schedules h record { program = p; row = k }
    → HasOverruns schedules h p n → HasOverruns schedules (with_run h p) p n
done schedules h p k n w o =
    let same : (p == p) ≡ true = grind (arith, nat_tests) in
    let one : run_count p (with_run h p).runs ≡ run_count p h.runs + 1 =
    rw (run_count-add p h.runs record { program = p; rows = length h.sampled }, same) refl in
    let was = o.waiting k w in
    record {
      waiting = λ j v. absurd (done_waits_no_more schedules h p j v);
      resting = λ none. omega (arith, one, was);
    }

pub none_at_first : (schedules : List Schedule) (p : ℕ) → HasOverruns schedules no_history p 0
none_at_first schedules p =
    record { waiting = λ k w. absurd (omega (arith, (due-there schedules p [] k w.is).1)); resting = λ w. refl }
