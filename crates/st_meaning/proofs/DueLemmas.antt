-- Lemmas on activations that are due or wait.
use Rattle.std.proofs.Common.{◌≡◌, ℕ, zero, suc, ◌+◌, ◌-◌, ◌<◌, ◌≤◌, ◌==◌, inl, inr, Bool, true, false, if◌then◌else◌}
use Rattle.std.proofs.Common.{◌&&◌, not, nat_lt, List, [], ◌∷◌, ◌++◌, length, refl, ap, ◌∙◌, arith, length-append}
use Rattle.std.proofs.lemmas.List.{get_or_append_left}
use Rattle.std.proofs.Math.Seq.{get_or-append_seam}
use Rattle.std.proofs.lemmas.List.Sums.{fold-append}
use Rattle.std.proofs.lemmas.Bool.Decides.{nat_tests, eqb_tells, leb_tells}
use Rattle.st_types.specs.declared.entry.Activation.{Activation}
use Rattle.st_meaning.specs.declared.plan.Schedule.{Schedule}
use Rattle.st_meaning.specs.Due.{SampledRow, Served, History, sample, sampled_at, rule, is_due, schedule_at, due}
use Rattle.st_meaning.specs.Due.{last_served, served, one_more, run_count, due_count, Waits, no_history, with_row}
use Rattle.st_meaning.specs.Due.{with_run}
use Rattle.st_types.proofs.TestLemmas.{and_first, and_second}

and_false : (b : Bool) → (b && false) ≡ false
and_false true = refl
and_false false = refl

pub due-past : (schedules : List Schedule) (p : ℕ) (sampled : List SampledRow) (k : ℕ) → length sampled ≤ k
    → due schedules p sampled k ≡ false
due-past schedules p sampled k h =
    let l : nat_lt k (length sampled) ≡ false = grind (arith, nat_tests) in
    rw l (and_false _)

pub due-there : (schedules : List Schedule) (p : ℕ) (sampled : List SampledRow) (k : ℕ)
    → due schedules p sampled k ≡ true → (p < length schedules) × (k < length sampled)
due-there schedules p sampled k e =
    let inner = nat_lt k (length sampled) && is_due (schedule_at schedules p) sampled k in
    let a : nat_lt p (length schedules) ≡ true = and_first (nat_lt p (length schedules)) inner e in
    let both : inner ≡ true = and_second (nat_lt p (length schedules)) inner e in
    let b : nat_lt k (length sampled) ≡ true =
    and_first (nat_lt k (length sampled)) (is_due (schedule_at schedules p) sampled k) both in
    (grind (arith, nat_tests), grind (arith, nat_tests))

pub served-add : (p : ℕ) (runs : List Served) (r : Served) → served p (runs ++ r ∷ []) ≡ last_served p (served p runs) r
served-add p runs r = fold-append (last_served p) 0 runs (r ∷ [])

pub run_count-add : (p : ℕ) (runs : List Served) (r : Served)
    → run_count p (runs ++ r ∷ []) ≡ one_more p (run_count p runs) r
run_count-add p runs r = fold-append (one_more p) 0 runs (r ∷ [])

module _ (sampled : List SampledRow) (t : SampledRow) where
  pub row_now-old : (k : ℕ) → k < length sampled → sampled_at (sampled ++ t ∷ []) k ≡ sampled_at sampled k
  row_now-old k h = get_or_append_left sampled (t ∷ []) record { moment = 0; samples = [] } k h

  pub row_now-new : sampled_at (sampled ++ t ∷ []) (length sampled) ≡ t
  row_now-new = get_or-append_seam sampled t [] record { moment = 0; samples = [] }

  is_due-old : (schedule : Schedule) (k : ℕ) → k < length sampled
      → is_due schedule (sampled ++ t ∷ []) k ≡ is_due schedule sampled k
  is_due-old schedule k h =
      let a = row_now-old k h in
      let b = row_now-old (k - 1) (omega arith) in
      let c = row_now-old 0 (omega arith) in
      rw (a, b, c) refl

  pub due-old : (schedules : List Schedule) (p k : ℕ) → k < length sampled
      → due schedules p (sampled ++ t ∷ []) k ≡ due schedules p sampled k
  due-old schedules p k h =
      let l : nat_lt k (length (sampled ++ t ∷ [])) ≡ true = grind (arith, nat_tests, length-append sampled (t ∷ [])) in
      let m : nat_lt k (length sampled) ≡ true = grind (arith, nat_tests) in
      rw (l, m, is_due-old (schedule_at schedules p) k h) refl

  pub due-new : (schedules : List Schedule) (p : ℕ) → p < length schedules → due schedules p (sampled ++ t ∷ [])
      (length sampled) ≡ is_due (schedule_at schedules p) (sampled ++ t ∷ []) (length sampled)
  due-new schedules p h =
      let l : nat_lt (length sampled) (length (sampled ++ t ∷ [])) ≡ true =
      grind (arith, nat_tests, length-append sampled (t ∷ [])) in
      let m : nat_lt p (length schedules) ≡ true = grind (arith, nat_tests) in
      rw (l, m) refl

  pub due_count-old : (schedules : List Schedule) (p n : ℕ) → n ≤ length sampled
      → due_count schedules p (sampled ++ t ∷ []) n ≡ due_count schedules p sampled n
  due_count-old schedules p zero h = refl
  due_count-old schedules p (suc n) h =
      let a = due_count-old schedules p n (omega arith) in
      let b = due-old schedules p n (omega arith) in
      rw (a, b) refl

  pub due_count-new : (schedules : List Schedule) (p : ℕ)
      → due_count schedules p (sampled ++ t ∷ []) (length (sampled ++ t ∷ [])) ≡ due_count schedules p sampled
      (length sampled) + (if due schedules p (sampled ++ t ∷ []) (length sampled) then 1 else 0)
  due_count-new schedules p =
      let l : length (sampled ++ t ∷ []) ≡ suc (length sampled) = omega (arith, length-append sampled (t ∷ [])) in
      let a = due_count-old schedules p (length sampled) (omega arith) in
      ap (due_count schedules p (sampled ++ t ∷ [])) l
      ∙ ap (λ n. n + (if due schedules p (sampled ++ t ∷ []) (length sampled) then 1 else 0)) a

-- The rule at the new row, by the facts of the row before it.
pub is_due-new : (schedule : Schedule) (sampled : List SampledRow) (t : SampledRow) (before : Bool) (first last : ℕ)
    → before ≡ (not (length sampled == 0) && sample (sampled_at sampled (length sampled - 1)).samples schedule.task)
    → (length sampled ≡ 0 → first ≡ t.moment) → (0 < length sampled → first ≡ (sampled_at sampled 0).moment)
    → (length sampled ≡ 0 → last ≡ t.moment)
    → (0 < length sampled → last ≡ (sampled_at sampled (length sampled - 1)).moment)
    → is_due schedule (sampled ++ t ∷ []) (length sampled)
    ≡ rule schedule.interval record {
      is_first = length sampled == 0;
      single_before = before;
      single =
          sample t.samples schedule.task;
      first = first;
      last = last;
      moment = t.moment;
    }
is_due-new schedule [] t before first last b f f' l l' = rw b refl
is_due-new schedule (x ∷ xs) t before first last b f f' l l' =
    let n = row_now-new (x ∷ xs) t in
    let c = row_now-old (x ∷ xs) t (length (x ∷ xs) - 1) (omega arith) in
    let o = row_now-old (x ∷ xs) t 0 (omega arith) in
    let f1 = f' (omega arith) in
    let l1 = l' (omega arith) in
    rw (b, f1, l1, n, c, o) refl

not_earlier : (schedules : List Schedule) (h : History) (p j k : ℕ) → Waits schedules h record { program = p; row = j }
    → Waits schedules h record { program = p; row = k } → j < k → ⊥
not_earlier schedules h p j k v w l = let x = w.first j v.unserved l in let y = v.is in cc

-- a program waits with at most one row
pub Waits-same : (schedules : List Schedule) (h : History) (p j k : ℕ)
    → Waits schedules h record { program = p; row = j } → Waits schedules h record { program = p; row = k } → j ≡ k
Waits-same schedules h p j k v w = elim (eqb_tells j k) [
  | inl t ↦ t.1
  | inr f ↦ elim (leb_tells j k) [
    | inl t ↦ absurd (not_earlier schedules h p j k v w (omega (arith, t.1, f.1)))
    | inr g ↦ absurd (not_earlier schedules h p k j w v g.1)
  ]
]

pub Waits-there : (schedules : List Schedule) (h : History) (a : Activation) → Waits schedules h a
    → (a.program < length schedules) × (a.row < length h.sampled)
Waits-there schedules h a w = due-there schedules a.program h.sampled a.row w.is

-- right after a Done of a program nothing of it waits
pub done_waits_no_more : (schedules : List Schedule) (h : History) (p k : ℕ)
    → Waits schedules (with_run h p) record { program = p; row = k } → ⊥
done_waits_no_more schedules h p k w =
    let there = due-there schedules p h.sampled k w.is in
    let same : (p == p) ≡ true = grind (arith, nat_tests) in
    let last : served p (h.runs ++ record { program = p; rows = length h.sampled } ∷ []) ≡ length h.sampled =
    rw (served-add p h.runs record { program = p; rows = length h.sampled }, same) refl in
    let late : served p (h.runs ++ record { program = p; rows = length h.sampled } ∷ []) ≤ k = w.unserved in
    absurd (omega (arith, there.1))

-- a row whose activation was served stays served
pub served_by_done : (schedules : List Schedule) (h : History) (p k : ℕ)
    → Waits schedules h record { program = p; row = k } → k < served p (with_run h p).runs
served_by_done schedules h p k w =
    let there = due-there schedules p h.sampled k w.is in
    let same : (p == p) ≡ true = grind (arith, nat_tests) in
    let last : served p (with_run h p).runs ≡ length h.sampled =
    rw (served-add p h.runs record { program = p; rows = length h.sampled }, same) refl in
    omega (arith, there.1, last)

either_is_past : (b : Bool) (n m k : ℕ) → k < n → n ≤ m → k < (if b then m else n)
either_is_past true n m k l g = omega (arith, l, g)
either_is_past false n m k l g = l

pub served_stays : (h : History) (p q k : ℕ) → k < served p h.runs → served p h.runs ≤ length h.sampled
    → k < served p (with_run h q).runs
served_stays h p q k l g = rw (served-add p h.runs record { program = q; rows = length h.sampled })
    (either_is_past (q == p) (served p h.runs) (length h.sampled) k l g)

pub served_waits_no_more : (schedules : List Schedule) (h : History) (p k : ℕ) → k < served p h.runs
    → Waits schedules h record { program = p; row = k } → ⊥
served_waits_no_more schedules h p k l w = absurd (omega (arith, l, w.unserved))

-- the rows before a Done were latched
either_is_within : (b : Bool) (n m : ℕ) → n ≤ m → (if b then m else n) ≤ m
either_is_within true n m l = omega arith
either_is_within false n m l = l

pub served_within_done : (h : History) (p q : ℕ) → served p h.runs ≤ length h.sampled
    → served p (with_run h q).runs ≤ length (with_run h q).sampled
served_within_done h p q l = rw (served-add p h.runs record { program = q; rows = length h.sampled })
    (either_is_within (q == p) (served p h.runs) (length h.sampled) l)

pub served_within_row : (h : History) (moment : ℕ) (samples : List Bool) (p : ℕ) → served p h.runs ≤ length h.sampled
    → served p (with_row h moment samples).runs ≤ length (with_row h moment samples).sampled
served_within_row h moment samples p l =
    omega (arith, l, length-append h.sampled (record { moment = moment; samples = samples } ∷ []))

pub served_within_first : (p : ℕ) → served p no_history.runs ≤ length no_history.sampled
served_within_first p = omega arith
