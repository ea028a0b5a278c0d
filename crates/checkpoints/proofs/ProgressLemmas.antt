-- What a row and a Done make of the progress of a program.
use Rattle.std.proofs.Common.{◌≡◌, ℕ, ◌+◌, ◌<◌, ◌≤◌, ◌==◌, inl, inr, Bool, true, false, if◌then◌else◌, List, [], ◌∷◌}
use Rattle.std.proofs.Common.{◌++◌, length, Option, Some, None, refl, sym, ap, subst, ◌∙◌, arith, length-append}
use Rattle.std.proofs.lemmas.List.{get_or_append_left}
use Rattle.std.proofs.Math.Seq.{get_or-append_seam}
use Rattle.std.proofs.lemmas.Bool.{eq-eqb}
use Rattle.std.proofs.lemmas.Bool.Decides.{eqb_tells, leb_tells}
use Rattle.st_types.specs.Rows.{Latch}
use Rattle.st_meaning.specs.declared.plan.Schedule.{Schedule}
use Rattle.st_meaning.specs.Logs.{row_at}
use Rattle.st_meaning.specs.Due.{SampledRow, History, due, served, run_count, due_count, Waits, HasOverruns, with_row}
use Rattle.st_meaning.specs.Due.{with_run}
use Rattle.st_meaning.proofs.DueLemmas.{due-past, due-old, due_count-new, served-add, run_count-add, Waits-same}
use Rattle.st_meaning.proofs.DueLemmas.{Waits-there}
use Rattle.st_meaning.proofs.OverrunLemmas.{waits_on}
use Rattle.checkpoints.specs.Checkpoints.{WaitingRow, ProgramProgress}
use Rattle.checkpoints.specs.Compaction.{progress_with, due_with}
use Rattle.checkpoints.specs.CheckpointsOfPasts.{HasProgress}
use Rattle.checkpoints.specs.Continuation.{IsWaitingWith}

row-old : (rows : List Latch) (row : Latch) (k : ℕ) → k < length rows → row_at (rows ++ row ∷ []) k ≡ row_at rows k
row-old rows row k l = get_or_append_left rows (row ∷ []) record { moment = 0; image = [] } k l

row-new : (rows : List Latch) (row : Latch) → row_at (rows ++ row ∷ []) (length rows) ≡ row
row-new rows row = get_or-append_seam rows row [] record { moment = 0; image = [] }

same_waiting : (x y : WaitingRow) → ◌≡◌ {A = Option WaitingRow} (Some x) (Some y) → x ≡ y
same_waiting x y e = cc

abbrev pub progress_of : Option WaitingRow → ℕ → ProgramProgress
progress_of w n = record { waiting = w; overruns = n }

module _ (schedules : List Schedule) (h : History) (rows : List Latch) (p : ℕ) where
  -- the progress of the program is right before the row or the Done
  abbrev Had : ProgramProgress → Type 0
  Had = HasProgress schedules h rows p

  module _ (latched : length h.sampled ≡ length rows) (ss : List Bool) (row : Latch) where
    abbrev new : SampledRow
    new = record { moment = row.moment; samples = ss }

    abbrev later : History
    later = with_row h row.moment ss

    abbrev next : WaitingRow
    next = record { number = length h.sampled; row = row }

    -- and after the row
    abbrev Has : ProgramProgress → Type 0
    Has = HasProgress schedules later (rows ++ row ∷ []) p

    longer : length later.sampled ≡ length h.sampled + 1
    longer = length-append h.sampled (new ∷ [])

    counted : (b : Bool) → due schedules p later.sampled (length h.sampled) ≡ b
        → due_count schedules p later.sampled (length later.sampled)
        ≡ due_count schedules p h.sampled (length h.sampled) + (if b then 1 else 0)
    counted b e = due_count-new h.sampled new schedules p
        ∙ ap (λ (x : Bool). due_count schedules p h.sampled (length h.sampled) + (if x then 1 else 0)) e

    rests : ((k : ℕ) → served p h.runs ≤ k → due schedules p h.sampled k ≡ false)
        → due schedules p later.sampled (length h.sampled) ≡ false
        → (k : ℕ) → served p h.runs ≤ k → due schedules p later.sampled k ≡ false
    rests none e k u = elim (eqb_tells k (length h.sampled)) [
      | inl t ↦ ap (due schedules p later.sampled) t.1 ∙ e
      | inr f ↦ elim (leb_tells k (length h.sampled)) [
        | inl t ↦ due-old h.sampled new schedules p k (omega (arith, t.1, f.1)) ∙ none k u
        | inr g ↦ due-past schedules p later.sampled k (omega (arith, g.1, longer))
      ]
    ]

    goes_on : (s : ProgramProgress) → Had s → (x : WaitingRow) → s.waiting ≡ Some x
        → Waits schedules later record { program = p; row = x.number }
        × (x.row ≡ row_at (rows ++ row ∷ []) x.number)
    goes_on s is x w =
        let old = is.some x w in
        let there = Waits-there schedules h record { program = p; row = x.number } old.0 in (
          waits_on schedules h row.moment ss p x.number old.0,
          old.1 ∙ sym (row-old rows row x.number (omega (arith, there.1, latched))),
        )

    not_due : (s : ProgramProgress) → Had s
        → due schedules p later.sampled (length h.sampled) ≡ false
        → Has s
    not_due s is e = record {
      some = goes_on s is;
      none = λ w k u. rests (is.none w) e k u;
      count = omega (arith, counted false e, is.count);
      within = omega (arith, is.within, longer);
    }

    placed_when_due : (w : Option WaitingRow) (n : ℕ) → Had (progress_of w n)
        → due schedules p later.sampled (length h.sampled) ≡ true
        → Has (due_with w n next)
    placed_when_due None n is e = record {
      some = λ x s. subst (λ (y : WaitingRow). Waits schedules later record { program = p; row = y.number }
          × (y.row ≡ row_at (rows ++ row ∷ []) y.number))
          (same_waiting next x s) (
            record {
              is = e;
              unserved = is.within;
              first = λ j u l. due-old h.sampled new schedules p j l ∙ is.none refl j u;
            },
            sym (ap (row_at (rows ++ row ∷ [])) latched ∙ row-new rows row),
          );
      none = λ s. cc;
      count = omega (arith, counted true e, is.count);
      within = omega (arith, is.within, longer);
    }
    placed_when_due (Some y) n is e = record {
      some = goes_on (progress_of (Some y) n) is;
      none = λ s. cc;
      count = omega (arith, counted true e, is.count);
      within = omega (arith, is.within, longer);
    }

    pub HasProgress-row : (s : ProgramProgress) → Had s → (b : Bool)
        → due schedules p later.sampled (length h.sampled) ≡ b
        → Has (progress_with s b next)
    HasProgress-row s is true e = placed_when_due s.waiting s.overruns is e
    HasProgress-row s is false e = not_due s is e

  served-own : served p (h.runs ++ record { program = p; rows = length h.sampled } ∷ []) ≡ length h.sampled
  served-own = let t : (p == p) ≡ true = eq-eqb p p refl in
      served-add p h.runs record { program = p; rows = length h.sampled } ∙ rw t refl

  count-own : run_count p (h.runs ++ record { program = p; rows = length h.sampled } ∷ []) ≡ run_count p h.runs + 1
  count-own = let t : (p == p) ≡ true = eq-eqb p p refl in
      run_count-add p h.runs record { program = p; rows = length h.sampled } ∙ rw t refl

  -- a program that ran waits no more
  pub HasProgress-own : (x : WaitingRow) (n : ℕ) → Had (progress_of (Some x) n)
      → HasProgress schedules (with_run h p) rows p (progress_of None n)
  HasProgress-own x n is = record {
    some = λ j s. cc;
    none = λ s j u. due-past schedules p h.sampled j (rw served-own at u);
    count = omega (arith, is.count, count-own);
    within = omega (arith, served-own);
  }

  module _ (q : ℕ) (other : (q == p) ≡ false) where
    served-other : served p (h.runs ++ record { program = q; rows = length h.sampled } ∷ []) ≡ served p h.runs
    served-other = served-add p h.runs record { program = q; rows = length h.sampled } ∙ rw other refl

    count-other : run_count p (h.runs ++ record { program = q; rows = length h.sampled } ∷ []) ≡ run_count p h.runs
    count-other = run_count-add p h.runs record { program = q; rows = length h.sampled } ∙ rw other refl

    pub HasProgress-other : (s : ProgramProgress) → Had s → HasProgress schedules (with_run h q) rows p s
    HasProgress-other s is = record {
      some = λ x w. let old = is.some x w in (
        record {
          is = old.0.is;
          unserved = rw served-other old.0.unserved;
          first = λ j u l. old.0.first j (rw served-other at u) l;
        },
        old.1,
      );
      none = λ w k u. is.none w k (rw served-other at u);
      count = omega (arith, is.count, count-other);
      within = omega (arith, is.within, served-other);
    }

  -- the program waits in its progress exactly if it waits in the history
  pub progress_of_waiting : (w : Option WaitingRow) (n k : ℕ) → Had (progress_of w n)
      → Waits schedules h record { program = p; row = k } → IsWaitingWith w k
  progress_of_waiting None n k is waits = let x = is.none refl k waits.unserved in let y = waits.is in absurd (cc)
  progress_of_waiting (Some y) n k is waits = Waits-same schedules h p y.number k (is.some y refl).0 waits

  pub waiting_of_progress : (w : Option WaitingRow) (n k : ℕ) → Had (progress_of w n)
      → IsWaitingWith w k → Waits schedules h record { program = p; row = k }
  waiting_of_progress None n k is e = absurd e
  waiting_of_progress (Some y) n k is e =
      subst (λ i. Waits schedules h record { program = p; row = i }) e (is.some y refl).0

  pub overruns_of_progress : (w : Option WaitingRow) (n : ℕ) → Had (progress_of w n)
      → HasOverruns schedules h p n
  overruns_of_progress None n is = record {
    waiting = λ k waits. absurd (progress_of_waiting None n k is waits);
    resting = λ none. omega (arith, is.count);
  }
  overruns_of_progress (Some y) n is = record {
    waiting = λ j waits. omega (arith, is.count);
    resting = λ none. absurd (none y.number (is.some y refl).0);
  }
