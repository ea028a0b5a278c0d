-- The list after a row and after a Done.
use Rattle.std.proofs.Common.{◌≡◌, ℕ, zero, suc, ◌+◌, ◌-◌, ◌<◌, ◌≤◌, ◌==◌, inl, inr, Bool, true, false, if◌then◌else◌}
use Rattle.std.proofs.Common.{IsTrue, ◌↔◌, List, [], ◌∷◌, ◌++◌, length, slice_set, Option, Some, None, refl, sym, ap}
use Rattle.std.proofs.Common.{subst, ◌∙◌, arith, length-append}
use Rattle.std.specs.Prelude.{MatchOption}
use Rattle.std.proofs.lemmas.List.{get_or-set_other, get_or_past}
use Rattle.std.proofs.lemmas.Grind.{get_or-set_at}
use Rattle.std.proofs.lemmas.Bool.{eq-eqb}
use Rattle.std.proofs.lemmas.Bool.Decides.{nat_tests, eqb_tells, leb_tells}
use Rattle.st_types.specs.declared.entry.Activation.{Activation}
use Rattle.st_meaning.specs.declared.plan.Schedule.{Schedule}
use Rattle.st_meaning.specs.Due.{SampledRow, History, sample, sampled_at, rule, schedule_at, due, served, run_count}
use Rattle.st_meaning.specs.Due.{due_count, Waits, HasOverruns, with_row, with_run}
use Rattle.st_meaning.proofs.DueLemmas.{due-past, due-old, due-new, is_due-new, due_count-new, served-add, run_count-add}
use Rattle.st_meaning.proofs.DueLemmas.{row_now-old, row_now-new, Waits-same, Waits-there}
use Rattle.st_meaning.proofs.OverrunLemmas.{waits_on}
use Rattle.ready_list.specs.declared.program_state.ProgramState.{ProgramState}
use Rattle.ready_list.specs.declared.program_state.NewRow.{NewRow}
use Rattle.ready_list.specs.Ready.{Ready, state_at, marked, marked_at, AreMarked, IsProgramState, IsReadyOf}

same_some : (j k : ℕ) → ◌≡◌ {A = Option ℕ} (Some j) (Some k) → j ≡ k
same_some j k e = cc

module _ (schedules : List Schedule) (h : History) (p : ℕ) where
  module _ (m : ℕ) (ss : List Bool) where
    longer : length (h.sampled ++ record { moment = m; samples = ss } ∷ []) ≡ length h.sampled + 1
    longer = length-append h.sampled (record { moment = m; samples = ss } ∷ [])

    counted : (b : Bool)
        → due schedules p (h.sampled ++ record { moment = m; samples = ss } ∷ []) (length h.sampled) ≡ b
        → due_count schedules p (h.sampled ++ record { moment = m; samples = ss } ∷ [])
        (length (h.sampled ++ record { moment = m; samples = ss } ∷ []))
        ≡ due_count schedules p h.sampled (length h.sampled) + (if b then 1 else 0)
    counted b e = due_count-new h.sampled record { moment = m; samples = ss } schedules p
        ∙ ap (λ (x : Bool). due_count schedules p h.sampled (length h.sampled) + (if x then 1 else 0)) e

    rests : ((k : ℕ) → served p h.runs ≤ k → due schedules p h.sampled k ≡ false)
        → due schedules p (h.sampled ++ record { moment = m; samples = ss } ∷ []) (length h.sampled) ≡ false
        → (k : ℕ) → served p h.runs ≤ k
        → due schedules p (h.sampled ++ record { moment = m; samples = ss } ∷ []) k ≡ false
    rests none e k u = elim (eqb_tells k (length h.sampled)) [
      | inl t ↦ ap (due schedules p (h.sampled ++ record { moment = m; samples = ss } ∷ [])) t.1 ∙ e
      | inr f ↦ elim (leb_tells k (length h.sampled)) [
        | inl t ↦ due-old h.sampled record { moment = m; samples = ss } schedules p k (omega (arith, t.1, f.1))
            ∙ none k u
        | inr g ↦ due-past schedules p (h.sampled ++ record { moment = m; samples = ss } ∷ []) k
            (omega (arith, g.1, longer))
      ]
    ]

    not_due : (s : ProgramState) → IsProgramState schedules h p s
        → due schedules p (h.sampled ++ record { moment = m; samples = ss } ∷ []) (length h.sampled) ≡ false
        → IsProgramState schedules (with_row h m ss) p s
    not_due s is e = record {
      some = λ k w. waits_on schedules h m ss p k (is.some k w);
      none = λ w k u. rests (is.none w) e k u;
      count = omega (arith, counted false e, is.count);
      within = omega (arith, is.within, longer);
    }

    placed_when_due : (w : Option ℕ) (n : ℕ) → IsProgramState schedules h p record { waiting = w; overruns = n }
        → due schedules p (h.sampled ++ record { moment = m; samples = ss } ∷ []) (length h.sampled) ≡ true
        → IsProgramState schedules (with_row h m ss) p (marked_at w n (length h.sampled))
    placed_when_due None n is e = record {
      some = λ k s. subst (λ i. Waits schedules (with_row h m ss) record { program = p; row = i })
          (same_some (length h.sampled) k s) record {
            is = e;
            unserved = is.within;
            first = λ j u l. due-old h.sampled record { moment = m; samples = ss } schedules p j l ∙ is.none refl j u;
          };
      none = λ s. cc;
      count = omega (arith, counted true e, is.count);
      within = omega (arith, is.within, longer);
    }
    placed_when_due (Some k) n is e = record {
      some = λ j s. waits_on schedules h m ss p j (is.some j s);
      none = λ s. cc;
      count = omega (arith, counted true e, is.count);
      within = omega (arith, is.within, longer);
    }

    pub IsProgramState-row : (s : ProgramState) → IsProgramState schedules h p s → (b : Bool)
        → due schedules p (h.sampled ++ record { moment = m; samples = ss } ∷ []) (length h.sampled) ≡ b
        → IsProgramState schedules (with_row h m ss) p (marked s b (length h.sampled))
    IsProgramState-row s is true e = placed_when_due s.waiting s.overruns is e
    IsProgramState-row s is false e = not_due s is e

  served-own : served p (h.runs ++ record { program = p; rows = length h.sampled } ∷ []) ≡ length h.sampled
  served-own = let t : (p == p) ≡ true = eq-eqb p p refl in
      served-add p h.runs record { program = p; rows = length h.sampled } ∙ rw t refl

  count-own : run_count p (h.runs ++ record { program = p; rows = length h.sampled } ∷ []) ≡ run_count p h.runs + 1
  count-own = let t : (p == p) ≡ true = eq-eqb p p refl in
      run_count-add p h.runs record { program = p; rows = length h.sampled } ∙ rw t refl

  -- a program that was run waits no more
  pub IsProgramState-own : (k n : ℕ) → IsProgramState schedules h p record { waiting = Some k; overruns = n }
      → IsProgramState schedules (with_run h p) p record { waiting = None; overruns = n }
  IsProgramState-own k n is = record {
    some = λ j s. cc;
    none = λ s j u. due-past schedules p h.sampled j (rw served-own at u);
    count = omega (arith, is.count, count-own);
    within = omega (arith, served-own);
  }

  module _ (q : ℕ) (other : (q == p) ≡ false) where
    served-other : served p (h.runs ++ record { program = q; rows = length h.sampled } ∷ []) ≡ served p h.runs
    served-other = served-add p h.runs record { program = q; rows = length h.sampled } ∙ rw other refl

    count-other : run_count p (h.runs ++ record { program = q; rows = length h.sampled } ∷ []) ≡ run_count p h.runs
    count-other = run_count-add p h.runs record { program = q; rows = length h.sampled } ∙ rw other refl

    pub IsProgramState-other : (s : ProgramState) → IsProgramState schedules h p s → IsProgramState schedules (with_run h q) p s
    IsProgramState-other s is = record {
      some = λ k w. let old = is.some k w in record {
        is = old.is;
        unserved = rw served-other old.unserved;
        first = λ j u l. old.first j (rw served-other at u) l;
      };
      none = λ w k u. is.none w k (rw served-other at u);
      count = omega (arith, is.count, count-other);
      within = omega (arith, is.within, served-other);
    }

  -- the activation that waits is the one in the state
  pub IsProgramState-all : (w : Option ℕ) (n k : ℕ) → IsProgramState schedules h p record { waiting = w; overruns = n }
      → Waits schedules h record { program = p; row = k } → w ≡ Some k
  IsProgramState-all None n k is waits = let x = is.none refl k waits.unserved in let y = waits.is in cc
  IsProgramState-all (Some j) n k is waits = ap (λ i. Some i) (Waits-same schedules h p j k (is.some j refl) waits)

  overruns_at : (w : Option ℕ) (n : ℕ) → IsProgramState schedules h p record { waiting = w; overruns = n }
      → HasOverruns schedules h p n
  overruns_at None n is = record {
    waiting = λ k waits. let x = IsProgramState-all None n k is waits in cc;
    resting = λ none. omega (arith, is.count);
  }
  overruns_at (Some k) n is = record {
    waiting = λ j waits. omega (arith, is.count);
    resting = λ none. absurd (none k (is.some k refl));
  }

  pub IsProgramState-overruns : (s : ProgramState) → IsProgramState schedules h p s → HasOverruns schedules h p s.overruns
  IsProgramState-overruns s is = overruns_at s.waiting s.overruns is

-- the new row, and the facts kept of it
module _ {h : History} {r : Ready} (is : IsReadyOf h r) where
  pub listed-waits : (a : Activation) → a.program < length r.schedules
      → (state_at r.states a.program).waiting ≡ Some a.row → Waits r.schedules h a
  listed-waits a l e = (is.placed a.program l).some a.row e

  pub waits-listed : (a : Activation) → Waits r.schedules h a
      → (a.program < length r.schedules) × ((state_at r.states a.program).waiting ≡ Some a.row)
  waits-listed a w =
      let there = Waits-there r.schedules h a w in (
        there.0,
        IsProgramState-all r.schedules h a.program (state_at r.states a.program).waiting
            (state_at r.states a.program).overruns a.row (is.placed a.program there.0) w,
      )

  -- the activation of a program that waits is the one in its state
  pub waiting_told : (p : ℕ) (o : Option ℕ) → length r.states ≡ length r.schedules
      → (state_at r.states p).waiting ≡ o
      → MatchOption o ((row : ℕ) → Waits r.schedules h record { program = p; row = row } → ⊥)
      (λ row. Waits r.schedules h record { program = p; row = row })
  waiting_told p None same e = λ row w. let l = waits-listed record { program = p; row = row } w in
      let x = l.1 in cc
  waiting_told p (Some row) same e = elim (leb_tells (length r.states) p) [
    | inl past ↦
        let x = ap (λ (s : ProgramState). s.waiting)
        (get_or_past r.states p record { waiting = None; overruns = 0 } past.1) in absurd (cc)
    | inr within ↦ listed-waits record { program = p; row = row } (omega (arith, within.1, same)) e
  ]

  pub IsReadyOf-row : (row : NewRow) (ss : List Bool) (new : List ProgramState)
      → row.number ≡ r.rows
      → row.first ≡ (if r.rows == 0 then row.moment else r.first)
      → row.last ≡ (if r.rows == 0 then row.moment else r.last)
      → AreMarked r.schedules r.states new r.samples ss row
      → IsReadyOf (with_row h row.moment ss) record {
        schedules = r.schedules;
        samples = ss;
        states = new;
        first =
            row.first;
        last = row.moment;
        rows = r.rows + 1;
      }
  IsReadyOf-row row ss new number first last marks = record {
    rows = omega (arith, is.rows, longer_by);
    first = first_is;
    last = sym (ap (λ (t : SampledRow). t.moment) newest);
    samples = λ t.
        let z : (length (h.sampled ++ row_now ∷ []) == 0) ≡ false = grind (arith, nat_tests, longer_by) in
        rw (z, newest) refl;
    placed = λ p l.
        let d = due-new h.sampled row_now r.schedules p l ∙ is_due-new (schedule_at r.schedules p) h.sampled row_now
        (sample r.samples (schedule_at r.schedules p).task) row.first row.last
        (is.samples (schedule_at r.schedules p).task) at_first.0 at_first.1 at_last.0 at_last.1 in
        let e = marks p l ∙ ap (λ (n : ℕ). marked (state_at r.states p) (rule (schedule_at r.schedules p).interval
        record {
          is_first = n == 0;
          single_before = sample r.samples (schedule_at r.schedules p).task;
          single =
              sample ss (schedule_at r.schedules p).task;
          first = row.first;
          last = row.last;
          moment = row.moment;
        }) n)
        (number ∙ is.rows) in
        subst (IsProgramState r.schedules (with_row h row.moment ss) p) (sym e)
        (IsProgramState-row r.schedules h p row.moment ss (state_at r.states p) (is.placed p l) _ d);
  }
    where
      row_now : SampledRow
      row_now = record { moment = row.moment; samples = ss }

      longer_by : length (h.sampled ++ row_now ∷ []) ≡ length h.sampled + 1
      longer_by = length-append h.sampled (row_now ∷ [])

      newest : sampled_at (h.sampled ++ row_now ∷ []) (length (h.sampled ++ row_now ∷ []) - 1) ≡ row_now
      newest = let i : length (h.sampled ++ row_now ∷ []) - 1 ≡ length h.sampled = omega (arith, longer_by) in
          ap (sampled_at (h.sampled ++ row_now ∷ [])) i ∙ row_now-new h.sampled row_now

      zero_rows : length h.sampled ≡ 0 → (r.rows == 0) ≡ true
      zero_rows e = eq-eqb r.rows 0 (is.rows ∙ e)

      some_rows : 0 < length h.sampled → (r.rows == 0) ≡ false
      some_rows l = let e = is.rows in grind (arith, nat_tests)

      at_first : (length h.sampled ≡ 0 → row.first ≡ row.moment)
          × (0 < length h.sampled → row.first ≡ (sampled_at h.sampled 0).moment)
      at_first = (
        λ e. first ∙ ap (λ (b : Bool). if b then row.moment else r.first) (zero_rows e),
        λ l. first ∙ ap (λ (b : Bool). if b then row.moment else r.first) (some_rows l) ∙ is.first,
      )

      at_last : (length h.sampled ≡ 0 → row.last ≡ row.moment)
          × (0 < length h.sampled → row.last ≡ (sampled_at h.sampled (length h.sampled - 1)).moment)
      at_last = (
        λ e. last ∙ ap (λ (b : Bool). if b then row.moment else r.last) (zero_rows e),
        λ l. last ∙ ap (λ (b : Bool). if b then row.moment else r.last) (some_rows l) ∙ is.last,
      )

      first_at : (n : ℕ) → n ≡ length h.sampled → row.first ≡ (sampled_at (h.sampled ++ row_now ∷ []) 0).moment
      first_at zero e = at_first.0 (sym e) ∙ sym (ap (λ (t : SampledRow). t.moment)
          (ap (sampled_at (h.sampled ++ row_now ∷ [])) e ∙ row_now-new h.sampled row_now))
      first_at (suc n) e = at_first.1 (omega arith)
          ∙ sym (ap (λ (t : SampledRow). t.moment) (row_now-old h.sampled row_now 0 (omega arith)))

      first_is : row.first ≡ (sampled_at (h.sampled ++ row_now ∷ []) 0).moment
      first_is = first_at (length h.sampled) refl

  -- the same, for the code's values
  pub IsReadyOf-due :
      (row : NewRow) (ss got : List Bool) (new : List ProgramState) (schedules : List Schedule) (before : List Bool)
      → got ≡ ss → schedules ≡ r.schedules → before ≡ r.samples
      → row.number ≡ r.rows
      → row.first ≡ (if r.rows == 0 then row.moment else r.first)
      → row.last ≡ (if r.rows == 0 then row.moment else r.last)
      → AreMarked schedules r.states new before ss row
      → IsReadyOf (with_row h row.moment ss) record {
        schedules = r.schedules;
        samples = got;
        states = new;
        first =
            row.first;
        last = row.moment;
        rows = r.rows + 1;
      }
  IsReadyOf-due row ss got new schedules before g e b number first last marks =
      subst (λ x. IsReadyOf (with_row h row.moment ss) record {
        schedules = r.schedules;
        samples = x;
        states = new;
        first = row.first;
        last = row.moment;
        rows = r.rows + 1;
      }) (sym g)
      (IsReadyOf-row row ss new number first last (subst (λ x. AreMarked r.schedules r.states new x ss row) b
      (subst (λ x. AreMarked x r.states new before ss row) e marks)))

  -- the program's own state, and the rest of it
  module _ (a : Activation) (s left : ProgramState) (sized : length r.states ≡ length r.schedules)
      (l : a.program < length r.schedules) (same : s ≡ state_at r.states a.program)
      (taken : left ≡ record { waiting = None; overruns = s.overruns }) where
    left_there : state_at (slice_set r.states a.program left) a.program
        ≡ record { waiting = None; overruns = (state_at r.states a.program).overruns }
    left_there = get_or-set_at r.states a.program a.program left record { waiting = None; overruns = 0 } refl
        (omega (arith, l, sized)) ∙ taken ∙ ap (λ (x : ProgramState). record { waiting = None; overruns = x.overruns }) same

    own : (state_at r.states a.program).waiting ≡ Some a.row → IsProgramState r.schedules (with_run h a.program)
        a.program (state_at (slice_set r.states a.program left) a.program)
    own w =
        let was = subst (λ o. IsProgramState r.schedules h a.program
        record { waiting = o; overruns = (state_at r.states a.program).overruns }) w (is.placed a.program l) in
        subst (IsProgramState r.schedules (with_run h a.program) a.program) (sym left_there)
        (IsProgramState-own r.schedules h a.program a.row (state_at r.states a.program).overruns was)

    pub IsReadyOf-run : (state_at r.states a.program).waiting ≡ Some a.row
        → IsReadyOf (with_run h a.program) record {
          schedules = r.schedules;
          samples = r.samples;
          states =
              slice_set r.states a.program left;
          first = r.first;
          last = r.last;
          rows = r.rows;
        }
    IsReadyOf-run w = record {
      rows = is.rows;
      first = is.first;
      last = is.last;
      samples = is.samples;
      placed = λ p m. elim (eqb_tells a.program p) [
        | inl t ↦ subst
            (λ q. IsProgramState r.schedules (with_run h a.program) q (state_at (slice_set r.states a.program left) q))
            t.1 (own w)
        | inr f ↦ subst (IsProgramState r.schedules (with_run h a.program) p) (sym
            (get_or-set_other r.states a.program p left record { waiting = None; overruns = 0 } (λ e. f.1 (sym e))))
            (IsProgramState-other r.schedules h p a.program f.0 (state_at r.states p) (is.placed p m))
      ];
    }

  module _ (a : Activation) (list : List ProgramState) (same : list ≡ r.states)
      (sized : length r.states ≡ length r.schedules) (t : Bool)
      (tells : IsTrue t ↔ ((a.program < length list) × ((state_at list a.program).waiting ≡ Some a.row))) where
    told : IsTrue t ↔ ((a.program < length r.states) × ((state_at r.states a.program).waiting ≡ Some a.row))
    told = subst
        (λ (l : List ProgramState). IsTrue t ↔ ((a.program < length l) × ((state_at l a.program).waiting ≡ Some a.row)))
        same tells

    pub listed-iff-waits : IsTrue t ↔ Waits r.schedules h a
    listed-iff-waits = (
      λ b. let x = told.0 b in listed-waits a (omega (arith, x.0, sized)) x.1,
      λ w. let x = waits-listed a w in told.1 (omega (arith, x.0, sized), x.1),
    )

    pub listed-waits_not : t ≡ false → Waits r.schedules h a → ⊥
    listed-waits_not e w = let x = listed-iff-waits.1 w in cc

    pub listed-there : t ≡ true
        → (a.program < length r.schedules) × ((state_at r.states a.program).waiting ≡ Some a.row)
    listed-there e = let x = told.0 e in (omega (arith, x.0, sized), x.1)

pub overruns_there : (s : ProgramState) (states : List ProgramState) (r : Ready) (p : ℕ) → s ≡ state_at states p
    → states ≡ r.states
    → (h : History) → IsReadyOf h r → p < length r.schedules → HasOverruns r.schedules h p s.overruns
overruns_there s states r p e f h is l =
    subst (λ n. HasOverruns r.schedules h p n) (sym (ap (λ (s : ProgramState). s.overruns) (e ∙ ap (λ x. state_at x p) f)))
    (IsProgramState-overruns r.schedules h p (state_at r.states p) (is.placed p l))
