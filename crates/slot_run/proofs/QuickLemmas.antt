-- The effect of a run of quick code is that of the run of the instructions.
use Rattle.std.proofs.Common.{◌≡◌, ◌+◌, ◌≤◌, ◌++◌, ◌∷◌, [], ℕ, zero, suc, List, Bool, true, false, length, map, take}
use Rattle.std.proofs.Common.{if◌then◌else◌, refl, ap, sym, subst, ◌∙◌, arith}
use Rattle.std.proofs.lemmas.List.{length-append, length-replicate}
use Rattle.std.specs.Prelude.{Some, replicate, slice_get}
use Rattle.st_types.specs.declared.kind.Kind.{Kind}
use Rattle.st_types.specs.Values.{Datum, bool_datum}
use Rattle.st_meaning.specs.declared.outcome.Outcome.TheVariants.{Done}
use Rattle.st_meaning.specs.Failures.{in_runs}
use Rattle.machine_code.specs.declared.mark.Mark.{Mark}
use Rattle.machine_code.specs.Machine.{Ending, finished, runs}
use Rattle.machine_code.specs.Endings.{outcome_at_end}
use Rattle.machine_code.specs.Tracking.{Tracked, tracked, tracking, are_read, are_assigned}
use Rattle.quick_trees.specs.Windows.{IsWindow}
use Rattle.slot_code.specs.Quick.{AreIn, AreTyped, EndsWith, Wherever, run_of, unmarked}
use Rattle.slot_code.proofs.Filled.{filled, filled_in, filled_typed}
use Rattle.slot_code.specs.Codes.{CodeView}
use Rattle.slot_memory.specs.Cells.{cell_view, picked}
use Rattle.slot_run.specs.Runs.{HasRoomFor, marked_run, reads_of, writes_of}
use Rattle.slot_run.specs.Windows.{picked_in}
use Rattle.slot_run.specs.Executions.{IsRunOf}
use Rattle.slot_run.specs.declared.runner.Ran.{Ran}
use Rattle.slot_run.proofs.WindowLemmas.{ArePicked, mapped, none_picked, picked_so}
use Rattle.st_types.proofs.ListLemmas.{length_map}

-- the picks among the first `n` values depend only on the first `n` marks
picked_of : (f : Mark → Bool) (ms : List Mark) (n k : ℕ) (vs : List Datum) → length vs ≡ n
    → picked (map f (take n ms)) k vs ≡ picked (map f ms) k vs
picked_of f ms n k [] long = no_values (map f (take n ms)) (map f ms) k
  where
    no_values : (cs bs : List Bool) (k : ℕ) → picked cs k [] ≡ picked bs k []
    no_values [] [] k = refl
    no_values [] (b ∷ bs) k = refl
    no_values (c ∷ cs) [] k = refl
    no_values (c ∷ cs) (b ∷ bs) k = refl
picked_of f [] zero k (v ∷ vs) long = absurd (omega arith)
picked_of f [] (suc n) k (v ∷ vs) long = refl
picked_of f (m ∷ ms) zero k (v ∷ vs) long = absurd (omega arith)
picked_of f (m ∷ ms) (suc n) k (v ∷ vs) long =
    ap (λ cells. if f m then (k, v) ∷ cells else cells) (picked_of f ms n (suc k) vs (omega arith))

-- both runs begin with the same marks
run_is : (code : CodeView) (now : ℕ) (vs : List Datum) (budget : ℕ)
    → run_of code.instrs code.extra now vs budget ≡ marked_run code now vs budget
run_is code now vs budget =
    let rest = replicate code.extra (bool_datum false) in
    let long : length vs + code.extra ≡ length (vs ++ rest) =
    (let a = length-append vs rest in let b = length-replicate code.extra (bool_datum false) in omega arith) in
    ap (λ n. runs tracking in_runs now code.instrs (length code.instrs) []
    (tracked (vs ++ rest) (replicate n unmarked)) budget) long

module _ (window : List ℕ) (vs begun values : List Datum) (marks : List Mark) (ticks : ℕ)
    (is_window : IsWindow (length vs) window) (is_in : AreIn window vs begun) (e : Ending Tracked)
    (h : EndsWith window vs ticks values marks e) where
  abbrev n : ℕ
  n = length vs

  abbrev all : List Mark
  all = take n h.memory.marks

  -- slots of the window are picked by their marks, and no others
  are_picked : (f : Mark → Bool) → f unmarked ≡ false → (slots us : List Datum) → length slots ≡ n
      → AreIn window slots us → ArePicked 0 (map f all) slots window (map f marks) us
  are_picked f off slots us long is = record {
    many = length_map f all ∙ h.marked ∙ sym long;
    picks = length_map f marks ∙ h.long;
    values = is.long;
    from = λ w k at. omega arith;
    below = λ w k at. (let inside = is_window.inside w k at in omega arith);
    increasing = is_window.increasing;
    same = λ w d k at here. (let same : k ≡ d = omega arith in
        mapped f marks all w d (h.told w k at ∙ ap (slice_get all) same));
    value = λ w d k at here. (let same : k ≡ d = omega arith in is.each w k at ∙ ap (slice_get slots) same);
    off = λ d others on.
        none_picked f off n d
        (sym (mapped f all (replicate n unmarked) d d (h.stays.marks d (λ w at. others w d at (omega arith)))) ∙ on);
  }

  pub outcome_told : Done ≡ outcome_at_end e
  outcome_told = sym (ap outcome_at_end h.is)

  pub reads_told : picked_in window (are_read marks) begun ≡ reads_of e vs
  reads_told =
      sym (picked_so (are_read all) vs 0 window (are_read marks) begun
      (are_picked (λ (x : Mark). x.is_read) refl vs begun refl is_in))
      ∙ picked_of (λ (x : Mark). x.is_read) h.memory.marks n 0 vs refl
      ∙ sym (ap (λ e. reads_of e vs) h.is)

  pub writes_told : picked_in window (are_assigned marks) values ≡ writes_of e vs
  writes_told =
      sym (picked_so (are_assigned all) (take n h.memory.values) 0 window (are_assigned marks) values
      (are_picked (λ (x : Mark). x.is_assigned) refl (take n h.memory.values) values h.slots h.left))
      ∙ picked_of (λ (x : Mark). x.is_assigned) h.memory.marks n 0 (take n h.memory.values) h.slots
      ∙ sym (ap (λ e. writes_of e vs) h.is)

take_short : {A : Type 0} (n : ℕ) (xs : List A) → length (take n xs) ≡ n → n ≤ length xs
take_short zero xs e = omega arith
take_short (suc n) [] e = absurd (omega arith)
take_short (suc n) (x ∷ xs) e = (let le = take_short n xs (omega arith) in omega arith)

-- the memory has a value of each slot
pub is_long : (window : List ℕ) (vs values : List Datum) (marks : List Mark) (ticks : ℕ) (e : Ending Tracked)
    → EndsWith window vs ticks values marks e → HasRoomFor (length vs) e
is_long window vs values marks ticks e h =
    subst (HasRoomFor (length vs)) (sym h.is) (take_short (length vs) h.memory.values h.slots)

pub ends_here : (code : CodeView) (now : ℕ) (vs : List Datum) (budget ticks : ℕ) (window : List ℕ)
    (values : List Datum) (marks : List Mark)
    → EndsWith window vs ticks values marks (run_of code.instrs code.extra now vs budget)
    → EndsWith window vs ticks values marks (marked_run code now vs budget)
ends_here code now vs budget ticks window values marks h =
    subst (EndsWith window vs ticks values marks) (run_is code now vs budget) h

-- The result of a run over a window's values is that of the run of the code over all slots, if that ends so.
pub ran_so : (code : CodeView) (now budget ticks : ℕ) (window : List ℕ) (vs begun values : List Datum)
    (marks : List Mark) (ran : Ran) → IsWindow (length vs) window → AreIn window vs begun
    → EndsWith window vs ticks values marks (run_of code.instrs code.extra now vs budget)
    → map cell_view ran.reads.items ≡ picked_in window (are_read marks) begun
    → map cell_view ran.writes.items ≡ picked_in window (are_assigned marks) values → ran.outcome ≡ Done
    → IsRunOf (marked_run code now vs budget) vs ran
ran_so code now budget ticks window vs begun values marks ran is_window is_in ends reads writes done =
    let e = marked_run code now vs budget in
    let here = ends_here code now vs budget ticks window values marks ends in
    record {
      reads = reads ∙ reads_told window vs begun values marks ticks is_window is_in e here;
      writes = writes ∙ writes_told window vs begun values marks ticks is_window is_in e here;
      outcome = done ∙ outcome_told window vs begun values marks ticks is_window is_in e here;
    }

pub long_so : (code : CodeView) (now budget ticks : ℕ) (window : List ℕ) (vs values : List Datum) (marks : List Mark)
    → EndsWith window vs ticks values marks (run_of code.instrs code.extra now vs budget)
    → HasRoomFor (length vs) (marked_run code now vs budget)
long_so code now budget ticks window vs values marks ends =
    is_long window vs values marks ticks (marked_run code now vs budget)
    (ends_here code now vs budget ticks window values marks ends)

-- A property of all slots that have these values holds of some slots.
pub somewhere : (kinds : List Kind) (window : List ℕ) (vs : List Datum) (P : List Datum → Type 0)
    → IsWindow (length kinds) window → (typed : AreTyped kinds window vs) → Wherever kinds window vs P
    → (slots : List Datum) × P slots
somewhere kinds window vs P is_window typed h =
    let slots = filled kinds window vs is_window typed in
    (slots, h slots (filled_typed kinds window vs is_window typed) (filled_in kinds window vs is_window typed))
