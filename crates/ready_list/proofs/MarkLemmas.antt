-- The marking of all programs, step by step.
use Rattle.std.proofs.Common.{◌≡◌, ℕ, ◌+◌, ◌<◌, ◌≤◌, inl, inr, Bool, None, List, length, slice_set, sym, ap, refl, ◌∙◌}
use Rattle.std.proofs.Common.{arith, length-set}
use Rattle.std.proofs.lemmas.List.{get_or-set_other}
use Rattle.std.proofs.lemmas.Grind.{get_or-set_at}
use Rattle.std.proofs.lemmas.Bool.Decides.{eqb_tells}
use Rattle.st_meaning.specs.declared.plan.Schedule.{Schedule}
use Rattle.st_meaning.specs.Due.{schedule_at}
use Rattle.ready_list.specs.declared.program_state.ProgramState.{ProgramState}
use Rattle.ready_list.specs.declared.program_state.NewRow.{NewRow}
use Rattle.ready_list.specs.Ready.{state_at, is_due_at, marked}

module _ (schedules : List Schedule) (before samples : List Bool) (row : NewRow) (old : List ProgramState) where
  -- of the programs below n each is marked, and the others are as before
  abbrev pub MarkedBelow : ℕ → List ProgramState → Type 0
  MarkedBelow n now =
      ((p : ℕ) → p < n → state_at now p
      ≡ marked (state_at old p) (is_due_at row (schedule_at schedules p) before samples) row.number)
      × ((p : ℕ) → n ≤ p → state_at now p ≡ state_at old p)
      × (length now ≡ length old)

  module _ (n : ℕ) (now : List ProgramState) (was s : ProgramState) (l : n < length old) (so : MarkedBelow n now) (is : was
      ≡ state_at now n) (e : s ≡ marked was (is_due_at row (schedule_at schedules n) before samples) row.number) where
    here : state_at (slice_set now n s) n
        ≡ marked (state_at old n) (is_due_at row (schedule_at schedules n) before samples) row.number
    here =
        get_or-set_at now n n s record { waiting = None; overruns = 0 } refl (omega (arith, l, so.2))
        ∙ e ∙ ap (λ (x : ProgramState). marked x (is_due_at row (schedule_at schedules n) before samples) row.number)
        (is ∙ so.1 n (omega arith))

    other : (p : ℕ) → (n ≡ p → ⊥) → state_at (slice_set now n s) p ≡ state_at now p
    other p d = get_or-set_other now n p s record { waiting = None; overruns = 0 } (λ x. d (sym x))

    pub MarkedBelow-step : MarkedBelow (n + 1) (slice_set now n s)
    MarkedBelow-step = (
      λ p m. elim (eqb_tells n p) [
        | inl t ↦ ap (state_at (slice_set now n s)) (sym t.1) ∙ here
            ∙ ap (λ q. marked (state_at old q) (is_due_at row (schedule_at schedules q) before samples) row.number) t.1
        | inr f ↦ other p f.1 ∙ so.0 p (omega (arith, m, f.1))
      ],
      λ p m. other p (λ x. absurd (omega (arith, m, x))) ∙ so.1 p (omega (arith, m)),
      length-set now n s ∙ so.2,
    )
