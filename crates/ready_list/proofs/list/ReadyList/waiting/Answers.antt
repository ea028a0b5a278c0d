use Rattle.std.proofs.Common.{◌≡◌, ◌∙◌, ℕ, ap, sym, subst}
use Rattle.std.specs.Prelude.{MatchOption}
use Rattle.st_meaning.specs.Due.{History, Waits}
use Rattle.ready_list.specs.Ready.{Ready, IsReadyOf, state_at}
use Rattle.ready_list.specs.declared.program_state.ProgramState.{ProgramState}
use Rattle.ready_list.proofs.ReadyLemmas.{waiting_told}
use Rattle.ready_list.proofs.list.ReadyList.waiting.Goals as goal

pub returns : goal.returns
returns c =
    subst (λ (r : Ready). (h : History) → IsReadyOf h r → MatchOption c.program_state_at.result.waiting
    ((row : ℕ) → Waits r.schedules h record { program = c.args.program; row = row } → ⊥)
    (λ row. Waits r.schedules h record { program = c.args.program; row = row })) c.self.view_is
    (λ h is. waiting_told is c.args.program c.program_state_at.result.waiting c.self.invariant.0
    (sym (ap (λ (s : ProgramState). s.waiting)
    (c.program_state_at.ensures ∙ ap (λ xs. state_at xs c.args.program) c.deref.ensures.value))))
