-- Snapshots for runs of quick code.
use Rattle.std.proofs.Common.{◌≡◌, ◌∙◌, ℕ, true, Option, Some, option_map, refl, sym, ap}
use Rattle.std.proofs.Common.{subst, Ok}
use Rattle.st_meaning.specs.Slots.{agrees}
use Rattle.st_types.specs.declared.entry.Activation.{Activation}
use Rattle.st_meaning.specs.Logs.{row_at}
use Rattle.machine_code.specs.Tracking.{are_read, memory_of}
use Rattle.slot_code.specs.declared.code.Code.{Code}
use Rattle.slot_code.specs.Codes.{code_view}
use Rattle.slot_run.specs.Effects.{Effect}
use Rattle.slot_run.specs.Executions.{IsEffectOf}
use Rattle.slot_run.specs.QuickExecutions.{IsQuickEffectOf, run_over}
use Rattle.slot_run.specs.declared.quick_snapshot.QuickSnapshot.{QuickSnapshot}
use Rattle.slot_run.specs.declared.snapshot.Snapshot.{Snapshot}
use Rattle.slot_run.specs.declared.taken.Taken.{Taken}
use Rattle.slot_run.specs.declared.taken.Taken.TheVariants.{Quick, Whole}
use Rattle.plan.specs.declared.task.ProgramInstance.{ProgramInstance}
use Rattle.plan.specs.Reading.{QuickReadsAreAskedFor}
use Rattle.plan.proofs.PlanReads.{asks_for_quick_reads}
use Rattle.core_engine.specs.Steps.{State, code_at, past_in, slots_for, reads_are_current, IsOwn, IsSnapshotIn}
use Rattle.core_engine.specs.Quick.{IsBestIn, IsQuickSnapshotIn, IsTakenIn, TakesQuick}
use Rattle.core_engine.proofs.ReadLemmas.{picked_stand, reads_stand}
use Rattle.core_engine.proofs.TakeLemmas.{best_snapshot}

one : (a b : Code) → ◌≡◌ {A = Option Code} (Some a) (Some b) → a ≡ b
one a b e = cc

-- each value that is read of it is asked for
asked_for : (state : State) (quick : QuickSnapshot) → IsQuickSnapshotIn state quick
    → QuickReadsAreAskedFor state.plan (slots_for state quick.activation) quick
asked_for state quick parts p at =
    asks_for_quick_reads state.plan quick.activation.program p (slots_for state quick.activation) quick at
    (one quick.code.value p.code.value
    (sym parts.code ∙ ap (option_map (λ (q : ProgramInstance). q.code.value)) at)) parts.kinds parts.values

-- The snapshot of the best activation is the one for the resource.
pub best_taken : (state : State) (resource : ℕ) (a : Activation) (taken : Taken) → IsBestIn state resource a
    → IsTakenIn state a taken → TakesQuick state resource (Ok (Some taken))
best_taken state resource a (Quick quick) best is = (
  is.1,
  record {
    best = subst (IsBestIn state resource) (sym is.0) best;
    parts = is.2;
    asked = asked_for state quick is.2;
  },
)
best_taken state resource a (Whole snapshot) best is = (is.1, best_snapshot state resource a snapshot best is.0 is.2)

-- An execution of a quick snapshot is of its own program, and its reads are current.
pub quick_own : (state : State) (quick : QuickSnapshot) (effect : Effect) → IsQuickSnapshotIn state quick
    → IsQuickEffectOf quick effect → IsOwn state effect
quick_own state quick effect parts is = record {
  text = ap (λ (a : Activation). option_map code_view (code_at state.plan a.program)) is.activation
      ∙ ap (option_map code_view) parts.code ∙ ap (λ (c : _). Some c) (sym is.code);
  moment = is.moment ∙ parts.moment
      ∙ ap (λ (a : Activation). (row_at (past_in state).rows a.row).moment) (sym is.activation);
  budget = is.budget ∙ parts.budget;
}

pub quick_stands : (state : State) (quick : QuickSnapshot) (effect : Effect) → IsQuickSnapshotIn state quick
    → IsQuickEffectOf quick effect → reads_are_current state effect ≡ true
quick_stands state quick effect parts is =
    let slots = slots_for state quick.activation in
    let run = is.run slots parts.kinds parts.values in
    ap (λ (a : Activation). agrees (slots_for state a) effect.reads) is.activation
    ∙ ap (agrees slots) run.reads
    ∙ picked_stand (are_read (memory_of (run_over quick slots)).marks) 0 slots slots refl

-- So is one of a snapshot.
pub whole_own : (state : State) (snapshot : Snapshot) (effect : Effect) → IsSnapshotIn state snapshot
    → IsEffectOf snapshot effect → IsOwn state effect
whole_own state snapshot effect parts is = record {
  text = ap (λ (a : Activation). option_map code_view (code_at state.plan a.program)) is.activation
      ∙ ap (option_map code_view) parts.code ∙ ap (λ (c : _). Some c) (sym is.code);
  moment = is.moment ∙ parts.moment
      ∙ ap (λ (a : Activation). (row_at (past_in state).rows a.row).moment) (sym is.activation);
  budget = is.budget ∙ parts.budget;
}

pub whole_stands : (state : State) (snapshot : Snapshot) (effect : Effect) → IsSnapshotIn state snapshot
    → IsEffectOf snapshot effect → reads_are_current state effect ≡ true
whole_stands state snapshot effect parts is =
    ap (λ (a : Activation). agrees (slots_for state a) effect.reads) is.activation
    ∙ ap (λ vs. agrees vs effect.reads) (sym parts.slots) ∙ reads_stand snapshot effect is
