-- An execution of a quick snapshot is one of each snapshot that it is part of.
use Rattle.std.proofs.Common.{◌≡◌, ◌∙◌, ap, sym, subst}
use Rattle.st_types.specs.Values.{Datum}
use Rattle.machine_code.specs.Machine.{Ending}
use Rattle.machine_code.specs.Tracking.{Tracked}
use Rattle.machine_code.specs.Endings.{outcome_at_end}
use Rattle.slot_code.specs.declared.code.Code.{Code}
use Rattle.slot_code.specs.Codes.{code_view}
use Rattle.slot_run.specs.Runs.{marked_run, reads_of, writes_of}
use Rattle.slot_run.specs.Effects.{Effect}
use Rattle.slot_run.specs.Executions.{IsEffectOf, run_of}
use Rattle.slot_run.specs.QuickExecutions.{IsPartOf, IsQuickEffectOf, run_over}
use Rattle.slot_run.specs.declared.quick_snapshot.QuickSnapshot.{QuickSnapshot}
use Rattle.slot_run.specs.declared.snapshot.Snapshot.{Snapshot}

pub part_of : (snapshot : Snapshot) (quick : QuickSnapshot) (effect : Effect) → IsPartOf snapshot quick
    → IsQuickEffectOf quick effect → IsEffectOf snapshot effect
part_of snapshot quick effect part is =
    let slots = snapshot.slots.items in
    let typed = snapshot.typed ∙ ap (λ (c : Code). c.kinds.value.items) (sym part.code) in
    let over = is.run slots typed part.values in
    let runs : run_over quick slots ≡ run_of snapshot =
    ap (λ (c : Code). marked_run (code_view c) quick.moment slots quick.budget) part.code
    ∙ ap (λ now. marked_run (code_view snapshot.code.value) now slots quick.budget) part.moment
    ∙ ap (λ b. marked_run (code_view snapshot.code.value) snapshot.moment slots b) part.budget in record {
      code = is.code ∙ ap code_view part.code;
      activation = is.activation ∙ part.activation;
      moment = is.moment ∙ part.moment;
      budget = is.budget ∙ part.budget;
      reads = over.reads ∙ ap (λ (e : Ending Tracked). reads_of e slots) runs;
      writes = over.writes ∙ ap (λ (e : Ending Tracked). writes_of e slots) runs;
      outcome = over.outcome ∙ ap outcome_at_end runs;
    }
