-- Why a replay is refused.
use Rattle.std.proofs.Common.{◌≡◌, ◌≢◌, ◌∙◌, refl, subst, ap, List, ℕ, None, Some, Result, Ok, Err, IfOk, IfErr, map}
use Rattle.std.proofs.Common.{option_map, slice_get, ◌⊎◌, inl, inr, sym, true, false, Option, IsNone, IsSome}
use Rattle.std.specs.Vec.{vec_items}
use Rattle.plan.specs.declared.plan.Plan.{Plan}
use Rattle.st_types.specs.Rows.{Latch}
use Rattle.st_meaning.specs.Restarts.{Start}
use Rattle.st_meaning.specs.Logs.{Log}
use Rattle.image.specs.declared.plant_error.PlantError.{PlantError}
use Rattle.durable_core.specs.declared.starting.StartMode.{StartMode}
use Rattle.commit_lock.specs.declared.findings.Replayed.{Replayed}
use Rattle.trace.specs.declared.trace_error.ReplayError.{ReplayError}
use Rattle.trace.specs.declared.trace_error.ReplayError.TheVariants as replays
use Rattle.commit_lock.specs.Replays.{AreFindings, IsTrace}
use Rattle.source_run.specs.declared.fault.Fault.{Fault}
use Rattle.source_run.specs.declared.fault.Fault.TheVariants as faults
use Rattle.source_run.specs.Reports.{report_text}
use Rattle.source_run.specs.Lives.{IsReport, counts_of}
use Rattle.source_run.specs.Sources.{RefusesSource}
use Rattle.plant_main.specs.Jobs.{IsReportOfTrace, IsTraceFault}

-- V1 to V4 do not mean out of memory
pub no_memory : (e : ReplayError) → IsTraceFault (faults.Trace e) → e ≢ replays.NoMemory
no_memory replays.NoMemory h is = h
no_memory replays.Form h is = absurd (cc)
no_memory replays.Row h is = absurd (cc)
no_memory replays.NotWaiting h is = absurd (cc)
no_memory replays.Outcome h is = absurd (cc)
no_memory replays.Order h is = absurd (cc)
no_memory replays.Device h is = h

-- the fault of a refused source is none of them
pub no_trace_fault : (budget : ℕ) (fault : Fault) → RefusesSource budget fault → IsTraceFault fault → ⊥
no_trace_fault budget (faults.Trace e) refuses h = refuses
no_trace_fault budget faults.Source refuses h = h
no_trace_fault budget (faults.Build e) refuses h = h
no_trace_fault budget (faults.Plant e) refuses h = h
no_trace_fault budget (faults.Start e) refuses h = h
no_trace_fault budget (faults.Run e) refuses h = h

-- no fault of a plant is one of them
pub no_plant_fault : (e : PlantError) (fault : Fault) → fault ≡ faults.Plant e → IsTraceFault fault → ⊥
no_plant_fault e fault is h = subst (λ (f : Fault). IsTraceFault f) is h

-- the report of a life that was found is that of the life whose trace it is
pub told_so : (plan : Plan) (rows : List Latch) (trace told : List ℕ) (r : Replayed)
    → told ≡ report_text (counts_of r) (map vec_items plan.enumerations.items) plan.variables.items r.values.items
    → (mode : StartMode) (start : Start) (log : Log) → IsTrace plan rows trace mode start log
    → AreFindings plan start log r.rows r.done r.faults r.overruns r.values.items
    → ((m : StartMode) (s : Start) (l : Log) → IsTrace plan rows trace m s l
    → AreFindings plan s l r.rows r.done r.faults r.overruns r.values.items)
    → IsReportOfTrace plan rows trace told
told_so plan rows trace told r text mode start log is found only = record {
  mode = mode;
  start = start;
  log = log;
  is = is;
  report = report start log found;
  only = λ m s l t. report s l (only m s l t);
}
  where
    report : (s : Start) (l : Log) → AreFindings plan s l r.rows r.done r.faults r.overruns r.values.items
        → IsReport plan s l None told
    report s l f =
        record { counts = counts_of r; values = r.values.items; found = f; acked_are = refl; spelled = text }

-- a fact that follows of a value, and of a fault
pub mapped : {T E : Type 0} (P Q : T → Type 0) (r : Result T E) → ((t : T) → P t → Q t) → IfOk r P → IfOk r Q
mapped P Q (Ok t) step holds = step t holds
mapped P Q (Err e) step holds = tt

pub mapped_fault : {T E : Type 0} (P Q : E → Type 0) (r : Result T E) → ((e : E) → P e → Q e) → IfErr r P → IfErr r Q
mapped_fault P Q (Ok t) step holds = tt
mapped_fault P Q (Err e) step holds = step e holds

-- a trace that can't be read is no V1 to V4
pub device_or_memory : (e : ReplayError) → (e ≡ replays.NoMemory) ⊎ (e ≡ replays.Device) → IsTraceFault (faults.Trace e) → ⊥
device_or_memory e (inl memory) is = subst (λ (x : ReplayError). IsTraceFault (faults.Trace x)) memory is
device_or_memory e (inr device) is = subst (λ (x : ReplayError). IsTraceFault (faults.Trace x)) device is

pub none_or_some : {T : Type 0} (o : Option T) → IsNone o → IsSome o → ⊥
none_or_some o none some = let bad : true ≡ false = sym some ∙ none in cc
