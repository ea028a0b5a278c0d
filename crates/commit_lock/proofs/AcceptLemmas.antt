-- The traces that a replay accepts.
use Rattle.std.proofs.Common.{◌≡◌, ◌≢◌, ◌∙◌, ℕ, List, [], ◌++◌, Option, Some, None, refl, sym, ap, subst, inl, inr}
use Rattle.std.specs.Prelude.{◌⊎◌, Result, Ok, Err, IfOk, IfErr, IfSome}
use Rattle.st_types.specs.Rows.{Latch}
use Rattle.st_meaning.specs.Restarts.{Start}
use Rattle.st_meaning.specs.Logs.{Log}
use Rattle.plan.specs.declared.plan.Plan.{Plan}
use Rattle.durable_core.specs.declared.starting.StartMode.{StartMode}
use Rattle.trace.specs.declared.trace_error.ReplayError.{ReplayError}
use Rattle.trace.specs.declared.trace_error.ReplayError.TheVariants as replays
use Rattle.commit_lock.specs.declared.findings.Replayed.{Replayed}
use Rattle.commit_lock.specs.Replays.{Accepts, AreFindings, IsTrace}

is_memory : (e : ReplayError) → ((e ≢ replays.NoMemory) → ⊥) → e ≡ replays.NoMemory
is_memory replays.NoMemory not = refl
is_memory replays.Form not = absurd (not (λ e. absurd (cc)))
is_memory replays.Row not = absurd (not (λ e. absurd (cc)))
is_memory replays.NotWaiting not = absurd (not (λ e. absurd (cc)))
is_memory replays.Outcome not = absurd (not (λ e. absurd (cc)))
is_memory replays.Device not = absurd (not (λ e. absurd (cc)))
is_memory replays.Order not = absurd (not (λ e. absurd (cc)))

-- if the findings apply to each life and only out of memory refuses one, the replay accepts each life
pub accepted : (plan : Plan) (rows : List Latch) (text : List ℕ) (result : Result Replayed ReplayError)
    → IfOk result (λ r. (mode : StartMode) (start : Start) (log : Log) → IsTrace plan rows text mode start log
    → AreFindings plan start log r.rows r.done r.faults r.overruns r.values.items)
    → IfErr result (λ e. e ≢ replays.NoMemory → (mode : StartMode) (start : Start) (log : Log)
    → IsTrace plan rows text mode start log → ⊥)
    → Accepts plan rows text (λ e. e ≡ replays.NoMemory) result
accepted plan rows text (Ok r) only refused mode start log t = only mode start log t
accepted plan rows text (Err e) only refused mode start log t = is_memory e (λ not. refused not mode start log t)

weaker : (plan : Plan) (rows : List Latch) (text : List ℕ) (result : Result Replayed ReplayError)
    → Accepts plan rows text (λ e. e ≡ replays.NoMemory) result
    → Accepts plan rows text (λ e. (e ≡ replays.NoMemory) ⊎ (e ≡ replays.Device)) result
weaker plan rows text (Ok r) accepts mode start log t = accepts mode start log t
weaker plan rows text (Err e) accepts mode start log t = inl (accepts mode start log t)

-- an accepted text is also accepted from the reader that gave it
pub read_accepts : (plan : Plan) (rows : List Latch) (known : Option (List ℕ)) (before items text : List ℕ)
    (result : Result Replayed ReplayError) → before ≡ [] → IfSome known (λ xs. items ≡ before ++ xs) → text ≡ items
    → Accepts plan rows text (λ e. e ≡ replays.NoMemory) result
    → IfSome known (λ xs. Accepts plan rows xs (λ e. (e ≡ replays.NoMemory) ⊎ (e ≡ replays.Device)) result)
read_accepts plan rows None before items text result empty read same accepts = tt
read_accepts plan rows (Some xs) before items text result empty read same accepts =
    subst (λ ys. Accepts plan rows ys (λ e. (e ≡ replays.NoMemory) ⊎ (e ≡ replays.Device)) result)
    (same ∙ read ∙ ap (λ ys. ys ++ xs) empty) (weaker plan rows text result accepts)

-- if the reader failed, the only errors are out of memory and the device's
pub unread_accepts : (plan : Plan) (rows : List Latch) (known : Option (List ℕ)) (e : ReplayError)
    → (e ≡ replays.NoMemory) ⊎ (e ≡ replays.Device)
    → IfSome known (λ xs. Accepts plan rows xs (λ x. (x ≡ replays.NoMemory) ⊎ (x ≡ replays.Device)) (Err e))
unread_accepts plan rows None e why = tt
unread_accepts plan rows (Some xs) e why = λ mode start log t. why
