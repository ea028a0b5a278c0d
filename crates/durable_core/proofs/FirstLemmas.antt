-- A core with its log before its first entry.
use Rattle.std.proofs.Common.{◌≡◌, ◌∙◌, ◌≤◌, ℕ, List, [], length, map, refl, sym, ap, subst, arith}
use Rattle.std.proofs.lemmas.List.{length-map}
use Rattle.st_types.specs.declared.limits.TheConstants.{MAX_LOG_ROOM}
use Rattle.st_types.specs.Values.{Datum}
use Rattle.plan.specs.declared.plan.Plan.{Plan}
use Rattle.core_engine.specs.Steps.{past_in}
use Rattle.serial_core.specs.Kept.{HistoryView, with_start}
use Rattle.durable_core.specs.declared.starting.StartMode.{StartMode}
use Rattle.durable_core.specs.Started.{IsStarted}
use Rattle.durable_core.specs.Endless.{EndlessView, HasLog, IsCoreOf, core_in, first_core, first_state}
use Rattle.durable_core.proofs.EngineLemmas.{new_values}

-- the history of a life that starts with these values, before its first entry
abbrev pub blank_with : List Datum → ℕ → HistoryView
blank_with values room = record { start = values; log = []; outcomes = []; room = room }

-- the history before its life starts
abbrev pub blank : Plan → ℕ → HistoryView
blank plan room = blank_with (map (λ v. v.initial) plan.variables.items) room

-- the history of a life before its first entry
pub record IsBegun {D : Type 0} (core : EndlessView D) (history : HistoryView) (room : ℕ) : Type 0 where
  pub begun : history ≡ record { start = core.engine.values; log = []; outcomes = []; room = room }
  pub same : core_in core history.start history.log ≡ first_core core

pub begun_with : {D : Type 0} (core : EndlessView D) (first history : HistoryView) (values : List Datum) (plan : Plan)
    (room : ℕ) → first ≡ blank plan room → IsCoreOf core.engine.values [] core
    → values ≡ map (λ e. e.1) (past_in (first_state core.engine)).store → history ≡ with_start first values
    → IsBegun core history room
begun_with core first history values plan room was life are is =
    let begun = is ∙ ap (λ (h : HistoryView). with_start h values) was
    ∙ ap (with_start (blank plan room)) (are ∙ new_values core.engine life.lived) in
    record { begun = begun; same = ap (λ (h : HistoryView). core_in core h.start h.log) begun }

-- as many values as there are variables
pub variables_as_many : {D : Type 0} (core : EndlessView D) (first : HistoryView) (values : List Datum) (plan : Plan)
    (room : ℕ) (mode : StartMode) → first ≡ blank plan room → IsCoreOf core.engine.values [] core
    → values ≡ map (λ e. e.1) (past_in (first_state core.engine)).store → IsStarted (first_core core) plan mode room
    → length values ≡ length first.start
variables_as_many core first values plan room mode was life are is =
    ap length (are ∙ new_values core.engine life.lived) ∙ life.lived.kept.begun
    ∙ ap (λ (p : Plan). length p.variables.items) is.is_new.plan_is
    ∙ sym (length-map plan.variables.items (λ v. v.initial))
    ∙ sym (ap (λ (h : HistoryView). length h.start) was)

-- the core keeps its log
pub has_first : {D : Type 0} (core : EndlessView D) (history : HistoryView) (plan : Plan) (room : ℕ) (mode : StartMode)
    → IsCoreOf core.engine.values [] core → IsStarted (first_core core) plan mode room → room ≤ MAX_LOG_ROOM
    → IsBegun core history room → HasLog core history
has_first core history plan room mode life is few begun =
    subst (λ (h : HistoryView). HasLog core h) (sym begun.begun) (record {
      life = life;
      serial = record { lived = life.lived; outcomes_are = refl; within = omega arith };
      room = omega (arith, is.is_new.room_is);
      few = omega (arith, is.is_new.room_is, few);
    })
