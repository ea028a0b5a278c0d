-- The rows that a run deals with in each phase.
use Rattle.std.proofs.Common.{◌≡◌, ◌∙◌, ◌≤◌, ℕ, refl, ap, arith, length, List, [], ◌∷◌, Option, Some, None, inl, inr}
use Rattle.std.specs.Prelude.{Result, Ok, Err, IfErr}
use Rattle.retain_store.specs.declared.fault.StoreFault.{StoreFault}
use Rattle.core_engine.specs.declared.refusal.Refusal.{Refusal as SerialRefusal}
use Rattle.core_engine.specs.declared.refusal.Refusal.TheVariants.{Full, NotWaiting, Foreign, NotLater, NoMemory}
use Rattle.serial_core.specs.Steps.{State, Latches}
use Rattle.durable_core.specs.Cores.{CoreView, Guards}
use Rattle.durable_core.specs.Flushing.{Flushes}
use Rattle.durable_core.specs.declared.refusal.Refusal.TheVariants.{StoreFailed, Serial}
use Rattle.st_types.specs.Rows.{Latch}
use Rattle.durable_core.specs.declared.refusal.Refusal.{Refusal}
use Rattle.run_lock.specs.declared.phase.Phase.{Phase}
use Rattle.run_lock.specs.declared.phase.RunFault.{RunFault}
use Rattle.run_lock.specs.declared.phase.Phase.TheVariants.{Running, Ended, Stopped}
use Rattle.run_lock.specs.declared.phase.RunFault.TheVariants.{Refused, NotStarted, NotSettled}
use Rattle.run_lock.specs.Phases.{ended_by, phase_after, phase_after_answer, unless_stopped, IsCauseIn, IsStoppedFor, IsOfNoCore}
use Rattle.run_lock.specs.Phases.{MayEnd}
use Rattle.run_lock.specs.Latching.{LatchesNext}

pub same_ended : (now end : Phase) (xs ys : List Latch) → unless_stopped now xs ≡ unless_stopped now ys
    → unless_stopped (ended_by now end) xs ≡ unless_stopped (ended_by now end) ys
same_ended Running Running xs ys e = e
same_ended Running Ended xs ys e = e
same_ended Running (Stopped fault) xs ys e = refl
same_ended Ended end xs ys e = e
same_ended (Stopped fault) end xs ys e = refl

pub same_refused : (now : Phase) (refusal : Refusal) (xs ys : List Latch)
    → unless_stopped (phase_after now (Some refusal)) xs ≡ unless_stopped (phase_after now (Some refusal)) ys
same_refused now refusal xs ys = refl

pub whole_unless_stopped : (now : Phase) (xs ys : List Latch) → ((fault : RunFault) → now ≡ Stopped fault → ⊥)
    → unless_stopped now xs ≡ unless_stopped now ys → xs ≡ ys
whole_unless_stopped Running xs ys not e = e
whole_unless_stopped Ended xs ys not e = e
whole_unless_stopped (Stopped fault) xs ys not e = absurd (not fault refl)

pub same_answered : {T : Type 0} (now : Phase) (r : Result T Refusal) (xs ys : List Latch)
    → unless_stopped now xs ≡ unless_stopped now ys
    → unless_stopped (phase_after_answer now r) xs ≡ unless_stopped (phase_after_answer now r) ys
same_answered now (Ok a) xs ys e = e
same_answered now (Err refusal) xs ys e = same_ended now (Stopped (Refused refusal)) xs ys e

-- ---- the cause of a stop stays true

-- a core in which each possible cause of a stop stays true
pub record StaysSo {D : Type 0} (old new : CoreView D) : Type 0 where
  pub failed : (cause : StoreFault) → old.failed ≡ Some cause → new.failed ≡ Some cause
  pub room : new.state.room ≡ old.state.room
  pub longer : length old.state.log ≤ length new.state.log

-- a full log stays full
pub full_stays : (old new : State) → new ≡ old → old.room ≤ length old.log → new.room ≤ length new.log
full_stays old new same full =
    omega (arith, full, ap (λ (s : State). s.room) same, ap (λ (s : State). length s.log) same)

module _ {D : Type 0} where
  so_stays : (fault : RunFault) (old new : CoreView D) → StaysSo old new → IsCauseIn fault old → IsCauseIn fault new
  so_stays (Refused (StoreFailed cause)) old new stays is = stays.failed cause is
  so_stays (Refused (Serial Full)) old new stays is = omega (arith, stays.room, stays.longer, is)
  so_stays (Refused (Serial NotWaiting)) old new stays is = tt
  so_stays (Refused (Serial Foreign)) old new stays is = tt
  so_stays (Refused (Serial NotLater)) old new stays is = tt
  so_stays (Refused (Serial NoMemory)) old new stays is = tt
  so_stays NotStarted old new stays is = tt
  so_stays NotSettled old new stays is = tt

  pub stopped_stays : (phase : Phase) (old new : CoreView D) → StaysSo old new → IsStoppedFor phase old
      → IsStoppedFor phase new
  stopped_stays Running old new stays is = tt
  stopped_stays Ended old new stays is = tt
  stopped_stays (Stopped fault) old new stays is = so_stays fault old new stays is

  stopped_ended : (now : Phase) (fault : RunFault) (core : CoreView D) → IsStoppedFor now core → IsCauseIn fault core
      → IsStoppedFor (ended_by now (Stopped fault)) core
  stopped_ended Running fault core was is = is
  stopped_ended Ended fault core was is = tt
  stopped_ended (Stopped first) fault core was is = was

  pub stopped_answer : {T : Type 0} (now : Phase) (r : Result T Refusal) (core : CoreView D) → IsStoppedFor now core
      → IfErr r (λ refusal. IsCauseIn (Refused refusal) core) → IsStoppedFor (phase_after_answer now r) core
  stopped_answer now (Ok a) core was is = was
  stopped_answer now (Err refusal) core was is = stopped_ended now (Refused refusal) core was is

  -- the cause that a refused call reports is true of the core
  pub refused_so : {T : Type 0} (old new : CoreView D) (r : Result T Refusal) (R : Result T SerialRefusal → Type 0)
      → Guards old r new R → (R (Err Full) → new.state.room ≤ length new.state.log)
      → IfErr r (λ refusal. IsCauseIn (Refused refusal) new)
  refused_so old new (Ok a) R g full = tt
  refused_so old new (Err (StoreFailed cause)) R g full = ap (λ (c : CoreView D). c.failed) g.1 ∙ g.0
  refused_so old new (Err (Serial Full)) R g full = full g.2
  refused_so old new (Err (Serial NotWaiting)) R g full = tt
  refused_so old new (Err (Serial Foreign)) R g full = tt
  refused_so old new (Err (Serial NotLater)) R g full = tt
  refused_so old new (Err (Serial NoMemory)) R g full = tt

  -- so is the cause that a refused row reports
  pub refused_row : (old new : CoreView D) (row : Latch) (refusal : Refusal)
      → Guards {A = ℕ} old (Err refusal) new (λ r. Latches old.state row r new.state) → IsCauseIn (Refused refusal) new
  refused_row old new row refusal g = refused_so old new (Err refusal) (λ r. Latches old.state row r new.state) g
      (λ full. full_stays old.state new.state full.1 full.0)

  pub may_end_so : (end : Phase) (core : CoreView D) → MayEnd end → IsStoppedFor end core
  may_end_so Running core may = tt
  may_end_so Ended core may = tt
  may_end_so (Stopped (Refused (StoreFailed cause))) core may = absurd may
  may_end_so (Stopped (Refused (Serial Full))) core may = absurd may
  may_end_so (Stopped (Refused (Serial NotWaiting))) core may = absurd may
  may_end_so (Stopped (Refused (Serial Foreign))) core may = absurd may
  may_end_so (Stopped (Refused (Serial NotLater))) core may = absurd may
  may_end_so (Stopped (Refused (Serial NoMemory))) core may = tt
  may_end_so (Stopped NotStarted) core may = tt
  may_end_so (Stopped NotSettled) core may = tt

  pub stopped_by_end : (now end : Phase) (core : CoreView D) → IsStoppedFor now core → MayEnd end
      → IsStoppedFor (ended_by now end) core
  stopped_by_end Running end core was may = may_end_so end core may
  stopped_by_end Ended end core was may = tt
  stopped_by_end (Stopped fault) end core was may = was

  -- a fault that doesn't come from a core is true of each
  pub no_core_so : (fault : RunFault) (core : CoreView D) → IsOfNoCore fault → IsCauseIn fault core
  no_core_so fault core of = may_end_so (Stopped fault) core of

  -- the cause of a stop before or after a row is true of the core after it
  pub latch_stopped : (now : Phase) (old new : CoreView D) (rest : List Latch) (refusal : Option Refusal)
      → LatchesNext old rest refusal new → StaysSo old new → IsStoppedFor now old
      → IsStoppedFor (phase_after now refusal) new
  latch_stopped now old new rest None h stays was = stopped_stays now old new stays was
  latch_stopped now old new [] (Some refusal) h stays was = absurd h
  latch_stopped now old new (row ∷ rest) (Some refusal) h stays was = refused_row old new row refusal h

  -- ---- a flush

  -- the parts that a flush leaves as they were, and that no acknowledgement is taken back
  pub record Keeps (old new : CoreView D) : Type 0 where
    pub state_stays : new.state ≡ old.state
    pub mode_stays : new.mode ≡ old.mode
    pub acked_grows : old.acked ≤ new.acked
    pub failed_stays : (cause : StoreFault) → old.failed ≡ Some cause → new.failed ≡ Some cause

  pub flush_keeps : (old : CoreView D) (r : Result ℕ Refusal) (new : CoreView D) → Flushes old r new
      → old.acked ≤ length old.state.log → Keeps old new
  flush_keeps old (Ok n) new h few = record {
    state_stays = h.2;
    mode_stays = h.7;
    acked_grows = omega (arith, few, h.1, h.3);
    failed_stays = λ cause is. absurd (let e = h.0 in cc);
  }
  flush_keeps old (Err (StoreFailed cause)) new (inl h) few = record {
    state_stays = ap (λ (c : CoreView D). c.state) h.1;
    mode_stays = ap (λ (c : CoreView D). c.mode) h.1;
    acked_grows = omega (arith, ap (λ (c : CoreView D). c.acked) h.1);
    failed_stays = λ first is. ap (λ (c : CoreView D). c.failed) h.1 ∙ is;
  }
  flush_keeps old (Err (StoreFailed cause)) new (inr h) few = record {
    state_stays = h.2;
    mode_stays = h.5;
    acked_grows = omega (arith, h.3);
    failed_stays = λ first is. absurd (let e = h.0 in cc);
  }
  flush_keeps old (Err (Serial refusal)) new h few = absurd h

  -- the cause that a refused flush reports is true of the core
  pub flush_so : (old : CoreView D) (r : Result ℕ Refusal) (new : CoreView D) → Flushes old r new
      → IfErr r (λ refusal. IsCauseIn (Refused refusal) new)
  flush_so old (Ok n) new h = tt
  flush_so old (Err (StoreFailed cause)) new (inl h) = ap (λ (c : CoreView D). c.failed) h.1 ∙ h.0
  flush_so old (Err (StoreFailed cause)) new (inr h) = h.4
  flush_so old (Err (Serial refusal)) new h = absurd h

  pub keeps_so : (old new : CoreView D) → Keeps old new → StaysSo old new
  keeps_so old new k = record {
    failed = k.failed_stays;
    room = ap (λ (s : State). s.room) k.state_stays;
    longer = omega (arith, ap (λ (s : State). length s.log) k.state_stays);
  }
