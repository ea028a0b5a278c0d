-- How far a run is.
use Rattle.std.specs.Prelude.{◌≡◌, ◌≤◌, refl, List, [], Result, Ok, Err, Option, Some, None, length}
use Rattle.std.specs.Coded.{Coded-set, coded_option}
use Rattle.std.proofs.Math.Bridge.{le_prop}
use Rattle.retain_store.specs.contracts.fault.StoreFault as fault
use Rattle.core_engine.specs.declared.refusal.Refusal.TheVariants.{Full, NotWaiting, Foreign, NotLater, NoMemory}
use Rattle.durable_core.specs.Cores.{CoreView}
use Rattle.st_types.specs.Rows.{Latch}
use Rattle.durable_core.specs.declared.refusal.Refusal.{Refusal}
use Rattle.durable_core.specs.declared.refusal.Refusal.TheVariants.{StoreFailed, Serial}
use Rattle.run_lock.specs.declared.phase.Phase.{Phase}
use Rattle.run_lock.specs.declared.phase.Phase.TheVariants.{Running, Ended, Stopped}
use Rattle.run_lock.specs.declared.phase.RunFault.{RunFault}
use Rattle.run_lock.specs.declared.phase.RunFault.TheVariants.{Refused, NotStarted, NotSettled}

-- the first end stays
abbrev pub ended_by : Phase → Phase → Phase
ended_by Running end = end
ended_by Ended end = Ended
ended_by (Stopped fault) end = Stopped fault

-- a row that is refused stops the run
abbrev pub phase_after : Phase → Option Refusal → Phase
phase_after now None = now
phase_after now (Some refusal) = Stopped (Refused refusal)

-- a call that is refused stops the run, unless it has ended
abbrev pub phase_after_answer : {T : Type 0} → Phase → Result T Refusal → Phase
phase_after_answer now (Ok answer) = now
phase_after_answer now (Err refusal) = ended_by now (Stopped (Refused refusal))

-- The rows that a run deals with, until it is stopped: a row that was refused is lost.
abbrev pub unless_stopped : Phase → List Latch → List Latch
unless_stopped Running rows = rows
unless_stopped Ended rows = rows
unless_stopped (Stopped fault) rows = []

-- The cause of a stop is true of the core: K5 if the store has failed, for this cause, and K1 if the log is full.
abbrev pub IsCauseIn : {D : Type 0} → RunFault → CoreView D → Type 0
IsCauseIn (Refused (StoreFailed cause)) core = core.failed ≡ Some cause
IsCauseIn (Refused (Serial Full)) core = core.state.room ≤ length core.state.log
IsCauseIn (Refused (Serial NotWaiting)) core = Unit {0}
IsCauseIn (Refused (Serial Foreign)) core = Unit {0}
IsCauseIn (Refused (Serial NotLater)) core = Unit {0}
IsCauseIn (Refused (Serial NoMemory)) core = Unit {0}
IsCauseIn NotStarted core = Unit {0}
IsCauseIn NotSettled core = Unit {0}

-- the same for a run that may go on, or that has come to its end
abbrev pub IsStoppedFor : {D : Type 0} → Phase → CoreView D → Type 0
IsStoppedFor Running core = Unit {0}
IsStoppedFor Ended core = Unit {0}
IsStoppedFor (Stopped fault) core = IsCauseIn fault core

unit_prop : IsProp (Unit {0})
unit_prop a b = refl

pub IsStoppedFor-prop : {D : Type 0} (phase : Phase) (core : CoreView D) → IsProp (IsStoppedFor phase core)
IsStoppedFor-prop Running core = unit_prop
IsStoppedFor-prop Ended core = unit_prop
IsStoppedFor-prop (Stopped (Refused (StoreFailed cause))) core =
    Coded-set (coded_option fault.the_row.coded) core.failed (Some cause)
IsStoppedFor-prop (Stopped (Refused (Serial Full))) core = le_prop
IsStoppedFor-prop (Stopped (Refused (Serial NotWaiting))) core = unit_prop
IsStoppedFor-prop (Stopped (Refused (Serial Foreign))) core = unit_prop
IsStoppedFor-prop (Stopped (Refused (Serial NotLater))) core = unit_prop
IsStoppedFor-prop (Stopped (Refused (Serial NoMemory))) core = unit_prop
IsStoppedFor-prop (Stopped NotStarted) core = unit_prop
IsStoppedFor-prop (Stopped NotSettled) core = unit_prop

-- a fault that doesn't come from a core
abbrev pub IsOfNoCore : RunFault → Type 0
IsOfNoCore (Refused (Serial NoMemory)) = Unit {0}
IsOfNoCore (Refused refusal) = ⊥
IsOfNoCore NotStarted = Unit {0}
IsOfNoCore NotSettled = Unit {0}

-- a run that comes to its end, or is stopped for a fault that doesn't come from a core
abbrev pub MayEnd : Phase → Type 0
MayEnd Running = Unit {0}
MayEnd Ended = Unit {0}
MayEnd (Stopped fault) = IsOfNoCore fault
