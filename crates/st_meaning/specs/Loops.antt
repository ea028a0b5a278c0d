-- Loops.
use Rattle.std.specs.Prelude.{ℕ, zero, suc, ℤ, pos, ◌+ℤ◌, int_lt, int_le, Bool, if◌then◌else◌, Option, Some, None}
use Rattle.std.specs.Prelude.{Result, Ok, Err}
use Rattle.st_types.specs.declared.fault.Fault.{Fault}
use Rattle.st_types.specs.declared.fault.Fault.TheVariants.{Budget, ZeroStep}
use Rattle.st_types.specs.Values.{Datum, in_range}
use Rattle.st_types.specs.Paths.{Path}
use Rattle.st_meaning.specs.Failures.{Failure, ill_typed, StuckFaults, or_failure}
use Rattle.st_meaning.specs.Stores.{Store, get, assigned}
use Rattle.st_meaning.specs.Ticks.{Run, ◌>>=◌, ◌>>◌, give, fault, attempt, proceed, tick}

-- how statements end, with the state that they leave: the store here, slots elsewhere
pub data EndOf (S : Type 0) : Type 0 where
  goes_on : S → EndOf S
  exits : S → EndOf S
  returns : S → EndOf S

abbrev pub End : Type 0
End = EndOf Store

-- the run goes on after statements that ended so
abbrev pub continue_with : {S : Type 0} → EndOf S → (S → Run (EndOf S)) → Run (EndOf S)
continue_with (goes_on s) next = next s
continue_with (exits s) next = give (exits s)
continue_with (returns s) next = give (returns s)

-- how one turn of a loop ends: another turn is wanted, or the loop is over
pub data IterationOf (S : Type 0) : Type 0 where
  again : S → IterationOf S
  over : EndOf S → IterationOf S

abbrev pub Iteration : Type 0
Iteration = IterationOf Store

-- a turn whose body ended so: EXIT leaves the loop, RETURN the unit
abbrev pub turned : {S : Type 0} → EndOf S → IterationOf S
turned (goes_on s) = again s
turned (exits s) = over (goes_on s)
turned (returns s) = over (returns s)

-- the loop goes on with the step that was made, or ends if none could be
abbrev pub resumed : {S : Type 0} → (S → Run (EndOf S)) → S → Option S → Run (EndOf S)
resumed next s None = give (goes_on s)
resumed next s (Some t) = next t

-- after a turn: the tick of going back, the step of the control variable, and the loop again
abbrev pub go_back : {S : Type 0} → (S → Run (Option S)) → (S → Run (EndOf S)) → IterationOf S → Run (EndOf S)
go_back step next (over e) = give e
go_back step next (again s) = do
  tick
  o ← step s
  resumed next s o

-- A loop of at most n turns. One that begins with n ticks goes back at most n times, so for it suc n turns are enough.
unfoldable pub turns : {S : Type 0} → ℕ → (S → Run (IterationOf S)) → (S → Run (Option S)) → S → Run (EndOf S)
turns zero turn step s = fault Budget
turns (suc n) turn step s = do
  t ← turn s
  go_back step (turns n turn step) t

unfoldable pub looped : {S : Type 0} → (S → Run (IterationOf S)) → (S → Run (Option S)) → S → Run (EndOf S)
looped turn step s = λ b. turns (suc b) turn step s b

-- a turn with its condition at the head
unfoldable pub guarded : {S : Type 0} → (S → Run Bool) → (S → Run (EndOf S)) → S → Run (IterationOf S)
guarded condition body s = do
  go ← condition s
  if go then (do e ← body s; give (turned e)) else give (over (goes_on s))

-- whether a turn whose body ended so is the last: the condition is tested if the body went on
abbrev pub tested_after : {S : Type 0} → (S → Run Bool) → EndOf S → Run (IterationOf S)
tested_after condition (goes_on s) = do
  stop ← condition s
  give (if stop then over (goes_on s) else again s)
tested_after condition (exits s) = give (over (goes_on s))
tested_after condition (returns s) = give (over (returns s))

-- a turn with its condition at the foot
unfoldable pub until : {S : Type 0} → (S → Run (EndOf S)) → (S → Run Bool) → S → Run (IterationOf S)
until body condition s = do
  e ← body s
  tested_after condition e

-- the control variable has not passed the limit: it is not above it for a positive step, and not below it for a
-- negative one
unfoldable pub runs_on : StuckFaults → Path → ℤ → ℤ → Store → Run Bool
runs_on stuck_faults x limit step s = do
  v ← attempt stuck_faults (or_failure ill_typed (get s x))
  give (if int_lt step (pos 0) then int_le limit v.number else int_le v.number limit)

abbrev pub unless_fault : Result Datum Fault → Option Datum
unless_fault (Ok v) = Some v
unless_fault (Err e) = None

-- the control variable one step on, or none if the sum would leave its type
abbrev pub stepped_on : ℤ → Datum → Option Datum
stepped_on step v = unless_fault (in_range v.kind (v.number +ℤ step))

-- the store with the control variable one step on, if there is a step
abbrev pub stored : Store → Path → Option Datum → Result (Option Store) Failure
stored s x None = Ok None
stored s x (Some v) = proceed (assigned s x v) (λ t. Ok (Some t))

unfoldable pub step_on : StuckFaults → Path → ℤ → Store → Run (Option Store)
step_on stuck_faults x step s =
    attempt stuck_faults (proceed (or_failure ill_typed (get s x)) (λ v. stored s x (stepped_on step v)))

-- a loop without a control variable
abbrev pub no_step : {S : Type 0} → S → Run (Option S)
no_step s = give (Some s)

abbrev pub nonzero : ℤ → Run (Unit {0})
nonzero (pos zero) = fault ZeroStep
nonzero _ = give tt
