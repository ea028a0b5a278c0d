-- Lives over one file, one after another.
use Rattle.std.specs.Prelude.{◌≡◌, ◌≢◌, ◌+◌, ◌-◌, ◌^◌, ℕ, max, List, [], ◌∷◌, ◌++◌, length, map, None, IfOk, IfErr}
use Rattle.std.specs.Prelude.{MatchResult, bytes_eq, if◌then◌else◌}
use Rattle.disk.specs.Medium.{MayLeave}
use Rattle.disk.specs.Runs.{LeavesOnly}
use Rattle.disk.specs.Simulated.{SimView, IsReliable, fresh}
use Rattle.st_meaning.specs.Restarts.{Start}
use Rattle.st_meaning.specs.Logs.{Log, IsLegal}
use Rattle.retain_store.specs.declared.fault.StoreFault.{StoreFault}
use Rattle.retain_store.specs.declared.fault.StoreFault.TheVariants as stores
use Rattle.retain_store.specs.Kept.{StoreView, IsLast}
use Rattle.retain_store.specs.declared.shape.TheConstants.{FILE_BYTES}
use Rattle.retain_store.specs.Recovered.{Recovered, Found, recovered}
use Rattle.plan.specs.declared.plan.Plan.{Plan}
use Rattle.plan.specs.PlanViews.{plan_view}
use Rattle.serial_core.specs.Steps.{State}
use Rattle.commit_lock.specs.declared.event.Event.{Event}
use Rattle.commit_lock.specs.declared.event.Reply.{Reply}
use Rattle.commit_lock.specs.declared.event.Reply.TheVariants.{Flushed, Refused}
use Rattle.durable_core.specs.declared.refusal.Refusal.TheVariants.{StoreFailed}
use Rattle.durable_core.specs.declared.starting.StartMode.{StartMode}
use Rattle.durable_core.specs.declared.starting.StartMode.TheVariants.{Warm, Cold}
use Rattle.durable_core.specs.declared.refusal.StartFault.TheVariants as faults
use Rattle.durable_core.specs.Restart.{Survives, layout_text_of}
use Rattle.durable_core.specs.Starting.{start_of, started, Saves, CanStart, RefusesStart, LeftByStart}
use Rattle.durable_core.specs.Starting.{next_generation, start_record}
use Rattle.durable_core.specs.Cores.{CoreView}
use Rattle.commit_lock.specs.Driving.{Held, Drives, saves}
use Rattle.commit_lock.specs.declared.life.Life.{Life}
use Rattle.commit_lock.specs.declared.life.Course.{Course}
use Rattle.commit_lock.specs.declared.life.LifeEnd.{LifeEnd}
use Rattle.commit_lock.specs.LogsOfLives.{IsLogOf}

-- a property of each life, the file over which it begins, and its end; each life begins over the file of the one before
abbrev pub EachLife : (List ℕ → Life → LifeEnd → Type 0) → List ℕ → List Life → List LifeEnd → Type 0
EachLife P file [] [] = Unit {0}
EachLife P file (life ∷ lives) (end ∷ ends) = P file life end × EachLife P end.file.items lives ends
EachLife P file [] (end ∷ ends) = ⊥
EachLife P file (life ∷ lives) [] = ⊥

-- how a life over this file begins
abbrev pub beginning : Plan → List ℕ → Life → State
beginning plan file life = started plan life.log_room (start_of life.mode plan (recovered file))

-- its disk as it begins: the file is synced, and the step that fails and the stop are the life's
abbrev pub disk_of : List ℕ → Life → SimView
disk_of file life = record (fresh file) { failing = life.fails; stop = life.stop }

-- The store after a start: it has the record of the values with which the life starts, of the next generation, if the start
-- saves it, else the values to which the file was recovered.
pub record IsStoreBegun {D : Type 0} (mode : StartMode) (plan : Plan) (file : Recovered) (store : StoreView D) : Type 0
  where
    pub saved : Saves mode plan file → store.last ≡ Found (next_generation file) (start_record mode plan file)
    pub found : (Saves mode plan file → ⊥) → store.last ≡ file
    pub last : IsLast store.generation store.last

-- the generation of the last record after a start
abbrev pub generation_begun : StartMode → Plan → Recovered → ℕ
generation_begun Cold plan file = next_generation file
generation_begun Warm plan (Found generation content) =
    if bytes_eq content.layout (layout_text_of plan) then generation else generation + 1
generation_begun Warm plan other = 0

-- The core of a life after its start, over a disk with this file. A stop so far may have left the file as it was or, if the
-- start saves it, the record of the values with which the life starts.
pub record IsFirst (plan : Plan) (file : List ℕ) (life : Life) (core : CoreView SimView) : Type 0 where
  pub mode : core.mode ≡ life.mode
  pub state : core.state ≡ beginning plan file life
  pub fresh : core.acked ≡ 0
  pub unfailed : core.failed ≡ None
  pub store : IsStoreBegun life.mode plan (recovered file) core.store
  pub served : core.store.disk.failures ≡ 0
  pub left : LeavesOnly (λ _ disk. MayLeave disk.medium) (λ disk. MayLeave disk.medium) (disk_of file life)
      core.store.disk (λ left. LeftByStart life.mode plan (recovered file) (recovered left))
  pub reliable : life.stop ≡ None → life.fails ≡ None → IsReliable core.store.disk FILE_BYTES

-- calls over a simulated disk, one after another, each of which survives a stop
abbrev pub Calls : CoreView SimView → Held → List Event → List Reply → CoreView SimView → Held → Type 0
Calls = Drives (λ disk. disk.failures) (Unit {0}) (λ old disk. MayLeave disk.medium) (λ disk. MayLeave disk.medium)

-- the number that a flush answered, else 0
abbrev pub flushed : Reply → ℕ
flushed (Flushed n) = n
flushed reply = 0

-- the greatest of these numbers
abbrev pub most_flushed : List Reply → ℕ
most_flushed [] = 0
most_flushed (reply ∷ replies) = max (flushed reply) (most_flushed replies)

-- These replies are those of this core, to these events one after another, with this number acknowledged after them.
pub record IsAnsweredBy (first : CoreView SimView) (events : List Event) (replies : List Reply) (acked : ℕ) : Type 0
  where
    pub last : CoreView SimView
    pub held : Held
    pub calls : Calls first [] events replies last held
    pub ends : last.acked ≡ acked

-- the replies are those of a core that the life has after its start
pub record IsCourse (plan : Plan) (file : List ℕ) (life : Life) (replies : List Reply) (acked : ℕ) : Type 0 where
  pub first : CoreView SimView
  pub begins : IsFirst plan file life first
  pub answers : IsAnsweredBy first life.events.items replies acked

-- The file survives for the log that the events and replies make, which is legal and of this length, and for the entries
-- acknowledged.
pub record IsLeft (begin : State) (events : List Event) (replies : List Reply) (len acked : ℕ) (file : List ℕ) : Type 0
  where
    pub log : Log
    pub len_is : len ≡ length log
    pub told : IsLogOf (plan_view begin.plan) begin.start events replies log
    pub legal : IsLegal (plan_view begin.plan) begin.start begin.before log
    pub survives : Survives begin.plan begin.start begin.before log acked (recovered file)

-- K5 comes only if the generations are used up: this one, and one more for each record until then.
abbrev pub IsAllWell : ℕ → Course → Type 0
IsAllWell generation course = (front rest : List Reply) (cause : StoreFault)
    → course.replies.items ≡ front ++ Refused (StoreFailed cause) ∷ rest
    → (cause ≡ stores.Generations) × (generation + saves 0 front ≡ 2 ^ 64 - 1)

-- a core that has lived these events, with the file that it leaves
pub record IsLived (first : CoreView SimView) (events : List Event) (course : Course) (file : List ℕ) : Type 0 where
  pub values : course.values.items ≡ map (λ e. e.1) first.state.start
  pub answered : IsAnsweredBy first events course.replies.items course.acked
  pub acked : course.acked ≡ most_flushed course.replies.items
  pub left : IsLeft first.state events course.replies.items course.len course.acked file

-- the properties of a life over a file, and its end

abbrev pub BeginsFrom : Plan → List ℕ → Life → LifeEnd → Type 0
BeginsFrom plan file life end = MatchResult end.course
    (λ course. CanStart life.mode plan (recovered file)
    × (course.values.items ≡ map (λ e. e.1) (beginning plan file life).start))
    (λ fault. RefusesStart life.mode plan (recovered file) fault)

abbrev pub IsAnswered : Plan → List ℕ → Life → LifeEnd → Type 0
IsAnswered plan file life end = IfOk end.course
    (λ course. IsCourse plan file life course.replies.items course.acked)

abbrev pub IsAcked : List ℕ → Life → LifeEnd → Type 0
IsAcked file life end = IfOk end.course (λ course. course.acked ≡ most_flushed course.replies.items)

abbrev pub LeavesLog : Plan → List ℕ → Life → LifeEnd → Type 0
LeavesLog plan file life end = IfOk end.course (λ course.
    IsLeft (beginning plan file life) life.events.items course.replies.items course.len course.acked end.file.items)

abbrev pub IsRefused : Plan → List ℕ → Life → LifeEnd → Type 0
IsRefused plan file life end =
    IfErr end.course (λ fault. LeftByStart life.mode plan (recovered file) (recovered end.file.items))

abbrev pub HasCause : Plan → List ℕ → Life → LifeEnd → Type 0
HasCause plan file life end = life.stop ≡ None → life.fails ≡ None → MatchResult end.course
    (IsAllWell (generation_begun life.mode plan (recovered file)))
    (λ fault. fault ≢ faults.Store stores.Device)

-- all of them
pub record IsLife (plan : Plan) (file : List ℕ) (life : Life) (end : LifeEnd) : Type 0 where
  pub begins : BeginsFrom plan file life end
  pub answered : IsAnswered plan file life end
  pub acked : IsAcked file life end
  pub survives : LeavesLog plan file life end
  pub refused : IsRefused plan file life end
  pub cause : HasCause plan file life end
