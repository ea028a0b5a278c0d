-- The contents of the ready list.
use Rattle.std.specs.Prelude.{◌≡◌, ℕ, ◌+◌, ◌-◌, ◌<◌, ◌≤◌, Bool, true, false, ◌&&◌, ◌==◌, not, List, length, Option}
use Rattle.std.specs.Prelude.{Some, None, option_map, if◌then◌else◌, slice_index_or}
use Rattle.st_types.specs.declared.entry.Activation.{Activation}
use Rattle.st_meaning.specs.declared.plan.Schedule.{Schedule}
use Rattle.st_meaning.specs.Due.{History, sample, sampled_at, rule, schedule_at, due, served, Waits, sooner, due_count}
use Rattle.st_meaning.specs.Due.{run_count, with_run}
use Rattle.ready_list.specs.declared.program_state.ProgramState.{ProgramState}
use Rattle.ready_list.specs.declared.program_state.NewRow.{NewRow}

-- the list as callers see it: where the programs run, SINGLE of each task at the last row, the state of each program, the
-- moments of the first row and of the last, and how many rows there were
pub record Ready : Type 0 where
  pub schedules : List Schedule
  pub samples : List Bool
  pub states : List ProgramState
  pub first : ℕ
  pub last : ℕ
  pub rows : ℕ

-- the state of a program; an empty one if there is no such program
abbrev pub state_at : List ProgramState → ℕ → ProgramState
state_at states p = slice_index_or states p record { waiting = None; overruns = 0 }

-- the program is due at the new row
abbrev pub is_due_at : NewRow → Schedule → List Bool → List Bool → Bool
is_due_at row schedule before samples = rule schedule.interval record {
  is_first = row.number == 0;
  single_before = sample before schedule.task;
  single = sample samples schedule.task;
  first = row.first;
  last = row.last;
  moment = row.moment;
}

-- A program that is due waits from that row on; if it waits already, it has one overrun more.
abbrev pub marked_at : Option ℕ → ℕ → ℕ → ProgramState
marked_at None overruns row = record { waiting = Some row; overruns = overruns }
marked_at (Some k) overruns row = record { waiting = Some k; overruns = overruns + 1 }

abbrev pub marked : ProgramState → Bool → ℕ → ProgramState
marked s false row = s
marked s true row = marked_at s.waiting s.overruns row

-- the state of each program, before a row and after it
abbrev pub AreMarked : List Schedule → List ProgramState → List ProgramState → List Bool → List Bool → NewRow → Type 0
AreMarked schedules old new before samples row =
    (p : ℕ) → p < length schedules
    → state_at new p ≡ marked (state_at old p) (is_due_at row (schedule_at schedules p) before samples) row.number

-- the activation of the program that waits, if it runs on the resource
abbrev pub offered : Schedule → ProgramState → ℕ → ℕ → Option Activation
offered schedule s resource p =
    if schedule.resource == resource then option_map (λ k. record { program = p; row = k }) s.waiting else None

abbrev pub offered_at : List Schedule → List ProgramState → ℕ → ℕ → Option Activation
offered_at schedules states resource p = offered (schedule_at schedules p) (state_at states p) resource p

-- the sooner of the two
abbrev pub sooner_of : List Schedule → Option Activation → Option Activation → Option Activation
sooner_of schedules None o = o
sooner_of schedules (Some a) None = Some a
sooner_of schedules (Some a) (Some b) = if sooner schedules b a then Some b else Some a

-- of the programs below n, the first activation to run on the resource
abbrev pub IsFirst : List Schedule → List ProgramState → ℕ → ℕ → Option Activation → Type 0
IsFirst schedules states resource n None = (p : ℕ) (b : Activation) → p < n
    → offered_at schedules states resource p ≡ Some b → ⊥
IsFirst schedules states resource n (Some a) =
    (offered_at schedules states resource a.program ≡ Some a)
    × (a.program < n)
    × ((p : ℕ) (b : Activation) → p < n → offered_at schedules states resource p ≡ Some b
    → sooner schedules b a ≡ false)

-- 1 if it waits
abbrev pub waiting_count : Option ℕ → ℕ
waiting_count None = 0
waiting_count (Some k) = 1

-- The state of a program is right: it waits with the row kept, or since its last Done it was due at no row; and the rows at
-- which it was due are its Dones, its overruns and the one that waits.
pub record IsProgramState (schedules : List Schedule) (h : History) (p : ℕ) (s : ProgramState) : Type 0 where
  pub some : (k : ℕ) → s.waiting ≡ Some k → Waits schedules h record { program = p; row = k }
  pub none : s.waiting ≡ None → (k : ℕ) → served p h.runs ≤ k → due schedules p h.sampled k ≡ false
  pub count : due_count schedules p h.sampled (length h.sampled) ≡ run_count p h.runs + s.overruns
      + waiting_count s.waiting
  pub within : served p h.runs ≤ length h.sampled

-- The list is the result of these rows and runs.
pub record IsReadyOf (h : History) (r : Ready) : Type 0 where
  pub rows : r.rows ≡ length h.sampled
  pub first : r.first ≡ (sampled_at h.sampled 0).moment
  pub last : r.last ≡ (sampled_at h.sampled (length h.sampled - 1)).moment
  pub samples : (t : ℕ) → sample r.samples t
      ≡ (not (length h.sampled == 0) && sample (sampled_at h.sampled (length h.sampled - 1)).samples t)
  pub placed : (p : ℕ) → p < length r.schedules → IsProgramState r.schedules h p (state_at r.states p)

-- The activation is taken away exactly if it waits.
abbrev pub Removes : History → Ready → Activation → Bool → Ready → Type 0
Removes h old a true new = Waits old.schedules h a × IsReadyOf (with_run h a.program) new
Removes h old a false new = (Waits old.schedules h a → ⊥) × (new ≡ old)
