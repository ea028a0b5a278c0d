-- When a program is due, which activations wait, and which one runs first.
use Rattle.std.specs.Prelude.{◌≡◌, ℕ, zero, suc, ◌+◌, ◌-◌, ◌/◌, ◌<◌, ◌≤◌, ◌==◌, nat_lt, Bool, true, false, not, ◌&&◌}
use Rattle.std.specs.Prelude.{◌||◌, if◌then◌else◌, List, [], ◌∷◌, ◌++◌, length, fold, slice_index_or}
use Rattle.st_types.specs.declared.entry.Activation.{Activation}
use Rattle.st_meaning.specs.declared.plan.Schedule.{Schedule}

-- a row's moment, with the sample of SINGLE for each task
pub record SampledRow : Type 0 where
  pub moment : ℕ
  pub samples : List Bool

-- a Done of a program, with how many rows were before it
pub record Served : Type 0 where
  pub program : ℕ
  pub rows : ℕ

-- the rows and the Dones so far
pub record History : Type 0 where
  pub sampled : List SampledRow
  pub runs : List Served

abbrev pub sample : List Bool → ℕ → Bool
sample samples task = slice_index_or samples task false

abbrev pub sampled_at : List SampledRow → ℕ → SampledRow
sampled_at sampled k = slice_index_or sampled k record { moment = 0; samples = [] }

-- a row as a task sees it: whether it is the life's first, SINGLE at the row before and at this one, and the moments of the
-- life's first row, of the row before and of this one
pub record Sampling : Type 0 where
  pub is_first : Bool
  pub single_before : Bool
  pub single : Bool
  pub first : ℕ
  pub last : ℕ
  pub moment : ℕ

-- A program is due if SINGLE rose since the row before. Else, if SINGLE is FALSE and there is an interval, it is due at the
-- first row and whenever more whole intervals have gone by since the first row than at the row before.
abbrev pub rule : ℕ → Sampling → Bool
rule interval s =
    (s.single && not s.single_before)
    || (not s.single && (nat_lt 0 interval
    && (s.is_first || nat_lt ((s.last - s.first) / interval) ((s.moment - s.first) / interval))))

-- SINGLE is FALSE before a life's first row
abbrev pub is_due : Schedule → List SampledRow → ℕ → Bool
is_due schedule sampled k =
    rule schedule.interval record {
      is_first = k == 0;
      single_before = not (k == 0) && sample (sampled_at sampled (k - 1)).samples schedule.task;
      single = sample (sampled_at sampled k).samples schedule.task;
      first = (sampled_at sampled 0).moment;
      last = (sampled_at sampled (k - 1)).moment;
      moment = (sampled_at sampled k).moment;
    }

abbrev pub schedule_at : List Schedule → ℕ → Schedule
schedule_at schedules p = slice_index_or schedules p record { resource = 0; task = 0; interval = 0; priority = 0 }

-- the program is there, and due at the row
abbrev pub due : List Schedule → ℕ → List SampledRow → ℕ → Bool
due schedules p sampled k =
    nat_lt p (length schedules) && (nat_lt k (length sampled) && is_due (schedule_at schedules p) sampled k)

-- how many rows were before the program's last Done
abbrev pub last_served : ℕ → ℕ → Served → ℕ
last_served p n r = if r.program == p then r.rows else n

abbrev pub served : ℕ → List Served → ℕ
served p runs = fold (last_served p) 0 runs

-- An activation waits if its program is due at its row, that row is after the program's last Done, and the program is due at
-- no row between the two.
pub record Waits (schedules : List Schedule) (h : History) (a : Activation) : Type 0 where
  pub is : due schedules a.program h.sampled a.row ≡ true
  pub unserved : served a.program h.runs ≤ a.row
  pub first : (k : ℕ) → served a.program h.runs ≤ k → k < a.row → due schedules a.program h.sampled k ≡ false

-- nothing of the resource waits
abbrev pub NoneWaits : List Schedule → History → ℕ → Type 0
NoneWaits schedules h resource = (a : Activation) → Waits schedules h a
    → (schedule_at schedules a.program).resource ≡ resource → ⊥

-- the lower priority number comes first, then the lower row, then the program that was declared first
abbrev pub comes_first : ℕ → ℕ → ℕ → ℕ → ℕ → ℕ → Bool
comes_first priority row program priority' row' program' =
    nat_lt priority priority'
    || ((priority == priority') && (nat_lt row row' || ((row == row') && nat_lt program program')))

abbrev pub sooner : List Schedule → Activation → Activation → Bool
sooner schedules a b = comes_first (schedule_at schedules a.program).priority a.row a.program
    (schedule_at schedules b.program).priority b.row b.program

-- The best activation of a resource waits there, and nothing that waits there comes before it.
pub record IsBest (schedules : List Schedule) (h : History) (resource : ℕ) (a : Activation) : Type 0 where
  pub waits : Waits schedules h a
  pub here : (schedule_at schedules a.program).resource ≡ resource
  pub best : (b : Activation) → Waits schedules h b → (schedule_at schedules b.program).resource ≡ resource
      → sooner schedules b a ≡ false

-- at how many of the first n rows the program is due
abbrev pub due_count : List Schedule → ℕ → List SampledRow → ℕ → ℕ
due_count schedules p sampled zero = 0
due_count schedules p sampled (suc n) = due_count schedules p sampled n + (if due schedules p sampled n then 1 else 0)

-- how many Dones the program has
abbrev pub one_more : ℕ → ℕ → Served → ℕ
one_more p n r = if r.program == p then n + 1 else n

abbrev pub run_count : ℕ → List Served → ℕ
run_count p runs = fold (one_more p) 0 runs

-- The overruns of a program are the rows at which it is due, less its Dones, less one if it waits.
pub record HasOverruns (schedules : List Schedule) (h : History) (p n : ℕ) : Type 0 where
  pub waiting : (k : ℕ) → Waits schedules h record { program = p; row = k }
      → due_count schedules p h.sampled (length h.sampled) ≡ run_count p h.runs + n + 1
  pub resting : ((k : ℕ) → Waits schedules h record { program = p; row = k } → ⊥)
      → due_count schedules p h.sampled (length h.sampled) ≡ run_count p h.runs + n

-- the history with one row more, and with one Done more
abbrev pub with_row : History → ℕ → List Bool → History
with_row h moment samples =
    record { sampled = h.sampled ++ record { moment = moment; samples = samples } ∷ []; runs = h.runs }

abbrev pub with_run : History → ℕ → History
with_run h p = record { sampled = h.sampled; runs = h.runs ++ record { program = p; rows = length h.sampled } ∷ [] }

abbrev pub no_history : History
no_history = record { sampled = []; runs = [] }
