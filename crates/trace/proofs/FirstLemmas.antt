-- The meaning of the first line of the rest of a trace.
use Rattle.std.proofs.Common.{◌≡◌, ◌∙◌, ap, sym, refl, subst, ℕ, ◌+◌, ◌<◌, ◌≤◌, ◌^◌, Bool, true, false, List, [], ◌∷◌, ◌++◌, length}
use Rattle.std.proofs.Common.{Option, Some, None, option_map, arith, slice_get, get_or, length-append}
use Rattle.std.specs.Prelude.{codes, nat_lt, option_and_then, ◌-◌, Ok, Err}
use Rattle.std.specs.List.{fold}
use Rattle.std.specs.Fmt.{decimal}
use Rattle.std.proofs.lemmas.Bool.{and_parts}
use Rattle.std.proofs.lemmas.Bool.Decides.{nat_tests}
use Rattle.std.proofs.lemmas.List.{append_cancel_left}
use Rattle.std.proofs.lemmas.Option.{slice_get-get_or, slice_get-map, some_pair_parts}
use Rattle.st_types.specs.declared.limits.TheConstants.{MAX_LOG_ROOM, MOMENT_LIMIT}
use Rattle.st_meaning.specs.declared.outcome.Outcome.{Outcome}
use Rattle.st_types.specs.SourceViews.{source_view}
use Rattle.st_types.specs.declared.entry.Entry.{Entry}
use Rattle.st_types.specs.declared.entry.Entry.TheVariants.{Row, Done}
use Rattle.st_types.specs.declared.entry.Activation.{Activation}
use Rattle.st_types.specs.Rows.{Latch}
use Rattle.st_meaning.specs.Plans as plans
use Rattle.st_meaning.specs.Plans.{fits, holds_each, samples_of, schedules_of}
use Rattle.st_meaning.proofs.DueLemmas.{Waits-same, Waits-there}
use Rattle.st_meaning.specs.Logs.{Log, Past, MayFollow, beginning, done_follows, ended_by, is_later, last_moment, outcome_at}
use Rattle.st_meaning.specs.Logs.{outcomes_of, past_of, row_at, row_follows, with_entry}
use Rattle.st_meaning.specs.Stores.{Store}
use Rattle.plan.specs.declared.task.ProgramInstance.{ProgramInstance}
use Rattle.plan.specs.PlanViews.{plan_view, program_view}
use Rattle.serial_core.specs.Steps.{CommitsWaiting, Latches, State, comes_later, grown, past_in, waits_in}
use Rattle.core_engine.specs.declared.refusal.Refusal.{Refusal}
use Rattle.core_engine.specs.declared.refusal.Refusal.TheVariants as refusals
use Rattle.serial_core.proofs.OutcomeLemmas.{outcomes_of-add}
use Rattle.trace.specs.Rests.{Grows, IsRest, outcome_in, rows_in}
use Rattle.trace.specs.Texts.{row_outcome_text}
use Rattle.trace.specs.Texts.{done_line, instance_text, line, outcome_text}
use Rattle.trace.specs.Reads.{IsRestAfter}
use Rattle.trace.proofs.ReadLemmas.{none_some}
use Rattle.trace.proofs.TraceLemmas.{outcomes_long}
use Rattle.trace.proofs.RestLemmas.{done_parts, first_line, head_is, program_there, rest_text}
use Rattle.trace.proofs.RestLemmas.{same_program, waited}

-- ---- a row

-- a row that follows, the next one
pub record FirstRow (life : State) (rows : List Latch) (text : List ℕ) : Type 0 where
  pub row : Latch
  pub fits_plan : fits (plan_view life.plan) row ≡ true
  pub early : row.moment < MOMENT_LIMIT
  pub later : comes_later life row ≡ true
  pub room : length life.log < MAX_LOG_ROOM
  pub rest : List ℕ
  pub told : text ≡ (decimal row.moment ++ 10 ∷ []) ++ rest
  pub behind : List Latch
  pub rows_are : rows ≡ (past_in life).rows ++ row ∷ behind

early_of : (plan : plans.Plan) (row : Latch) → fits plan row ≡ true → row.moment < MOMENT_LIMIT
early_of plan row h =
    let p = (and_parts (holds_each plan.inputs row.image) (nat_lt row.moment MOMENT_LIMIT) h).1 in
    grind (arith, nat_tests)

follows : (plan : plans.Plan) (before : Option ℕ) (past : Past) (row : Latch) → MayFollow plan before past (Row row)
    → (fits plan row ≡ true) × (is_later (last_moment before past.rows) row.moment ≡ true)
follows plan before past row (row_follows _ f l) = (f, l)

pub first_row : (life : State) (rows : List Latch) (text : List ℕ) (more : Log)
    → IsRest life rows (codes "row " ++ text) more → FirstRow life rows text
first_row life rows text [] left = let bad = head_is 114 101 _ _ left.spelled in absurd (omega arith)
first_row life rows text (Done a ∷ more) left = let bad = head_is 114 100 _ _ left.spelled in absurd (omega arith)
first_row life rows text (Row row ∷ more) left =
    let may = follows (plan_view life.plan) life.before (past_in life) row left.legal.0 in record {
      row = row;
      fits_plan = may.0;
      early = early_of (plan_view life.plan) row may.0;
      later = may.1;
      room = omega (arith, left.few);
      rest = rest_text life (Row row) more;
      told = append_cancel_left (codes "row ") text ((decimal row.moment ++ 10 ∷ []) ++ rest_text life (Row row) more)
          (first_line life rows (codes "row " ++ text) (Row row) more left);
      behind = rows_in more ++ left.behind;
      rows_are = left.rows_are;
    }

-- the element after a list
pub got_behind : {X : Type 0} (xs : List X) (y : X) (zs : List X) → slice_get (xs ++ y ∷ zs) (length xs) ≡ Some y
got_behind [] y zs = refl
got_behind (x ∷ xs) y zs = got_behind xs y zs

-- ---- an execution

sampled_few : (plan : plans.Plan) (past : Past) (log : Log)
    → length (fold (with_entry plan) past log).history.sampled ≤ length past.history.sampled + length log
sampled_few plan past [] = omega arith
sampled_few plan past (Row row ∷ log) =
    omega (
      arith,
      sampled_few plan (with_entry plan past (Row row)) log,
      length-append past.history.sampled
          (record { moment = row.moment; samples = samples_of plan past.store row.image } ∷ []),
    )
sampled_few plan past (Done a ∷ log) = omega (arith, sampled_few plan (with_entry plan past (Done a)) log)

-- a program waits with this row, and its execution ends so
pub record FirstDone (life : State) (field : List ℕ) (program : ℕ) : Type 0 where
  pub row : ℕ
  pub outcome : Outcome
  pub small : row < 2 ^ 64
  pub waits : waits_in life record { program = program; row = row }
  pub ends : outcome_in life (Done record { program = program; row = row }) ≡ Some outcome
  pub room : length life.log < MAX_LOG_ROOM
  pub rest : List ℕ
  pub told : field ≡ row_outcome_text (row, outcome) ++ rest

-- the line of an execution gives its program, its row and how it ended
pub record IsDone (life : State) (text : List ℕ) : Type 0 where
  pub activation : Activation
  pub program : ProgramInstance
  pub at : slice_get life.plan.programs.items activation.program ≡ Some program
  pub outcome : Outcome
  pub small : activation.row < 2 ^ 64
  pub waits : waits_in life activation
  pub ends : outcome_in life (Done activation) ≡ Some outcome
  pub room : length life.log < MAX_LOG_ROOM
  pub rest : List ℕ
  pub told : text ≡ (instance_text (Some program) ++ codes " ") ++ (row_outcome_text (activation.row, outcome) ++ rest)

pub is_done : (life : State) (rows : List Latch) (text : List ℕ) (more : Log)
    → IsRest life rows (codes "done " ++ text) more → IsDone life text
is_done life rows text [] left = let bad = head_is 100 101 _ _ left.spelled in absurd (omega arith)
is_done life rows text (Row row ∷ more) left = let bad = head_is 100 114 _ _ left.spelled in absurd (omega arith)
is_done life rows text (Done a ∷ more) left =
    let waits = waited (plan_view life.plan) life.before (past_in life) a left.legal.0 in
    let (q, at) = program_there life.plan (past_in life) a waits in
    let there = (Waits-there (schedules_of (plan_view life.plan)) (past_in life).history a waits).1 in
    let few = sampled_few (plan_view life.plan) (beginning life.start) life.log in
    let row = row_at (past_in life).rows a.row in
    let view = program_view (source_view life.plan.text.value) in
    let o = ended_by (plan_view life.plan) (past_in life) row (view q) in
    let ends : outcome_in life (Done a) ≡ Some o =
    ap (option_map (ended_by (plan_view life.plan) (past_in life) row))
    (slice_get-map view life.plan.programs.items a.program ∙ ap (option_map view) at) in record {
      activation = a;
      program = q;
      at = at;
      outcome = o;
      small = omega (arith, there, few, left.few);
      waits = waits;
      ends = ends;
      room = omega (arith, left.few);
      rest = rest_text life (Done a) more;
      told = append_cancel_left (codes "done ") text
          ((instance_text (Some q) ++ codes " ") ++ (row_outcome_text (a.row, o) ++ rest_text life (Done a) more))
          (first_line life rows (codes "done " ++ text) (Done a) more left
          ∙ ap (λ p. done_line p a.row (outcome_in life (Done a)) ++ rest_text life (Done a) more) at
          ∙ ap (λ u. done_line (Some q) a.row u ++ rest_text life (Done a) more) ends
          ∙ done_parts (Some q) a.row (Some o) (rest_text life (Done a) more));
    }

pub first_done : (life : State) (rows : List Latch) (field : List ℕ) (program : ℕ) (q : ProgramInstance) (more : Log)
    → slice_get life.plan.programs.items program ≡ Some q
    → IsRest life rows (codes "done " ++ ((instance_text (Some q) ++ codes " ") ++ field)) more
    → FirstDone life field program
first_done life rows field program q more at left =
    let d = is_done life rows ((instance_text (Some q) ++ codes " ") ++ field) more left in
    let a = d.activation in
    let same : program ≡ a.program = same_program life.plan program a.program q d.program field
    (row_outcome_text (a.row, d.outcome) ++ d.rest) at d.at d.told in
    let one : Some q ≡ Some d.program = sym at ∙ ap (slice_get life.plan.programs.items) same ∙ d.at in
    let is : q ≡ d.program = cc in
    let act : ◌≡◌ {A = Activation} a record { program = program; row = a.row } =
    ap (λ n. record { program = n; row = a.row }) (sym same) in
    let told : (instance_text (Some q) ++ codes " ") ++ field
    ≡ (instance_text (Some q) ++ codes " ") ++ (row_outcome_text (a.row, d.outcome) ++ d.rest) =
    d.told ∙ ap (λ x. (instance_text (Some x) ++ codes " ") ++ (row_outcome_text (a.row, d.outcome) ++ d.rest)) (sym is) in
    record {
      row = a.row;
      outcome = d.outcome;
      small = d.small;
      waits = subst (λ (x : Activation). waits_in life x) act d.waits;
      ends = subst (λ (x : Activation). outcome_in life (Done x) ≡ Some d.outcome) act d.ends;
      room = d.room;
      rest = d.rest;
      told = append_cancel_left (instance_text (Some q) ++ codes " ") field (row_outcome_text (a.row, d.outcome) ++ d.rest) told;
    }

-- ---- how a life grows

next_is : {X : Type 0} (xs left : List X) (y : X) → slice_get (xs ++ left) (length xs) ≡ Some y
    → (behind : List X) × (left ≡ y ∷ behind)
next_is [] [] y at = absurd (cc)
next_is [] (z ∷ left) y at = (left, ap (λ x. x ∷ left) (some_in z y at))
  where
    some_in : {Z : Type 0} (a b : Z) → ◌≡◌ {A = Option Z} (Some a) (Some b) → a ≡ b
    some_in a b e = cc
next_is (x ∷ xs) left y at = next_is xs left y at

pub row_grows : (old new : State) (rows left : List Latch) (text rest : List ℕ) (row : Latch) (moment : ℕ)
    → rows ≡ (past_in old).rows ++ left → slice_get rows (length (past_in old).rows) ≡ Some row
    → fits (plan_view old.plan) row ≡ true → comes_later old row ≡ true → row.moment ≡ moment
    → text ≡ (decimal moment ++ 10 ∷ []) ++ rest → new ≡ grown old (Row row)
    → Grows old rows (codes "row " ++ text) rest new
row_grows old new rows left text rest row moment rows_are at fit later same told is =
    let next = next_is (past_in old).rows left row (ap (λ xs. slice_get xs (length (past_in old).rows)) (sym rows_are) ∙ at) in
    record {
      entry = Row row;
      grown_by = is;
      legal = (row_follows row fit later, tt);
      behind = next.0;
      rows_are = rows_are ∙ ap (λ xs. (past_in old).rows ++ xs) next.1;
      spelled = ap (λ t. codes "row " ++ t) (told ∙ ap (λ n. (decimal n ++ 10 ∷ []) ++ rest) (sym same));
    }

last_outcome : (plan : plans.Plan) (start : Store) (log : Log) (e : Entry)
    → slice_get (outcomes_of plan start (log ++ e ∷ [])) (length (log ++ e ∷ []) - 1)
    ≡ Some (outcome_at plan (past_of plan start log) e)
last_outcome plan start log e =
    let long : length (log ++ e ∷ []) - 1 ≡ length (outcomes_of plan start log) =
    omega (arith, length-append log (e ∷ []), outcomes_long plan (beginning start) log) in
    ap (slice_get (outcomes_of plan start (log ++ e ∷ []))) long
    ∙ ap (λ os. slice_get os (length (outcomes_of plan start log))) (outcomes_of-add plan start log e)
    ∙ got_behind (outcomes_of plan start log) (outcome_at plan (past_of plan start log) e) []

-- how an execution ended that was committed
pub done_ended : (old new : State) (program row n : ℕ) → waits_in old record { program = program; row = row }
    → CommitsWaiting old program (Ok (Some n)) new
    → (new ≡ grown old (Done record { program = program; row = row })) × (option_and_then (λ o. o)
    (slice_get (outcomes_of (plan_view new.plan) new.start new.log) (n - 1))
    ≡ outcome_in old (Done record { program = program; row = row }))
done_ended old new program row n waits commits =
    let (r, w, room, is, len) = commits in
    let same : r ≡ row = Waits-same (schedules_of (plan_view old.plan)) (past_in old).history program r row w waits in
    let a : Activation = record { program = program; row = row } in
    let now : new ≡ grown old (Done a) = is ∙ ap (λ k. grown old (Done record { program = program; row = k })) same in (
      now,
      ap (λ k. option_and_then (λ o. o)
          (slice_get (outcomes_of (plan_view new.plan) new.start new.log) (k - 1))) len
          ∙ ap (λ (s : State). option_and_then (λ o. o)
          (slice_get (outcomes_of (plan_view s.plan) s.start s.log) (length s.log - 1))) now
          ∙ ap (option_and_then (λ o. o)) (last_outcome (plan_view old.plan) old.start old.log (Done a)),
    )

pub done_grows : (old new : State) (rows left : List Latch) (text field rest : List ℕ) (program row n : ℕ)
    (outcome : Outcome) (q : ProgramInstance) → rows ≡ (past_in old).rows ++ left
    → slice_get old.plan.programs.items program ≡ Some q → text ≡ (instance_text (Some q) ++ codes " ") ++ field
    → field ≡ row_outcome_text (row, outcome) ++ rest → waits_in old record { program = program; row = row }
    → CommitsWaiting old program (Ok (Some n)) new
    → outcome_text (option_and_then (λ o. o) (slice_get (outcomes_of (plan_view new.plan) new.start new.log) (n - 1)))
    ≡ outcome_text (Some outcome) → Grows old rows (codes "done " ++ text) rest new
done_grows old new rows left text field rest program row n outcome q rows_are at told ended waits commits ends =
    let a : Activation = record { program = program; row = row } in
    let (now, same) = done_ended old new program row n waits commits in
    let found : outcome_text (outcome_in old (Done a)) ≡ outcome_text (Some outcome) =
    ap outcome_text (sym same) ∙ ends in
    record {
      entry = Done a;
      grown_by = now;
      legal = (done_follows a waits, tt);
      behind = left;
      rows_are = rows_are;
      spelled = ap (λ t. codes "done " ++ t) (told ∙ ap (λ t. (instance_text (Some q) ++ codes " ") ++ t)
          (ended ∙ ap (λ w. ((decimal row ++ 32 ∷ []) ++ line w) ++ rest) (sym found)))
          ∙ sym (done_parts (Some q) row (outcome_in old (Done a)) rest)
          ∙ ap (λ p. done_line p row (outcome_in old (Done a)) ++ rest) (sym at);
    }

-- a row that may follow is not refused
pub latch_refused : (old new : State) (rows : List Latch) (text : List ℕ) (row : Latch) (refusal : Refusal)
    → old.room ≡ MAX_LOG_ROOM → Latches old row (Err refusal) new → (f : FirstRow old rows text) → row ≡ f.row → ⊥
latch_refused old new rows text row refusals.Full room latches f is = absurd (omega (arith, latches.0, f.room, room))
latch_refused old new rows text row refusals.Foreign room latches f is =
    differ (fits (plan_view old.plan) row) latches.1 (ap (fits (plan_view old.plan)) is ∙ f.fits_plan)
  where
    differ : (b : Bool) → b ≡ false → b ≡ true → ⊥
    differ b x y = let bad : false ≡ true = sym x ∙ y in cc
latch_refused old new rows text row refusals.NotLater room latches f is =
    differ (comes_later old row) latches.2 (ap (comes_later old) is ∙ f.later)
  where
    differ : (b : Bool) → b ≡ false → b ≡ true → ⊥
    differ b x y = let bad : false ≡ true = sym x ∙ y in cc
latch_refused old new rows text row refusals.NotWaiting room latches f is = latches
latch_refused old new rows text row refusals.NoMemory room latches f is = latches

-- the plant's next row is the one that follows
pub same_row : (old : State) (rows : List Latch) (text : List ℕ) (i : ℕ) (row : Latch) → (f : FirstRow old rows text)
    → i ≡ length (past_in old).rows → i < length rows → row ≡ get_or rows i row → row ≡ f.row
same_row old rows text i row f at small is =
    let here : slice_get rows i ≡ Some row = slice_get-get_or rows i row small ∙ ap Some (sym is) in
    let told : slice_get rows i ≡ Some f.row =
    ap (slice_get rows) at ∙ ap (λ xs. slice_get xs (length (past_in old).rows)) f.rows_are
    ∙ got_behind (past_in old).rows f.row f.behind in
    some_latch row f.row (sym here ∙ told)
  where
    some_latch : (a b : Latch) → ◌≡◌ {A = Option Latch} (Some a) (Some b) → a ≡ b
    some_latch a b e = cc

pub first_resolved_kind : (life : State) (rows : List Latch) (text field : List ℕ) (program : ℕ) (q : ProgramInstance) (more : Log)
    → slice_get life.plan.programs.items program ≡ Some q
    → text ≡ (instance_text (Some q) ++ codes " ") ++ field → IsRest life rows (codes "done " ++ text) more
    → FirstDone life field program
first_resolved_kind life rows text field program q more at told left =
    first_done life rows field program q more at
    (subst (λ t. IsRest life rows (codes "done " ++ t) more) told left)

-- the row and the end that were read are those of the rest
pub record IsTold (life : State) (program row : ℕ) (outcome : Outcome) : Type 0 where
  pub waits : waits_in life record { program = program; row = row }
  pub ends : outcome_in life (Done record { program = program; row = row }) ≡ Some outcome

told_parts : (a x : ℕ) (b y : Outcome) → ◌≡◌ {A = ℕ × Outcome} (a, b) (x, y) → (a ≡ x) × (b ≡ y)
told_parts a x b y e = (ap (λ (p : ℕ × Outcome). p.0) e, ap (λ (p : ℕ × Outcome). p.1) e)

pub is_told : (life : State) (field rest : List ℕ) (program row : ℕ) (outcome : Outcome)
    → (f : FirstDone life field program)
    → ◌≡◌ {A = Option ((ℕ × Outcome) × List ℕ)} (Some ((row, outcome), rest)) (Some ((f.row, f.outcome), f.rest))
    → IsTold life program row outcome
is_told life field rest program row outcome f e =
    let one = told_parts row f.row outcome f.outcome (some_pair_parts (row, outcome) (f.row, f.outcome) rest f.rest e).0 in
    let (row_is, outcome_is) = one in record {
      waits = subst (λ n. waits_in life record { program = program; row = n }) (sym row_is) f.waits;
      ends = subst (λ n. outcome_in life (Done record { program = program; row = n }) ≡ Some outcome) (sym row_is)
          (f.ends ∙ ap Some (sym outcome_is));
    }

-- if there is no line of an entry, no entry is left
pub no_entry : (life : State) (rows : List Latch) (text : List ℕ) → IsRestAfter text (codes "row ") None
    → IsRestAfter text (codes "done ") None → (more : Log) → IsRest life rows text more → more ≡ []
no_entry life rows text row done [] left = refl
no_entry life rows text row done (Row r ∷ more) left =
    none_some ((decimal r.moment ++ 10 ∷ []) ++ rest_text life (Row r) more)
    (row.1 ((decimal r.moment ++ 10 ∷ []) ++ rest_text life (Row r) more) (first_line life rows text (Row r) more left))
no_entry life rows text row done (Done a ∷ more) left =
    let p = slice_get life.plan.programs.items a.program in
    let o = outcome_in life (Done a) in
    let behind = (instance_text p ++ codes " ")
    ++ (((decimal a.row ++ 32 ∷ []) ++ line (outcome_text o)) ++ rest_text life (Done a) more) in
    none_some behind (done.1 behind (first_line life rows text (Done a) more left
    ∙ done_parts p a.row o (rest_text life (Done a) more)))
