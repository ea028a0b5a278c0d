-- Starting a core.
use Rattle.std.proofs.Common.{◌≡◌, ℕ, ◌+◌, ◌-◌, ◌^◌, ◌≤◌, List, [], length, map, Option, Some, None, inl, inr}
use Rattle.std.proofs.Common.{refl, sym, ap, subst, ◌∙◌, arith, false}
use Rattle.st_meaning.specs.Stores.{Store}
use Rattle.st_meaning.specs.Restarts.{Kept, kept, warm_start}
use Rattle.retain_records.specs.Records.{Content}
use Rattle.retain_store.specs.Recovered.{Recovered, TooLong, Refused, Nothing, Found, recovered}
use Rattle.retain_store.specs.Kept.{record_in, IsLast}
use Rattle.plan.specs.declared.plan.Plan.{Plan}
use Rattle.plan.specs.PlanViews.{plan_view}
use Rattle.serial_core.specs.Steps.{State}
use Rattle.serial_core.specs.Retained.{retained_kinds, kept_from}
use Rattle.durable_core.specs.Recorded.{recorded}
use Rattle.st_types.specs.Values.{Datum}
use Rattle.retain_records.specs.ContentLines.{kept_in}
use Rattle.durable_core.proofs.RecordedLemmas.{typed}
use Rattle.durable_core.proofs.RecordLemmas.{known_kinds, told_in_order}
use Rattle.durable_core.specs.Restart.{IsOfPlan, Survives, fresh_state, layout_text_of, record_now, warm}
use Rattle.durable_core.specs.Starting.{CanStart, HasOtherLayout, IsLeftByStart, LeftByStart, StartKeeps, RefusesStart}
use Rattle.durable_core.specs.Starting.{Saves, WritesOver, WritesOrStays, IsLastGeneration}
use Rattle.durable_core.specs.Starting.{IsStart, IsOutOfMemory, next_generation, start_in, start_of, start_record, started}
use Rattle.durable_core.specs.declared.refusal.StartFault.{StartFault}
use Rattle.durable_core.specs.declared.refusal.StartFault.TheVariants as faults
use Rattle.retain_store.specs.declared.fault.StoreFault.TheVariants as stores
use Rattle.retain_store.specs.declared.fault.StoreFault.{StoreFault}
use Rattle.retain_store.specs.declared.shape.TheConstants.{FILE_BYTES}
use Rattle.retain_store.specs.Opening.{IsLeftByOpening, KeepsRecord, KeepsUnlessShort}
use Rattle.retain_store.specs.Stores.{IsUnsaved, RefusesSave}
use Rattle.retain_store.specs.Kept.{StoreView}
use Rattle.retain_store.proofs.Formats.{long_too_long}
use Rattle.disk.specs.Runs.{LeavesOnly, weakens}
use Rattle.std.proofs.lemmas.Bool.{cases_eq}
use Rattle.durable_core.specs.declared.starting.StartMode.{StartMode}
use Rattle.durable_core.specs.declared.starting.StartMode.TheVariants.{Warm}
use Rattle.retain_store.specs.Areas.{IsEither}
use Rattle.std.specs.Prelude.{MatchResult, IfOk, IfErr, Result, Ok, Err}
use Rattle.std.proofs.lemmas.Option.{same_Some}

-- the record that a life goes on from is that of its start
survives_of : (plan : Plan) (generation : ℕ) (content : Content) (start : Store) (before : Option ℕ)
    → content.layout ≡ layout_text_of plan → before ≡ content.moment
    → map recorded (map (λ e. e.1) (kept (plan_view plan) start)) ≡ content.values
    → Survives plan start before [] 0 (Found generation content)
survives_of plan generation content start before layout moment values = record {
  front = [];
  rest = [];
  parts = refl;
  acknowledged = omega arith;
  holds = rw (moment, values, layout) refl;
}

-- a record's values in the plan's order give the same start as its lines
pub resumed_from : (plan : Plan) (room : ℕ) (content : Content) (last : Recovered) (values : List Datum)
    (moment : Option ℕ) → Some content ≡ record_in last → content.layout ≡ layout_text_of plan
    → map (λ d. d.kind) content.values ≡ known_kinds plan.variables.items
    → values ≡ typed (retained_kinds plan.variables.items) content.values
    → moment ≡ content.moment
    → ◌≡◌ {A = State} record {
      plan = plan;
      start = (warm_start (plan_view plan) (Some (kept_from plan values moment))).store;
      before = moment;
      log = [];
      room = room;
    } (started plan room (warm plan last))
resumed_from plan room content TooLong values moment at layout kinds valued timed = absurd (cc)
resumed_from plan room content Refused values moment at layout kinds valued timed = absurd (cc)
resumed_from plan room content Nothing values moment at layout kinds valued timed = absurd (cc)
resumed_from plan room content (Found generation found) values moment at layout kinds valued timed =
    let begins : Kept → State = λ r. started plan room (warm_start (plan_view plan) (Some r)) in
    ap (λ vs. begins (kept_from plan vs moment)) valued
    ∙ ap (λ m. begins (kept_from plan (typed (retained_kinds plan.variables.items) content.values) m)) timed
    ∙ ap begins (sym (told_in_order plan content layout kinds))
    ∙ ap (λ c. begins (kept_in c)) (same_Some content found at)

-- a warm start takes the values of some record, or of none
warm_is : (plan : Plan) (last : Recovered) → (r : Option Kept) × (warm plan last ≡ warm_start (plan_view plan) r)
warm_is plan TooLong = (None, refl)
warm_is plan Refused = (None, refl)
warm_is plan Nothing = (None, refl)
warm_is plan (Found generation content) = (Some (kept_in content), refl)

-- so a core that goes on from a record was started warm
pub started_warm : (plan : Plan) (room : ℕ) (last : Recovered) (state : State) → state ≡ started plan room (warm plan last)
    → IsStart state.plan Warm (start_in state)
started_warm plan room last state is =
    subst (λ (s : State). IsStart s.plan Warm (start_in s)) (sym is) (warm_is plan last)

-- the record that a life goes on from survives
pub survives_found : (plan : Plan) (content : Content) (state : State) (last : Recovered)
    → Some content ≡ record_in last → content.layout ≡ layout_text_of plan
    → state.plan ≡ plan → state.before ≡ content.moment
    → map recorded (map (λ e. e.1) (kept (plan_view plan) state.start)) ≡ content.values
    → Survives state.plan state.start state.before [] 0 last
survives_found plan content state TooLong at layout same moment values = absurd (cc)
survives_found plan content state Refused at layout same moment values = absurd (cc)
survives_found plan content state Nothing at layout same moment values = absurd (cc)
survives_found plan content state (Found generation found) at layout same moment values =
    subst (λ (c : Content). Survives state.plan state.start state.before [] 0 (Found generation c))
    (same_Some content found at)
    (subst (λ (p : Plan). Survives p state.start state.before [] 0 (Found generation content)) (sym same)
    (survives_of plan generation content state.start state.before layout moment values))

-- a file without a record survives for a life that has begun with the initial values
pub survives_none : (plan : Plan) (state : State) (room generation : ℕ) (last : Recovered) → None ≡ record_in last
    → IsLast generation last → state ≡ fresh_state plan room
    → Survives state.plan state.start state.before [] 0 last
survives_none plan state room generation TooLong none is new = absurd is
survives_none plan state room generation Refused none is new = absurd is
survives_none plan state room generation (Found g content) none is new = absurd (cc)
survives_none plan state room generation Nothing none is new =
    subst (λ (s : State). Survives s.plan s.start s.before [] 0 Nothing) (sym new) (record {
      front = [];
      rest = [];
      parts = refl;
      acknowledged = omega arith;
      holds = (refl, refl);
    })

-- each case of an answer on its own
pub match_both : {A E : Type 0} (r : Result A E) (P P' : A → Type 0) (Q Q' : E → Type 0) → ((a : A) → P a → P' a)
    → ((e : E) → Q e → Q' e) → MatchResult r P Q → MatchResult r P' Q'
match_both (Ok a) P P' Q Q' p q h = p a h
match_both (Err e) P P' Q Q' p q h = q e h

-- the generation after the last record's
pub next_is : (last : Recovered) (generation : ℕ) → IsLast generation last → generation + 1 ≡ next_generation last
next_is TooLong generation is = absurd is
next_is Refused generation is = absurd is
next_is Nothing generation is = ap (λ n. n + 1) is
next_is (Found g content) generation is = ap (λ n. n + 1) (sym is.0)

-- the file that a save during a start leaves
pub left_saved : (mode : StartMode) (plan : Plan) (content : Content) (before last file : Recovered) (generation : ℕ)
    → Saves mode plan before → IsLast generation last → last ≡ before → content ≡ start_record mode plan before
    → IsEither last (Found (generation + 1) content) file → LeftByStart mode plan before file
left_saved mode plan content before last file generation saves is same kept (inl e) = inl (e ∙ same)
left_saved mode plan content before last file generation saves is same kept (inr e) = inr (
  saves,
  e ∙ ap (λ n. Found n content) (next_is last generation is ∙ ap next_generation same)
      ∙ ap (Found (next_generation before)) kept,
)

-- the same plan over the same file
pub saves_same : (mode : StartMode) (plan own : Plan) (before last : Recovered) → own ≡ plan → last ≡ before
    → Saves mode own last → Saves mode plan before
saves_same mode plan own before last one same saves =
    subst (λ (q : Plan). Saves mode q before) one (subst (λ (f : Recovered). Saves mode own f) same saves)

pub left_same : (mode : StartMode) (plan own : Plan) (before last file : Recovered) → own ≡ plan → last ≡ before
    → LeftByStart mode own last file → LeftByStart mode plan before file
left_same mode plan own before last file one same left =
    subst (λ (q : Plan). LeftByStart mode q before file) one
    (subst (λ (f : Recovered). LeftByStart mode own f file) same left)

-- the record of a life that has begun this way
pub record_started : (mode : StartMode) (plan : Plan) (room : ℕ) (state : State) (before : Recovered)
    → state ≡ started plan room (start_of mode plan before) → record_now state ≡ start_record mode plan before
record_started mode plan room state before is = ap record_now is

-- the record that was saved
pub saved_next : (mode : StartMode) (plan : Plan) (content : Content) (before last new : Recovered) (generation now : ℕ)
    → IsLast generation last → last ≡ before → content ≡ start_record mode plan before → now ≡ generation + 1
    → new ≡ Found now content → new ≡ Found (next_generation before) (start_record mode plan before)
saved_next mode plan content before last new generation now is same kept more e =
    e ∙ ap (λ n. Found n content) (more ∙ next_is last generation is ∙ ap next_generation same)
    ∙ ap (Found (next_generation before)) kept

-- ---- the file after a refused start

-- a store with the greatest generation has a record
last_kept : (last : Recovered) (first old : List ℕ) → IsLastGeneration last → KeepsRecord last first old → old ≡ first
last_kept TooLong first old h kept = absurd h
last_kept Refused first old h kept = absurd h
last_kept Nothing first old h kept = absurd h
last_kept (Found generation content) first old h kept = kept

-- a start that writes over a record has a generation left
used_up : (mode : StartMode) (plan : Plan) (last : Recovered) → WritesOver mode plan last → IsLastGeneration last → ⊥
used_up mode plan TooLong writes h = h
used_up mode plan Refused writes h = h
used_up mode plan Nothing writes h = h
used_up mode plan (Found generation content) writes h = writes.1 writes.0 h

-- an opened file is as it was, unless it was too short
opened_kept : (last : Recovered) (generation : ℕ) (first old : List ℕ) → IsLast generation last → last ≡ recovered first
    → KeepsRecord last first old → FILE_BYTES ≤ length first → old ≡ first
opened_kept TooLong generation first old is found kept whole = absurd is
opened_kept Refused generation first old is found kept whole = absurd is
opened_kept (Found g content) generation first old is found kept whole = kept
opened_kept Nothing generation first old is found kept whole = elim (cases_eq (length first) FILE_BYTES) [
  | inl same ↦ kept.0 same
  | inr other ↦ let long : recovered first ≡ TooLong = long_too_long first (omega arith) in
      let no : Nothing ≡ TooLong = found ∙ long in cc
]

-- the start that was refused after the store was opened
module _ {D : Type 0} (seen : D → List ℕ) (mode : StartMode) (plan : Plan) (last : Recovered) (generation : ℕ)
    (first : List ℕ) (opened : D) (is : IsLast generation last) (found : last ≡ recovered first)
    (kept : KeepsRecord last first (seen opened)) where
  saved_keeps : (fault : StartFault) (new : D) → RefusesStart mode plan last fault → (IsOutOfMemory fault → ⊥)
      → WritesOrStays mode plan last opened new → StartKeeps mode plan fault first (seen new)
  saved_keeps (faults.Store stores.TooLong) new h full w = absurd (subst (λ (r : Recovered). IsLast generation r) h is)
  saved_keeps (faults.Store stores.Damaged) new h full w = absurd (subst (λ (r : Recovered). IsLast generation r) h is)
  saved_keeps (faults.Store stores.Device) new h full (inl writes) =
      λ whole no. absurd (no (subst (WritesOver mode plan) found writes))
  saved_keeps (faults.Store stores.Device) new h full (inr stays) =
      λ whole no. ap seen stays ∙ opened_kept last generation first (seen opened) is found kept whole
  saved_keeps (faults.Store stores.Generations) new h full (inl writes) = absurd (used_up mode plan last writes h.1)
  saved_keeps (faults.Store stores.Generations) new h full (inr stays) =
      ap seen stays ∙ last_kept last first (seen opened) h.1 kept
  saved_keeps (faults.Store stores.NoMemory) new h full w = absurd (full (inr refl))
  saved_keeps (faults.Store stores.Failed) new h full w = absurd h
  saved_keeps faults.NoMemory new h full w = absurd (full (inl refl))

  pub saved_unwritten : {C : Type 0} (r : Result C (StartFault × D)) (P Q : C → Type 0)
      → MatchResult r P (λ e. RefusesStart mode plan last e.0) → IfErr r (λ e. IsOutOfMemory e.0 → ⊥)
      → MatchResult r Q (λ e. WritesOrStays mode plan last opened e.1)
      → IfErr r (λ e. StartKeeps mode plan e.0 first (seen e.1))
  saved_unwritten (Ok x) P Q h full w = tt
  saved_unwritten (Err e) P Q h full w = saved_keeps e.0 e.1 h full w

-- a refusal of opening is one of the start
pub open_unwritten : (mode : StartMode) (plan : Plan) (fault : StoreFault) (old new : List ℕ)
    → KeepsUnlessShort fault old new → StartKeeps mode plan (faults.Store fault) old new
open_unwritten mode plan stores.TooLong old new same = same
open_unwritten mode plan stores.Damaged old new same = same
open_unwritten mode plan stores.Device old new same = λ whole no. same whole
open_unwritten mode plan stores.Generations old new same = same
open_unwritten mode plan stores.NoMemory old new same = same
open_unwritten mode plan stores.Failed old new same = same

-- a save that failed in the device had a generation left
can_save : (mode : StartMode) (plan : Plan) (last : Recovered) (generation : ℕ) → IsLast generation last
    → (generation ≡ 2 ^ 64 - 1 → ⊥) → CanStart mode plan last
can_save mode plan TooLong generation is left = absurd is
can_save mode plan Refused generation is left = absurd is
can_save mode plan Nothing generation is left = tt
can_save mode plan (Found g content) generation is left = λ saves at_end. left (sym is.0 ∙ at_end)

-- a save that failed made no call of the disk, or it had a generation left
pub save_writes_or_stays : {D : Type 0} (mode : StartMode) (plan : Plan) (fault : StoreFault) (content : Content)
    (old new : StoreView D) → IsUnsaved fault content old new → RefusesSave (Err fault) old → old.failed ≡ false
    → IsLast old.generation old.last → Saves mode plan old.last
    → WritesOrStays mode plan old.last old.disk new.disk
save_writes_or_stays mode plan stores.TooLong content old new un refused ok is saves = absurd un.tried
save_writes_or_stays mode plan stores.Damaged content old new un refused ok is saves = absurd un.tried
save_writes_or_stays mode plan stores.Device content old new un refused ok is saves =
    inl (
      saves,
      can_save mode plan old.last old.generation is (λ at_end.
          let no : ◌≡◌ {A = Result (Unit {0}) StoreFault} (Err stores.Device) (Err stores.Generations) =
          refused.used_up.1 (ok, at_end) in cc),
    )
save_writes_or_stays mode plan stores.Generations content old new un refused ok is saves = inr un.tried.1
save_writes_or_stays mode plan stores.NoMemory content old new un refused ok is saves = absurd un.tried
save_writes_or_stays mode plan stores.Failed content old new un refused ok is saves =
    inr (ap (λ (s : StoreView _). s.disk) un.tried)

-- the same plan over the same file
writes_same : (mode : StartMode) (plan own : Plan) (before last : Recovered) → own ≡ plan → last ≡ before
    → WritesOver mode own last → WritesOver mode plan before
writes_same mode plan own before last one same writes =
    subst (λ (q : Plan). WritesOver mode q before) one (subst (λ (f : Recovered). WritesOver mode own f) same writes)

pub stays_same : {D : Type 0} (mode : StartMode) (plan own : Plan) (before last : Recovered) (old new : D) → own ≡ plan
    → last ≡ before → WritesOrStays mode own last old new → WritesOrStays mode plan before old new
stays_same mode plan own before last old new one same (inl writes) =
    inl (writes_same mode plan own before last one same writes)
stays_same mode plan own before last old new one same (inr stays) = inr stays

-- a start that saves first, and could
pub writes_or_stays : {C D : Type 0} (r : Result C (StartFault × D)) (disk : C → D) (mode : StartMode) (plan : Plan)
    (last : Recovered) (opened : D) (R : StartFault × D → Type 0) → Saves mode plan last
    → MatchResult r (λ _. CanStart mode plan last) R → IfErr r (λ e. WritesOrStays mode plan last opened e.1)
    → MatchResult r (λ core. WritesOrStays mode plan last opened (disk core))
    (λ e. WritesOrStays mode plan last opened e.1)
writes_or_stays (Ok core) disk mode plan last opened R saves can w = inl (saves, can)
writes_or_stays (Err e) disk mode plan last opened R saves can w = w

-- the file while it was opened is one during a start
pub left_by_opening : (mode : StartMode) (plan : Plan) (bytes file : List ℕ) → IsLeftByOpening bytes file
    → IsLeftByStart mode plan bytes file
left_by_opening mode plan bytes file is = record { content = inl is.same; kept = λ whole no. is.kept whole }

-- the files that a stop may leave during a start, by those while the file is opened
left_by_start : {D : Type 0} (left_since : D → D → List ℕ → Type 0) (may_leave : D → List ℕ → Type 0)
    (mode : StartMode) (plan : Plan) (bytes : List ℕ) (old mid new : D)
    → LeavesOnly left_since may_leave old mid (IsLeftByOpening bytes)
    → WritesOrStays mode plan (recovered bytes) mid new
    → LeavesOnly left_since may_leave old new (λ file. LeftByStart mode plan (recovered bytes) (recovered file))
    → LeavesOnly left_since may_leave old new (IsLeftByStart mode plan bytes)
left_by_start left_since may_leave mode plan bytes old mid new opened (inl writes) left =
    weakens left_since may_leave old new _ _ left (λ file content. record {
      content = content;
      kept = λ whole no. absurd (no writes);
    })
left_by_start left_since may_leave mode plan bytes old mid new opened (inr stays) left =
    subst (λ d. LeavesOnly left_since may_leave old d (IsLeftByStart mode plan bytes)) (sym stays)
    (weakens left_since may_leave old mid _ _ opened (left_by_opening mode plan bytes))

pub all_left_by_start : {C D : Type 0} (left_since : D → D → List ℕ → Type 0) (may_leave : D → List ℕ → Type 0)
    (mode : StartMode) (plan : Plan) (bytes : List ℕ) (old mid : D) (r : Result C (StartFault × D)) (disk : C → D)
    → LeavesOnly left_since may_leave old mid (IsLeftByOpening bytes)
    → MatchResult r (λ core. WritesOrStays mode plan (recovered bytes) mid (disk core))
    (λ e. WritesOrStays mode plan (recovered bytes) mid e.1)
    → MatchResult r
    (λ core. LeavesOnly left_since may_leave old (disk core)
    (λ file. LeftByStart mode plan (recovered bytes) (recovered file)))
    (λ e. LeavesOnly left_since may_leave old e.1 (λ file. LeftByStart mode plan (recovered bytes) (recovered file)))
    → MatchResult r (λ core. LeavesOnly left_since may_leave old (disk core) (IsLeftByStart mode plan bytes))
    (λ e. LeavesOnly left_since may_leave old e.1 (IsLeftByStart mode plan bytes))
all_left_by_start left_since may_leave mode plan bytes old mid (Ok core) disk opened w left =
    left_by_start left_since may_leave mode plan bytes old mid (disk core) opened w left
all_left_by_start left_since may_leave mode plan bytes old mid (Err e) disk opened w left =
    left_by_start left_since may_leave mode plan bytes old mid e.1 opened w left

pub ok_both : {C E : Type 0} (r : Result C E) (P Q R : C → Type 0) → ((x : C) → P x → Q x → R x) → IfOk r P → IfOk r Q
    → IfOk r R
ok_both (Ok x) P Q R both p q = both x p q
ok_both (Err e) P Q R both p q = tt

-- ---- a warm start over a record of the plan's own layout text

pub of_plan_not_other : (plan : Plan) (last : Recovered) → IsOfPlan plan last → HasOtherLayout plan last → ⊥
of_plan_not_other plan TooLong same other = other
of_plan_not_other plan Refused same other = other
of_plan_not_other plan Nothing same other = other
of_plan_not_other plan (Found generation content) same other = other same

pub can_go_on : (plan : Plan) (last : Recovered) → IsOfPlan plan last → CanStart Warm plan last
can_go_on plan TooLong same = same
can_go_on plan Refused same = same
can_go_on plan Nothing same = tt
can_go_on plan (Found generation content) same = λ other. absurd (other same)

-- the record that was tried is the last one
pub either_is : (last tried file : Recovered) → tried ≡ last → IsEither last tried file → file ≡ last
either_is last tried file same (inl e) = e
either_is last tried file same (inr e) = e ∙ same
