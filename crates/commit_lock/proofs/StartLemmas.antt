-- Starts that a trace gives.
use Rattle.std.proofs.Common.{◌≡◌, ◌∙◌, ap, sym, refl, subst, ℕ, suc, arith, Bool, true, false, List, [], ◌∷◌, ◌++◌, map, length, ◌&&◌}
use Rattle.std.proofs.Common.{if◌then◌else◌, Option, Some, None, IfSome, option_map, append_assoc}
use Rattle.std.specs.List.{All, AllByRecursion, find}
use Rattle.std.proofs.lemmas.List.{length-map}
use Rattle.st_types.specs.declared.limits.TheConstants.{MAX_LOG_ROOM}
use Rattle.st_types.specs.Kinds.{holds}
use Rattle.st_types.specs.Paths.{Path}
use Rattle.st_types.specs.Values.{Datum, IsHeld}
use Rattle.st_meaning.specs.declared.plan.PlanVariable.{PlanVariable}
use Rattle.st_meaning.specs.declared.plan.PlanInput.{PlanInput}
use Rattle.st_meaning.specs.Stores.{Store}
use Rattle.st_meaning.specs.Slots.{variables_with}
use Rattle.st_meaning.specs.Layouts.{Enumerations, layout_of}
use Rattle.st_meaning.specs.Restarts.{Kept, KeptLine, Start, cold_start, is_line_of, kept, restarted, restored_value, warm_start}
use Rattle.st_meaning.proofs.RestartLemmas.{restarted_held, restarted_typed}
use Rattle.plan.specs.declared.plan.Plan.{Plan}
use Rattle.plan.specs.PlanViews.{plan_view}
use Rattle.serial_core.specs.Steps.{State, store_in}
use Rattle.core_values.specs.Restored.{restored}
use Rattle.serial_core.specs.Retained.{paired, retained_kinds, retained_paths, retained_values, kept_from}
use Rattle.core_engine.proofs.PlanSlots.{no_variables}
use Rattle.core_engine.proofs.RetainedLemmas.{goes_by_itself, kept_paired, kinds_kept, restart_is, restored_back, restored_typed}
use Rattle.durable_core.specs.Starting.{started}
use Rattle.durable_core.specs.declared.starting.StartMode.{StartMode}
use Rattle.durable_core.specs.declared.starting.StartMode.TheVariants.{Warm, Cold}
use Rattle.trace.specs.Reads.{BeginsWith, IsRestAfter}
use Rattle.trace.specs.Heads.{AreKept, MayBegin, begin_of, kept_lines}
use Rattle.commit_lock.specs.Starts.{IsBegun, IsBegunAt, IsBegunBy, head_of, kept_of}
use Rattle.trace.specs.Texts.{begin_text, keep_text}
use Rattle.trace.proofs.ReadLemmas.{none_some}
use Rattle.std.proofs.lemmas.Option.{some_pair_parts}
use Rattle.retain_records.specs.RecordLaws.{IsMoment}

-- ---- a cold start

-- a life with this start
abbrev pub life_of : Plan → Start → State
life_of plan start = started plan MAX_LOG_ROOM start

begun_is : (plan : Plan) (start : Start) (life : State) → life ≡ started plan MAX_LOG_ROOM
    record { store = life.start; moment = life.before }
    → ◌≡◌ {A = Start} record { store = life.start; moment = life.before } start → life ≡ life_of plan start
begun_is plan start life is same = is ∙ ap (life_of plan) same

pub cold_begins : (plan : Plan) (life : State) (text words : List ℕ) (o : Option (List ℕ))
    → life ≡ life_of plan (cold_start (plan_view plan)) → words ≡ kept_of life → IsRestAfter text words o
    → BeginsWith (IsBegunAt plan Cold None) kept_of text (option_map {T = List ℕ} {U = State × List ℕ} (λ rest. (life, rest)) o)
cold_begins plan life text words o is spelled follows = (there o follows.0, only)
  where
    begun : IsBegunAt plan Cold None life
    begun = subst (λ (s : State). IsBegunAt plan Cold None s) (sym is) ((refl, refl, tt), refl)

    there : (u : Option (List ℕ)) → IfSome u (λ rest. text ≡ words ++ rest)
        → IfSome (option_map {T = List ℕ} {U = State × List ℕ} (λ rest. (life, rest)) u)
        (λ p. IsBegunAt plan Cold None p.0 × (text ≡ kept_of p.0 ++ p.1))
    there None h = tt
    there (Some rest) h = (begun, h ∙ ap (λ w. w ++ rest) spelled)

    only : (s : State) (more : List ℕ) → IsBegunAt plan Cold None s → text ≡ kept_of s ++ more
        → option_map {T = List ℕ} {U = State × List ℕ} (λ rest. (life, rest)) o ≡ Some (s, more)
    only s more may e =
        let same : life ≡ s = is ∙ sym (begun_is plan (cold_start (plan_view plan)) s may.0.0 may.0.1) in
        let words_are : words ≡ kept_of s = spelled ∙ ap (λ (x : State). kept_of x) same in
        ap (option_map {T = List ℕ} {U = State × List ℕ} (λ rest. (life, rest)))
        (follows.1 more (e ∙ ap (λ w. w ++ more) (sym words_are)))
        ∙ ap (λ (x : State). Some (x, more)) same

-- a cold start has no moment
pub cold_without_moment : (plan : Plan) (moment : ℕ) (text : List ℕ)
    → BeginsWith (IsBegunAt plan Cold (Some moment)) kept_of text None
cold_without_moment plan moment text = (tt, only)
  where
    only : (s : State) (more : List ℕ) → IsBegunAt plan Cold (Some moment) s → text ≡ kept_of s ++ more
        → ◌≡◌ {A = Option (State × List ℕ)} None (Some (s, more))
    only s more may e =
        let none : s.before ≡ None = ap (λ (x : Start). x.moment) may.0.1 in
        let bad : Some moment ≡ None = sym may.1 ∙ none in absurd (cc)

-- ---- a warm start

abbrev pub AreHeld : List PlanVariable → Type 0
AreHeld vs = AllByRecursion (λ v. IsHeld v.initial) vs

pub all_held : (vs : List PlanVariable) → All (λ v. IsHeld v.initial) vs → AreHeld vs
all_held [] h = tt
all_held (v ∷ vs) h = (h 0 v (omega arith), all_held vs (λ k d less. h (suc k) d (omega arith)))

-- the values of all variables after a restart
abbrev pub values_of : Enumerations → List KeptLine → List PlanVariable → List Datum
values_of types lines vs = map (restarted types lines) vs

kinds_of : (types : Enumerations) (lines : List KeptLine) (vs : List PlanVariable)
    → map (λ d. d.kind) (values_of types lines vs) ≡ map (λ v. v.initial.kind) vs
kinds_of types lines [] = refl
kinds_of types lines (v ∷ vs) =
    ap (λ k. k ∷ map (λ d. d.kind) (values_of types lines vs)) (restarted_typed types v lines v.retained)
    ∙ ap (λ ks. v.initial.kind ∷ ks) (kinds_of types lines vs)

held_if : (d : Datum) (ds : List Datum) (r : Bool) → IsHeld d → AllByRecursion IsHeld ds
    → AllByRecursion IsHeld (if r then d ∷ ds else ds)
held_if d ds true h k = (h, k)
held_if d ds false h k = k

held_of : (types : Enumerations) (lines : List KeptLine) (vs : List PlanVariable) → AreHeld vs
    → AllByRecursion IsHeld (retained_values vs (values_of types lines vs))
held_of types lines [] held = tt
held_of types lines (v ∷ vs) held =
    let kind = restarted_typed types v lines v.retained in
    let one : IsHeld (restarted types lines v) =
    subst (λ k. holds k (restarted types lines v).number ≡ true) (sym kind) (restarted_held types v lines v.retained held.0) in
    held_if (restarted types lines v) (retained_values vs (values_of types lines vs)) v.retained one (held_of types lines vs held.1)

-- a variable that is not retained has its initial value
restored_if : (types : Enumerations) (v : PlanVariable) (vs : List PlanVariable) (lines : List KeptLine) (r : Bool) → v.retained ≡ r
    → values_of types lines vs ≡ restored vs (retained_values vs (values_of types lines vs))
    → values_of types lines (v ∷ vs) ≡ restored (v ∷ vs) (retained_values (v ∷ vs) (values_of types lines (v ∷ vs)))
restored_if types v vs lines true is rest = rw is (ap (λ ds. restored_value v (find (is_line_of types v) lines) ∷ ds) rest)
restored_if types v vs lines false is rest = rw is (ap (λ ds. v.initial ∷ ds) rest)

restored_of : (types : Enumerations) (lines : List KeptLine) (vs : List PlanVariable)
    → values_of types lines vs ≡ restored vs (retained_values vs (values_of types lines vs))
restored_of types lines [] = refl
restored_of types lines (v ∷ vs) = restored_if types v vs lines v.retained refl (restored_of types lines vs)

-- a restart's variables, by their slots
stored : (types : Enumerations) (lines : List KeptLine) (vs : List PlanVariable) (ins : List PlanInput)
    → map (λ v. (v.path, restarted types lines v)) vs ≡ variables_with (layout_of vs ins) (values_of types lines vs)
stored types lines [] ins = sym (no_variables ins [])
stored types lines (v ∷ vs) ins = ap (λ t. (v.path, restarted types lines v) ∷ t) (stored types lines vs ins)

-- the lines of some values of the retained variables
lines_are : (plan : Plan) (ws : List Datum) → map (λ d. d.kind) ws ≡ retained_kinds plan.variables.items
    → keep_text (plan_view plan).enumerations (kept (plan_view plan) (store_in plan (restored plan.variables.items ws)))
    ≡ kept_lines (plan_view plan).enumerations plan.variables.items ws
lines_are plan ws kinds =
    let vs = plan.variables.items in
    let long : length (restored vs ws) ≡ length vs =
    sym (length-map (restored vs ws) (λ d. d.kind)) ∙ ap length (restored_typed vs ws kinds)
    ∙ length-map vs (λ v. v.initial.kind) in
    ap (keep_text (plan_view plan).enumerations) (kept_paired _ vs plan.inputs.items (restored vs ws) long (goes_by_itself vs plan.sound.different)
    ∙ ap (paired (retained_paths vs)) (restored_back vs ws kinds))

-- the same for a record of them
pub told_is : (plan : Plan) (ws : List Datum) (moment : Option ℕ) → AreKept plan.variables.items ws
    → (warm_start (plan_view plan) (Some (kept_from plan ws moment))).store
    ≡ store_in plan (restored plan.variables.items ws)
told_is plan ws moment are =
    restart_is (plan_view plan).enumerations plan.variables.items plan.inputs.items ws plan.sound.different are.0 are.1

-- a warm start is made of the values kept
pub record IsOfKept (plan : Plan) (start : Start) : Type 0 where
  pub values : List Datum
  pub are : AreKept plan.variables.items values
  pub store : start.store ≡ store_in plan (restored plan.variables.items values)

of_lines : (plan : Plan) (lines : List KeptLine) (moment : Option ℕ) → AreHeld plan.variables.items
    → IsOfKept plan record {
      store = map (λ v. (v.path, restarted (plan_view plan).enumerations lines v)) plan.variables.items;
      moment = moment;
    }
of_lines plan lines moment held =
    let vs = plan.variables.items in
    let types = (plan_view plan).enumerations in
    record {
      values = retained_values vs (values_of types lines vs);
      are = (kinds_kept vs (values_of types lines vs) (kinds_of types lines vs), held_of types lines vs held);
      store = stored types lines vs plan.inputs.items ∙ ap (store_in plan) (restored_of types lines vs);
    }

-- without a record the initial values are kept, as if none of its lines were for a variable
initial_if : (v : PlanVariable) (r : Bool) → (if r then v.initial else v.initial) ≡ v.initial
initial_if v true = refl
initial_if v false = refl

initials : (types : Enumerations) (vs : List PlanVariable)
    → map {B = Path × Datum} (λ v. (v.path, restarted types [] v)) vs
    ≡ map {B = Path × Datum} (λ v. (v.path, v.initial)) vs
initials types [] = refl
initials types (v ∷ vs) =
    ap (λ (d : Datum). (v.path, d) ∷ map {B = Path × Datum} (λ u. (u.path, restarted types [] u)) vs)
    (initial_if v v.retained)
    ∙ ap (λ (t : List (Path × Datum)). (v.path, v.initial) ∷ t) (initials types vs)

pub of_kept : (plan : Plan) (told : Option Kept) → AreHeld plan.variables.items
    → IsOfKept plan (warm_start (plan_view plan) told)
of_kept plan None held =
    let is = of_lines plan [] None held in
    record { values = is.values; are = is.are; store = sym (initials (plan_view plan).enumerations plan.variables.items) ∙ is.store }
of_kept plan (Some r) held = of_lines plan r.lines r.moment held

-- the life that goes on from these values
abbrev pub warm_life : Plan → Option ℕ → List Datum → State
warm_life plan moment ws = life_of plan record {
  store = (warm_start (plan_view plan) (Some (kept_from plan ws moment))).store;
  moment = moment;
}

abbrev pub with_life : Plan → Option ℕ → Option (List Datum × List ℕ) → Option (State × List ℕ)
with_life plan moment o = option_map {T = List Datum × List ℕ} {U = State × List ℕ}
    (λ p. (warm_life plan moment p.0, p.1)) o

pub warm_begins : (plan : Plan) (moment : Option ℕ) (text : List ℕ) (o : Option (List Datum × List ℕ))
    → IsMoment moment → AreHeld plan.variables.items
    → BeginsWith (AreKept plan.variables.items) (kept_lines (plan_view plan).enumerations plan.variables.items) text o
    → BeginsWith (IsBegunAt plan Warm moment) kept_of text (with_life plan moment o)
warm_begins plan moment text o early held begins = (there o begins.0, only)
  where
    lines_of : (ws : List Datum) → AreKept plan.variables.items ws
        → kept_of (warm_life plan moment ws) ≡ kept_lines (plan_view plan).enumerations plan.variables.items ws
    lines_of ws are = ap (λ (s : Store). keep_text (plan_view plan).enumerations (kept (plan_view plan) s)) (told_is plan ws moment are)
        ∙ lines_are plan ws are.0

    there : (u : Option (List Datum × List ℕ))
        → IfSome u (λ p. AreKept plan.variables.items p.0 × (text ≡ kept_lines (plan_view plan).enumerations plan.variables.items p.0 ++ p.1))
        → IfSome (with_life plan moment u) (λ p. IsBegunAt plan Warm moment p.0 × (text ≡ kept_of p.0 ++ p.1))
    there None h = tt
    there (Some (ws, rest)) h = (
      ((refl, (Some (kept_from plan ws moment), refl), early), refl),
      h.1 ∙ ap (λ w. w ++ rest) (sym (lines_of ws h.0)),
    )

    only : (s : State) (more : List ℕ) → IsBegunAt plan Warm moment s → text ≡ kept_of s ++ more
        → with_life plan moment o ≡ Some (s, more)
    only s more may e =
        let told = may.0.1.0 in
        let of = of_kept plan told held in
        let start : s.start ≡ store_in plan (restored plan.variables.items of.values) =
        ap (λ (x : Start). x.store) may.0.1.1 ∙ of.store in
        let plan_is : s.plan ≡ plan = ap (λ (x : State). x.plan) may.0.0 in
        let lines : kept_of s ≡ kept_lines (plan_view plan).enumerations plan.variables.items of.values =
        ap (λ (p : Plan). keep_text (plan_view p).enumerations (kept (plan_view p) s.start)) plan_is
        ∙ ap (λ (x : Store). keep_text (plan_view plan).enumerations (kept (plan_view plan) x)) start ∙ lines_are plan of.values of.are.0 in
        let same : warm_life plan moment of.values ≡ s =
        ap (λ (x : Store). life_of plan record { store = x; moment = moment })
        (told_is plan of.values moment of.are ∙ sym start)
        ∙ ap (λ (m : Option ℕ). life_of plan record { store = s.start; moment = m }) (sym may.1) ∙ sym may.0.0 in
        ap (with_life plan moment) (begins.1 of.values more of.are (e ∙ ap (λ w. w ++ more) lines))
        ∙ ap (λ (x : State). Some (x, more)) same

-- ---- the head

abbrev pub with_mode : StartMode → Option (State × List ℕ) → Option ((StartMode × State) × List ℕ)
with_mode mode o = option_map {T = State × List ℕ} {U = (StartMode × State) × List ℕ} (λ p. ((mode, p.0), p.1)) o

pair_parts : {A B : Type 0} (a x : A) (b y : B) → ◌≡◌ {A = A × B} (a, b) (x, y) → (a ≡ x) × (b ≡ y)
pair_parts {A} {B} a x b y e = (ap (λ (p : A × B). p.0) e, ap (λ (p : A × B). p.1) e)

pub start_begins : (plan : Plan) (text lines : List ℕ) (mode : StartMode) (moment : Option ℕ)
    (o : Option (State × List ℕ)) → BeginsWith MayBegin (begin_of plan.budget) text (Some ((mode, moment), lines))
    → BeginsWith (IsBegunAt plan mode moment) kept_of lines o → BeginsWith (IsBegunBy plan) head_of text (with_mode mode o)
start_begins plan text lines mode moment o begin rest = (there o rest.0, only)
  where
    there : (u : Option (State × List ℕ))
        → IfSome u (λ p. IsBegunAt plan mode moment p.0 × (lines ≡ kept_of p.0 ++ p.1))
        → IfSome (with_mode mode u) (λ p. IsBegunBy plan p.0 × (text ≡ head_of p.0 ++ p.1))
    there None h = tt
    there (Some (life, more)) h =
        let plan_is : life.plan ≡ plan = ap (λ (x : State). x.plan) h.0.0.0 in
        let words : begin_text plan.budget mode moment ≡ begin_text life.plan.budget mode life.before =
        ap (λ (p : Plan). begin_text p.budget mode moment) (sym plan_is)
        ∙ ap (λ (m : Option ℕ). begin_text life.plan.budget mode m) (sym h.0.1) in (
          h.0.0,
          begin.0.1 ∙ ap (λ w. w ++ lines) words
              ∙ ap (λ t. begin_text life.plan.budget mode life.before ++ t) h.1
              ∙ sym (append_assoc (begin_text life.plan.budget mode life.before) (kept_of life) more),
        )

    only : (told : StartMode × State) (more : List ℕ) → IsBegunBy plan told → text ≡ head_of told ++ more
        → with_mode mode o ≡ Some (told, more)
    only (m, s) more may e =
        let plan_is : s.plan ≡ plan = ap (λ (x : State). x.plan) may.0 in
        let split : text ≡ begin_text plan.budget m s.before ++ (kept_of s ++ more) =
        e ∙ append_assoc (begin_text s.plan.budget m s.before) (kept_of s) more
        ∙ ap (λ (p : Plan). begin_text p.budget m s.before ++ (kept_of s ++ more)) plan_is in
        let first = some_pair_parts (mode, moment) (m, s.before) lines (kept_of s ++ more)
        (begin.1 (m, s.before) (kept_of s ++ more) may.2 split) in
        let parts = pair_parts mode m moment s.before first.0 in
        let begun : IsBegunAt plan mode moment s =
        (subst (λ (x : StartMode). IsBegun plan x s) (sym parts.0) may, sym parts.1) in
        ap (with_mode mode) (rest.1 s more begun first.1) ∙ ap (λ (x : StartMode). Some ((x, s), more)) parts.0

-- if the first lines are none
pub start_not : (plan : Plan) (text : List ℕ) → BeginsWith MayBegin (begin_of plan.budget) text None
    → BeginsWith (IsBegunBy plan) head_of text None
start_not plan text begin = (tt, only)
  where
    only : (told : StartMode × State) (more : List ℕ) → IsBegunBy plan told → text ≡ head_of told ++ more
        → ◌≡◌ {A = Option ((StartMode × State) × List ℕ)} None (Some (told, more))
    only (m, s) more may e =
        let plan_is : s.plan ≡ plan = ap (λ (x : State). x.plan) may.0 in
        let split : text ≡ begin_text plan.budget m s.before ++ (kept_of s ++ more) =
        e ∙ append_assoc (begin_text s.plan.budget m s.before) (kept_of s) more
        ∙ ap (λ (p : Plan). begin_text p.budget m s.before ++ (kept_of s ++ more)) plan_is in
        none_some ((m, s.before), kept_of s ++ more) (begin.1 (m, s.before) (kept_of s ++ more) may.2 split)

abbrev given : List Datum → Option ℕ → State → State
given values moment core = record {
  plan = core.plan;
  start = (warm_start (plan_view core.plan) (Some (kept_from core.plan values moment))).store;
  before = moment;
  log = [];
  room = core.room;
}

-- a cold life that was given these values
pub resumed_life : (plan : Plan) (core new : State) (values items : List Datum) (moment : Option ℕ)
    → core ≡ life_of plan (cold_start (plan_view plan)) → values ≡ items → new ≡ record {
      plan = core.plan;
      start = (warm_start (plan_view core.plan) (Some (kept_from core.plan values moment))).store;
      before = moment;
      log = [];
      room = core.room;
    } → new ≡ warm_life plan moment items
resumed_life plan core new values items moment is same resumed =
    resumed ∙ ap (given values moment) is ∙ ap (λ (ds : List Datum). warm_life plan moment ds) same
