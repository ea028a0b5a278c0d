-- The values that a plan's variables take from a record of another layout text.
use Rattle.std.proofs.Common.{◌≡◌, ◌∙◌, ap, sym, refl, subst, ℕ, Bool, true, false, if◌then◌else◌, List, [], ◌∷◌, ◌++◌}
use Rattle.std.proofs.Common.{map, Option, Some, None}
use Rattle.std.specs.Prelude.{filter}
use Rattle.std.specs.List.{list_all, find, AllByRecursion}
use Rattle.std.proofs.lemmas.Bool.{and_parts}
use Rattle.st_types.specs.Values.{Datum, IsHeld}
use Rattle.st_types.specs.Paths.{Path}
use Rattle.st_meaning.specs.Stores.{Store}
use Rattle.st_meaning.specs.Slots.{variables_with}
use Rattle.st_meaning.specs.declared.plan.PlanVariable.{PlanVariable}
use Rattle.st_meaning.specs.declared.plan.PlanInput.{PlanInput}
use Rattle.st_meaning.specs.Layouts.{Enumerations, layout_of, layout_text, line_of}
use Rattle.st_meaning.specs.Plans.{initial_store, is_retained}
use Rattle.st_meaning.specs.Restarts.{Kept, KeptLine, is_line_of, restored_value, restarted, kept, warm_start}
use Rattle.st_meaning.proofs.RestartLemmas as stores
use Rattle.st_meaning.proofs.RestartLemmas.{restarts, GoesByItself, goes_by_itself}
use Rattle.plan.specs.Sound.{has_line}
use Rattle.plan.specs.declared.plan.Plan.{Plan}
use Rattle.plan.specs.PlanViews.{plan_view}
use Rattle.core_values.specs.Restored.{restored}
use Rattle.serial_core.specs.Steps.{State, past_in}
use Rattle.serial_core.specs.Retained.{retained_values, retained_kinds, kept_from}
use Rattle.core_engine.proofs.RetainedLemmas.{restart_is}
use Rattle.core_engine.proofs.PlanSlots.{no_variables}
use Rattle.retain_records.specs.Records.{Content, IsLine}
use Rattle.retain_store.specs.Recovered.{Found}
use Rattle.durable_core.specs.Recorded.{recorded}
use Rattle.retain_records.proofs.LayoutLemmas.{words_again}
use Rattle.retain_records.proofs.MatchingLemmas.{told_held, told_kinds}
use Rattle.retain_records.specs.ContentLines.{kept_in}
use Rattle.retain_records.specs.Matching.{with_line, restored_then, all_restored}
use Rattle.durable_core.specs.Restart.{fresh_state, layout_text_of, record_of, record_now, warm}
use Rattle.durable_core.specs.Starting.{started}
use Rattle.durable_core.proofs.RecordedLemmas.{recorded_kinds, typed, typed_recorded}
use Rattle.durable_core.proofs.RecordLemmas.{line_for, line_spelled, told_in_order}
use Rattle.durable_core.proofs.GivenBack.{apart}

-- the value that each variable starts with
abbrev pub each : Enumerations → List KeptLine → List PlanVariable → List Datum
each types lines vs = map (restarted types lines) vs

abbrev pub initials : List PlanVariable → List Datum
initials vs = map (λ v. v.initial) vs

with_is : (v : PlanVariable) (o : Option KeptLine) → with_line v.initial o ≡ restored_value v o
with_is v None = refl
with_is v (Some l) = refl

restarted_is : (types : Enumerations) (lines : List KeptLine) (v : PlanVariable) → v.retained ≡ true
    → restarted types lines v ≡ restored_value v (find (is_line_of types v) lines)
restarted_is types lines v is = rw is refl

restarted_not : (types : Enumerations) (lines : List KeptLine) (v : PlanVariable) → v.retained ≡ false
    → restarted types lines v ≡ v.initial
restarted_not types lines v is = rw is refl

-- the plan's own values take the values of the lines
told_next : (types : Enumerations) (lines : List KeptLine) (v : PlanVariable) (vs : List PlanVariable) (r : Bool)
    → v.retained ≡ r → IsLine (line_for types v)
    → all_restored (layout_text types vs) lines (retained_values vs (initials vs)) ≡ retained_values vs (each types lines vs)
    → all_restored (if r then line_of types v ++ layout_text types vs else layout_text types vs) lines
    (if r then v.initial ∷ retained_values vs (initials vs) else retained_values vs (initials vs))
    ≡ (if r then restarted types lines v ∷ retained_values vs (each types lines vs)
    else retained_values vs (each types lines vs))
told_next types lines v vs true is sound again =
    ap (λ o. restored_then o v.initial (retained_values vs (initials vs)) lines
    (λ behind. all_restored behind lines (retained_values vs (initials vs))))
    (words_again (line_for types v) (layout_text types vs) sound)
    ∙ ap (λ ds. with_line v.initial (find (is_line_of types v) lines) ∷ ds) again
    ∙ ap (λ d. d ∷ retained_values vs (each types lines vs))
    (with_is v (find (is_line_of types v) lines) ∙ sym (restarted_is types lines v is))
told_next types lines v vs false is sound again = again

pub told_values : (types : Enumerations) (lines : List KeptLine) (vs : List PlanVariable)
    → list_all (has_line types) vs ≡ true
    → all_restored (layout_text types vs) lines (retained_values vs (initials vs)) ≡ retained_values vs (each types lines vs)
told_values types lines [] spelled = refl
told_values types lines (v ∷ vs) spelled =
    let p = and_parts (has_line types v) (list_all (has_line types) vs) spelled in
    told_next types lines v vs v.retained refl (line_spelled types v p.0) (told_values types lines vs p.1)

-- ---- the plan's own values at the beginning

own_next : (keep : Path → Bool) (v : PlanVariable) (s : Store) (ws : List Datum) (r : Bool) → keep v.path ≡ r
    → map (λ e. e.1) (filter (λ e. keep e.0) s) ≡ ws
    → map (λ e. e.1) (filter (λ e. keep e.0) ((v.path, v.initial) ∷ s)) ≡ (if r then v.initial ∷ ws else ws)
own_next keep v s ws true is rest = rw is (ap (λ ds. v.initial ∷ ds) rest)
own_next keep v s ws false is rest = rw is rest

own_values : (keep : Path → Bool) (vs : List PlanVariable) → GoesByItself keep vs
    → map (λ e. e.1) (filter (λ e. keep e.0) (stores.initials vs)) ≡ retained_values vs (initials vs)
own_values keep [] goes = refl
own_values keep (v ∷ vs) goes =
    own_next keep v (stores.initials vs) (retained_values vs (initials vs)) v.retained goes.0
    (own_values keep vs goes.1)

pub own_are : (plan : Plan) → map (λ e. e.1) (kept (plan_view plan) (initial_store (plan_view plan)))
    ≡ retained_values plan.variables.items (initials plan.variables.items)
own_are plan = own_values (is_retained (plan_view plan)) plan.variables.items
    (goes_by_itself plan.variables.items (apart plan))

-- ---- the start of a life

restored_next : (types : Enumerations) (lines : List KeptLine) (v : PlanVariable) (vs : List PlanVariable) (r : Bool)
    → v.retained ≡ r → restored vs (retained_values vs (each types lines vs)) ≡ each types lines vs
    → restored (v ∷ vs) (if r then restarted types lines v ∷ retained_values vs (each types lines vs)
    else retained_values vs (each types lines vs)) ≡ restarted types lines v ∷ each types lines vs
restored_next types lines v vs true is again = rw is (ap (λ ds. restored_value v (find (is_line_of types v) lines) ∷ ds) again)
restored_next types lines v vs false is again = rw is (ap (λ ds. v.initial ∷ ds) again)

restored_each : (types : Enumerations) (lines : List KeptLine) (vs : List PlanVariable)
    → restored vs (retained_values vs (each types lines vs)) ≡ each types lines vs
restored_each types lines [] = refl
restored_each types lines (v ∷ vs) = restored_next types lines v vs v.retained refl (restored_each types lines vs)

in_variables : (types : Enumerations) (lines : List KeptLine) (vs : List PlanVariable) (ins : List PlanInput)
    → variables_with (layout_of vs ins) (each types lines vs) ≡ restarts types lines vs
in_variables types lines [] ins = no_variables ins []
in_variables types lines (v ∷ vs) ins =
    ap (λ s. (v.path, restarted types lines v) ∷ s) (in_variables types lines vs ins)

-- a start from the values that were taken is the start from the record
pub started_across : (plan : Plan) (content : Content) (ws : List Datum) (moment : Option ℕ)
    → map (λ d. d.kind) ws ≡ retained_kinds plan.variables.items → AllByRecursion IsHeld ws
    → ws ≡ retained_values plan.variables.items
    (each (plan_view plan).enumerations (kept_in content).lines plan.variables.items)
    → (warm_start (plan_view plan) (Some (kept_from plan ws moment))).store
    ≡ (warm_start (plan_view plan) (Some (kept_in content))).store
started_across plan content ws moment kinds held is =
    let types = (plan_view plan).enumerations in
    let vs = plan.variables.items in
    let ins = plan.inputs.items in
    restart_is types vs ins ws plan.sound.different kinds held
    ∙ ap (λ ds. variables_with (layout_of vs ins) (restored vs ds)) is
    ∙ ap (variables_with (layout_of vs ins)) (restored_each types (kept_in content).lines vs)
    ∙ in_variables types (kept_in content).lines vs ins

-- the values that a record of another layout text gives
pub record AreAcross (plan : Plan) (content : Content) (values : List Datum) : Type 0 where
  pub are : values ≡ retained_values plan.variables.items
      (each (plan_view plan).enumerations (kept_in content).lines plan.variables.items)
  pub kinds : map (λ d. d.kind) values ≡ retained_kinds plan.variables.items
  pub held : AllByRecursion IsHeld values

pub are_across : (plan : Plan) (room : ℕ) (state : State) (content : Content) (text : List ℕ) (own values : List Datum)
    → state ≡ fresh_state plan room → text ≡ layout_text_of plan
    → own ≡ map (λ e. e.1) (kept (plan_view plan) (past_in state).store)
    → map (λ d. d.kind) own ≡ retained_kinds plan.variables.items → AllByRecursion IsHeld own
    → values ≡ all_restored text (kept_in content).lines own → AreAcross plan content values
are_across plan room state content text own values new is owned kinds held valued =
    let types = (plan_view plan).enumerations in
    let vs = plan.variables.items in
    let mine : own ≡ retained_values vs (initials vs) = owned
    ∙ ap (λ (s : State). map (λ e. e.1) (kept (plan_view plan) (past_in s).store)) new ∙ own_are plan in
    record {
      are = valued ∙ ap (λ t. all_restored t (kept_in content).lines own) is
          ∙ ap (all_restored (layout_text_of plan) (kept_in content).lines) mine
          ∙ told_values types (kept_in content).lines vs plan.sound.spelled;
      kinds = ap (map (λ d. d.kind)) valued ∙ told_kinds text (kept_in content).lines own ∙ kinds;
      held = subst (λ (ds : List Datum). AllByRecursion IsHeld ds) (sym valued)
          (told_held text (kept_in content).lines own held);
    }

-- the state that a record's values give, in order
abbrev pub begun_by : Plan → ℕ → List Datum → Option ℕ → State
begun_by plan room ws moment = record {
  plan = plan;
  start = (warm_start (plan_view plan) (Some (kept_from plan ws moment))).store;
  before = moment;
  log = [];
  room = room;
}

abbrev begun_at : Plan → ℕ → Store → Option ℕ → State
begun_at plan room start moment =
    record { plan = plan; start = start; before = moment; log = []; room = room }

pub migrated : (plan : Plan) (room : ℕ) (content : Content) (state : State) (ws : List Datum) (moment : Option ℕ)
    → state ≡ begun_by plan room ws moment → moment ≡ content.moment → AreAcross plan content ws
    → state ≡ started plan room (warm_start (plan_view plan) (Some (kept_in content)))
migrated plan room content state ws moment is timed a =
    is ∙ ap (λ m. begun_by plan room ws m) timed
    ∙ ap (λ (s : Store). begun_at plan room s content.moment)
    (started_across plan content ws content.moment a.kinds a.held a.are)

-- the record of a start gives the same start again
pub start_again : (plan : Plan) (room generation : ℕ) (state : State) (ws : List Datum) (moment : Option ℕ)
    → state ≡ begun_by plan room ws moment → map (λ d. d.kind) ws ≡ retained_kinds plan.variables.items
    → map (λ e. e.1) (kept (plan_view plan) state.start) ≡ ws
    → state ≡ started plan room (warm plan (Found generation (record_now state)))
start_again plan room generation state ws moment is kinds back =
    let vs = plan.variables.items in
    let content : Content = record_of plan state.start moment in
    let values : content.values ≡ map recorded ws = ap (map recorded) back in
    let known = ap (map (λ d. d.kind)) values ∙ recorded_kinds (retained_kinds vs) ws kinds in
    let tells : kept_in content ≡ kept_from plan ws moment = told_in_order plan content refl known
    ∙ ap (λ us. kept_from plan (typed (retained_kinds vs) us) moment) values
    ∙ ap (λ us. kept_from plan us moment) (typed_recorded (retained_kinds vs) ws kinds) in
    let now : record_now state ≡ content =
    ap (λ (s : State). record_now record { plan = s.plan; start = state.start; before = s.before; log = s.log; room = s.room }) is in
    is ∙ ap (λ (k : Kept). started plan room (warm_start (plan_view plan) (Some k))) (sym tells)
    ∙ ap (λ (c : Content). started plan room (warm plan (Found generation c))) (sym now)
