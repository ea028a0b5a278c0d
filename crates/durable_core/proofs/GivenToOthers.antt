-- The surviving values are given to other plans.
use Rattle.std.proofs.Common.{◌≡◌, ◌∙◌, ap, sym, subst, ℕ, Bool, true, false, if◌then◌else◌, List, [], ◌∷◌}
use Rattle.std.proofs.Common.{Option, Some}
use Rattle.std.specs.Prelude.{filter, bytes_eq}
use Rattle.std.specs.List.{list_all, AllByRecursion}
use Rattle.std.proofs.lemmas.Bool.{and_parts}
use Rattle.std.proofs.lemmas.Slice.Eq.{bytes_eq-Decides}
use Rattle.st_types.specs.declared.kind.Kind.{Kind}
use Rattle.st_types.specs.Kinds.{holds}
use Rattle.st_types.specs.Values.{Datum}
use Rattle.st_types.specs.Paths.{Path}
use Rattle.st_meaning.specs.Stores.{Store, shape_of, all_held}
use Rattle.st_meaning.specs.declared.plan.PlanVariable.{PlanVariable}
use Rattle.st_types.specs.declared.entry.Entry.{Entry}
use Rattle.st_meaning.specs.Layouts.{Enumerations, path_text, type_text}
use Rattle.st_meaning.specs.Plans.{Plan, initial_store, is_retained}
use Rattle.st_meaning.specs.Logs.{past_of, after, last_moment}
use Rattle.st_meaning.specs.Restarts.{kept, warm_start}
use Rattle.st_meaning.proofs.RestartLemmas.{initials, after_same}
use Rattle.retain_records.specs.OtherPlans.{is_value_for, all_carried, HoldTheSame}
use Rattle.retain_records.proofs.OtherPlanLemmas.{carried_over}
use Rattle.retain_records.specs.Records.{Content, SpellsKind}
use Rattle.retain_records.specs.LineLaws.{kind_spelled_again}
use Rattle.retain_store.specs.Recovered.{Found}
use Rattle.plan.specs.Sound.{has_line, has_spelling, is_spelled}
use Rattle.plan.specs.declared.plan.Plan.{Plan as ConfigPlan}
use Rattle.plan.specs.PlanViews.{plan_view}
use Rattle.durable_core.specs.Recorded.{recorded_kind}
use Rattle.retain_records.specs.ContentLines.{kept_in}
use Rattle.durable_core.specs.Restart.{Survives, warm}
use Rattle.durable_core.proofs.RecordedLemmas.{holds_recorded}
use Rattle.durable_core.proofs.RecordLemmas.{type_spells}
use Rattle.durable_core.proofs.GivenBack.{told_again}
use Rattle.std.proofs.lemmas.Option.{same_Some}

-- ---- types that are written alike hold the same values

one_type : (word : List ℕ) (k j : Kind) → SpellsKind word k → SpellsKind word j → k ≡ j
one_type word k j a b = same_Some k j (sym (kind_spelled_again word k a) ∙ kind_spelled_again word j b)

alike_holds : (old new : Enumerations) (v : PlanVariable) (e : Path × Datum) → has_spelling new v.initial.kind ≡ true
    → has_spelling old e.1.kind ≡ true → holds e.1.kind e.1.number ≡ true → is_value_for old new v e ≡ true
    → holds v.initial.kind e.1.number ≡ true
alike_holds old new v e spelled named held is =
    let p = and_parts (bytes_eq (path_text v.path) (path_text e.0))
    (bytes_eq (type_text new v.initial.kind) (type_text old e.1.kind)) is in
    let word : type_text new v.initial.kind ≡ type_text old e.1.kind = (bytes_eq-Decides _ _).0 p.1 in
    let one : recorded_kind v.initial.kind ≡ recorded_kind e.1.kind =
    one_type (type_text new v.initial.kind) (recorded_kind v.initial.kind) (recorded_kind e.1.kind)
    (type_spells new v.initial.kind spelled)
    (subst (λ w. SpellsKind w (recorded_kind e.1.kind)) (sym word) (type_spells old e.1.kind named)) in
    sym (holds_recorded v.initial.kind e.1.number) ∙ ap (λ j. holds j e.1.number) one
    ∙ holds_recorded e.1.kind e.1.number ∙ held

hold_each : (old new : Enumerations) (v : PlanVariable) → has_spelling new v.initial.kind ≡ true
    → (us : List PlanVariable) (s : Store) → list_all (has_line old) us ≡ true → shape_of s ≡ shape_of (initials us)
    → all_held s ≡ true
    → AllByRecursion (λ e. is_value_for old new v e ≡ true → holds v.initial.kind e.1.number ≡ true) s
hold_each old new v spelled [] [] lines same held = tt
hold_each old new v spelled [] (e ∷ s) lines same held = absurd (cc)
hold_each old new v spelled (u ∷ us) [] lines same held = tt
hold_each old new v spelled (u ∷ us) (e ∷ s) lines same held =
    let heads : ◌≡◌ {A = Path × Kind} (e.0, e.1.kind) (u.path, u.initial.kind) = cc in
    let kind : e.1.kind ≡ u.initial.kind = ap (λ x. x.1) heads in
    let rest : shape_of s ≡ shape_of (initials us) = cc in
    let p = and_parts (has_line old u) (list_all (has_line old) us) lines in
    let q = and_parts (is_spelled (path_text u.path)) (has_spelling old u.initial.kind) p.0 in
    let h = and_parts (holds e.1.kind e.1.number) (all_held s) held in (
      alike_holds old new v e spelled (ap (has_spelling old) kind ∙ q.1) h.0,
      hold_each old new v spelled us s p.1 rest h.1,
    )

filter_first : (P : Path × Datum → Type 0) (e : Path × Datum) (s : Store) (b : Bool) → P e → AllByRecursion P s
    → AllByRecursion P (if b then e ∷ s else s)
filter_first P e s true h rest = (h, rest)
filter_first P e s false h rest = rest

filter_all : (P : Path × Datum → Type 0) (keep : Path → Bool) (s : Store) → AllByRecursion P s
    → AllByRecursion P (filter (λ e. keep e.0) s)
filter_all P keep [] h = tt
filter_all P keep (e ∷ s) h =
    filter_first P e (filter (λ d. keep d.0) s) (keep e.0) h.0 (filter_all P keep s h.1)

hold_alike : (old : Plan) (new : Enumerations) (vs : List PlanVariable) (s : Store)
    → list_all (has_line old.enumerations) old.variables ≡ true → list_all (has_line new) vs ≡ true
    → shape_of s ≡ shape_of (initials old.variables) → all_held s ≡ true
    → HoldTheSame old.enumerations new vs (kept old s)
hold_alike old new [] s lines spelled same held = tt
hold_alike old new (v ∷ vs) s lines spelled same held =
    let p = and_parts (has_line new v) (list_all (has_line new) vs) spelled in
    let q = and_parts (is_spelled (path_text v.path)) (has_spelling new v.initial.kind) p.0 in (
      filter_all (λ e. is_value_for old.enumerations new v e ≡ true → holds v.initial.kind e.1.number ≡ true) (is_retained old)
          s (hold_each old.enumerations new v q.1 old.variables s lines same held),
      hold_alike old new vs s lines p.1 same held,
    )

-- ---- the surviving values are given to other plans

pub others_given : (plan other : ConfigPlan) (start : Store) (before : Option ℕ) (log : List Entry) (acked generation : ℕ)
    (content : Content) → shape_of start ≡ shape_of (initial_store (plan_view plan)) → all_held start ≡ true
    → (s : Survives plan start before log acked (Found generation content))
    → (warm other (Found generation content)).store
    ≡ all_carried (plan_view plan) (plan_view other) (after (plan_view plan) start s.front)
others_given plan other start before log acked generation content same held s =
    let p = plan_view plan in
    let now = after p start s.front in
    let moment = last_moment before (past_of p start s.front).rows in
    let left = after_same p start s.front in
    let shape : shape_of now ≡ shape_of (initial_store p) = left.shape ∙ same in
    ap (λ (c : Content). (warm_start (plan_view other) (Some (kept_in c))).store) s.holds
    ∙ ap (λ r. (warm_start (plan_view other) (Some r)).store) (told_again plan now moment shape)
    ∙ carried_over p (plan_view other) now moment (hold_alike p (plan_view other).enumerations other.variables.items now
    plan.sound.spelled other.sound.spelled shape (left.held held))
