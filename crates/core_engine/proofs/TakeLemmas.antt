-- Snapshots that are taken from a core.
use Rattle.std.proofs.Common.{◌≡◌, ℕ, ◌<◌, Bool, true, List, length, map, Option, Some}
use Rattle.std.proofs.Common.{None, option_map, slice_get, refl, sym, ap, subst, ◌∙◌, arith}
use Rattle.std.specs.Prelude.{MatchBool, MatchOption}
use Rattle.std.proofs.lemmas.List.{length-map}
use Rattle.st_types.specs.Values.{Datum}
use Rattle.st_meaning.specs.declared.plan.PlanInput.{PlanInput}
use Rattle.st_types.specs.declared.entry.Entry.{Entry}
use Rattle.st_types.specs.declared.entry.Activation.{Activation}
use Rattle.st_meaning.specs.Slots.{AreOfTypes}
use Rattle.st_meaning.specs.Due.{History, Waits, NoneWaits, IsBest}
use Rattle.st_meaning.specs.Plans.{schedules_of}
use Rattle.st_meaning.specs.Logs.{past_of, row_at}
use Rattle.st_meaning.proofs.DueLemmas.{Waits-there}
use Rattle.slot_code.specs.declared.code.Code.{Code}
use Rattle.slot_run.specs.declared.snapshot.Snapshot.{Snapshot}
use Rattle.plan.specs.declared.plan.Plan.{Plan}
use Rattle.plan.specs.declared.task.ProgramInstance.{ProgramInstance}
use Rattle.plan.specs.declared.slots.SlotPlace.{SlotPlace}
use Rattle.plan.specs.SlotPlaces.{are_numbered, merged, slots_among}
use Rattle.plan.proofs.SlotLemmas.{typed_merged}
use Rattle.plan.specs.PlanViews.{plan_view}
use Rattle.plan.specs.Reading.{ReadsAreAskedFor}
use Rattle.plan.proofs.PlanReads.{asks_for_reads}
use Rattle.ready_list.specs.Ready.{Ready, IsReadyOf}
use Rattle.core_engine.specs.Steps.{State, store_in, code_at, IsSnapshotOf, IsSnapshotIn, IsWaiting}
use Rattle.core_engine.specs.Kept.{IsKept}
use Rattle.core_engine.proofs.PlanSlots.{values_back}

-- the value that a found value is made of
pub found : (A B : Type 0) (f : A → B) (o : Option A) (b : B) → option_map f o ≡ Some b
    → (a : A) × (o ≡ Some a) × (f a ≡ b)
found A B f None b e = absurd (let y : ◌≡◌ {A = Option B} None (Some b) = e in cc)
found A B f (Some a) b e = (a, refl, let y : ◌≡◌ {A = Option B} (Some (f a)) (Some b) = e in cc)

-- the code of a program has the types of the plan's slots
pub kinds_at : (plan : Plan) (p : ℕ) (code : Code) → code_at plan p ≡ Some code
    → map (λ l. l.kind) (slots_among plan.slots.items plan.variables.items plan.inputs.items)
    ≡ code.kinds.value.items
kinds_at plan p code e =
    let f = found ProgramInstance Code (λ q. q.code.value) (slice_get plan.programs.items p) code e in
    (plan.sound.codes p f.0 f.1).means.kinds ∙ ap (λ (x : Code). x.kinds.value.items) f.2

-- the same slots with the same values
pub merged_as : (ps qs : List SlotPlace) (vs us xs ys : List Datum) → ps ≡ qs → vs ≡ us → xs ≡ ys
    → merged ps vs xs ≡ merged qs us ys
merged_as ps qs vs us xs ys p v x = ap (λ o. merged o vs xs) p ∙ ap (λ o. merged qs o xs) v ∙ ap (merged qs us) x

pub numbered_as : (ps qs : List SlotPlace) (vs us xs ys : List Datum) → ps ≡ qs → vs ≡ us → xs ≡ ys
    → are_numbered 0 0 qs (length us) (length ys) ≡ true → are_numbered 0 0 ps (length vs) (length xs) ≡ true
numbered_as ps qs vs us xs ys p v x h =
    ap (λ o. are_numbered 0 0 o (length vs) (length xs)) p
    ∙ ap (λ o. are_numbered 0 0 qs (length o) (length xs)) v
    ∙ ap (λ o. are_numbered 0 0 qs (length us) (length o)) x
    ∙ h

module _ {plan : Plan} {start values : List Datum} {before : Option ℕ} {samples : List Bool} {log : List Entry}
    {last : Option ℕ} {ready : Ready} (kept : IsKept plan start before values samples log last ready) where
  pub NoneWaits-best : (resource : ℕ) → ((h : History) → IsReadyOf h ready → NoneWaits ready.schedules h resource)
      → NoneWaits (schedules_of (plan_view plan)) (past_of (plan_view plan) (store_in plan start) log).history resource
  NoneWaits-best resource none =
      subst (λ ps. NoneWaits ps (past_of (plan_view plan) (store_in plan start) log).history resource) kept.schedules
      (none _ kept.of_past.ready_is)

  pub waits_best : (r : Bool) (resource : ℕ)
      → ((h : History) → IsReadyOf h ready → MatchBool r (NoneWaits ready.schedules h resource → ⊥)
      (NoneWaits ready.schedules h resource))
      → MatchBool r (NoneWaits (schedules_of (plan_view plan))
      (past_of (plan_view plan) (store_in plan start) log).history resource → ⊥)
      (NoneWaits (schedules_of (plan_view plan)) (past_of (plan_view plan) (store_in plan start) log).history resource)
  waits_best r resource tells =
      subst (λ ps. MatchBool r
      (NoneWaits ps (past_of (plan_view plan) (store_in plan start) log).history resource → ⊥)
      (NoneWaits ps (past_of (plan_view plan) (store_in plan start) log).history resource)) kept.schedules
      (tells _ kept.of_past.ready_is)

  pub IsBest-best : (resource : ℕ) (a : Activation)
      → ((h : History) → IsReadyOf h ready → IsBest ready.schedules h resource a)
      → IsBest (schedules_of (plan_view plan)) (past_of (plan_view plan) (store_in plan start) log).history resource a
  IsBest-best resource a best =
      subst (λ ps. IsBest ps (past_of (plan_view plan) (store_in plan start) log).history resource a) kept.schedules
      (best _ kept.of_past.ready_is)

  -- the best activation by the list
  pub best_told : (resource : ℕ) (o : Option Activation)
      → ((h : History) → IsReadyOf h ready
      → MatchOption o (NoneWaits ready.schedules h resource) (IsBest ready.schedules h resource))
      → MatchOption o
      (NoneWaits (schedules_of (plan_view plan)) (past_of (plan_view plan) (store_in plan start) log).history resource)
      (IsBest (schedules_of (plan_view plan)) (past_of (plan_view plan) (store_in plan start) log).history resource)
  best_told resource None tells = NoneWaits-best resource tells
  best_told resource (Some a) tells = IsBest-best resource a tells

  pub waits-program : (a : Activation)
      → Waits (schedules_of (plan_view plan)) (past_of (plan_view plan) (store_in plan start) log).history a
      → a.program < length plan.programs.items
  waits-program a w = let t =
      Waits-there (schedules_of (plan_view plan)) (past_of (plan_view plan) (store_in plan start) log).history a w in
      subst (λ n. a.program < n) (length-map _ _ ∙ length-map _ _) t.0

  pub waits-row : (a : Activation)
      → Waits (schedules_of (plan_view plan)) (past_of (plan_view plan) (store_in plan start) log).history a
      → a.row < length (past_of (plan_view plan) (store_in plan start) log).rows
  waits-row a w = let t =
      Waits-there (schedules_of (plan_view plan)) (past_of (plan_view plan) (store_in plan start) log).history a w in
      omega (arith, t.1, kept.of_past.sampled_count)

  -- the values of the slots of variables
  pub values_are : values ≡ map (λ e. e.1) (past_of (plan_view plan) (store_in plan start) log).store
  values_are = sym (values_back plan.variables.items plan.inputs.items values kept.sized)
      ∙ ap (map (λ e. e.1)) kept.of_past.variables

  -- variables and inputs are numbered as there are values of them
  pub slots_numbered : (a : Activation) → a.row < length (past_of (plan_view plan) (store_in plan start) log).rows
      → are_numbered 0 0 plan.slots.items (length values)
      (length (row_at (past_of (plan_view plan) (store_in plan start) log).rows a.row).image) ≡ true
  slots_numbered a l =
      let images = kept.of_past.images a.row l in
      let im = (row_at (past_of (plan_view plan) (store_in plan start) log).rows a.row).image in
      let counted : length im ≡ length plan.inputs.items = sym (length-map im (λ (d : Datum). d.kind)) ∙ ap length images
      ∙ length-map plan.inputs.items (λ (i : PlanInput). i.kind) in
      subst (λ n. are_numbered 0 0 plan.slots.items n (length im) ≡ true) (sym kept.sized)
      (subst (λ n. are_numbered 0 0 plan.slots.items (length plan.variables.items) n ≡ true) (sym counted)
      plan.sound.numbered)

  -- the values of an activation's slots have the types of the slots
  pub slots_typed : (a : Activation) → a.row < length (past_of (plan_view plan) (store_in plan start) log).rows
      → AreOfTypes (slots_among plan.slots.items plan.variables.items plan.inputs.items)
      (merged plan.slots.items values
      (row_at (past_of (plan_view plan) (store_in plan start) log).rows a.row).image)
  slots_typed a l =
      typed_merged plan.slots.items plan.variables.items plan.inputs.items values
      (row_at (past_of (plan_view plan) (store_in plan start) log).rows a.row).image kept.typed
      (kept.of_past.images a.row l)

  -- whether a program waits is in the list
  pub waiting_here : (room program : ℕ) (o : Option ℕ)
      → ((h : History) → IsReadyOf h ready → MatchOption o
      ((row : ℕ) → Waits ready.schedules h record { program = program; row = row } → ⊥)
      (λ row. Waits ready.schedules h record { program = program; row = row }))
      → IsWaiting record { plan = plan; start = store_in plan start; before = before; log = log; room = room } program o
  waiting_here room program None tells =
      subst (λ ps. (row : ℕ) → Waits ps (past_of (plan_view plan) (store_in plan start) log).history
      record { program = program; row = row } → ⊥) kept.schedules (tells _ kept.of_past.ready_is)
  waiting_here room program (Some row) tells =
      subst (λ ps. Waits ps (past_of (plan_view plan) (store_in plan start) log).history
      record { program = program; row = row }) kept.schedules (tells _ kept.of_past.ready_is)

  -- the code of an activation that waits has the types of the values of its slots
  pub slots_of_code : (a : Activation) (code : Code)
      → Waits (schedules_of (plan_view plan)) (past_of (plan_view plan) (store_in plan start) log).history a
      → code_at plan a.program ≡ Some code
      → map (λ v. v.kind) (merged plan.slots.items
      (map (λ e. e.1) (past_of (plan_view plan) (store_in plan start) log).store)
      (row_at (past_of (plan_view plan) (store_in plan start) log).rows a.row).image) ≡ code.kinds.value.items
  slots_of_code a code w coded =
      ap (λ vs. map (λ v. v.kind) (merged plan.slots.items vs
      (row_at (past_of (plan_view plan) (store_in plan start) log).rows a.row).image)) (sym values_are)
      ∙ slots_typed a (waits-row a w) ∙ kinds_at plan a.program code coded

-- each value that is read of a snapshot with the code of its activation's program is asked for
asked_for : (plan : Plan) (s : Snapshot) → code_at plan s.activation.program ≡ Some s.code.value
    → ReadsAreAskedFor plan s
asked_for plan s coded p at =
    asks_for_reads plan s.activation.program p s at
    (one (sym coded ∙ ap (option_map (λ (q : ProgramInstance). q.code.value)) at))
  where
    one : Some s.code.value ≡ Some p.code.value → s.code.value ≡ p.code.value
    one e = cc

-- the best activation's snapshot
pub best_snapshot : (st : State) (resource : ℕ) (a : Activation) (s : Snapshot)
    → IsBest (schedules_of (plan_view st.plan)) (past_of (plan_view st.plan) st.start st.log).history resource a
    → s.activation ≡ a → IsSnapshotIn st s → IsSnapshotOf st resource s
best_snapshot st resource a s best is parts = record {
  best = subst (IsBest (schedules_of (plan_view st.plan)) (past_of (plan_view st.plan) st.start st.log).history
      resource) (sym is) best;
  code = parts.code;
  moment = parts.moment;
  budget = parts.budget;
  slots = parts.slots;
  asked = asked_for st.plan s parts.code;
}
