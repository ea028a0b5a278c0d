-- The properties of each life.
use Rattle.std.proofs.Common.{◌≡◌, ◌+◌, ◌-◌, ◌^◌, ℕ, List, [], ◌∷◌, ◌++◌, length, append_assoc, append-nil, arith, sym, ap, ◌∙◌, subst}
use Rattle.std.proofs.Common.{Option, None, map, refl}
use Rattle.std.specs.Prelude.{Result, Ok, Err, IfOk, IsOk, OnOk, bytes_eq, Bool, true, false, if◌then◌else◌}
use Rattle.std.proofs.lemmas.Slice.Eq.{bytes_eq-Decides}
use Rattle.retain_records.specs.Records.{Content}
use Rattle.disk.specs.Medium.{MayLeave}
use Rattle.disk.specs.Simulated.{SimView, IsReliable}
use Rattle.st_meaning.specs.Stores.{Store}
use Rattle.st_meaning.specs.Logs.{IsLegal}
use Rattle.retain_store.specs.declared.shape.TheConstants.{FILE_BYTES}
use Rattle.retain_store.specs.Recovered.{Recovered, TooLong, Refused as Damaged, Nothing, Found, recovered}
use Rattle.retain_store.specs.declared.fault.StoreFault.{StoreFault}
use Rattle.retain_store.specs.declared.fault.StoreFault.TheVariants as stores
use Rattle.retain_store.specs.Kept.{StoreView, IsLast}
use Rattle.durable_core.specs.declared.refusal.Refusal.TheVariants.{StoreFailed}
use Rattle.durable_core.specs.declared.starting.StartMode.{StartMode}
use Rattle.durable_core.specs.declared.starting.StartMode.TheVariants.{Warm, Cold}
use Rattle.commit_lock.specs.declared.event.Reply.TheVariants.{Refused}
use Rattle.std.specs.List.{AllByRecursion}
use Rattle.plan.specs.declared.plan.Plan.{Plan}
use Rattle.plan.specs.PlanViews.{plan_view}
use Rattle.serial_core.specs.Steps.{State}
use Rattle.commit_lock.specs.declared.event.Event.{Event}
use Rattle.commit_lock.specs.declared.event.Reply.{Reply}
use Rattle.durable_core.specs.Restart.{Survives, layout_text_of}
use Rattle.durable_core.specs.Starting.{CanStart, next_generation, start_record}
use Rattle.durable_core.specs.Cores.{CoreView, survives}
use Rattle.commit_lock.specs.Driving.{Held, IsWellAnswered, saves}
use Rattle.commit_lock.specs.declared.life.Life.{Life}
use Rattle.commit_lock.specs.declared.life.Course.{Course}
use Rattle.commit_lock.specs.declared.life.LifeEnd.{LifeEnd}
use Rattle.commit_lock.specs.LogsOfLives.{Logs}
use Rattle.commit_lock.specs.Lives.{EachLife, Calls, IsFirst, IsLived, IsLeft, IsLife, IsAllWell, IsStoreBegun, beginning}
use Rattle.commit_lock.specs.Lives.{generation_begun, most_flushed}
use Rattle.commit_lock.proofs.LogLemmas.{drives_log}
use Rattle.commit_lock.proofs.AckedLemmas.{drives_most}

-- a weaker property
pub each_weaker : (P Q : List ℕ → Life → LifeEnd → Type 0)
    → ((file : List ℕ) (life : Life) (end : LifeEnd) → P file life end → Q file life end) → (file : List ℕ)
    (lives : List Life) (ends : List LifeEnd) → EachLife P file lives ends → EachLife Q file lives ends
each_weaker P Q weaker file [] [] h = tt
each_weaker P Q weaker file [] (end ∷ ends) h = absurd h
each_weaker P Q weaker file (life ∷ lives) [] h = absurd h
each_weaker P Q weaker file (life ∷ lives) (end ∷ ends) h =
    (weaker file life end h.0, each_weaker P Q weaker end.file.items lives ends h.1)

module _ (P : List ℕ → Life → LifeEnd → Type 0) where
  -- the lives so far, and one more, go on with the rest
  pub each_step : (first file next : List ℕ) (all rest now : List Life) (life : Life) (ends pushed : List LifeEnd)
      (end : LifeEnd)
      → ((more : List LifeEnd) → EachLife P file now more → EachLife P first all (ends ++ more))
      → now ≡ life ∷ rest → P file life end → next ≡ end.file.items → pushed ≡ ends ++ end ∷ []
      → (more : List LifeEnd) → EachLife P next rest more → EachLife P first all (pushed ++ more)
  each_step first file next all rest now life ends pushed end so_far is lived left grown more goes =
      subst (λ es. EachLife P first all es) (sym (append_assoc ends (end ∷ []) more) ∙ ap (λ es. es ++ more) (sym grown))
      (so_far (end ∷ more) (subst (λ ls. EachLife P file ls (end ∷ more)) (sym is)
      (lived, subst (λ (f : List ℕ). EachLife P f rest more) left goes)))

  -- they are done if none is left
  pub each_end : (first file : List ℕ) (all now : List Life) (ends : List LifeEnd)
      → ((more : List LifeEnd) → EachLife P file now more → EachLife P first all (ends ++ more)) → length now ≡ 0
      → EachLife P first all ends
  each_end first file all [] ends so_far none = subst (λ es. EachLife P first all es) (append-nil ends) (so_far [] tt)
  each_end first file all (life ∷ now) ends so_far none = absurd (omega (arith, none))

-- a property of one plan, variables and moment is one of equal ones
along : (P : Plan → Store → Option ℕ → Type 0) (p q : Plan) (s t : Store) (a b : Option ℕ) → p ≡ q → s ≡ t → a ≡ b
    → P p s a → P q t b
along P p q s t a b e f g h =
    subst (λ (x : Option ℕ). P q t x) g (subst (λ (x : Store). P q x a) f (subst (λ (x : Plan). P x s a) e h))

-- a core that has lived these events, and the file that it leaves
pub lived_is : (first last : CoreView SimView) (held : Held) (events : List Event) (course : Course) (file : List ℕ)
    → first.acked ≡ 0 → first.failed ≡ None → first.state.log ≡ []
    → course.values.items ≡ map (λ e. e.1) first.state.start
    → Calls first [] events course.replies.items last held → course.len ≡ length last.state.log
    → course.acked ≡ last.acked
    → IsLegal (plan_view last.state.plan) last.state.start last.state.before last.state.log
    → survives last (recovered file) → IsLived first events course file
lived_is first last held events course file fresh unfailed empty values calls long acked legal survives =
    let more = drives_log (λ disk. disk.failures) (Unit {0}) (λ old disk. MayLeave disk.medium)
    (λ disk. MayLeave disk.medium) first last [] held [] events course.replies.items calls tt in
    let most = drives_most (λ disk. disk.failures) (Unit {0}) (λ old disk. MayLeave disk.medium)
    (λ disk. MayLeave disk.medium) first last [] held events course.replies.items (omega (arith, fresh)) calls in
    record {
      values = values;
      answered = record { last = last; held = held; calls = calls; ends = sym acked };
      acked = omega (arith, acked, most, fresh);
      left = record {
        log = last.state.log;
        len_is = long;
        told = subst (λ l. Logs (plan_view first.state.plan) first.state.start l [] events course.replies.items
            last.state.log) empty more.logs;
        legal = along (λ p s b. IsLegal (plan_view p) s b last.state.log) last.state.plan first.state.plan
            last.state.start first.state.start last.state.before first.state.before more.plan_is more.start_is
            more.before_is legal;
        survives = subst (λ n. Survives first.state.plan first.state.start first.state.before last.state.log n
            (recovered file)) (sym acked)
            (along (λ p s b. Survives p s b last.state.log last.acked (recovered file)) last.state.plan
            first.state.plan last.state.start first.state.start last.state.before first.state.before more.plan_is
            more.start_is more.before_is survives);
      };
    }

ok_of : {A B : Type 0} (r : Result A B) → IsOk r → (a : A) × (r ≡ Ok a)
ok_of (Ok a) h = (a, refl)
ok_of (Err b) h = absurd (cc)

-- the generation of the last record after a start, by the file
of_last : (generation g : ℕ) (content : Content) (last : Recovered) → IsLast generation last → last ≡ Found g content
    → generation ≡ g
of_last generation g content last is at = sym ((subst (λ r. IsLast generation r) at is).0)

begins_warm : {D : Type 0} (plan : Plan) (g : ℕ) (content : Content) (store : StoreView D) (b : Bool)
    → bytes_eq content.layout (layout_text_of plan) ≡ b → IsStoreBegun Warm plan (Found g content) store
    → store.generation ≡ (if b then g else g + 1)
begins_warm plan g content store true same is =
    of_last store.generation g content store.last is.last
    (is.found (λ other. other ((bytes_eq-Decides content.layout (layout_text_of plan)).0 same)))
begins_warm plan g content store false other is =
    of_last store.generation (g + 1) (start_record Warm plan (Found g content)) store.last is.last
    (is.saved (λ e. let yes = (bytes_eq-Decides content.layout (layout_text_of plan)).1 e in cc))

begins_at : {D : Type 0} (mode : StartMode) (plan : Plan) (file : Recovered) (store : StoreView D)
    → IsStoreBegun mode plan file store → store.generation ≡ generation_begun mode plan file
begins_at Cold plan file store is =
    of_last store.generation (next_generation file) (start_record Cold plan file) store.last is.last (is.saved tt)
begins_at Warm plan TooLong store is = absurd (subst (λ r. IsLast store.generation r) (is.found (λ x. x)) is.last)
begins_at Warm plan Damaged store is = absurd (subst (λ r. IsLast store.generation r) (is.found (λ x. x)) is.last)
begins_at Warm plan Nothing store is = subst (λ r. IsLast store.generation r) (is.found (λ x. x)) is.last
begins_at Warm plan (Found generation content) store is =
    begins_warm plan generation content store (bytes_eq content.layout (layout_text_of plan)) refl is

-- a life that was started
course_is : (plan : Plan) (file : List ℕ) (life : Life) (first : CoreView SimView) (end : LifeEnd) (course : Course)
    → end.course ≡ Ok course → IsFirst plan file life first → CanStart life.mode plan (recovered file)
    → IsLived first life.events.items course end.file.items
    → (life.stop ≡ None → life.fails ≡ None → IsAllWell first.store.generation course) → IsLife plan file life end
course_is plan file life first end course e begins can lived well =
    let is = begins.state in
    let at = begins_at life.mode plan (recovered file) first.store begins.store in
    record {
      begins = rw e (can, lived.values ∙ ap (λ (b : State). map (λ v. v.1) b.start) is);
      answered = rw e (record { first = first; begins = begins; answers = lived.answered });
      acked = rw e lived.acked;
      survives = rw e (subst (λ (b : State). IsLeft b life.events.items course.replies.items course.len course.acked
          end.file.items) is lived.left);
      refused = rw e tt;
      cause = λ stop fails. rw e (subst (λ (n : ℕ). IsAllWell n course) at (well stop fails));
    }

pub life_is : {E : Type 0} (plan : Plan) (file : List ℕ) (life : Life) (core : CoreView SimView) (r : Result LifeEnd E)
    → IsFirst plan file life core → CanStart life.mode plan (recovered file)
    → IfOk r (λ end. IsOk end.course)
    → IfOk r (λ end. IfOk end.course (λ course. IsLived core life.events.items course end.file.items))
    → (IsReliable core.store.disk FILE_BYTES → IfOk r (λ end. IfOk end.course (IsAllWell core.store.generation)))
    → IfOk r (IsLife plan file life)
life_is plan file life core (Err error) begins can ok lived well = tt
life_is plan file life core (Ok end) begins can ok lived well =
    let c = ok_of end.course ok in
    course_is plan file life core end c.0 c.1 begins can (rw c.1 at lived)
    (λ stop fails. rw c.1 at (well (begins.reliable stop fails)))

answered_well : (front rest : List Reply) (cause : StoreFault)
    → AllByRecursion IsWellAnswered (front ++ Refused (StoreFailed cause) ∷ rest) → cause ≡ stores.Generations
answered_well [] rest cause well = well.0 cause refl
answered_well (reply ∷ front) rest cause well = answered_well front rest cause well.1

-- all replies are good if each is, and generations are counted
pub all_well : (generation : ℕ) (replies : List Reply) → AllByRecursion IsWellAnswered replies
    → ((front rest : List Reply) → replies ≡ front ++ Refused (StoreFailed stores.Generations) ∷ rest
    → generation + saves 0 front ≡ 2 ^ 64 - 1) → (front rest : List Reply) (cause : StoreFault)
    → replies ≡ front ++ Refused (StoreFailed cause) ∷ rest
    → (cause ≡ stores.Generations) × (generation + saves 0 front ≡ 2 ^ 64 - 1)
all_well generation replies well up = λ front rest cause is.
    let last = answered_well front rest cause (subst (λ rs. AllByRecursion IsWellAnswered rs) is well) in
    (last, up front rest (is ∙ ap (λ c. front ++ Refused (StoreFailed c) ∷ rest) last))
