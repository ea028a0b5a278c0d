use Rattle.std.proofs.Common.{rules, ◌≡◌, ◌∙◌, false, refl, sym, ap, subst, inl, inr}
use Rattle.disk.specs.Runs.{LeavesOnly, started, weakens}
use Rattle.retain_store.specs.Recovered.{Recovered, recovered, Found}
use Rattle.serial_core.specs.Steps.{State}
use Rattle.durable_core.specs.Restart.{record_now, warm}
use Rattle.durable_core.specs.Cores.{CoreView}
use Rattle.durable_core.specs.Started.{IsResumed}
use Rattle.durable_core.specs.Starting.{LeftByStart, Saves, started as started_so}
use Rattle.plan.specs.declared.plan.Plan.{Plan}
use Rattle.durable_core.specs.declared.starting.StartMode.TheVariants.{Warm}
use Rattle.durable_core.proofs.StartLemmas.{either_is, left_saved, match_both, of_plan_not_other, record_started}
use Rattle.durable_core.proofs.StartLemmas.{started_warm, stays_same, writes_or_stays}
use Rattle.st_types.proofs.OptionLemmas.{ok_weaker}
use Rattle.durable_core.specs.Endless.{first_core, first_state}
use Rattle.durable_core.proofs.starting.warm.Goals as goal

pub gone_on-requires-clause-start : goal.gone_on-requires-clause-start
gone_on-requires-clause-start g c =
    started_warm c.args.parts.engine.plan c.args.parts.engine.room c.args.store.last
    (first_state c.resume_from-is_same.new.parts.engine) c.resume_from-is_same.ensures.resumed

pub saved_first-requires-clause-start : goal.saved_first-requires-clause-start
saved_first-requires-clause-start g c =
    started_warm c.args.parts.engine.plan c.args.parts.engine.room c.args.store.last
    (first_state c.resume_from-is_same.new.parts.engine) c.resume_from-is_same.ensures.resumed

pub returns-then-is_same-clause-any_moment : goal.returns-then-is_same-clause-any_moment
returns-then-is_same-clause-any_moment g c = λ tells.
    let store = c.args.store in
    let kept = c.kept.ensures.left tells in
    subst (λ (d : _). LeavesOnly g.D.Disk.left_since g.D.Disk.may_leave store.disk d
    (λ file. LeftByStart Warm c.args.parts.engine.plan store.last (recovered file)))
    (sym (ap (λ (core : CoreView _). core.store.disk) c.gone_on.ensures.core))
    (started g.D.Disk.left_since g.D.Disk.may_leave _ _ (λ file left. g.met.D.Disk.only_now _ file tells left)
    (λ file left. inl (either_is store.last store.tried (recovered file) c.requires.tried (kept file left))))

pub returns-then-is_same-clause-unwritten : goal.returns-then-is_same-clause-unwritten
returns-then-is_same-clause-unwritten g c = inr (ap (λ (core : CoreView _). core.store.disk) c.gone_on.ensures.core)

pub returns-else-is_same-clause-unwritten : goal.returns-else-is_same-clause-unwritten
returns-else-is_same-clause-unwritten g c =
    let plan = c.args.parts.engine.plan in
    let store = c.args.store in
    let own = c.resume_from-is_same.new.parts.engine.plan in
    let no : c.resume_from-is_same.result ≡ false = search rules in
    let one : own ≡ plan = ap (λ (s : State). s.plan) c.resume_from-is_same.ensures.resumed in
    let saves : Saves Warm own store.last =
    subst (λ (q : Plan). Saves Warm q store.last) (sym one) (c.resume_from-is_same.ensures.other no) in
    match_both c.saved_first.result _ _ _ _
    (λ core. stays_same Warm plan own store.last store.last store.disk core.store.disk one refl)
    (λ e. stays_same Warm plan own store.last store.last store.disk e.1 one refl)
    (writes_or_stays c.saved_first.result (λ core. core.store.disk) Warm own store.last store.disk _ saves
    c.saved_first.ensures.answers c.saved_first.ensures.unwritten)

pub returns-then-is_same-clause-core : goal.returns-then-is_same-clause-core
returns-then-is_same-clause-core g c = subst (λ (v : CoreView _). IsResumed c.args.store c.args.parts.engine.plan
    c.args.parts.engine.room v) (sym c.gone_on.ensures.core) (record {
      mode_is = refl;
      state_is = c.resume_from-is_same.ensures.resumed;
      again = c.resume_from-is_same.ensures.resumed;
      unacknowledged = refl;
      working = refl;
      last_is = c.requires.last;
      unsaved = λ same. refl;
      saved = λ other. absurd (of_plan_not_other c.args.parts.engine.plan c.args.store.last (c.resume_from-is_same.ensures.same (search rules)) other);
      next = λ other. absurd (of_plan_not_other c.args.parts.engine.plan c.args.store.last (c.resume_from-is_same.ensures.same (search rules)) other);
    })

pub returns-else-is_same-clause-core : goal.returns-else-is_same-clause-core
returns-else-is_same-clause-core g c =
    let plan = c.args.parts.engine.plan in
    let room = c.args.parts.engine.room in
    let other : c.resume_from-is_same.result ≡ false = search rules in
    let again = c.resume_from-is_same.ensures.again other in
    ok_weaker c.saved_first.result _ _ (λ core is. record {
      mode_is = is.mode_is;
      state_is = is.state_is ∙ c.resume_from-is_same.ensures.resumed;
      again = is.state_is ∙ again core.store.generation
          ∙ ap (λ (file : Recovered). started_so plan room (warm plan file)) (sym is.saved);
      unacknowledged = is.unacknowledged;
      working = is.working;
      last_is = is.last_is;
      unsaved = λ same. absurd (same (c.resume_from-is_same.ensures.other other));
      saved = λ saves. is.saved ∙ ap (λ (s : State). Found core.store.generation (record_now s)) (sym is.state_is);
      next = λ saves. is.next;
    }) c.saved_first.ensures.core

pub returns-else-is_same-clause-any_moment : goal.returns-else-is_same-clause-any_moment
returns-else-is_same-clause-any_moment g c = λ tells.
    let plan = c.args.parts.engine.plan in
    let store = c.args.store in
    let state = (first_state c.resume_from-is_same.new.parts.engine) in
    let no : c.resume_from-is_same.result ≡ false = search rules in
    let other = c.resume_from-is_same.ensures.other no in
    let kept = record_started Warm plan c.args.parts.engine.room state store.last
    c.resume_from-is_same.ensures.resumed in
    match_both c.saved_first.result _ _ _ _
    (λ core save. weakens g.D.Disk.left_since g.D.Disk.may_leave _ _ _ _ save (λ file. left_saved Warm plan
    (record_now state) store.last store.last (recovered file) store.generation other c.requires.last refl kept))
    (λ e save. weakens g.D.Disk.left_since g.D.Disk.may_leave _ _ _ _ save (λ file. left_saved Warm plan
    (record_now state) store.last store.last (recovered file) store.generation other c.requires.last refl kept))
    (c.saved_first.ensures.any_moment tells)
