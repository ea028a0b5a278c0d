use Rattle.std.proofs.Common.{◌≡◌, ◌∙◌, ◌+◌, ap, inl, refl, subst, sym}
use Rattle.disk.specs.Runs.{joins, weakens}
use Rattle.retain_store.specs.Recovered.{Recovered, recovered, Found}
use Rattle.retain_store.specs.Kept.{StoreView}
use Rattle.retain_store.specs.Opening.{KeepsRecord}
use Rattle.serial_core.specs.Steps.{State}
use Rattle.durable_core.specs.Restart.{fresh_state, record_now, warm}
use Rattle.durable_core.specs.Starting.{IsNew, StartKeeps, started}
use Rattle.plan.specs.declared.plan.Plan.{Plan}
use Rattle.std.specs.Prelude.{IfErr}
use Rattle.durable_core.specs.declared.starting.StartMode.TheVariants.{Warm, Cold}
use Rattle.durable_core.proofs.StartLemmas.{match_both, left_same, left_saved, saved_unwritten, saved_next, saves_same}
use Rattle.durable_core.proofs.StartLemmas.{all_left_by_start, ok_both, record_started, stays_same, writes_or_stays}
use Rattle.durable_core.specs.Endless.{first_core, first_state}
use Rattle.durable_core.proofs.endless.EndlessCore.start.Goals as goal
use Rattle.st_types.proofs.OptionLemmas.{ok_weaker}

pub returns-in-Cold-clause-any_moment : goal.returns-in-Cold-clause-any_moment
returns-in-Cold-clause-any_moment g c = λ tells only.
    let store = c.in-Ok-open.store in
    let found = (c.in-Ok-open.ensures.found tells).found in
    let opened = c.in-Ok-open.ensures.any_moment tells only in
    let bytes = g.D.Disk.seen c.args.disk in
    let before = recovered bytes in
    let plan = c.args.plan.value in
    let serial = first_state c.in-Ok.parts.engine in
    let one = ap (λ (s : State). s.plan) c.in-Ok.ensures.life in
    let kept = record_started Cold plan c.args.room serial before c.in-Ok.ensures.life in
    rw c.in-Cold.is (all_left_by_start g.D.Disk.left_since g.D.Disk.may_leave Cold plan bytes c.args.disk store.disk
    c.saved_first.result (λ core. core.store.disk) opened
    (match_both c.saved_first.result _ _ _ _
    (λ core. stays_same Cold plan serial.plan before store.last store.disk core.store.disk one found)
    (λ e. stays_same Cold plan serial.plan before store.last store.disk e.1 one found)
    (writes_or_stays c.saved_first.result (λ core. core.store.disk) Cold serial.plan store.last store.disk _ tt
    c.saved_first.ensures.answers c.saved_first.ensures.unwritten))
    (match_both c.saved_first.result _ _ _ _
    (λ core save. joins g.D.Disk.left_since g.D.Disk.may_leave _ _ _ _ _
    (weakens g.D.Disk.left_since g.D.Disk.may_leave _ _ _ _ opened (λ file left. inl left.same)) save
    (λ file. left_saved Cold plan (record_now serial) before store.last (recovered file) store.generation tt
    c.in-Ok-open.ensures.opened.last_is found kept))
    (λ e save. joins g.D.Disk.left_since g.D.Disk.may_leave _ _ _ _ _
    (weakens g.D.Disk.left_since g.D.Disk.may_leave _ _ _ _ opened (λ file left. inl left.same)) save
    (λ file. left_saved Cold plan (record_now serial) before store.last (recovered file) store.generation tt
    c.in-Ok-open.ensures.opened.last_is found kept))
    (c.saved_first.ensures.any_moment tells)))

pub returns-in-Cold-clause-unwritten : goal.returns-in-Cold-clause-unwritten
returns-in-Cold-clause-unwritten g c = λ tells.
    let store = c.in-Ok-open.store in
    let file = c.in-Ok-open.ensures.found tells in
    let serial = first_state c.in-Ok.parts.engine in
    let one = ap (λ (s : State). s.plan) c.in-Ok.ensures.life in
    rw c.in-Cold.is (subst
    (λ (q : Plan). IfErr c.saved_first.result
    (λ e. StartKeeps Cold q e.0 (g.D.Disk.seen c.args.disk) (g.D.Disk.seen e.1))) one
    (saved_unwritten g.D.Disk.seen Cold serial.plan store.last store.generation (g.D.Disk.seen c.args.disk) store.disk
    c.in-Ok-open.ensures.opened.last_is file.found file.kept c.saved_first.result _ _ c.saved_first.ensures.answers
    c.saved_first.ensures.memory
    (writes_or_stays c.saved_first.result (λ core. core.store.disk) Cold serial.plan store.last store.disk _ tt
    c.saved_first.ensures.answers c.saved_first.ensures.unwritten)))

pub returns-in-Warm-clause-unwritten : goal.returns-in-Warm-clause-unwritten
returns-in-Warm-clause-unwritten g c = λ tells.
    let store = c.in-Ok-open.store in
    let file = c.in-Ok-open.ensures.found tells in
    let serial = first_state c.in-Ok.parts.engine in
    let one = ap (λ (s : State). s.plan) c.in-Ok.ensures.life in
    rw c.in-Warm.is (subst
    (λ (q : Plan). IfErr c.warm.result
    (λ e. StartKeeps Warm q e.0 (g.D.Disk.seen c.args.disk) (g.D.Disk.seen e.1))) one
    (saved_unwritten g.D.Disk.seen Warm serial.plan store.last store.generation (g.D.Disk.seen c.args.disk) store.disk
    c.in-Ok-open.ensures.opened.last_is file.found file.kept c.warm.result _ _ c.warm.ensures.answers
    c.warm.ensures.memory c.warm.ensures.unwritten))

pub returns-in-Warm-clause-any_moment : goal.returns-in-Warm-clause-any_moment
returns-in-Warm-clause-any_moment g c = λ tells only.
    let store = c.in-Ok-open.store in
    let plan = c.args.plan.value in
    let serial = first_state c.in-Ok.parts.engine in
    let bytes = g.D.Disk.seen c.args.disk in
    let before = recovered bytes in
    let found = (c.in-Ok-open.ensures.found tells).found in
    let opened = c.in-Ok-open.ensures.any_moment tells only in
    let one = ap (λ (s : State). s.plan) c.in-Ok.ensures.life in
    rw c.in-Warm.is (all_left_by_start g.D.Disk.left_since g.D.Disk.may_leave Warm plan bytes c.args.disk store.disk
    c.warm.result (λ core. core.store.disk) opened
    (match_both c.warm.result _ _ _ _
    (λ core. stays_same Warm plan serial.plan before store.last store.disk core.store.disk one found)
    (λ e. stays_same Warm plan serial.plan before store.last store.disk e.1 one found) c.warm.ensures.unwritten)
    (match_both c.warm.result _ _ _ _
    (λ core save. joins g.D.Disk.left_since g.D.Disk.may_leave _ _ _ _ _
    (weakens g.D.Disk.left_since g.D.Disk.may_leave _ _ _ _ opened (λ file left. inl left.same)) save
    (λ file. left_same Warm plan serial.plan before store.last (recovered file) one found))
    (λ e save. joins g.D.Disk.left_since g.D.Disk.may_leave _ _ _ _ _
    (weakens g.D.Disk.left_since g.D.Disk.may_leave _ _ _ _ opened (λ file left. inl left.same)) save
    (λ file. left_same Warm plan serial.plan before store.last (recovered file) one found))
    (c.warm.ensures.any_moment tells)))

pub returns-in-Cold-clause-core : goal.returns-in-Cold-clause-core
returns-in-Cold-clause-core g c =
    let plan = c.args.plan.value in
    let room = c.args.room in
    rw c.in-Cold.is (ok_weaker c.saved_first.result _ _ (λ core is.
    let fresh : (first_core core).state ≡ fresh_state plan room = is.state_is ∙ c.in-Ok.ensures.life in
    record {
      mode_is = is.mode_is;
      is_new = subst (λ (s : State). IsNew s plan room) (sym fresh) (record {
        plan_is = refl;
        empty = refl;
        room_is = refl;
      });
      unacknowledged = is.unacknowledged;
      working = is.working;
      cold = λ same. fresh;
      saved = λ same. is.saved ∙ ap (λ (s : State). Found core.store.generation (record_now s)) (sym is.state_is);
      resumed = λ other. absurd (cc);
      last_is = is.last_is;
    }) c.saved_first.ensures.core)

pub returns-in-Warm-clause-core : goal.returns-in-Warm-clause-core
returns-in-Warm-clause-core g c =
    let plan = c.args.plan.value in
    let room = c.args.room in
    rw c.in-Warm.is (ok_weaker c.warm.result _ _ (λ core is.
    let state : (first_core core).state ≡ started plan room (warm plan core.store.last) = is.again
    ∙ ap (λ (s : State). started s.plan s.room (warm s.plan core.store.last)) c.in-Ok.ensures.life in
    record {
      mode_is = is.mode_is;
      is_new = subst (λ (s : State). IsNew s plan room) (sym state) (record {
        plan_is = refl;
        empty = refl;
        room_is = refl;
      });
      unacknowledged = is.unacknowledged;
      working = is.working;
      cold = λ other. absurd (cc);
      saved = λ other. absurd (cc);
      resumed = λ same. state;
      last_is = is.last_is;
    }) c.warm.ensures.core)

pub returns-in-Cold-clause-file : goal.returns-in-Cold-clause-file
returns-in-Cold-clause-file g c = λ tells.
    let store = c.in-Ok-open.store in
    let plan = c.args.plan.value in
    let serial = first_state c.in-Ok.parts.engine in
    let before = recovered (g.D.Disk.seen c.args.disk) in
    let found = (c.in-Ok-open.ensures.found tells).found in
    let kept = record_started Cold plan c.args.room serial before c.in-Ok.ensures.life in
    rw c.in-Cold.is (ok_both c.saved_first.result _ _ _ (λ core is left. record {
      state_is = is.state_is ∙ c.in-Ok.ensures.life;
      found = λ same. absurd (same tt);
      kept = λ same. absurd (same tt);
      saved = λ saves. saved_next Cold plan (record_now serial) before store.last core.store.last store.generation
          core.store.generation c.in-Ok-open.ensures.opened.last_is found kept is.next is.saved;
      outlived = left;
    }) c.saved_first.ensures.core (c.saved_first.ensures.survives tells))

pub returns-in-Warm-clause-file : goal.returns-in-Warm-clause-file
returns-in-Warm-clause-file g c = λ tells.
    let store = c.in-Ok-open.store in
    let plan = c.args.plan.value in
    let room = c.args.room in
    let serial = first_state c.in-Ok.parts.engine in
    let bytes = g.D.Disk.seen c.args.disk in
    let before = recovered bytes in
    let file = c.in-Ok-open.ensures.found tells in
    let found = file.found in
    let one = ap (λ (s : State). s.plan) c.in-Ok.ensures.life in
    rw c.in-Warm.is (ok_both c.warm.result _ _ _ (λ core is left.
    let state = is.state_is ∙ ap (λ (s : State). started s.plan s.room (warm s.plan store.last)) c.in-Ok.ensures.life
    ∙ ap (λ (f : Recovered). started plan room (warm plan f)) found in
    record {
      state_is = state;
      found = λ same. ap (λ (s : StoreView _). s.last)
          (is.unsaved (λ saves. same (saves_same Warm plan serial.plan before store.last one found saves))) ∙ found;
      kept = λ same. subst (λ (f : Recovered). KeepsRecord f bytes (g.D.Disk.seen core.store.disk)) found
          (subst (λ (s : StoreView _). KeepsRecord store.last bytes (g.D.Disk.seen s.disk))
          (sym (is.unsaved (λ saves. same (saves_same Warm plan serial.plan before store.last one found saves)))) file.kept);
      saved = λ saves.
          let other = saves_same Warm serial.plan plan store.last before (sym one) (sym found) saves in
          saved_next Warm plan (record_now (first_core core).state) before store.last core.store.last store.generation
          core.store.generation c.in-Ok-open.ensures.opened.last_is found (record_started Warm plan room (first_core core).state before state)
          (is.next other) (is.saved other);
      outlived = left;
    }) c.warm.ensures.core (c.warm.ensures.survives tells))
