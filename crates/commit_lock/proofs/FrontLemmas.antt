-- The file after a stop at any moment of a list of calls.
use Rattle.std.proofs.Common.{◌≡◌, ◌∙◌, ℕ, List, [], ◌∷◌, ◌++◌, refl, sym, ap, subst}
use Rattle.disk.specs.Runs.{LeavesOnly, started, joins, weakens}
use Rattle.st_meaning.specs.Stores.{Store}
use Rattle.st_meaning.specs.Logs.{Log}
use Rattle.plan.specs.declared.plan.Plan.{Plan}
use Rattle.plan.specs.PlanViews.{plan_view}
use Rattle.retain_store.specs.Recovered.{Recovered, recovered}
use Rattle.serial_core.specs.Steps.{State}
use Rattle.durable_core.specs.Restart.{Survives}
use Rattle.durable_core.specs.Cores.{CoreView, survives}
use Rattle.commit_lock.specs.declared.event.Event.{Event}
use Rattle.commit_lock.specs.declared.event.Reply.{Reply}
use Rattle.commit_lock.specs.Driving.{Held, Drives, SurvivesSomeFront, acked_after, acked_by}
use Rattle.commit_lock.specs.LogsOfLives.{Takings, Logs}
use Rattle.commit_lock.proofs.LogLemmas.{AreTaken, Continues, step_adds}
use Rattle.commit_lock.proofs.DriveLemmas.{step_acked}

-- a file that survives for a life survives for the front without a call
no_call : (life : State) (takings : Takings) (acked : ℕ) (events : List Event) (replies : List Reply)
    (file : Recovered) → Survives life.plan life.start life.before life.log acked file
    → SurvivesSomeFront life takings acked events replies file
no_call life takings acked events replies file s = record {
  front = [];
  rest = events;
  said = [];
  answers = replies;
  log = life.log;
  calls = refl;
  replied = refl;
  logged = refl;
  survives = s;
}

-- a file that survives for some front after a call survives for some front of the list that begins with it
one_call_more : (old new : State) (takings : Takings) (acked now : ℕ) (event : Event) (reply : Reply) (kept : Held)
    (events : List Event) (replies : List Reply) (file : Recovered)
    (c : Continues old new takings event reply kept) → now ≡ acked_after acked reply
    → SurvivesSomeFront new c.taken now events replies file
    → SurvivesSomeFront old takings acked (event ∷ events) (reply ∷ replies) file
one_call_more old new takings acked now event reply kept events replies file c counted f = record {
  front = event ∷ f.front;
  rest = f.rest;
  said = reply ∷ f.said;
  answers = f.answers;
  log = f.log;
  calls = ap (λ es. event ∷ es) f.calls;
  replied = ap (λ rs. reply ∷ rs) f.replied;
  logged = (
    new.log,
    c.taken,
    c.adds,
    subst (λ (s : Store). Logs (plan_view old.plan) s new.log c.taken f.front f.said f.log) c.start_is
        (subst (λ (p : Plan). Logs (plan_view p) new.start new.log c.taken f.front f.said f.log) c.plan_is f.logged),
  );
  survives = subst (λ n. Survives old.plan old.start old.before f.log (acked_by n f.said) file) counted
      (subst (λ b. Survives old.plan old.start b f.log (acked_by now f.said) file) c.before_is
      (subst (λ (s : Store). Survives old.plan s new.before f.log (acked_by now f.said) file) c.start_is
      (subst (λ (p : Plan). Survives p new.start new.before f.log (acked_by now f.said) file) c.plan_is
      f.survives)));
}

module _ {D : Type 0} (failure_count : D → ℕ) (tells : Type 0) (left_since : D → D → List ℕ → Type 0)
    (may_leave : D → List ℕ → Type 0) where
  pub drives_leaves : (old new : CoreView D) (held kept : Held) (takings : Takings) (events : List Event)
      (replies : List Reply) → tells
      → ((disk : D) (file : List ℕ) → left_since disk disk file → may_leave disk file)
      → ((file : List ℕ) → may_leave old.store.disk file → survives old (recovered file))
      → Drives failure_count tells left_since may_leave old held events replies new kept → AreTaken held takings
      → LeavesOnly left_since may_leave old.store.disk new.store.disk
      (λ file. SurvivesSomeFront old.state takings old.acked events replies (recovered file))
  drives_leaves old new held kept takings [] [] t only here h are =
      subst (λ (c : CoreView D). LeavesOnly left_since may_leave old.store.disk c.store.disk
      (λ file. SurvivesSomeFront old.state takings old.acked [] [] (recovered file))) (sym h.0)
      (started left_since may_leave old.store.disk
      (λ file. SurvivesSomeFront old.state takings old.acked [] [] (recovered file)) (only old.store.disk)
      (λ file may. no_call old.state takings old.acked [] [] (recovered file) (here file may)))
  drives_leaves old new held kept takings [] (reply ∷ replies) t only here h are = absurd h
  drives_leaves old new held kept takings (event ∷ events) [] t only here h are = absurd h
  drives_leaves old new held kept takings (event ∷ events) (reply ∷ replies) t only here h are =
      let c = step_adds failure_count old h.0 held h.1 takings event reply h.2 are in
      let counted = step_acked failure_count old h.0 held h.1 event reply h.2 in
      let outlives = h.3 t in
      joins left_since may_leave old.store.disk h.0.store.disk new.store.disk
      (λ file. SurvivesSomeFront old.state takings old.acked (event ∷ events) (reply ∷ replies) (recovered file))
      (λ file. SurvivesSomeFront h.0.state c.taken h.0.acked events replies (recovered file))
      (weakens left_since may_leave old.store.disk h.0.store.disk (λ file. survives old (recovered file))
      (λ file. SurvivesSomeFront old.state takings old.acked (event ∷ events) (reply ∷ replies) (recovered file))
      outlives.during
      (λ file s. no_call old.state takings old.acked (event ∷ events) (reply ∷ replies) (recovered file) s))
      (drives_leaves h.0 new h.1 kept c.taken events replies t only outlives.after h.4 c.are)
      (λ file f. one_call_more old.state h.0.state takings old.acked h.0.acked event reply h.1 events replies
      (recovered file) c counted f)
