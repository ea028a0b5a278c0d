use Rattle.std.proofs.Common.{◌≡◌, ◌∙◌, ap, sym, subst, List, Some, None}
use Rattle.std.specs.List.{All}
use Rattle.st_types.specs.Values.{IsHeld}
use Rattle.st_meaning.specs.declared.plan.PlanVariable.{PlanVariable}
use Rattle.plan.specs.declared.plan.Plan.{Plan}
use Rattle.plan.specs.PlanViews.{plan_view}
use Rattle.serial_core.specs.Steps.{State}
use Rattle.durable_core.specs.declared.starting.StartMode.TheVariants.{Warm}
use Rattle.trace.specs.Reads.{BeginsWith}
use Rattle.commit_lock.specs.Starts as starts
use Rattle.trace.specs.Heads.{AreKept, kept_lines}
use Rattle.commit_lock.specs.Starts.{IsBegunAt}
use Rattle.commit_lock.proofs.StartLemmas.{all_held, resumed_life, warm_begins}
use Rattle.commit_lock.proofs.starting.warm.Goals as goal

pub returns-in-None : goal.returns-in-None
returns-in-None c =
    let plan : c.in_ok-core.core.plan ≡ c.args.plan.value = ap (λ (s : State). s.plan) c.in_ok-core.ensures in
    let read : c.plan-2.result.now ≡ c.args.plan.value = c.plan-2.ensures ∙ plan in
    let held : c.deref.result.now ≡ c.args.plan.value.variables.items =
    c.deref.ensures.value ∙ ap (λ (p : Plan). p.variables.items) (c.plan.ensures ∙ plan) in
    warm_begins c.args.plan.value c.args.moment c.args.text.now None c.requires.early
    (all_held c.args.plan.value.variables.items
    (subst (λ (vs : List PlanVariable). All (λ v. IsHeld v.initial) vs) held c.held_initials.ensures))
    (subst (λ (p : Plan). BeginsWith (AreKept p.variables.items) (kept_lines (plan_view p).enumerations p.variables.items)
    c.args.text.now None) read
    (rw c.in-None.is at c.in_ok-told.ensures))

pub returns : goal.returns
returns c =
    let plan : c.in_ok-core.core.plan ≡ c.args.plan.value = ap (λ (s : State). s.plan) c.in_ok-core.ensures in
    let read : c.plan-2.result.now ≡ c.args.plan.value = c.plan-2.ensures ∙ plan in
    let held : c.deref.result.now ≡ c.args.plan.value.variables.items =
    c.deref.ensures.value ∙ ap (λ (p : Plan). p.variables.items) (c.plan.ensures ∙ plan) in
    let told = c.in-Some.told in
    let all = warm_begins c.args.plan.value c.args.moment c.args.text.now (Some (told.0.items, told.1.now)) c.requires.early
    (all_held c.args.plan.value.variables.items
    (subst (λ (vs : List PlanVariable). All (λ v. IsHeld v.initial) vs) held c.held_initials.ensures))
    (subst (λ (p : Plan). BeginsWith (AreKept p.variables.items) (kept_lines (plan_view p).enumerations p.variables.items)
    c.args.text.now (Some (told.0.items, told.1.now))) read (rw c.in-Some.is at c.in_ok-told.ensures)) in
    let is = resumed_life c.args.plan.value c.in_ok-core.core c.resume.new.self c.deref-2.result.now told.0.items
    c.args.moment c.in_ok-core.ensures c.deref-2.ensures.value c.resume.ensures.restarted in
    subst (λ (s : State). BeginsWith (IsBegunAt c.args.plan.value Warm c.args.moment) starts.kept_of c.args.text.now
    (Some (s, told.1.now))) (sym is) all
