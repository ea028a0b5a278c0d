use Rattle.std.proofs.Common.{rules, ◌≡◌, ◌∙◌, List, [], map, length, sym, ap, arith}
use Rattle.std.proofs.lemmas.List.{length-map}
use Rattle.st_meaning.specs.declared.plan.Schedule.{Schedule}
use Rattle.st_meaning.specs.Plans.{schedules_of}
use Rattle.plan.specs.declared.plan.Plan.{Plan}
use Rattle.plan.specs.PlanViews.{plan_view}
use Rattle.core_engine.specs.Steps.{first_image}
use Rattle.core_engine.proofs.FirstLemmas.{life_first, lived_first}
use Rattle.core_engine.proofs.engine.Engine.start.Goals as goal

pub invariant_of-result : goal.invariant_of-result
invariant_of-result c =
    let plan = c.args.plan.value in
    let valued = c.in_ok-values.ensures
    ∙ ap (map (λ v. v.initial)) (c.deref-2.ensures.value ∙ ap (λ (p : Plan). p.variables.items) c.deref.ensures) in
    let schedules : c.in_ok-ready.ready.schedules ≡ schedules_of (plan_view plan) = c.in_ok-ready.ensures.schedules
    ∙ ap (λ (p : Plan). schedules_of (plan_view p)) c.deref-4.ensures in
    let tasks : length c.in_ok-ready.ready.samples ≡ length plan.tasks.items = search rules in
    let numbered : length c.in_ok-samples.samples.items ≡ length plan.tasks.items = search rules in
    let shown : c.new-newest.result.image ≡ first_image plan.inputs.items = search rules in
    let places : length c.in_ok-held.held.items ≡ length plan.programs.items = search rules in
    let width : length c.new-newest.result.image ≡ length plan.inputs.items = ap length shown ∙ length-map _ _ in
    record {
      live = (
        map (λ v. v.initial) plan.variables.items,
        [],
        lived_first plan c.in_ok-values.values.items c.in_ok-samples.samples.items c.in_ok-ready.ready
            c.in_ok-held.held.items c.new-newest.result c.args.room valued numbered schedules tasks
            c.in_ok-ready.ensures.rows c.in_ok-ready.ensures.new shown,
      );
      places = places ∙ sym (ap (λ (s : List Schedule). length s) schedules ∙ length-map _ _ ∙ length-map _ _);
      wide = λ p l. c.in_ok-held.ensures.wide p l ∙ ap length c.image.ensures ∙ width;
      newest_wide = width;
      few_rows = omega arith;
      within = omega arith;
    }

pub returns-clause-lived : goal.returns-clause-lived
returns-clause-lived c =
    let plan = c.args.plan.value in
    let valued = c.in_ok-values.ensures
    ∙ ap (map (λ v. v.initial)) (c.deref-2.ensures.value ∙ ap (λ (p : Plan). p.variables.items) c.deref.ensures) in
    let schedules : c.in_ok-ready.ready.schedules ≡ schedules_of (plan_view plan) = c.in_ok-ready.ensures.schedules
    ∙ ap (λ (p : Plan). schedules_of (plan_view p)) c.deref-4.ensures in
    let tasks : length c.in_ok-ready.ready.samples ≡ length plan.tasks.items = search rules in
    let numbered : length c.in_ok-samples.samples.items ≡ length plan.tasks.items = search rules in
    let shown : c.new-newest.result.image ≡ first_image plan.inputs.items = search rules in
    lived_first plan c.in_ok-values.values.items c.in_ok-samples.samples.items c.in_ok-ready.ready
    c.in_ok-held.held.items c.new-newest.result c.args.room valued numbered schedules tasks
    c.in_ok-ready.ensures.rows c.in_ok-ready.ensures.new shown

pub returns-clause-life : goal.returns-clause-life
returns-clause-life c = life_first c.args.plan.value c.args.room
