use Rattle.std.proofs.Common.{◌≡◌, ◌∙◌, ◌≤◌, List, [], map, sym, ap, subst, arith, length, refl}
use Rattle.st_types.specs.Values.{Datum}
use Rattle.st_meaning.specs.Logs.{outcomes_of}
use Rattle.plan.specs.declared.plan.Plan.{Plan}
use Rattle.plan.specs.PlanViews.{plan_view}
use Rattle.core_engine.specs.Steps.{State, store_in}
use Rattle.core_engine.specs.Lived.{IsEngineOf, life_in}
use Rattle.serial_core.specs.Kept.{HistoryView, SerialInvariant}
use Rattle.serial_core.proofs.serial.SerialCore.start.Goals as goal

pub invariant_of-result : goal.invariant_of-result
invariant_of-result c =
    let engine = c.in_ok-engine.engine in
    let begun : map (λ v. v.initial) c.deref-2.result.now ≡ map (λ v. v.initial) c.args.plan.value.variables.items =
    ap (map (λ v. v.initial)) (c.deref-2.ensures.value ∙ ap (λ (p : Plan). p.variables.items) c.deref.ensures) in
    let room = ap (λ (s : State). s.room) c.in_ok-engine.ensures.life in
    subst (λ (h : HistoryView). SerialInvariant engine h.start h.log h.outcomes × (engine.room ≤ h.room))
    (sym c.in_ok-history.ensures) (
      record {
        lived = subst (λ (ds : List Datum). IsEngineOf ds [] engine) (sym begun) c.in_ok-engine.ensures.lived;
        outcomes_are = refl;
        within = omega arith;
      },
      omega (arith, room),
    )

pub returns : goal.returns
returns c =
    let engine = c.in_ok-engine.engine in
    let begun : map (λ v. v.initial) c.deref-2.result.now ≡ map (λ v. v.initial) c.args.plan.value.variables.items =
    ap (map (λ v. v.initial)) (c.deref-2.ensures.value ∙ ap (λ (p : Plan). p.variables.items) c.deref.ensures) in
    ap (λ (h : HistoryView). life_in engine h.start h.log) c.in_ok-history.ensures
    ∙ ap (λ (ds : List Datum). life_in engine ds []) begun ∙ c.in_ok-engine.ensures.life
