-- Going on from a record.
use Rattle.std.proofs.Common.{◌≡◌, ℕ, List, map, length, Option, Some, sym, ap, ◌∙◌}
use Rattle.std.specs.List.{AllByRecursion}
use Rattle.st_types.specs.Values.{Datum, IsHeld}
use Rattle.st_meaning.specs.Stores.{Store}
use Rattle.st_meaning.specs.Restarts.{kept, warm_start}
use Rattle.plan.specs.declared.plan.Plan.{Plan}
use Rattle.plan.specs.PlanViews.{plan_view}
use Rattle.core_engine.specs.Steps.{store_in}
use Rattle.core_values.specs.Restored.{restored}
use Rattle.core_engine.specs.Retained.{retained_kinds, retained_paths, retained_values, paired, kept_from}
use Rattle.core_engine.proofs.RetainedLemmas.{restart_is, goes_by_itself, kept_paired, values_paired, kinds_kept}
use Rattle.core_engine.proofs.RetainedLemmas.{restored_back, restored_typed}
use Rattle.std.proofs.lemmas.List.{length-map}

-- the variables after a restart from a record's values
pub restarted : (plan : Plan) (ws start : List Datum) (moment : Option ℕ)
    → map (λ d. d.kind) ws ≡ retained_kinds plan.variables.items → AllByRecursion IsHeld ws
    → start ≡ restored plan.variables.items ws
    → store_in plan start ≡ (warm_start (plan_view plan) (Some (kept_from plan ws moment))).store
restarted plan ws start moment kinds held is = ap (store_in plan) is
    ∙ sym (restart_is (plan_view plan).enumerations plan.variables.items plan.inputs.items ws plan.sound.different kinds held)

-- the values kept of them
pub kept_values : (plan : Plan) (ws start : List Datum)
    → map (λ d. d.kind) ws ≡ retained_kinds plan.variables.items → start ≡ restored plan.variables.items ws
    → map (λ e. e.1) (kept (plan_view plan) (store_in plan start)) ≡ ws
kept_values plan ws start kinds is =
    ap (λ ds. map (λ e. e.1) (kept (plan_view plan) (store_in plan ds))) is
    ∙ ap (map (λ e. e.1))
    (kept_paired _ plan.variables.items plan.inputs.items (restored plan.variables.items ws)
    (sym (length-map (restored plan.variables.items ws) (λ d. d.kind))
    ∙ ap length (restored_typed plan.variables.items ws kinds) ∙ length-map plan.variables.items (λ v. v.initial.kind))
    (goes_by_itself plan.variables.items plan.sound.different))
    ∙ values_paired plan.variables.items (restored plan.variables.items ws)
    ∙ restored_back plan.variables.items ws kinds

pub typed_of : (plan : Plan) (ws start : List Datum) → map (λ d. d.kind) ws ≡ retained_kinds plan.variables.items
    → start ≡ restored plan.variables.items ws
    → map (λ d. d.kind) start ≡ map (λ v. v.initial.kind) plan.variables.items
typed_of plan ws start kinds is = ap (map (λ d. d.kind)) is ∙ restored_typed plan.variables.items ws kinds

-- the values of a core that a record keeps
pub record IsRetained (plan : Plan) (store : Store) (ws : List Datum) : Type 0 where
  pub values : ws ≡ map (λ e. e.1) (kept (plan_view plan) store)
  pub kinds : map (λ d. d.kind) ws ≡ retained_kinds plan.variables.items

pub retained : (plan : Plan) (values ws : List Datum) (store : Store) → length values ≡ length plan.variables.items
    → map (λ d. d.kind) values ≡ map (λ v. v.initial.kind) plan.variables.items
    → store_in plan values ≡ store → ws ≡ retained_values plan.variables.items values → IsRetained plan store ws
retained plan values ws store sized typed is from =
    let named : paired (retained_paths plan.variables.items) ws ≡ kept (plan_view plan) store =
    ap (paired (retained_paths plan.variables.items)) from
    ∙ sym (kept_paired _ plan.variables.items plan.inputs.items values sized
    (goes_by_itself plan.variables.items plan.sound.different))
    ∙ ap (kept (plan_view plan)) is in record {
      values = from ∙ sym (values_paired plan.variables.items values)
          ∙ ap (λ us. map (λ e. e.1) (paired (retained_paths plan.variables.items) us)) (sym from)
          ∙ ap (map (λ e. e.1)) named;
      kinds = ap (map (λ d. d.kind)) from ∙ kinds_kept plan.variables.items values typed;
    }
