use Rattle.std.proofs.Common.{rules, ◌≡◌, List, ℕ, refl, subst, sym}
use Rattle.std.specs.Prelude.{bytes_eq}
use Rattle.std.specs.List.{IsDistinct}
use Rattle.plan.specs.PlanViews.{plan_view}
use Rattle.retain_records.specs.Lines.{lines_of}
use Rattle.retain_records.proofs.LayoutLemmas.{lines_differ}
use Rattle.durable_core.specs.Restart.{layout_text_of}
use Rattle.durable_core.proofs.RecordLemmas.{known_kinds, layout_is}
use Rattle.durable_core.proofs.parts.Parts.new.Goals as goal

pub new-requires : goal.new-requires
new-requires c =
    let plan = c.args.plan.value in
    let vs = plan.variables.items in
    let is : c.text.result.now ≡ layout_text_of plan = search rules in
    let apart = lines_differ (layout_text_of plan) (known_kinds vs)
    (layout_is (plan_view plan).enumerations vs (known_kinds vs) plan.sound.spelled plan.sound.different refl) in
    record { different = subst (λ (text : List ℕ). IsDistinct bytes_eq (lines_of text)) (sym is) apart }
