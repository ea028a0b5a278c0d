-- The variables with which a call begins.
use Rattle.std.proofs.Common.{◌≡◌, refl, sym, ap, ◌∙◌, arith, ℕ, ◌≤◌, List, [], ◌∷◌, ◌++◌, length, map, Bool, false}
use Rattle.std.specs.Prelude.{nat_lt, ◌||◌}
use Rattle.std.proofs.lemmas.Bool.Decides.{nat_tests}
use Rattle.st_types.specs.declared.limits.TheConstants.{MAX_PATHS}
use Rattle.st_meaning.specs.declared.plan.PlanVariable.{PlanVariable}
use Rattle.st_meaning.specs.NameTypes.{Declared}
use Rattle.layout.specs.LayoutVariables.{Owned}
use Rattle.layout.specs.Shapes.{Shape, leaves_of, size}
use Rattle.layout.specs.TextLayouts.{initial_values, instances_of, plan_variables_of}
use Rattle.layout.specs.Growth.{is_too_large}
use Rattle.layout.specs.Layouts.{GrowsBy, layout_size, layout_slots}
use Rattle.layout.specs.KeptLayouts.{variables_among}
use Rattle.layout.specs.declared.growing.Growing.{Growing}
use Rattle.layout.specs.declared.limits.TheConstants.{MAX_INSTANCES}
use Rattle.layout.proofs.LayoutLemmas.{length_layout}
use Rattle.layout.proofs.PlanLemmas.{variables_are}

values_seen : (ps : List PlanVariable) → map (λ v. v.initial) ps ≡ map (λ e. e.1) (initial_values ps)
values_seen [] = refl
values_seen (p ∷ ps) = ap (λ vs. p.initial ∷ vs) (values_seen ps)

grown_slots : (text : Declared) (vs : List Owned) (old new : Growing) → GrowsBy text vs old new → old.slots.items ≡ []
    → new.slots.items ≡ layout_slots text vs
grown_slots text vs old new g none = g.slots ∙ ap (λ ss. ss ++ layout_slots text vs) none

pub started_are : (text : Declared) (vs : List Owned) (old new : Growing) → GrowsBy text vs old new
    → old.slots.items ≡ []
    → map (λ v. v.initial) (variables_among new.slots.items)
    ≡ map (λ e. e.1) (initial_values (plan_variables_of text vs))
started_are text vs old new g none =
    ap (λ ss. map (λ v. v.initial) (variables_among ss)) (grown_slots text vs old new g none)
    ∙ ap (map (λ v. v.initial)) (variables_are text vs) ∙ values_seen (plan_variables_of text vs)

none_more : (s i : ℕ) → s ≤ MAX_PATHS → i ≤ MAX_INSTANCES → (nat_lt MAX_PATHS s || nat_lt MAX_INSTANCES i) ≡ false
none_more s i a b =
    let c : nat_lt MAX_PATHS s ≡ false = grind (arith, nat_tests) in
    let d : nat_lt MAX_INSTANCES i ≡ false = grind (arith, nat_tests) in
    ap (λ t. t || nat_lt MAX_INSTANCES i) c ∙ d

pub grown_within : (count : (sh : Shape) → length (leaves_of sh) ≡ size sh) (text : Declared) (vs : List Owned)
    (old new : Growing) → GrowsBy text vs old new → old.slots.items ≡ [] → old.instances ≡ 0
    → length new.slots.items ≤ MAX_PATHS → new.instances ≤ MAX_INSTANCES → is_too_large text vs ≡ false
grown_within count text vs old new g none zero room few =
    let a = ap length (grown_slots text vs old new g none) in
    let b = length_layout count text vs in
    let c = g.instances in
    none_more (layout_size text vs) (instances_of text vs) (omega (arith, a, b, room)) (omega (arith, c, zero, few))
