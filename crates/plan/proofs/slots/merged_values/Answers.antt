use Rattle.std.proofs.Common.{rules, arith, ap, ◌∙◌, ◌≡◌, length, drop, subst, [], ◌∷◌, ◌++◌}
use Rattle.std.proofs.Common.{◌+◌}
use Rattle.plan.specs.SlotPlaces.{merged}
use Rattle.plan.specs.declared.slots.SlotPlace.TheVariants.{Input, Variable}
use Rattle.plan.proofs.SlotLemmas.{AreNumbered, numbered, below_variables, below_inputs, next_variable, next_input}
use Rattle.plan.proofs.SlotLemmas.{goes_on, from_place, item_at}
use Rattle.plan.proofs.slots.merged_values.Goals as goal
use Rattle.plan.proofs.slots.merged_values.Goals.{in-Variable, in-Input}

pub loop-place-init : goal.loop-place-init
loop-place-init c = (
  0,
  0,
  omega arith,
  omega arith,
  numbered c.args.places.now 0 0 (length c.args.variables.now) (length c.args.inputs.now) c.requires,
  ap (λ v. v ++ merged c.args.places.now c.args.variables.now c.args.inputs.now) c.new-values.ensures.items,
)

pub bounds-variables-k : goal.bounds-variables-k
bounds-variables-k c =
    let inv = c.loop-place.invariant in
    let i = c.loop-place.place-index in
    let is = from_place c.args.places.now i (Variable c.in-Variable.k) (Variable 0) c.loop-place-test.true
    c.in-Variable.is in
    below_variables c.in-Variable.k (drop (i + 1) c.args.places.now) inv.0 inv.1 (length c.args.variables.now)
    (length c.args.inputs.now)
    (subst (λ ps. AreNumbered inv.0 inv.1 ps (length c.args.variables.now) (length c.args.inputs.now)) is inv.4)

pub bounds-inputs-k : goal.bounds-inputs-k
bounds-inputs-k c =
    let inv = c.loop-place.invariant in
    let i = c.loop-place.place-index in
    let is = from_place c.args.places.now i (Input c.in-Input.k) (Variable 0) c.loop-place-test.true c.in-Input.is in
    below_inputs c.in-Input.k (drop (i + 1) c.args.places.now) inv.0 inv.1 (length c.args.variables.now)
    (length c.args.inputs.now)
    (subst (λ ps. AreNumbered inv.0 inv.1 ps (length c.args.variables.now) (length c.args.inputs.now)) is inv.4)

pub loop-place-preserved : goal.loop-place-preserved
loop-place-preserved c =
    let inv = c.loop-place.invariant in
    let places = c.args.places.now in
    let i = c.loop-place.place-index in
    let vs = c.args.variables.now in
    let xs = c.args.inputs.now in
    let d = c.match-place.value in
    let pushed : c.push.new.self.items ≡ c.loop-place.values.items ++ d ∷ [] = search rules in
    elim c.match-place.branch [
      | in-Variable w ↦
          let k = w.in-Variable.k in
          let is = from_place places i (Variable k) (Variable 0) c.loop-place-test.true w.in-Variable.is in
          let h = subst (λ ps. AreNumbered inv.0 inv.1 ps (length vs) (length xs)) is inv.4 in
          let lt = below_variables k (drop (i + 1) places) inv.0 inv.1 (length vs) (length xs) h in
          let n = next_variable k (drop (i + 1) places) inv.0 inv.1 vs xs d h inv.3
          (item_at vs k d _ lt (w.value-is ∙ w.index-variables-k.is)) in (
            n.variables,
            n.inputs,
            n.few,
            n.few_inputs,
            n.numbered,
            goes_on (drop (i + 1) places) (drop i places) inv.0 inv.1 vs xs c.loop-place.values.items
                c.push.new.self.items (merged places vs xs) (Variable k) d is inv.5 pushed n,
          )
      | in-Input w ↦
          let k = w.in-Input.k in
          let is = from_place places i (Input k) (Variable 0) c.loop-place-test.true w.in-Input.is in
          let h = subst (λ ps. AreNumbered inv.0 inv.1 ps (length vs) (length xs)) is inv.4 in
          let lt = below_inputs k (drop (i + 1) places) inv.0 inv.1 (length vs) (length xs) h in
          let n = next_input k (drop (i + 1) places) inv.0 inv.1 vs xs d h inv.2
          (item_at xs k d _ lt (w.value-is ∙ w.index-inputs-k.is)) in (
            n.variables,
            n.inputs,
            n.few,
            n.few_inputs,
            n.numbered,
            goes_on (drop (i + 1) places) (drop i places) inv.0 inv.1 vs xs c.loop-place.values.items
                c.push.new.self.items (merged places vs xs) (Input k) d is inv.5 pushed n,
          )
    ]
