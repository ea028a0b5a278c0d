use Rattle.std.proofs.Common.{rules, arith, ◌≡◌, ap, subst, sym, ◌∙◌, ◌+◌, ◌++◌, drop, map, Err, Some}
use Rattle.st_meaning.specs.NameTypes.{unit_named}
use Rattle.layout.specs.LayoutVariables.{owned_variable, program_sites}
use Rattle.layout.specs.Instances.{instance_view, variables_of_programs}
use Rattle.layout.specs.Slots.{owner_view}
use Rattle.layout.specs.Variables.{variable_view}
use Rattle.layout.proofs.LayoutLemmas.{Left, no_room_left, first_sound, left_after}
use Rattle.layout.proofs.layout_slots.push_programs.Goals as goal
use Rattle.st_types.proofs.ListLemmas.{drop_next}

pub returns-in_err-push_variables-clause-err : goal.returns-in_err-push_variables-clause-err
returns-in_err-push_variables-clause-err c =
    let fault : c.from_residual-in_err-push_variables.result ≡ Err c.in_err-push_variables.field-0.0 = search rules in
    rw fault (λ text serves trail h.
    let view = variable_view (Some c.instance-item.result.owner) in
    let all = variables_of_programs text (map instance_view c.args.instances.now) in
    let rest = variables_of_programs text
    (map instance_view (drop (c.loop-instance.instance-index + 1) c.args.instances.now)) in
    let own : map view c.deref.result.now ≡ map (owned_variable (Some (owner_view c.instance-item.result.owner)))
    (program_sites (unit_named text.units c.instance-item.result.program.now)) =
    ap (map view) c.deref.ensures.value ∙ c.in_ok-variables.ensures (Some c.instance-item.result.owner)
    ∙ ap (λ u. map (owned_variable (Some (owner_view c.instance-item.result.owner))) (program_sites u))
    (c.unit_named.ensures text serves) in
    let m = subst (Left text all c.args.grown.now c.loop-instance.grown)
    (ap (λ is. variables_of_programs text (map instance_view is)) (drop_next c.args.instances.now
    c.loop-instance.instance-index c.instance-item.result (omega arith) c.instance-item.is)
    ∙ ap (λ vs. vs ++ rest) (sym own)) (c.loop-instance.invariant.left text serves trail h) in
    no_room_left c.leaves_of_shapes.ensures.count text all c.args.grown.now c.loop-instance.grown
    (map view c.deref.result.now) rest c.in_err-push_variables.field-0.0 m
    (c.in_err-push_variables.ensures.err text serves (c.loop-instance.invariant.trail ∙ trail)
    (first_sound text all c.args.grown.now c.loop-instance.grown (map view c.deref.result.now) rest m)))

pub loop-instance-preserved : goal.loop-instance-preserved
loop-instance-preserved c = record {
  trail = search rules;
  room = search rules;
  few = search rules;
  left = λ text serves trail h.
      let view = variable_view (Some c.instance-item.result.owner) in
      let all = variables_of_programs text (map instance_view c.args.instances.now) in
      let rest = variables_of_programs text
      (map instance_view (drop (c.loop-instance.instance-index + 1) c.args.instances.now)) in
      let own : map view c.deref.result.now ≡ map (owned_variable (Some (owner_view c.instance-item.result.owner)))
      (program_sites (unit_named text.units c.instance-item.result.program.now)) =
      ap (map view) c.deref.ensures.value ∙ c.in_ok-variables.ensures (Some c.instance-item.result.owner)
      ∙ ap (λ u. map (owned_variable (Some (owner_view c.instance-item.result.owner))) (program_sites u))
      (c.unit_named.ensures text serves) in
      let m = subst (Left text all c.args.grown.now c.loop-instance.grown)
      (ap (λ is. variables_of_programs text (map instance_view is)) (drop_next c.args.instances.now
      c.loop-instance.instance-index c.instance-item.result (omega arith) c.instance-item.is)
      ∙ ap (λ vs. vs ++ rest) (sym own)) (c.loop-instance.invariant.left text serves trail h) in
      left_after text all c.args.grown.now c.loop-instance.grown c.push_variables.new.grown
      (map view c.deref.result.now) rest m
      (c.in_ok-push_variables.ensures.ok text serves (c.loop-instance.invariant.trail ∙ trail)
      (first_sound text all c.args.grown.now c.loop-instance.grown (map view c.deref.result.now) rest m));
}
