use Rattle.std.proofs.Common.{rules, arith, ◌≡◌, ap, subst, ◌+◌, ◌∷◌, [], drop, map, Err}
use Rattle.layout.specs.Variables.{variable_view}
use Rattle.layout.proofs.LayoutLemmas.{Left, no_room_left, first_sound}
use Rattle.layout.proofs.layout_slots.push_variables.Goals as goal
use Rattle.st_types.proofs.ListLemmas.{drop_next}

pub returns-in_err-push_variable-clause-err : goal.returns-in_err-push_variable-clause-err
returns-in_err-push_variable-clause-err c =
    let fault : c.from_residual.result ≡ Err c.in_err-push_variable.field-0.0 = search rules in
    rw fault (λ text serves trail h.
    let view = variable_view c.args.owner in
    let all = map view c.args.variables.now in
    let rest = map view (drop (c.loop-variable.variable-index + 1) c.args.variables.now) in
    let m = subst (Left text all c.args.grown.now c.loop-variable.grown)
    (ap (map view) (drop_next c.args.variables.now c.loop-variable.variable-index c.variable-item.result
    (omega arith) c.variable-item.is)) (c.loop-variable.invariant.left text serves trail h) in
    no_room_left c.leaves_of_shapes.ensures.count text all c.args.grown.now c.loop-variable.grown
    (view c.variable-item.result ∷ []) rest c.in_err-push_variable.field-0.0 m
    (c.in_err-push_variable.ensures.err text serves
    (first_sound text all c.args.grown.now c.loop-variable.grown (view c.variable-item.result ∷ []) rest m)))
