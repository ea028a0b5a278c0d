use Rattle.std.proofs.Common.{rules, ◌≡◌, refl, ap, ◌∙◌, map, ◌++◌, ◌∷◌, []}
use Rattle.std.proofs.lemmas.Int.{to_z-of_z}
use mir.Val.{SFits, to_z, of_z}
use mir.Syntax.{w128}
use Rattle.std.specs.Prelude.{ℤ}
use Rattle.std.proofs.lemmas.List.{map-append}
use Rattle.slot_trees.specs.declared.expression.Subscript as code_subscript
use Rattle.slot_trees.specs.Chains.{Subscript}
use Rattle.slot_trees.specs.ExpressionViews.{slot_expr_view, subscript_view}
use Rattle.st_link.proofs.PlaceLemmas.{leads_to_element}
use Rattle.st_link.proofs.places.at_element.Goals as goal

pub returns-clause-leads : goal.returns-clause-leads
returns-clause-leads c text t whole e rest has there leads =
    let r = c.args.reached in
    let el = c.args.elements in
    let s : Subscript =
    record { index = slot_expr_view c.args.index; lower = el.lower; count = el.count; stride = el.stride } in
    let low = to_z w128 (of_z w128 el.lower) in
    let fits : SFits w128 el.lower = search rules in
    let same = to_z-of_z w128 el.lower fits in
    let new : code_subscript.Subscript = code_subscript.roll-Subscript
    (record { index = c.args.index; lower = low; count = el.count; stride = el.stride }) in
    let subscript_from : ℤ → Subscript =
    λ l. record { index = slot_expr_view c.args.index; lower = l; count = el.count; stride = el.stride } in
    let seen : subscript_view new ≡ subscript_from low = search (rules, code_subscript.the_lemmas) in
    let pushed = c.in_ok-push.ensures.items in
    let more : map subscript_view c.push.new.self.items ≡ map subscript_view r.subscripts.items ++ s ∷ [] =
    ap (map subscript_view) pushed ∙ map-append subscript_view r.subscripts.items _
    ∙ ap (λ y. map subscript_view r.subscripts.items ++ y ∷ []) (seen ∙ ap (λ l. subscript_from l) same) in
    leads_to_element text t whole r
    (record { offset = r.offset; subscripts = c.push.new.self; declared = el.declared }) el e
    (slot_expr_view c.args.index) s rest has there refl refl more refl leads
