use Rattle.std.proofs.Common.{rules, ◌≡◌, ap, sym, subst, ◌∙◌, Some, None, Err, map, false}
use Rattle.std.specs.Prelude.{option_and_then}
use Rattle.std.proofs.lemmas.Result.{IfErr-weaker, IfOk-weaker}
use Rattle.st_types.specs.declared.expression.Variable as code_variable
use Rattle.st_types.specs.Expressions.{selectors_of, variable}
use Rattle.st_types.specs.ExpressionViews.{selector_view, variable_view}
use Rattle.st_meaning.specs.NameTypes.{Declared}
use Rattle.symbols.specs.Agreeing.{Agree}
use Rattle.symbols.specs.PlaceTypes.{place_type_view}
use Rattle.layout.specs.Types.{shape_of_type}
use Rattle.slot_trees.specs.ExpressionViews.{anchor_view, place_view}
use Rattle.slot_trees.specs.Linking.{linked_selectors, linked_target, place_if_plain}
use Rattle.slot_trees.specs.Tables.{Table, symbol_of}
use Rattle.st_link.specs.BodyTables.{IsSymbol, ServesBody}
use Rattle.st_link.specs.declared.link_error.LinkError.TheVariants.{NotThere}
use Rattle.st_link.proofs.ErrorLemmas.{none_then}
use Rattle.st_link.proofs.VariableLemmas.{symbol_expanded, symbol_near, symbol_room, target_linked}
use Rattle.st_link.proofs.expressions.link_target.Goals as goal

pub returns-in_err-reached-clause-none : goal.returns-in_err-reached-clause-none
returns-in_err-reached-clause-none c =
    let v = c.args.variable.now in
    let s = c.in-Some.symbol in
    let xs = selectors_of (map selector_view c.deref.result.now) in
    let parts : variable_view v ≡ variable v.name (selectors_of (map selector_view v.selectors.items)) =
    search (rules, code_variable.the_lemmas) in
    let seen = parts ∙ ap (λ ys. variable v.name (selectors_of (map selector_view ys))) (sym c.deref.ensures.value) in
    none_then _ c.in_err-reached.field-0.0 _ _ c.in_err-reached.ensures.none
    (λ h text t serves.
    let there = subst (λ o. Agree (IsSymbol text) o (symbol_of t.symbols v.name.name)) c.in-Some.is
    (c.symbol.ensures text t serves) in
    ap (linked_target t) seen ∙ target_linked text t s v.name xs None there c.if-symbol.false
    (ap (option_and_then (place_if_plain (anchor_view s.anchor)))
    (h text t serves (symbol_expanded text s (symbol_of t.symbols v.name.name) there)
    (symbol_room text s (symbol_of t.symbols v.name.name) there)))) (search rules)

pub returns-clause-linked : goal.returns-clause-linked
returns-clause-linked c =
    let v = c.args.variable.now in
    let s = c.in-Some.symbol in
    let xs = selectors_of (map selector_view c.deref.result.now) in
    let parts : variable_view v ≡ variable v.name (selectors_of (map selector_view v.selectors.items)) =
    search (rules, code_variable.the_lemmas) in
    let seen = parts ∙ ap (λ ys. variable v.name (selectors_of (map selector_view ys))) (sym c.deref.ensures.value) in
    IfOk-weaker c.placed.result _ (λ p. (text : Declared) (t : Table) → ServesBody c.args.table.now text t
    → linked_target t (variable_view v) ≡ Some (place_view p))
    (λ p h text t serves.
    let there = subst (λ o. Agree (IsSymbol text) o (symbol_of t.symbols v.name.name)) c.in-Some.is
    (c.symbol.ensures text t serves) in
    let deep = symbol_expanded text s (symbol_of t.symbols v.name.name) there in
    ap (linked_target t) seen
    ∙ target_linked text t s v.name xs (Some (place_view p)) there c.if-symbol.false
    (h text t (linked_selectors t (shape_of_type text (place_type_view s.declared)) xs) serves.shapes
    (c.in_ok-reached.ensures.linked text t serves deep
    (symbol_room text s (symbol_of t.symbols v.name.name) there))))
    c.placed.ensures.place

pub returns-clause-none : goal.returns-clause-none
returns-clause-none c =
    let v = c.args.variable.now in
    let s = c.in-Some.symbol in
    let xs = selectors_of (map selector_view c.deref.result.now) in
    let parts : variable_view v ≡ variable v.name (selectors_of (map selector_view v.selectors.items)) =
    search (rules, code_variable.the_lemmas) in
    let seen = parts ∙ ap (λ ys. variable v.name (selectors_of (map selector_view ys))) (sym c.deref.ensures.value) in
    IfErr-weaker c.placed.result _ (λ e. e ≡ NotThere → (text : Declared) (t : Table)
    → ServesBody c.args.table.now text t → linked_target t (variable_view v) ≡ None)
    (λ e h is text t serves.
    let there = subst (λ o. Agree (IsSymbol text) o (symbol_of t.symbols v.name.name)) c.in-Some.is
    (c.symbol.ensures text t serves) in
    let deep = symbol_expanded text s (symbol_of t.symbols v.name.name) there in
    ap (linked_target t) seen ∙ target_linked text t s v.name xs None there c.if-symbol.false
    (h is text t (linked_selectors t (shape_of_type text (place_type_view s.declared)) xs) serves.shapes
    (symbol_near text s (symbol_of t.symbols v.name.name) there)
    (c.in_ok-reached.ensures.linked text t serves deep
    (symbol_room text s (symbol_of t.symbols v.name.name) there))))
    c.placed.ensures.none
