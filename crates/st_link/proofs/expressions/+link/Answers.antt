use Rattle.std.proofs.Common.{rules, ◌≡◌, ap, sym, subst, ◌∙◌, ◌+◌, Option, Some, None, Err, map, drop}
use Rattle.std.specs.Prelude.{option_and_then, option_map}
use Rattle.std.proofs.lemmas.List.{drop_all}
use Rattle.std.proofs.lemmas.Result.{IfErr-weaker, IfOk-weaker}
use Rattle.st_types.specs.declared.expression.Expr as code_expr
use Rattle.st_types.specs.declared.expression.Selector as code_selector
use Rattle.st_types.specs.declared.expression.Variable as code_variable
use Rattle.st_types.specs.Expressions as trees
use Rattle.st_types.specs.Expressions.{Selectors, selectors_of, selector_then, member, subscript, variable}
use Rattle.st_types.specs.ExpressionViews.{expr_view, selector_view, variable_view}
use Rattle.st_meaning.specs.NameTypes.{Declared}
use Rattle.st_meaning.specs.StandardFunctions.{standard_of}
use Rattle.symbols.specs.Agreeing.{Agree}
use Rattle.symbols.specs.PlaceTypes.{place_type_view}
use Rattle.layout.specs.Types.{shape_of_type}
use Rattle.slot_trees.specs.Chains.{exprs_of}
use Rattle.slot_trees.specs.ExpressionViews.{anchor_view, place_view, slot_expr_view}
use Rattle.slot_trees.specs.SlotTrees.{SlotExpr, load, binary}
use Rattle.slot_trees.specs.SlotTrees as slots
use Rattle.slot_trees.specs.Linking.{Selected, linked, linked_call, linked_selectors, linked_variable, place_if_plain}
use Rattle.slot_trees.specs.Tables.{Table, symbol_of}
use Rattle.st_link.specs.BodyTables.{IsSymbol, ServesBody}
use Rattle.st_link.specs.Places.{LeadsOn}
use Rattle.st_link.specs.declared.link_error.LinkError.TheVariants.{NotThere}
use Rattle.st_link.proofs.ErrorLemmas.{and_none, none_then}
use Rattle.st_link.proofs.PlaceLemmas.{reached_room}
use Rattle.st_link.proofs.PlaceLemmas.{leads_nowhere, no_index}
use Rattle.st_link.proofs.Sequences.{Turned, turned_all, turned_first, turned_more, turned_none}
use Rattle.st_link.proofs.SequenceViews.{exprs_linked}
use Rattle.st_link.proofs.VariableLemmas.{symbol_expanded, symbol_near, symbol_room, variable_linked}
use Rattle.st_link.proofs.expressions.+link.Goals as goal
use Rattle.st_types.proofs.ListLemmas.{drop_next}

pub link-returns-in_err-link_variable-in-Variable-clause-none :
    goal.link-returns-in_err-link_variable-in-Variable-clause-none
link-returns-in_err-link_variable-in-Variable-clause-none n c =
    let seen : expr_view c.args.expression.now ≡ trees.read (variable_view c.in-Variable.variable) =
    rw c.in-Variable.is (search (rules, code_expr.the_lemmas)) in
    none_then _ c.in_err-link_variable-in-Variable.field-0.0 _ _ c.in_err-link_variable-in-Variable.ensures.none
    (λ h text t serves. ap (linked t) seen ∙ ap (option_map load) (h text t serves)) (search rules)

pub link-returns-in_err-arguments-in-Call-clause-none : goal.link-returns-in_err-arguments-in-Call-clause-none
link-returns-in_err-arguments-in-Call-clause-none n c =
    let f = c.in-Call.function in
    let es = trees.exprs_of (map expr_view c.in-Call.arguments.items) in
    let seen : expr_view c.args.expression.now ≡ trees.call f es =
    rw c.in-Call.is (search (rules, code_expr.the_lemmas)) in
    none_then _ c.in_err-arguments-in-Call.field-0.0 _ _ c.in_err-arguments-in-Call.ensures.none
    (λ h text t serves. ap (linked t) seen
    ∙ ap (option_and_then (λ xs. linked_call t f.name (standard_of f.name) xs))
    (rw c.deref.ensures.value at (h text t serves))) (search rules)

pub link-returns-in_err-operand-in-Unary-clause-none : goal.link-returns-in_err-operand-in-Unary-clause-none
link-returns-in_err-operand-in-Unary-clause-none n c =
    let op = c.in-Unary.operator in
    let seen : expr_view c.args.expression.now ≡ trees.unary op c.in-Unary.field-1 (expr_view
    c.in-Unary.operand.value) =
    rw c.in-Unary.is (search (rules, code_expr.the_lemmas)) in
    none_then _ c.in_err-operand-in-Unary.field-0.0 _ _ c.in_err-operand-in-Unary.ensures.none
    (λ h text t serves. ap (linked t) seen
    ∙ ap (option_map (slots.unary op)) (rw c.deref-in-Unary.ensures at (h text t serves))) (search rules)

pub link-returns-in_err-left-in-Binary-clause-none : goal.link-returns-in_err-left-in-Binary-clause-none
link-returns-in_err-left-in-Binary-clause-none n c =
    let op = c.in-Binary.operator in
    let right = expr_view c.in-Binary.right.value in
    let seen : expr_view c.args.expression.now ≡ trees.binary op (expr_view c.in-Binary.left.value) right =
    rw c.in-Binary.is (search (rules, code_expr.the_lemmas)) in
    none_then _ c.in_err-left-in-Binary.field-0.0 _ _ c.in_err-left-in-Binary.ensures.none
    (λ h text t serves. ap (linked t) seen
    ∙ ap (option_and_then (λ x. option_map (binary op x) (linked t right)))
    (rw c.deref-in-Binary.ensures at (h text t serves))) (search rules)

pub link-returns-in_err-right-in-Binary-clause-none : goal.link-returns-in_err-right-in-Binary-clause-none
link-returns-in_err-right-in-Binary-clause-none n c =
    let op = c.in-Binary.operator in
    let left = expr_view c.in-Binary.left.value in
    let seen : expr_view c.args.expression.now ≡ trees.binary op left (expr_view c.in-Binary.right.value) =
    rw c.in-Binary.is (search (rules, code_expr.the_lemmas)) in
    none_then _ c.in_err-right-in-Binary.field-0.0 _ _ c.in_err-right-in-Binary.ensures.none
    (λ h text t serves. ap (linked t) seen
    ∙ ap (λ o. option_and_then (λ x. option_map (binary op x) o) (linked t left))
    (rw c.deref-in-Binary-2.ensures at (h text t serves))
    ∙ and_none (linked t left)) (search rules)

pub link-returns-in_ok-arguments-in-Call-clause-linked : goal.link-returns-in_ok-arguments-in-Call-clause-linked
link-returns-in_ok-arguments-in-Call-clause-linked n c =
    let f = c.in-Call.function in
    let es = trees.exprs_of (map expr_view c.in-Call.arguments.items) in
    let seen : expr_view c.args.expression.now ≡ trees.call f es =
    rw c.in-Call.is (search (rules, code_expr.the_lemmas)) in
    IfOk-weaker c.called.result _ (λ x. (text : Declared) (t : Table) → ServesBody c.args.table.now text t
    → linked t (expr_view c.args.expression.now) ≡ Some (slot_expr_view x))
    (λ x h text t serves. ap (linked t) seen
    ∙ ap (option_and_then (λ xs. linked_call t f.name (standard_of f.name) xs))
    (rw c.deref.ensures.value at (c.in_ok-arguments-in-Call.ensures.linked text t serves))
    ∙ h text t serves)
    c.called.ensures.linked

pub link-returns-in_ok-arguments-in-Call-clause-none : goal.link-returns-in_ok-arguments-in-Call-clause-none
link-returns-in_ok-arguments-in-Call-clause-none n c =
    let f = c.in-Call.function in
    let es = trees.exprs_of (map expr_view c.in-Call.arguments.items) in
    let seen : expr_view c.args.expression.now ≡ trees.call f es =
    rw c.in-Call.is (search (rules, code_expr.the_lemmas)) in
    IfErr-weaker c.called.result _ (λ e. e ≡ NotThere → (text : Declared) (t : Table)
    → ServesBody c.args.table.now text t → linked t (expr_view c.args.expression.now) ≡ None)
    (λ e h is text t serves. ap (linked t) seen
    ∙ ap (option_and_then (λ xs. linked_call t f.name (standard_of f.name) xs))
    (rw c.deref.ensures.value at (c.in_ok-arguments-in-Call.ensures.linked text t serves))
    ∙ h is text t serves)
    c.called.ensures.none

pub link_all-loop-expression-init : goal.link_all-loop-expression-init
link_all-loop-expression-init n c text t serves =
    let es = map expr_view c.args.expressions.now in
    subst (λ ds. Turned trees.Expr SlotExpr (linked t) es (map slot_expr_view ds) es) (sym c.new-linked.ensures.items)
    (turned_first (linked t) es)

pub link_all-loop-expression-preserved : goal.link_all-loop-expression-preserved
link_all-loop-expression-preserved n c text t serves =
    turned_more expr_view slot_expr_view (linked t) c.args.expressions.now c.loop-expression.expression-index
    c.expression-item.result c.loop-expression.linked.items c.push.new.self.items c.in_ok-link.field-0
    c.loop-expression-test.true c.expression-item.is c.in_ok-push.ensures.items
    (c.in_ok-link.ensures.linked text t serves) (c.loop-expression.invariant text t serves)

pub link_all-returns-in_err-link-clause-none : goal.link_all-returns-in_err-link-clause-none
link_all-returns-in_err-link-clause-none n c =
    let xs = c.args.expressions.now in
    none_then _ c.in_err-link.field-0.0 _ _ c.in_err-link.ensures.none
    (λ h text t serves. exprs_linked t (map expr_view xs)
    ∙ ap (option_map exprs_of) (turned_none expr_view (linked t) xs c.loop-expression.expression-index
    c.expression-item.result (map slot_expr_view c.loop-expression.linked.items) c.loop-expression-test.true
    c.expression-item.is (h text t serves) (c.loop-expression.invariant text t serves))) (search rules)

pub link_all-returns-clause-linked : goal.link_all-returns-clause-linked
link_all-returns-clause-linked n c text t serves =
    let xs = c.args.expressions.now in
    exprs_linked t (map expr_view xs)
    ∙ ap (option_map exprs_of) (turned_all expr_view (linked t) xs c.loop-expression.expression-index
    (map slot_expr_view c.loop-expression.linked.items) c.loop-expression-test.false
    (c.loop-expression.invariant text t serves))

pub link_selector-returns-in-Member-clause-linked : goal.link_selector-returns-in-Member-clause-linked
link_selector-returns-in-Member-clause-linked n c =
    let seen : selector_view c.args.selector.now ≡ member c.in-Member.name =
    rw c.in-Member.is (search (rules, code_selector.the_lemmas)) in
    IfOk-weaker c.at_member.result _ (λ next. (text : Declared) (t : Table) (whole : Option Selected)
    (rest : Selectors) → ServesBody c.args.table.now text t
    → LeadsOn text t whole c.args.reached (selector_then (selector_view c.args.selector.now) rest)
    → LeadsOn text t whole next rest)
    (λ next h text t whole rest serves leads. h text t whole rest serves.shapes
    (subst (λ x. LeadsOn text t whole c.args.reached (selector_then x rest)) seen leads))
    c.at_member.ensures.leads

pub link_selector-returns-in-Member-clause-none : goal.link_selector-returns-in-Member-clause-none
link_selector-returns-in-Member-clause-none n c =
    let seen : selector_view c.args.selector.now ≡ member c.in-Member.name =
    rw c.in-Member.is (search (rules, code_selector.the_lemmas)) in
    IfErr-weaker c.at_member.result _ (λ e. e ≡ NotThere → (text : Declared) (t : Table) (whole : Option Selected)
    (rest : Selectors) → ServesBody c.args.table.now text t
    → LeadsOn text t whole c.args.reached (selector_then (selector_view c.args.selector.now) rest) → whole ≡ None)
    (λ e h is text t whole rest serves leads. h is text t whole rest serves.shapes
    (subst (λ x. LeadsOn text t whole c.args.reached (selector_then x rest)) seen leads))
    c.at_member.ensures.none

pub link_selector-returns-in_err-elements-in-Subscript-clause-none :
    goal.link_selector-returns-in_err-elements-in-Subscript-clause-none
link_selector-returns-in_err-elements-in-Subscript-clause-none n c =
    let e = expr_view c.in-Subscript.index in
    let seen : selector_view c.args.selector.now ≡ subscript e =
    rw c.in-Subscript.is (search (rules, code_selector.the_lemmas)) in
    none_then _ c.in_err-elements-in-Subscript.field-0.0 _ _ c.in_err-elements-in-Subscript.ensures.none
    (λ h text t whole rest serves leads.
    leads_nowhere text t whole c.args.reached (selector_then (subscript e) rest)
    (h text t e rest serves.shapes leads.expanded
    (reached_room text t whole c.args.reached (selector_then (selector_view c.args.selector.now) rest) leads))
    (subst (λ x. LeadsOn text t whole c.args.reached (selector_then x rest)) seen leads)) (search rules)

pub link_selector-returns-in_err-index-in-Subscript-clause-none :
    goal.link_selector-returns-in_err-index-in-Subscript-clause-none
link_selector-returns-in_err-index-in-Subscript-clause-none n c =
    let e = expr_view c.in-Subscript.index in
    let seen : selector_view c.args.selector.now ≡ subscript e =
    rw c.in-Subscript.is (search (rules, code_selector.the_lemmas)) in
    none_then _ c.in_err-index-in-Subscript.field-0.0 _ _ c.in_err-index-in-Subscript.ensures.none
    (λ h text t whole rest serves leads.
    leads_nowhere text t whole c.args.reached (selector_then (subscript e) rest)
    (no_index t (shape_of_type text (place_type_view c.args.reached.declared)) e rest (h text t serves))
    (subst (λ x. LeadsOn text t whole c.args.reached (selector_then x rest)) seen leads)) (search rules)

pub link_selector-returns-in_ok-index-in-Subscript-clause-linked :
    goal.link_selector-returns-in_ok-index-in-Subscript-clause-linked
link_selector-returns-in_ok-index-in-Subscript-clause-linked n c =
    let e = expr_view c.in-Subscript.index in
    let seen : selector_view c.args.selector.now ≡ subscript e =
    rw c.in-Subscript.is (search (rules, code_selector.the_lemmas)) in
    IfOk-weaker c.at_element.result _ (λ next. (text : Declared) (t : Table) (whole : Option Selected)
    (rest : Selectors) → ServesBody c.args.table.now text t
    → LeadsOn text t whole c.args.reached (selector_then (selector_view c.args.selector.now) rest)
    → LeadsOn text t whole next rest)
    (λ next h text t whole rest serves leads. h text t whole e rest
    (c.in_ok-elements-in-Subscript.ensures.elements text serves.shapes leads.expanded)
    (c.in_ok-index-in-Subscript.ensures.linked text t serves)
    (subst (λ x. LeadsOn text t whole c.args.reached (selector_then x rest)) seen leads))
    c.at_element.ensures.leads

pub link_selectors-loop-selector-preserved : goal.link_selectors-loop-selector-preserved
link_selectors-loop-selector-preserved n c text t serves expanded room =
    let xs = c.args.selectors.now in
    let whole = linked_selectors t (shape_of_type text (place_type_view c.args.declared))
    (selectors_of (map selector_view xs)) in
    let rest = selectors_of (map selector_view (drop (c.loop-selector.selector-index + 1) xs)) in
    c.in_ok-reached.ensures.linked text t whole rest serves
    (subst (λ ys. LeadsOn text t whole c.loop-selector.reached (selectors_of (map selector_view ys)))
    (drop_next xs c.loop-selector.selector-index c.selector-item.result c.loop-selector-test.true
    c.selector-item.is)
    (c.loop-selector.invariant text t serves expanded room))

pub link_selectors-returns-in_err-reached-clause-none : goal.link_selectors-returns-in_err-reached-clause-none
link_selectors-returns-in_err-reached-clause-none n c =
    let xs = c.args.selectors.now in
    none_then _ c.in_err-reached.field-0.0 _ _ c.in_err-reached.ensures.none
    (λ h text t serves expanded room.
    let whole = linked_selectors t (shape_of_type text (place_type_view c.args.declared))
    (selectors_of (map selector_view xs)) in
    let rest = selectors_of (map selector_view (drop (c.loop-selector.selector-index + 1) xs)) in
    h text t whole rest serves
    (subst (λ ys. LeadsOn text t whole c.loop-selector.reached (selectors_of (map selector_view ys)))
    (drop_next xs c.loop-selector.selector-index c.selector-item.result c.loop-selector-test.true
    c.selector-item.is)
    (c.loop-selector.invariant text t serves expanded room))) (search rules)

pub link_selectors-returns-clause-linked : goal.link_selectors-returns-clause-linked
link_selectors-returns-clause-linked n c text t serves expanded room =
    let xs = c.args.selectors.now in
    subst (λ ys. LeadsOn text t (linked_selectors t (shape_of_type text (place_type_view c.args.declared))
    (selectors_of (map selector_view xs))) c.loop-selector.reached (selectors_of (map selector_view ys)))
    (drop_all c.loop-selector.selector-index xs c.loop-selector-test.false)
    (c.loop-selector.invariant text t serves expanded room)

pub link_variable-returns-in_err-reached-clause-none : goal.link_variable-returns-in_err-reached-clause-none
link_variable-returns-in_err-reached-clause-none n c =
    let v = c.args.variable.now in
    let s = c.in-Some.symbol in
    let xs = selectors_of (map selector_view c.deref.result.now) in
    let parts : variable_view v ≡ variable v.name (selectors_of (map selector_view v.selectors.items)) =
    search (rules, code_variable.the_lemmas) in
    let seen = parts ∙ ap (λ ys. variable v.name (selectors_of (map selector_view ys))) (sym c.deref.ensures.value) in
    none_then _ c.in_err-reached.field-0.0 _ _ c.in_err-reached.ensures.none
    (λ h text t serves.
    let there = subst (λ o. Agree (IsSymbol text) o (symbol_of t.symbols v.name.name)) c.in-Some.is
    (c.symbol.ensures text t serves) in
    ap (linked_variable t) seen ∙ variable_linked text t s v.name xs None there
    (ap (option_and_then (place_if_plain (anchor_view s.anchor)))
    (h text t serves (symbol_expanded text s (symbol_of t.symbols v.name.name) there)
    (symbol_room text s (symbol_of t.symbols v.name.name) there)))) (search rules)

pub link_variable-returns-clause-linked : goal.link_variable-returns-clause-linked
link_variable-returns-clause-linked n c =
    let v = c.args.variable.now in
    let s = c.in-Some.symbol in
    let xs = selectors_of (map selector_view c.deref.result.now) in
    let parts : variable_view v ≡ variable v.name (selectors_of (map selector_view v.selectors.items)) =
    search (rules, code_variable.the_lemmas) in
    let seen = parts ∙ ap (λ ys. variable v.name (selectors_of (map selector_view ys))) (sym c.deref.ensures.value) in
    IfOk-weaker c.placed.result _ (λ p. (text : Declared) (t : Table) → ServesBody c.args.table.now text t
    → linked_variable t (variable_view v) ≡ Some (place_view p))
    (λ p h text t serves.
    let there = subst (λ o. Agree (IsSymbol text) o (symbol_of t.symbols v.name.name)) c.in-Some.is
    (c.symbol.ensures text t serves) in
    let deep = symbol_expanded text s (symbol_of t.symbols v.name.name) there in
    ap (linked_variable t) seen ∙ variable_linked text t s v.name xs (Some (place_view p)) there
    (h text t (linked_selectors t (shape_of_type text (place_type_view s.declared)) xs) serves.shapes
    (c.in_ok-reached.ensures.linked text t serves deep
    (symbol_room text s (symbol_of t.symbols v.name.name) there))))
    c.placed.ensures.place

pub link_variable-returns-clause-none : goal.link_variable-returns-clause-none
link_variable-returns-clause-none n c =
    let v = c.args.variable.now in
    let s = c.in-Some.symbol in
    let xs = selectors_of (map selector_view c.deref.result.now) in
    let parts : variable_view v ≡ variable v.name (selectors_of (map selector_view v.selectors.items)) =
    search (rules, code_variable.the_lemmas) in
    let seen = parts ∙ ap (λ ys. variable v.name (selectors_of (map selector_view ys))) (sym c.deref.ensures.value) in
    IfErr-weaker c.placed.result _ (λ e. e ≡ NotThere → (text : Declared) (t : Table)
    → ServesBody c.args.table.now text t → linked_variable t (variable_view v) ≡ None)
    (λ e h is text t serves.
    let there = subst (λ o. Agree (IsSymbol text) o (symbol_of t.symbols v.name.name)) c.in-Some.is
    (c.symbol.ensures text t serves) in
    let deep = symbol_expanded text s (symbol_of t.symbols v.name.name) there in
    ap (linked_variable t) seen ∙ variable_linked text t s v.name xs None there
    (h is text t (linked_selectors t (shape_of_type text (place_type_view s.declared)) xs) serves.shapes
    (symbol_near text s (symbol_of t.symbols v.name.name) there)
    (c.in_ok-reached.ensures.linked text t serves deep
    (symbol_room text s (symbol_of t.symbols v.name.name) there))))
    c.placed.ensures.none
