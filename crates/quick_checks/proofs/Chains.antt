-- Chains of one part.
use Rattle.std.proofs.Common.{◌≡◌, List, [], ◌∷◌, length, get_or, map, ap, sym, ◌∙◌, arith}
use Rattle.slot_trees.specs.declared.expression.SlotExpr as code_expr
use Rattle.slot_trees.specs.declared.expression.Subscript as code_subscript
use Rattle.slot_trees.specs.Chains.{Subscript, exprs_of, subscripts_of}
use Rattle.slot_trees.specs.ExpressionViews.{slot_expr_view, subscript_view}
use Rattle.slot_trees.specs.SlotTrees.{Subscripts, expr_then, no_exprs, no_subscripts, subscript_then}
use Rattle.st_compile.proofs.Elements.{subscript_seen}

pub one_expr : (es : List code_expr.SlotExpr) (e : code_expr.SlotExpr) → length es ≡ 1 → e ≡ get_or es 0 e
    → exprs_of (map slot_expr_view es) ≡ expr_then (slot_expr_view e) no_exprs
one_expr [] e n is = absurd (omega arith)
one_expr (x ∷ []) e n is = ap (λ y. expr_then (slot_expr_view y) no_exprs) (sym is)
one_expr (x ∷ y ∷ ys) e n is = absurd (omega arith)

pub one_subscript : (ss : List code_subscript.Subscript) (s : code_subscript.Subscript) → length ss ≡ 1
    → s ≡ get_or ss 0 s
    → subscripts_of (map subscript_view ss)
    ≡ subscript_then (slot_expr_view s.index) s.lower s.count s.stride no_subscripts
one_subscript [] s n is = absurd (omega arith)
one_subscript (x ∷ []) s n is =
    let P : Subscript → Subscripts = λ y. subscript_then y.index y.lower y.count y.stride no_subscripts in
    ap P (subscript_seen x) ∙ ap (λ (y : code_subscript.Subscript). subscript_then (slot_expr_view y.index) y.lower
    y.count y.stride no_subscripts) (sym is)
one_subscript (x ∷ y ∷ ys) s n is = absurd (omega arith)
