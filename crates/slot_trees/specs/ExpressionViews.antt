-- The slot trees of the code's expressions.
use Rattle.slot_trees.specs.declared.expression.Anchor as code_anchor
use Rattle.slot_trees.specs.declared.expression.Anchor.TheVariants.{Own, Absolute}
use Rattle.slot_trees.specs.declared.expression.SlotExpr as code_expr
use Rattle.slot_trees.specs.declared.expression.Operands as code_operands
use Rattle.slot_trees.specs.declared.expression.Place as code_place
use Rattle.slot_trees.specs.declared.expression.Subscript as code_subscript
use Rattle.slot_trees.specs.declared.expression.SlotExpr.TheOpen.{SlotExpr-F, Operands-F, Place-F, Subscript-F}
use Rattle.slot_trees.specs.SlotTrees.{Anchor, own, absolute, SlotExpr, constant, load, compute, call, unary, binary}
use Rattle.slot_trees.specs.SlotTrees.{Place, place}
use Rattle.symbols.specs.Standard.{standard_view}
use Rattle.slot_trees.specs.Chains.{Operands, Subscript, exprs_of, subscripts_of}

abbrev pub anchor_view : code_anchor.Anchor → Anchor
anchor_view (Own o) = own o
anchor_view (Absolute k) = absolute k

-- one level, with each part already seen as its tree
abbrev pub expr_step : SlotExpr-F SlotExpr Operands Place Subscript → SlotExpr
expr_step (SlotExpr-F.Constant l) = constant l.value
expr_step (SlotExpr-F.Load p) = load p
expr_step (SlotExpr-F.Compute f es) = compute (standard_view f) (exprs_of es.items)
expr_step (SlotExpr-F.Call f es) = call f (exprs_of es.items)
expr_step (SlotExpr-F.Unary op e) = unary op e.value
expr_step (SlotExpr-F.Binary op b) = binary op b.value.left b.value.right

abbrev pub operands_step : Operands-F SlotExpr Operands Place Subscript → Operands
operands_step b = record { left = b.left; right = b.right }

abbrev pub place_step : Place-F SlotExpr Operands Place Subscript → Place
place_step p = place (anchor_view p.anchor) (subscripts_of p.subscripts.items)

abbrev pub subscript_step : Subscript-F SlotExpr Operands Place Subscript → Subscript
subscript_step s = record { index = s.index; lower = s.lower; count = s.count; stride = s.stride }

abbrev pub slot_expr_view : code_expr.SlotExpr → SlotExpr
slot_expr_view =
    code_expr.fold-SlotExpr SlotExpr Operands Place Subscript expr_step operands_step place_step subscript_step

abbrev pub operands_view : code_operands.Operands → Operands
operands_view =
    code_operands.fold-Operands SlotExpr Operands Place Subscript expr_step operands_step place_step subscript_step

abbrev pub place_view : code_place.Place → Place
place_view = code_place.fold-Place SlotExpr Operands Place Subscript expr_step operands_step place_step subscript_step

abbrev pub subscript_view : code_subscript.Subscript → Subscript
subscript_view =
    code_subscript.fold-Subscript SlotExpr Operands Place Subscript expr_step operands_step place_step subscript_step
