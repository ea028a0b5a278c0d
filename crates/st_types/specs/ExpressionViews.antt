-- The mirrors of the code's expressions.
use Rattle.st_types.specs.declared.expression.Expr as code_expr
use Rattle.st_types.specs.declared.expression.Variable as code_variable
use Rattle.st_types.specs.declared.expression.Selector as code_selector
use Rattle.st_types.specs.declared.expression.Expr.TheOpen.{Expr-F, Variable-F, Selector-F}
use Rattle.st_types.specs.Expressions.{Expr, literal, read, call, parenthesis, unary, binary, Variable, variable}
use Rattle.st_types.specs.Expressions.{Selector, member, subscript, exprs_of, selectors_of}

-- one level, with each part already seen as its tree
abbrev pub expr_step : Expr-F Expr Selector Variable → Expr
expr_step (Expr-F.Literal l) = literal l
expr_step (Expr-F.Variable v) = read v
expr_step (Expr-F.Call f es) = call f (exprs_of es.items)
expr_step (Expr-F.Parenthesis at e) = parenthesis at e.value
expr_step (Expr-F.Unary op at e) = unary op at e.value
expr_step (Expr-F.Binary op l r) = binary op l.value r.value

abbrev pub variable_step : Variable-F Expr Selector Variable → Variable
variable_step v = variable v.name (selectors_of v.selectors.items)

abbrev pub selector_step : Selector-F Expr Selector Variable → Selector
selector_step (Selector-F.Member x) = member x
selector_step (Selector-F.Subscript e) = subscript e

abbrev pub expr_view : code_expr.Expr → Expr
expr_view = code_expr.fold-Expr Expr Selector Variable expr_step selector_step variable_step

abbrev pub variable_view : code_variable.Variable → Variable
variable_view = code_variable.fold-Variable Expr Selector Variable expr_step selector_step variable_step

abbrev pub selector_view : code_selector.Selector → Selector
selector_view = code_selector.fold-Selector Expr Selector Variable expr_step selector_step variable_step
