-- From expressions with names to expressions with slots. The result is None if a name is unknown, or if it doesn't
-- lead to an elementary variable.
use Rattle.std.specs.Prelude.{ℕ, ◌+◌, ◌*◌, nat_lt, ℤ, if◌then◌else◌, Option, Some, None, option_map, option_and_then}
use Rattle.st_types.specs.Expressions as named
use Rattle.st_types.specs.Expressions.{Expr, literal, read, parenthesis, Exprs, Variable, variable, member, subscript}
use Rattle.st_types.specs.Expressions.{Selectors, no_selectors, selector_then}
use Rattle.st_meaning.specs.StandardFunctions.{Standard, standard_of}
use Rattle.st_meaning.specs.Scopes.{Name}
use Rattle.layout.specs.Shapes.{Shape, plain, array, parts, size}
use Rattle.slot_trees.specs.SlotTrees.{Anchor, SlotExpr, constant, load, compute, call, unary, binary, SlotExprs}
use Rattle.slot_trees.specs.SlotTrees.{no_exprs, expr_then, Place, place, Subscripts, no_subscripts, subscript_then}
use Rattle.slot_trees.specs.Tables.{Symbol, Table, symbol_of, named_in, moved, part_at}

-- the target of selectors: at least this offset further, by these subscripts, a part of this shape
pub record Selected : Type 0 where
  pub offset : ℕ
  pub subscripts : Subscripts
  pub shape : Shape

abbrev pub with_offset : ℕ → Selected → Selected
with_offset n s = record { offset = n + s.offset; subscripts = s.subscripts; shape = s.shape }

abbrev pub with_subscript : SlotExpr → ℤ → ℕ → ℕ → Selected → Selected
with_subscript i lower count stride s =
    record { offset = s.offset; subscripts = subscript_then i lower count stride s.subscripts; shape = s.shape }

-- only an elementary part has a place
abbrev pub place_of_shape : Anchor → ℕ → Subscripts → Shape → Option Place
place_of_shape a n ss (plain k) = Some (place (moved a n) ss)
place_of_shape a n ss (array lower count sh) = None
place_of_shape a n ss (parts w ps) = None

abbrev pub place_if_plain : Anchor → Selected → Option Place
place_if_plain a s = place_of_shape a s.offset s.subscripts s.shape

-- a call of a standard function or one of the text
abbrev pub linked_call : Table → Name → Option Standard → SlotExprs → Option SlotExpr
linked_call t f (Some standard) xs = Some (compute standard xs)
linked_call t f None xs = option_map (λ i. call i xs) (named_in t.functions f)

abbrev mutual
  pub linked : Table → Expr → Option SlotExpr
  linked t (literal l) = Some (constant l)
  linked t (read v) = option_map load (linked_variable t v)
  linked t (named.call f es) =
      option_and_then (λ xs. linked_call t f.name (standard_of f.name) xs) (linked_all t es)
  linked t (parenthesis at e) = linked t e
  linked t (named.unary op at e) = option_map (unary op) (linked t e)
  linked t (named.binary op l r) = option_and_then (λ x. option_map (binary op x) (linked t r)) (linked t l)

  pub linked_all : Table → Exprs → Option SlotExprs
  linked_all t named.no_exprs = Some no_exprs
  linked_all t (named.expr_then e es) =
      option_and_then (λ x. option_map (expr_then x) (linked_all t es)) (linked t e)

  pub linked_variable : Table → Variable → Option Place
  linked_variable t (variable x xs) =
      option_and_then (λ y. option_and_then (place_if_plain y.anchor) (linked_selectors t y.shape xs))
      (symbol_of t.symbols x.name)

  -- a subscript needs an array that takes room: otherwise no path begins with it
  pub linked_selectors : Table → Shape → Selectors → Option Selected
  linked_selectors t sh no_selectors = Some (record { offset = 0; subscripts = no_subscripts; shape = sh })
  linked_selectors t (parts w ps) (selector_then (member x) xs) =
      option_and_then (λ e. option_map (with_offset e.offset) (linked_selectors t e.shape xs)) (part_at ps x.name)
  linked_selectors t (array lower count sh) (selector_then (subscript e) xs) = if nat_lt 0 (count * size sh)
      then option_and_then (λ i. option_map (with_subscript i lower count (size sh)) (linked_selectors t sh xs))
      (linked t e) else None
  linked_selectors t _ (selector_then x xs) = None

-- a variable that may be assigned
abbrev pub target_of : Table → Symbol → Selectors → Option Place
target_of t y xs =
    if y.is_input then None else option_and_then (place_if_plain y.anchor) (linked_selectors t y.shape xs)

abbrev pub linked_target : Table → Variable → Option Place
linked_target t (variable x xs) = option_and_then (λ y. target_of t y xs) (symbol_of t.symbols x.name)
