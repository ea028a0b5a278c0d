-- The value of an expression. All operands are evaluated, the left before the right.
-- F3 is a subscript out of bounds.
use Rattle.std.specs.Prelude.{ℕ, ℤ, List, [], ◌∷◌, ◌++◌, Bool, ◌||◌, if◌then◌else◌, Option, Some, None}
use Rattle.st_types.specs.declared.fault.Fault.TheVariants.{Index}
use Rattle.st_types.specs.declared.path.Step.TheVariants.{Element}
use Rattle.st_types.specs.Kinds.{holds}
use Rattle.st_types.specs.Values.{Datum}
use Rattle.st_types.specs.Paths.{Path}
use Rattle.st_types.specs.Expressions.{Expr, literal, read, call, parenthesis, unary, binary, Exprs, no_exprs}
use Rattle.st_types.specs.Expressions.{expr_then, Variable, variable, Selector, member, subscript, Selectors}
use Rattle.st_types.specs.Expressions.{no_selectors, selector_then}
use Rattle.st_meaning.specs.Failures.{valueless, or_failure, failing}
use Rattle.st_meaning.specs.Stores.{Store, has_part}
use Rattle.st_meaning.specs.Ticks.{Run, ◌>>=◌, give, fault, attempt}
use Rattle.st_meaning.specs.Operators.{value_of_literal, apply, apply_unary, condition_of}
use Rattle.st_meaning.specs.StandardFunctions.{Standard, standard_of, standard_value}
use Rattle.st_meaning.specs.Scopes.{Scope, path_in, member_at, seen}

-- an element of the array at a path
abbrev pub element_at : Path → ℤ → Path
element_at p z = record { owner = p.owner; name = p.name; steps = p.steps ++ Element z ∷ [] }

-- the element at a subscript; F3 if it is out of bounds, so that no variable is there
abbrev pub bounded : Store → Store → Path → Run Path
bounded image s p = if has_part image p || has_part s p then give p else fault Index

-- a number that its type does not hold isn't a value; no store has one
abbrev pub known : Option Datum → Option Datum
known (Some v) = if holds v.kind v.number then Some v else None
known None = None

-- the value of the input or the variable at a path
abbrev pub looked_up : Scope → Store → Path → Run Datum
looked_up w s p = attempt w.stuck_faults (or_failure valueless (known (seen w.image s p)))

-- a call of a standard function or one of the text
abbrev pub called : Scope → Option Standard → List ℕ → List Datum → Run Datum
called w (Some f) x vs = attempt w.stuck_faults (standard_value f vs)
called w None x vs = w.units.functions x vs

abbrev mutual
  pub value : Scope → Store → Expr → Run Datum
  value w s (literal l) = attempt w.stuck_faults (value_of_literal l)
  value w s (read v) = do
    p ← place w s v
    looked_up w s p
  value w s (call f es) = do
    vs ← values w s es
    called w (standard_of f.name) f.name vs
  value w s (parenthesis at e) = value w s e
  value w s (unary op at e) = do
    x ← value w s e
    attempt w.stuck_faults (failing (apply_unary op x))
  value w s (binary op l r) = do
    x ← value w s l
    y ← value w s r
    attempt w.stuck_faults (apply op x y)

  pub values : Scope → Store → Exprs → Run (List Datum)
  values w s no_exprs = give []
  values w s (expr_then e es) = do
    v ← value w s e
    vs ← values w s es
    give (v ∷ vs)

  -- the path that a variable leads to: each subscript is evaluated and tested before the next
  pub place : Scope → Store → Variable → Run Path
  place w s (variable x xs) = selected w s (path_in w.frame w.body x.name) xs

  pub selected : Scope → Store → Path → Selectors → Run Path
  selected w s p no_selectors = give p
  selected w s p (selector_then x xs) = do
    q ← stepped_to w s p x
    selected w s q xs

  pub stepped_to : Scope → Store → Path → Selector → Run Path
  stepped_to w s p (member x) = give (member_at p x.name)
  stepped_to w s p (subscript e) = do
    v ← value w s e
    bounded w.image s (element_at p v.number)

-- the truth of a condition
unfoldable pub truth_of : Scope → Expr → Store → Run Bool
truth_of w e s = do
  v ← value w s e
  attempt w.stuck_faults (condition_of v)
