-- The parts of an expression, each with the demand of its place.
use Rattle.std.specs.Prelude.{ℕ, List, [], ◌∷◌, ◌++◌, if◌then◌else◌, Option, None}
use Rattle.st_types.specs.declared.kind.Kind.{Kind}
use Rattle.st_types.specs.declared.operator.BinaryOperator.{BinaryOperator}
use Rattle.st_types.specs.Expressions.{Expr, literal, read, call, parenthesis, unary, binary, Exprs, no_exprs}
use Rattle.st_types.specs.Expressions.{expr_then, Variable, variable, Selector, member, subscript, Selectors}
use Rattle.st_types.specs.Expressions.{no_selectors, selector_then}
use Rattle.st_meaning.specs.Resolution.{is_joining, expected_of_both}
use Rattle.st_rules.specs.Environments.{Environment, Callee, callee_of}
use Rattle.st_rules.specs.declared.demand.Sorts.TheVariants.{Whole as whole}
use Rattle.st_rules.specs.declared.demand.Purpose.TheVariants.{Subscript}
use Rattle.st_rules.specs.declared.demand.Demand.{Demand}
use Rattle.st_rules.specs.declared.demand.Demand.TheVariants.{Operand as operand, Asked as asked}
use Rattle.st_rules.specs.declared.typings.Typing.{Typing}
use Rattle.st_rules.specs.Demands.{expected_of, demands_of_callee}
use Rattle.st_rules.specs.Typings.{kind_of, kinds_of, is_untyped_typing, typing_of, typings_of, common_of}

pub record Node : Type 0 where
  pub demand : Demand
  pub tree : Expr

-- the type that an operator offers its operands: if both are untyped, the one that the whole place expects, and a
-- comparison expects none; if one is untyped, the type of the other
abbrev pub offered : Option Kind → BinaryOperator → Typing → Typing → Option Kind
offered k op t u =
    expected_of_both (if is_joining op then k else None) (kind_of t) (kind_of u) (is_untyped_typing t)
    (is_untyped_typing u)

abbrev pub first_demand : List Demand → Demand
first_demand [] = operand None
first_demand (d ∷ ds) = d

abbrev pub other_demands : List Demand → List Demand
other_demands [] = []
other_demands (d ∷ ds) = ds

-- the demands of a call at a place on its arguments
abbrev pub demands_of : Environment → ℕ → Option Callee → Exprs → List Demand
demands_of env at callee es = demands_of_callee at callee (common_of callee (kinds_of (typings_of env es)))

abbrev pub node : Demand → Expr → Node
node d e = record { demand = d; tree = e }

abbrev mutual
  pub nodes_below : Environment → Option Kind → Expr → List Node
  nodes_below env k (literal l) = []
  nodes_below env k (read v) = nodes_of_place env v
  nodes_below env k (call f es) = nodes_of_all env (demands_of env f.place (callee_of env f.name) es) es
  nodes_below env k (parenthesis at e) = node (operand k) e ∷ nodes_below env k e
  nodes_below env k (unary op at e) = node (operand k) e ∷ nodes_below env k e
  nodes_below env k (binary op l r) =
      (node (operand (offered k op (typing_of env l) (typing_of env r))) l
      ∷ nodes_below env (offered k op (typing_of env l) (typing_of env r)) l)
      ++ (node (operand (offered k op (typing_of env l) (typing_of env r))) r
      ∷ nodes_below env (offered k op (typing_of env l) (typing_of env r)) r)

  pub nodes_of_all : Environment → List Demand → Exprs → List Node
  nodes_of_all env ds no_exprs = []
  nodes_of_all env ds (expr_then e es) =
      (node (first_demand ds) e ∷ nodes_below env (expected_of (first_demand ds)) e)
      ++ nodes_of_all env (other_demands ds) es

  pub nodes_of_place : Environment → Variable → List Node
  nodes_of_place env (variable x xs) = nodes_of_selectors env xs

  pub nodes_of_selectors : Environment → Selectors → List Node
  nodes_of_selectors env no_selectors = []
  nodes_of_selectors env (selector_then x xs) = nodes_of_selector env x ++ nodes_of_selectors env xs

  -- a subscript is a whole number
  pub nodes_of_selector : Environment → Selector → List Node
  nodes_of_selector env (member x) = []
  nodes_of_selector env (subscript e) = node (asked None whole Subscript) e ∷ nodes_below env None e

-- an expression with its parts
abbrev pub nodes_of : Environment → Demand → Expr → List Node
nodes_of env d e = node d e ∷ nodes_below env (expected_of d) e
