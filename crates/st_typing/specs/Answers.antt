-- The typing of an expression, and the faults that are known with it.
use Rattle.std.specs.Prelude.{◌≡◌, ℕ, List, [], ◌++◌, ◌&&◌, if◌then◌else◌, Option, None}
use Rattle.st_types.specs.declared.kind.Kind.{Kind}
use Rattle.st_types.specs.declared.operator.UnaryOperator.{UnaryOperator}
use Rattle.st_types.specs.declared.operator.BinaryOperator.{BinaryOperator}
use Rattle.st_types.specs.Expressions.{Expr}
use Rattle.st_meaning.specs.Resolution.{is_untyped, is_joining}
use Rattle.st_rules.specs.declared.rule.Broken.{Broken}
use Rattle.st_rules.specs.declared.broken_rules.BrokenRules.{BrokenRules}
use Rattle.st_rules.specs.declared.demand.Demand.{Demand}
use Rattle.st_rules.specs.declared.reason.Reason.TheVariants.{WrongOperand, WrongOperands, Mismatch}
use Rattle.st_rules.specs.declared.typings.Typing.{Typing}
use Rattle.st_rules.specs.Collecting.{Collects}
use Rattle.st_rules.specs.Demands.{expected_of, sorts_of_unary, sorts_of_binary}
use Rattle.st_rules.specs.Environments.{Environment}
use Rattle.st_rules.specs.ExpressionRules.{wrong_within, first_byte}
use Rattle.st_rules.specs.Faults.{breaking, unless}
use Rattle.st_rules.specs.Nodes.{offered}
use Rattle.st_rules.specs.Typings.{typing_of, settled, fits, allows, are_operands}

-- the faults in an expression that has a type; those in an untyped one are known with the type that it takes
abbrev pub if_typed : Environment → Option Kind → Expr → List Broken
if_typed env k e = if is_untyped e then [] else wrong_within env k e

abbrev pub if_untyped : Environment → Option Kind → Expr → List Broken
if_untyped env k e = if is_untyped e then wrong_within env k e else []

-- its typing, with the faults in it if it has a type, whatever type its place offers
pub record Types (env : Environment) (e : Expr) (t : Typing) (old new : BrokenRules) : Type 0 where
  pub typing : t ≡ typing_of env e
  pub collects : (k : Option Kind) → Collects (if_typed env k e) old new

-- the fault of an operator between operands that are offered a type
abbrev pub wrong_operands : Environment → BinaryOperator → Option Kind → Expr → Expr → List Broken
wrong_operands env op k l r =
    breaking (WrongOperands op (typing_of env l) (typing_of env r))
    (unless (are_operands (sorts_of_binary op) (settled k (typing_of env l)) (settled k (typing_of env r)))
    (first_byte l))

-- the faults that are known with both operands: those of untyped ones, and that of the operator
abbrev pub wrong_with_operands : Environment → BinaryOperator → Option Kind → Expr → Expr → List Broken
wrong_with_operands env op k l r = if_untyped env k l ++ if_untyped env k r ++ wrong_operands env op k l r

-- none yet if the operation stays untyped
abbrev pub wrong_operation : Environment → BinaryOperator → Expr → Expr → List Broken
wrong_operation env op l r =
    if is_joining op && is_untyped l && is_untyped r then []
    else wrong_with_operands env op (offered None op (typing_of env l) (typing_of env r)) l r

abbrev pub wrong_negation : Environment → UnaryOperator → ℕ → Expr → List Broken
wrong_negation env op at e =
    if is_untyped e then []
    else breaking (WrongOperand op (typing_of env e))
    (unless (fits None (sorts_of_unary op) (settled None (typing_of env e))) at)

-- the faults in an expression at its place, without those that are known with its typing
abbrev pub wrong_by_place : Environment → Demand → Expr → List Broken
wrong_by_place env d e =
    if_untyped env (expected_of d) e
    ++ breaking (Mismatch d (typing_of env e))
    (unless (allows d (settled (expected_of d) (typing_of env e))) (first_byte e))
