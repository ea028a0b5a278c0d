-- The faults in an expression that is offered a type, from those in its parts.
use Rattle.std.proofs.Common.{◌≡◌, ◌∙◌, refl, sym, ap, subst, ℕ, ◌++◌, Bool, true, ◌&&◌, Option, None, append-nil}
use Rattle.std.proofs.lemmas.Bool.{and_parts}
use Rattle.std.proofs.lemmas.List.Concat.{flat_map-append}
use Rattle.std.specs.List.{flat_map}
use Rattle.st_types.specs.declared.kind.Kind.{Kind}
use Rattle.st_types.specs.declared.literal.Literal.{Literal}
use Rattle.st_types.specs.declared.operator.UnaryOperator.{UnaryOperator}
use Rattle.st_types.specs.declared.operator.BinaryOperator.{BinaryOperator}
use Rattle.st_types.specs.Expressions.{Expr, literal, parenthesis, unary, binary}
use Rattle.st_meaning.specs.Resolution.{is_untyped, is_joining}
use Rattle.st_rules.specs.declared.broken_rules.BrokenRules.{BrokenRules}
use Rattle.st_rules.specs.declared.demand.Demand.TheVariants.{Operand as operand}
use Rattle.st_rules.specs.declared.reason.Reason.TheVariants.{WrongOperand, WrongOperands}
use Rattle.st_rules.specs.declared.typings.Typing.{Typing}
use Rattle.st_rules.specs.declared.typings.Typing.TheVariants.{Untyped as untyped, Elementary as elementary}
use Rattle.st_rules.specs.declared.typings.Typing.TheVariants.{Composite as composite, Nothing as nothing}
use Rattle.st_rules.specs.Collecting.{Collects}
use Rattle.st_rules.specs.Demands.{sorts_of_unary, sorts_of_binary}
use Rattle.st_rules.specs.Environments.{Environment}
use Rattle.st_rules.specs.ExpressionRules.{first_byte, wrong_literal, wrong_part, wrong_node, wrong_within}
use Rattle.st_rules.specs.Faults.{breaking, unless}
use Rattle.st_rules.specs.Nodes.{nodes_of, offered}
use Rattle.st_rules.specs.Typings.{is_untyped_typing, typing_of, settled, fits, are_operands}
use Rattle.st_rules.proofs.CollectLemmas.{collects_both, collects_is, collects_swapped}
use Rattle.st_rules.proofs.TypingLaws.{untyped_told}

pub left_untyped : (b : Bool) (l r : Expr) → (b && is_untyped l && is_untyped r) ≡ true → is_untyped l ≡ true
left_untyped b l r h = (and_parts b (is_untyped l) (and_parts (b && is_untyped l) (is_untyped r) h).0).1

pub right_untyped : (b : Bool) (l r : Expr) → (b && is_untyped l && is_untyped r) ≡ true → is_untyped r ≡ true
right_untyped b l r h = (and_parts (b && is_untyped l) (is_untyped r) h).1

joining_untyped : (b : Bool) (l r : Expr) → (b && is_untyped l && is_untyped r) ≡ true → b ≡ true
joining_untyped b l r h = (and_parts b (is_untyped l) (and_parts (b && is_untyped l) (is_untyped r) h).0).0

is_untyped_only : (t : Typing) → true ≡ is_untyped_typing t → t ≡ untyped
is_untyped_only untyped h = refl
is_untyped_only (elementary k) h = absurd (cc)
is_untyped_only composite h = absurd (cc)
is_untyped_only nothing h = absurd (cc)

pub typing_untyped : (env : Environment) (e : Expr) → is_untyped e ≡ true → typing_of env e ≡ untyped
typing_untyped env e h = is_untyped_only (typing_of env e) (sym h ∙ untyped_told env e)

pub literal_within : (env : Environment) (k : Option Kind) (l : Literal) (e : Expr) (old new : BrokenRules)
    → e ≡ literal l → Collects (wrong_literal env.text k l) old new → Collects (wrong_within env k e) old new
literal_within env k l e old new is h =
    rw is (collects_is (wrong_literal env.text k l) (wrong_within env k (literal l)) old new (sym (append-nil _)) h)

pub parenthesis_within : (env : Environment) (k : Option Kind) (at : ℕ) (x e : Expr) (old new : BrokenRules)
    → e ≡ parenthesis at x → Collects (wrong_within env k x) old new → Collects (wrong_within env k e) old new
parenthesis_within env k at x e old new is h = rw is h

pub unary_within : (env : Environment) (k : Option Kind) (op : UnaryOperator) (at : ℕ) (x e : Expr) (t : Typing)
    (old mid new : BrokenRules) → e ≡ unary op at x → t ≡ typing_of env x → Collects (wrong_within env k x) old mid
    → Collects (breaking (WrongOperand op t) (unless (fits None (sorts_of_unary op) (settled k t)) at)) mid new
    → Collects (wrong_within env k e) old new
unary_within env k op at x e t old mid new is typed h i =
    rw is (collects_swapped (wrong_part env k (unary op at x)) (wrong_within env k x) old mid new h (rw typed at i))

within_operands : (env : Environment) (o : Option Kind) (l r : Expr)
    → wrong_within env o l ++ wrong_within env o r
    ≡ flat_map (wrong_node env) (nodes_of env (operand o) l ++ nodes_of env (operand o) r)
within_operands env o l r = sym (flat_map-append (wrong_node env) (nodes_of env (operand o) l) (nodes_of env (operand o) r))

-- an operation with the type that its operands are offered
pub binary_within : (env : Environment) (k o : Option Kind) (op : BinaryOperator) (l r e : Expr) (t u : Typing)
    (old one two new : BrokenRules) → e ≡ binary op l r → o ≡ offered k op (typing_of env l) (typing_of env r)
    → t ≡ typing_of env l → u ≡ typing_of env r → Collects (wrong_within env o l) old one
    → Collects (wrong_within env o r) one two
    → Collects (breaking (WrongOperands op t u)
    (unless (are_operands (sorts_of_binary op) (settled o t) (settled o u)) (first_byte l))) two new
    → Collects (wrong_within env k e) old new
binary_within env k o op l r e t u old one two new is offers left right h i j =
    let parts = collects_is _ _ old two (within_operands env o l r)
    (collects_both (wrong_within env o l) (wrong_within env o r) old one two h i) in
    let itself = breaking (WrongOperands op t u)
    (unless (are_operands (sorts_of_binary op) (settled o t) (settled o u)) (first_byte l)) in
    let nodes = nodes_of env (operand o) l ++ nodes_of env (operand o) r in
    let all = collects_swapped itself (flat_map (wrong_node env) nodes) old two new parts j in
    rw is (rw (left, right, offers) at all)

offered_untyped : (k : Option Kind) (op : BinaryOperator) (t u : Typing) → t ≡ untyped → u ≡ untyped
    → is_joining op ≡ true → k ≡ offered k op t u
offered_untyped k op t u p q j = rw (p, q, j) refl

pub untyped_binary_within : (env : Environment) (k : Option Kind) (op : BinaryOperator) (l r e : Expr)
    (old one two new : BrokenRules) → e ≡ binary op l r → (is_joining op && is_untyped l && is_untyped r) ≡ true
    → Collects (wrong_within env k l) old one → Collects (wrong_within env k r) one two
    → Collects (breaking (WrongOperands op untyped untyped)
    (unless (are_operands (sorts_of_binary op) (settled k untyped) (settled k untyped)) (first_byte l))) two new
    → Collects (wrong_within env k e) old new
untyped_binary_within env k op l r e old one two new is both h i j =
    let p = typing_untyped env l (left_untyped (is_joining op) l r both) in
    let q = typing_untyped env r (right_untyped (is_joining op) l r both) in
    binary_within env k k op l r e untyped untyped old one two new is
    (offered_untyped k op _ _ p q (joining_untyped (is_joining op) l r both)) (sym p) (sym q) h i j
