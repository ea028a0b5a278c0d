-- The faults of one part of an expression. None of this looks into the parts below.
use Rattle.std.specs.Prelude.{ℕ, List, [], ◌∷◌, ◌++◌, ◌+◌, ◌==◌, length, if◌then◌else◌, Option, Some, None}
use Rattle.std.specs.List.{flat_map}
use Rattle.st_types.specs.declared.kind.Kind.{Kind}
use Rattle.st_types.specs.declared.literal.Literal.{Literal}
use Rattle.st_types.specs.declared.literal.Literal.TheVariants as literals
use Rattle.st_types.specs.declared.literal.Number.{Number}
use Rattle.st_types.specs.Kinds.{holds}
use Rattle.st_types.specs.declared.data_type.VariableType.{VariableType}
use Rattle.st_types.specs.Expressions.{Expr, literal, read, call, parenthesis, unary, binary, Exprs, no_exprs}
use Rattle.st_types.specs.Expressions.{expr_then, Variable, variable, Selector, member, subscript, Selectors}
use Rattle.st_types.specs.Expressions.{no_selectors, selector_then}
use Rattle.st_meaning.specs.Scopes.{Name}
use Rattle.st_meaning.specs.Operators.{number_of}
use Rattle.st_meaning.specs.Resolution.{taken_kind, place_of_variable}
use Rattle.st_meaning.specs.NameTypes.{Declared, selected_type}
use Rattle.st_rules.specs.declared.reason.Reason.TheVariants.{Undeclared, NoMember, NotArray, OutOfRange}
use Rattle.st_rules.specs.declared.reason.Reason.TheVariants.{ArgumentCount, Mismatch, WrongOperand, WrongOperands}
use Rattle.st_rules.specs.Reasons.{type_word}
use Rattle.st_rules.specs.declared.rule.Broken.{Broken}
use Rattle.st_rules.specs.Faults.{breaking, unless}
use Rattle.st_rules.specs.Readings.{reading_of_name, reading_written, wrong_reading}
use Rattle.st_rules.specs.Environments.{Environment, Callee, type_of_name, callee_of}
use Rattle.st_rules.specs.declared.demand.Demand.{Demand}
use Rattle.st_rules.specs.declared.demand.Demand.TheVariants.{Operand as operand, Asked as asked}
use Rattle.st_rules.specs.Demands.{expected_of, sorts_of_unary, sorts_of_binary}
use Rattle.st_rules.specs.Typings.{typing_of, typing_of_type, is_nothing, settled, fits, allows, are_operands}
use Rattle.st_rules.specs.Nodes.{Node, nodes_of, offered, demands_of}

abbrev pub place_of_literal : Literal → ℕ
place_of_literal (literals.Number n) = n.place
place_of_literal (literals.Truth at b) = at
place_of_literal (literals.Duration at n) = at
place_of_literal (literals.Enumerated v) = v.place

-- the first byte of an expression
abbrev pub first_byte : Expr → ℕ
first_byte (literal l) = place_of_literal l
first_byte (read v) = place_of_variable v
first_byte (call f es) = f.place
first_byte (parenthesis at e) = at
first_byte (unary op at e) = at
first_byte (binary op l r) = first_byte l

-- A member that a type doesn't have is unknown, and a type that isn't an array has no elements.
abbrev pub wrong_selector : ℕ → VariableType → Selector → List Broken
wrong_selector at t (member x) = breaking (NoMember (type_word t)) (x.place ∷ [])
wrong_selector at t (subscript e) = breaking (NotArray (type_word t)) (at ∷ [])

-- The selectors of a variable are checked step by step. For an unknown type nothing is checked: its name is reported.
abbrev pub wrong_selectors : Declared → ℕ → VariableType → Selectors → List Broken
wrong_selectors text at t no_selectors = []
wrong_selectors text at t (selector_then x xs) = elim (selected_type text t x) [
  | Some u ↦ wrong_selectors text at u xs
  | None ↦ if is_nothing (typing_of_type text (Some t)) then [] else wrong_selector at t x
]

-- a variable that doesn't exist, or a wrong selection
abbrev pub wrong_variable : Environment → Variable → List Broken
wrong_variable env (variable x xs) = elim (type_of_name env x.name)
    [ Some t ↦ wrong_selectors env.text x.place t xs | None ↦ breaking Undeclared (x.place ∷ []) ]

-- when it is read, a name alone may also be a value of an enumerated type
abbrev pub wrong_alone : Environment → ℕ → Name → Option VariableType → List Broken
wrong_alone env at x (Some t) = []
wrong_alone env at x None = wrong_reading at (reading_of_name env.text x)

abbrev pub wrong_read : Environment → Variable → List Broken
wrong_read env (variable x no_selectors) = wrong_alone env x.place x.name (type_of_name env x.name)
wrong_read env (variable x (selector_then y ys)) = wrong_variable env (variable x (selector_then y ys))

abbrev pub count_of : Exprs → ℕ
count_of no_exprs = 0
count_of (expr_then e es) = 1 + count_of es

-- an unknown function, or too few or too many arguments
abbrev pub wrong_call : ℕ → Option Callee → List Demand → Exprs → List Broken
wrong_call at None ds es = breaking Undeclared (at ∷ [])
wrong_call at (Some callee) ds es =
    breaking (ArgumentCount (count_of es) (length ds)) (unless (count_of es == length ds) at)

-- the type that is written, or else the one that is taken
abbrev pub kind_or_taken : Option Kind → Option Kind → Kind
kind_or_taken k None = taken_kind k
kind_or_taken k (Some l) = l

-- a number outside the type that it has, or that it takes if one is expected
abbrev pub wrong_number : Option Kind → Number → List Broken
wrong_number k n =
    breaking (OutOfRange (kind_or_taken k n.written))
    (unless (holds (kind_or_taken k n.written) (number_of n)) n.place)

-- a number outside its type, or an enumerated type without this value
abbrev pub wrong_literal : Declared → Option Kind → Literal → List Broken
wrong_literal text k (literals.Number n) = wrong_number k n
wrong_literal text k (literals.Truth at b) = []
wrong_literal text k (literals.Duration at n) = []
wrong_literal text k (literals.Enumerated v) = wrong_reading v.place (reading_written text v)

abbrev pub wrong_part : Environment → Option Kind → Expr → List Broken
wrong_part env k (literal l) = wrong_literal env.text k l
wrong_part env k (read v) = wrong_read env v
wrong_part env k (call f es) =
    wrong_call f.place (callee_of env f.name) (demands_of env f.place (callee_of env f.name) es) es
wrong_part env k (parenthesis at e) = []
wrong_part env k (unary op at e) =
    breaking (WrongOperand op (typing_of env e))
    (unless (fits None (sorts_of_unary op) (settled k (typing_of env e))) at)
wrong_part env k (binary op l r) =
    breaking (WrongOperands op (typing_of env l) (typing_of env r)) (unless (are_operands (sorts_of_binary op)
    (settled (offered k op (typing_of env l) (typing_of env r)) (typing_of env l))
    (settled (offered k op (typing_of env l) (typing_of env r)) (typing_of env r))) (first_byte l))

-- the faults of a part: in itself, or for its place
abbrev pub wrong_node : Environment → Node → List Broken
wrong_node env n =
    breaking (Mismatch n.demand (typing_of env n.tree))
    (unless (allows n.demand (settled (expected_of n.demand) (typing_of env n.tree))) (first_byte n.tree))
    ++ wrong_part env (expected_of n.demand) n.tree

-- all faults in an expression at a place
abbrev pub wrong_expression : Environment → Demand → Expr → List Broken
wrong_expression env d e = flat_map (wrong_node env) (nodes_of env d e)

-- as an operand, which is offered a type
abbrev pub wrong_within : Environment → Option Kind → Expr → List Broken
wrong_within env k e = wrong_expression env (operand k) e
