-- The types of untyped literals. Each takes the type that its place expects, which follows from the parsed tree and its
-- declarations.
use Rattle.std.specs.Prelude.{ℕ, List, [], ◌∷◌, Bool, true, false, ◌&&◌, if◌then◌else◌, Option, Some, None}
use Rattle.std.specs.Prelude.{option_map, is_some}
use Rattle.st_types.specs.declared.kind.Kind.{Kind}
use Rattle.st_types.specs.declared.kind.Kind.TheVariants.{Lint, Time, Bool as Boolean}
use Rattle.st_types.specs.declared.kind.Sort.{Sort}
use Rattle.st_types.specs.declared.kind.Sort.TheVariants as sorts
use Rattle.st_types.specs.declared.literal.Literal.{Literal}
use Rattle.st_types.specs.declared.literal.Literal.TheVariants as literals
use Rattle.st_types.specs.declared.literal.Number.{Number}
use Rattle.st_types.specs.declared.operator.BinaryOperator.{BinaryOperator}
use Rattle.st_types.specs.declared.operator.BinaryOperator.TheVariants.{Equal, NotEqual, Less, Greater, LessOrEqual}
use Rattle.st_types.specs.declared.operator.BinaryOperator.TheVariants.{GreaterOrEqual}
use Rattle.st_types.specs.Kinds.{row_of}
use Rattle.st_types.specs.Expressions.{Expr, literal, read, call, parenthesis, unary, binary, Exprs, no_exprs}
use Rattle.st_types.specs.Expressions.{expr_then, Variable, variable, Selector, member, subscript, Selectors}
use Rattle.st_types.specs.Expressions.{no_selectors, selector_then}
use Rattle.st_types.specs.declared.unit.UnitSort.{UnitSort}
use Rattle.st_types.specs.declared.unit.UnitSort.TheVariants.{Function, FunctionBlock, Program}
use Rattle.st_types.specs.Declarations.{TypeDeclaration, VariableBlock}
use Rattle.st_types.specs.Units.{OrganisationUnit}
use Rattle.st_meaning.specs.Operators.{or_kind}
use Rattle.st_meaning.specs.StandardFunctions.{Standard, MIN, MAX, LIMIT, SEL, CONVERT, standard_of}
use Rattle.st_meaning.specs.Enumerations.{Member, member_named, member_written, number_of_member, resolved_value}
use Rattle.st_meaning.specs.NameTypes.{Declared, variable_type, kind_of_variable, unit_named, input_kinds, result_kind}

-- an operator that joins untyped expressions to an untyped one
abbrev pub is_joining : BinaryOperator → Bool
is_joining Equal = false
is_joining NotEqual = false
is_joining Less = false
is_joining Greater = false
is_joining LessOrEqual = false
is_joining GreaterOrEqual = false
is_joining _ = true

abbrev pub is_untyped_literal : Literal → Bool
is_untyped_literal (literals.Number n) = elim n.written [ Some k ↦ false | None ↦ true ]
is_untyped_literal (literals.Truth at b) = false
is_untyped_literal (literals.Duration at n) = false
is_untyped_literal (literals.Enumerated v) = false

-- Its leaves are literals without a type, joined by parentheses, unary operators and operators of whole numbers and bit
-- strings.
abbrev pub is_untyped : Expr → Bool
is_untyped (literal l) = is_untyped_literal l
is_untyped (read v) = false
is_untyped (call f es) = false
is_untyped (parenthesis at e) = is_untyped e
is_untyped (unary op at e) = is_untyped e
is_untyped (binary op l r) = is_joining op && is_untyped l && is_untyped r

abbrev pub is_whole_or_bits : Sort → Bool
is_whole_or_bits sorts.Signed = true
is_whole_or_bits sorts.Unsigned = true
is_whole_or_bits sorts.Bits = true
is_whole_or_bits sorts.Duration = false
is_whole_or_bits sorts.Truth = false
is_whole_or_bits sorts.Place = false

-- the type that an untyped expression takes: LINT if none is expected that it may have
abbrev pub taken_kind : Option Kind → Kind
taken_kind None = Lint
taken_kind (Some k) = if is_whole_or_bits (row_of k).sort then k else Lint

abbrev pub taking_number : Kind → Number → Number
taking_number k n = elim n.written [ Some l ↦ n | None ↦ record n { taken = Some k } ]

-- a value of an enumerated type becomes a number of its type
abbrev pub taking_literal : List TypeDeclaration → Kind → Literal → Literal
taking_literal ts k (literals.Number n) = literals.Number (taking_number k n)
taking_literal ts k (literals.Truth at b) = literals.Truth at b
taking_literal ts k (literals.Duration at n) = literals.Duration at n
taking_literal ts k (literals.Enumerated v) = resolved_value ts v

abbrev pub kind_of_literal : List TypeDeclaration → Literal → Option Kind
kind_of_literal ts (literals.Number n) = n.written
kind_of_literal ts (literals.Truth at b) = Some Boolean
kind_of_literal ts (literals.Duration at n) = Some Time
kind_of_literal ts (literals.Enumerated v) = option_map (λ m. m.kind) (member_written ts v)

abbrev pub place_of_variable : Variable → ℕ
place_of_variable (variable x xs) = x.place

-- the value of a name alone, if no variable of the unit has this name
abbrev pub member_read : Declared → OrganisationUnit → Variable → Option Member
member_read text u (variable x no_selectors) =
    if is_some (variable_type u x.name) then None else member_named text.types x.name
member_read text u (variable x (selector_then y ys)) = None

-- the common type of a standard function's operands, of those that have it; if the function has one such operand, that is
-- the first
abbrev pub common_kind : Standard → List (Option Kind) → Option Kind
common_kind MIN (a ∷ b ∷ []) = or_kind a b
common_kind MAX (a ∷ b ∷ []) = or_kind a b
common_kind LIMIT (a ∷ b ∷ c ∷ []) = or_kind a (or_kind b c)
common_kind SEL (g ∷ a ∷ b ∷ []) = or_kind a b
common_kind _ (a ∷ rest) = a
common_kind _ [] = None

-- the type of a standard function's result
abbrev pub standard_kind : Standard → List (Option Kind) → Option Kind
standard_kind (CONVERT k l) ks = Some l
standard_kind f ks = or_kind (common_kind f ks) (Some Lint)

-- the types that a standard function expects of its arguments
abbrev pub expected_kinds : Standard → List (Option Kind) → List (Option Kind)
expected_kinds MIN ks = common_kind MIN ks ∷ common_kind MIN ks ∷ []
expected_kinds MAX ks = common_kind MAX ks ∷ common_kind MAX ks ∷ []
expected_kinds LIMIT ks = common_kind LIMIT ks ∷ common_kind LIMIT ks ∷ common_kind LIMIT ks ∷ []
expected_kinds SEL ks = Some Boolean ∷ common_kind SEL ks ∷ common_kind SEL ks ∷ []
expected_kinds (CONVERT k l) ks = Some k ∷ []
expected_kinds _ ks = []

abbrev pub result_of_unit : Declared → Option OrganisationUnit → Option Kind
result_of_unit text None = None
result_of_unit text (Some u) = result_kind text u.sort

-- the types that a function expects of its arguments
abbrev pub inputs_of_function : Declared → UnitSort → List VariableBlock → List (Option Kind)
inputs_of_function text (Function t) bs = input_kinds text bs
inputs_of_function text FunctionBlock bs = []
inputs_of_function text Program bs = []

abbrev pub inputs_of_unit : Declared → Option OrganisationUnit → List (Option Kind)
inputs_of_unit text None = []
inputs_of_unit text (Some u) = inputs_of_function text u.sort u.blocks

-- the type of a typed expression of a unit; an untyped one has none of its own
abbrev mutual
  pub own_kind : Declared → OrganisationUnit → Expr → Option Kind
  own_kind text u (literal l) = kind_of_literal text.types l
  own_kind text u (read v) = or_kind (kind_of_variable text u v) (option_map (λ m. m.kind) (member_read text u v))
  own_kind text u (call f es) = elim (standard_of f.name)
      [ Some std ↦ standard_kind std (own_kinds text u es) | None ↦ result_of_unit text (unit_named text.units f.name) ]
  own_kind text u (parenthesis at e) = own_kind text u e
  own_kind text u (unary op at e) = own_kind text u e
  own_kind text u (binary op l r) =
      if is_joining op then or_kind (own_kind text u l) (own_kind text u r) else Some Boolean

  pub own_kinds : Declared → OrganisationUnit → Exprs → List (Option Kind)
  own_kinds text u no_exprs = []
  own_kinds text u (expr_then e es) = own_kind text u e ∷ own_kinds text u es

-- the types that a call expects of its arguments
abbrev pub argument_kinds : Declared → OrganisationUnit → List ℕ → Exprs → List (Option Kind)
argument_kinds text u f es = elim (standard_of f)
    [ Some std ↦ expected_kinds std (own_kinds text u es) | None ↦ inputs_of_unit text (unit_named text.units f) ]

-- the first of the types that are expected, and the others
abbrev pub first_kind : List (Option Kind) → Option Kind
first_kind [] = None
first_kind (k ∷ ks) = k

abbrev pub other_kinds : List (Option Kind) → List (Option Kind)
other_kinds [] = []
other_kinds (k ∷ ks) = ks

-- the types that both operands of an operator expect, by whether the left and the right one are untyped: if both are, the
-- type that their whole place offers; if one is, the type of the other; if none is, the left one's, as both are of one type
abbrev pub expected_of_both : Option Kind → Option Kind → Option Kind → Bool → Bool → Option Kind
expected_of_both offered left right true true = offered
expected_of_both offered left right true false = right
expected_of_both offered left right false true = left
expected_of_both offered left right false false = left

-- a comparison offers its operands nothing
abbrev pub operand_kind : Declared → OrganisationUnit → Option Kind → BinaryOperator → Expr → Expr → Option Kind
operand_kind text u k op l r =
    expected_of_both (if is_joining op then k else None) (own_kind text u l) (own_kind text u r) (is_untyped l)
    (is_untyped r)

-- An expression at a place that expects a type: an untyped one takes it, and in a typed one each untyped part takes the type
-- that its own place expects.
abbrev mutual
  pub resolved_expr : Declared → OrganisationUnit → Option Kind → Expr → Expr
  resolved_expr text u k (literal l) = literal (taking_literal text.types (taken_kind k) l)
  resolved_expr text u k (read v) = elim (member_read text u v)
      [ Some m ↦ literal (literals.Number (number_of_member (place_of_variable v) m)) | None ↦ read (resolved_variable text u v) ]
  resolved_expr text u k (call f es) = call f (resolved_exprs text u (argument_kinds text u f.name es) es)
  resolved_expr text u k (parenthesis at e) = parenthesis at (resolved_expr text u k e)
  resolved_expr text u k (unary op at e) = unary op at (resolved_expr text u k e)
  resolved_expr text u k (binary op l r) = binary op (resolved_expr text u (operand_kind text u k op l r) l)
      (resolved_expr text u (operand_kind text u k op l r) r)

  pub resolved_exprs : Declared → OrganisationUnit → List (Option Kind) → Exprs → Exprs
  resolved_exprs text u ks no_exprs = no_exprs
  resolved_exprs text u ks (expr_then e es) =
      expr_then (resolved_expr text u (first_kind ks) e) (resolved_exprs text u (other_kinds ks) es)

  -- an untyped subscript is a LINT
  pub resolved_variable : Declared → OrganisationUnit → Variable → Variable
  resolved_variable text u (variable x xs) = variable x (resolved_selectors text u xs)

  pub resolved_selectors : Declared → OrganisationUnit → Selectors → Selectors
  resolved_selectors text u no_selectors = no_selectors
  resolved_selectors text u (selector_then x xs) =
      selector_then (resolved_selector text u x) (resolved_selectors text u xs)

  pub resolved_selector : Declared → OrganisationUnit → Selector → Selector
  resolved_selector text u (member x) = member x
  resolved_selector text u (subscript e) = subscript (resolved_expr text u None e)
