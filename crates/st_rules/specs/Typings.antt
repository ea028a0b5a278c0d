-- The types of expressions.
use Rattle.std.specs.Prelude.{List, [], ◌∷◌, Bool, true, false, ◌&&◌, ◌||◌, if◌then◌else◌, Option, Some, None, is_some}
use Rattle.st_types.specs.declared.kind.Kind.{Kind}
use Rattle.st_types.specs.declared.kind.Kind.TheVariants.{Time, Bool as Boolean}
use Rattle.st_types.specs.declared.literal.Literal.{Literal}
use Rattle.st_types.specs.declared.literal.Literal.TheVariants as literals
use Rattle.st_types.specs.Kinds.{row_of, same_kind}
use Rattle.st_types.specs.declared.data_type.SimpleType.TheVariants.{Elementary, Named}
use Rattle.st_types.specs.declared.data_type.VariableType.{VariableType}
use Rattle.st_types.specs.declared.data_type.VariableType.TheVariants as types
use Rattle.st_types.specs.Expressions.{Expr, literal, read, call, parenthesis, unary, binary, Exprs, no_exprs}
use Rattle.st_types.specs.Expressions.{expr_then, Variable, variable, no_selectors, selector_then}
use Rattle.st_meaning.specs.Scopes.{Name}
use Rattle.st_meaning.specs.Enumerations.{Enumeration, enumerations_of, enumeration_named, kind_of_enumeration}
use Rattle.st_meaning.specs.NameTypes.{Declared, type_named}
use Rattle.st_meaning.specs.Resolution.{is_joining, taken_kind, common_kind, standard_kind}
use Rattle.st_rules.specs.Readings.{Reading, value, unknown, ambiguous, reading_of_name, reading_written}
use Rattle.st_rules.specs.Environments.{Environment, Callee, standard, own, callee_of, type_of_name, type_of_place}
use Rattle.st_rules.specs.Environments.{is_block}
use Rattle.st_rules.specs.declared.demand.Sorts.{Sorts}
use Rattle.st_rules.specs.declared.demand.Demand.{Demand}
use Rattle.st_rules.specs.declared.demand.Demand.TheVariants.{Operand as operand, Asked as asked}
use Rattle.st_rules.specs.declared.typings.Typing.{Typing}
use Rattle.st_rules.specs.declared.typings.Typing.TheVariants.{Untyped as untyped, Elementary as elementary}
use Rattle.st_rules.specs.declared.typings.Typing.TheVariants.{Composite as composite, Nothing as nothing}
use Rattle.st_rules.specs.Demands.{in_sorts, is_kind}

-- a type that is named: an enumerated one, another type or a block, or a name that isn't a type
abbrev pub typing_of_named : Declared → Name → Option Enumeration → Typing
typing_of_named text x (Some e) = elementary (kind_of_enumeration e)
typing_of_named text x None =
    if is_some (type_named text.types x) || is_block text x then composite else nothing

abbrev pub typing_of_type : Declared → Option VariableType → Typing
typing_of_type text None = nothing
typing_of_type text (Some (types.Simple (Elementary k at))) = elementary k
typing_of_type text (Some (types.Simple (Named x))) =
    typing_of_named text x.name (enumeration_named (enumerations_of text.types) x.name)
typing_of_type text (Some (types.Array a)) = composite

abbrev pub kind_of : Typing → Option Kind
kind_of untyped = None
kind_of (elementary k) = Some k
kind_of composite = None
kind_of nothing = None

abbrev pub is_untyped_typing : Typing → Bool
is_untyped_typing untyped = true
is_untyped_typing (elementary k) = false
is_untyped_typing composite = false
is_untyped_typing nothing = false

abbrev pub is_composite : Typing → Bool
is_composite composite = true
is_composite _ = false

abbrev pub is_nothing : Typing → Bool
is_nothing nothing = true
is_nothing _ = false

abbrev pub typing_of_kind : Option Kind → Typing
typing_of_kind None = nothing
typing_of_kind (Some k) = elementary k

abbrev pub typing_of_number : Option Kind → Typing
typing_of_number None = untyped
typing_of_number (Some k) = elementary k

abbrev pub typing_of_reading : Reading → Typing
typing_of_reading (value m) = elementary m.kind
typing_of_reading unknown = nothing
typing_of_reading ambiguous = nothing

abbrev pub typing_of_literal : Declared → Literal → Typing
typing_of_literal text (literals.Number n) = typing_of_number n.written
typing_of_literal text (literals.Truth at b) = elementary Boolean
typing_of_literal text (literals.Duration at n) = elementary Time
typing_of_literal text (literals.Enumerated v) = typing_of_reading (reading_written text v)

abbrev pub typing_of_variable : Environment → Variable → Typing
typing_of_variable env v = typing_of_type env.text (type_of_place env v)

-- a name alone is a variable if the unit has one, else a value of an enumerated type
abbrev pub typing_of_alone : Environment → Name → Option VariableType → Typing
typing_of_alone env x (Some t) = typing_of_type env.text (Some t)
typing_of_alone env x None = typing_of_reading (reading_of_name env.text x)

abbrev pub typing_of_read : Environment → Variable → Typing
typing_of_read env (variable x no_selectors) = typing_of_alone env x.name (type_of_name env x.name)
typing_of_read env (variable x (selector_then y ys)) = typing_of_variable env (variable x (selector_then y ys))

-- the type of an operation that joins two operands: that of the operand that has one
abbrev pub joined : Typing → Typing → Typing
joined (elementary k) u = elementary k
joined untyped u = u
joined composite (elementary k) = elementary k
joined composite _ = composite
joined nothing (elementary k) = elementary k
joined nothing _ = nothing

abbrev pub kinds_of : List Typing → List (Option Kind)
kinds_of [] = []
kinds_of (t ∷ ts) = kind_of t ∷ kinds_of ts

-- the type of a call's result
abbrev pub typing_of_callee : Option Callee → List (Option Kind) → Typing
typing_of_callee None ks = nothing
typing_of_callee (Some (standard std)) ks = typing_of_kind (standard_kind std ks)
typing_of_callee (Some (own inputs result)) ks = typing_of_kind result

abbrev mutual
  pub typing_of : Environment → Expr → Typing
  typing_of env (literal l) = typing_of_literal env.text l
  typing_of env (read v) = typing_of_read env v
  typing_of env (call f es) = typing_of_callee (callee_of env f.name) (kinds_of (typings_of env es))
  typing_of env (parenthesis at e) = typing_of env e
  typing_of env (unary op at e) = typing_of env e
  typing_of env (binary op l r) =
      if is_joining op then joined (typing_of env l) (typing_of env r) else elementary Boolean

  pub typings_of : Environment → Exprs → List Typing
  typings_of env no_exprs = []
  typings_of env (expr_then e es) = typing_of env e ∷ typings_of env es

-- at a place that expects a type: an untyped expression takes it
abbrev pub settled : Option Kind → Typing → Typing
settled k untyped = elementary (taken_kind k)
settled k (elementary l) = elementary l
settled k composite = composite
settled k nothing = nothing

-- a type of these sorts, and the expected one; an expression with an unknown name has each: only the name is reported
abbrev pub fits : Option Kind → Sorts → Typing → Bool
fits k ss untyped = false
fits k ss (elementary l) = is_kind k l && in_sorts ss (row_of l).sort
fits k ss composite = false
fits k ss nothing = true

-- the typing meets the place's demand
abbrev pub allows : Demand → Typing → Bool
allows (operand k) t = true
allows (asked k ss p) t = fits k ss t

-- operands of one type, of these sorts
abbrev pub are_operands : Sorts → Typing → Typing → Bool
are_operands ss nothing u = true
are_operands ss (elementary k) nothing = true
are_operands ss (elementary k) (elementary l) = same_kind k l && in_sorts ss (row_of k).sort
are_operands ss (elementary k) _ = false
are_operands ss composite nothing = true
are_operands ss composite _ = false
are_operands ss untyped nothing = true
are_operands ss untyped _ = false

-- the common type of a standard function's operands
abbrev pub common_of : Option Callee → List (Option Kind) → Option Kind
common_of (Some (standard std)) ks = common_kind std ks
common_of (Some (own inputs result)) ks = None
common_of None ks = None
