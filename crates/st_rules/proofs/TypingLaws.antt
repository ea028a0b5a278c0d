-- The typing of an expression and its own kind determine each other.
use Rattle.std.proofs.Common.{◌≡◌, Bool, true, false, ◌&&◌, List, [], ◌∷◌, Option, Some, None, refl, ap, ◌∙◌}
use Rattle.std.specs.Prelude.{if◌then◌else◌, option_and_then, option_map, is_some}
use Rattle.st_types.specs.declared.kind.Kind.{Kind}
use Rattle.st_types.specs.declared.kind.Kind.TheVariants.{Bool as Boolean}
use Rattle.st_types.specs.declared.literal.Literal.{Literal}
use Rattle.st_types.specs.declared.literal.Literal.TheVariants as literals
use Rattle.st_types.specs.declared.data_type.SimpleType.TheVariants.{Elementary, Named}
use Rattle.st_types.specs.declared.data_type.VariableType.{VariableType}
use Rattle.st_types.specs.declared.data_type.VariableType.TheVariants as types
use Rattle.st_types.specs.declared.unit.UnitSort.{UnitSort}
use Rattle.st_types.specs.declared.unit.UnitSort.TheVariants.{Function, FunctionBlock, Program}
use Rattle.st_types.specs.Declarations.{VariableBlock}
use Rattle.st_types.specs.Units.{OrganisationUnit}
use Rattle.st_types.specs.Expressions.{Expr, literal, read, call, parenthesis, unary, binary, Exprs, no_exprs}
use Rattle.st_types.specs.Expressions.{expr_then, Variable, variable, no_selectors, selector_then}
use Rattle.st_meaning.specs.Scopes.{Name}
use Rattle.st_meaning.specs.Enumerations.{Enumeration, Member, enumerations_of, enumeration_named, kind_of_enumeration}
use Rattle.st_meaning.specs.Enumerations.{member_of_type, members_named, only_one}
use Rattle.st_meaning.specs.NameTypes.{Declared, kind_among, unit_named, result_kind}
use Rattle.st_meaning.specs.Operators.{or_kind}
use Rattle.st_meaning.specs.StandardFunctions.{Standard, standard_of}
use Rattle.st_meaning.specs.Resolution.{own_kind, own_kinds, is_untyped, is_untyped_literal, kind_of_literal}
use Rattle.st_meaning.specs.Resolution.{standard_kind, result_of_unit, is_joining}
use Rattle.st_rules.specs.Readings.{Reading, reading_among, reading_of, reading_of_name, reading_written}
use Rattle.st_rules.specs.Readings as readings
use Rattle.st_rules.specs.Environments.{Environment, Callee, standard, own, callee_of, callee_of_sort, type_of_name}
use Rattle.st_rules.specs.Environments.{type_of_place}
use Rattle.st_rules.specs.declared.typings.Typing.{Typing}
use Rattle.st_rules.specs.declared.typings.Typing.TheVariants.{Untyped as untyped, Elementary as elementary}
use Rattle.st_rules.specs.declared.typings.Typing.TheVariants.{Composite as composite, Nothing as nothing}
use Rattle.st_rules.specs.Typings.{typing_of_named, typing_of_type, kind_of, is_untyped_typing, typing_of_kind}
use Rattle.st_rules.specs.Typings.{typing_of_number, typing_of_reading, typing_of_literal}
use Rattle.st_rules.specs.Typings.{typing_of_alone, typing_of_read, joined, kinds_of, typing_of_callee, typing_of}
use Rattle.st_rules.specs.Typings.{typings_of}

kind_of_other : (b : Bool) → None ≡ kind_of (if b then composite else nothing)
kind_of_other true = refl
kind_of_other false = refl

kind_of_named : (text : Declared) (x : Name) (o : Option Enumeration)
    → option_map kind_of_enumeration o ≡ kind_of (typing_of_named text x o)
kind_of_named text x (Some e) = refl
kind_of_named text x None = kind_of_other _

pub kind_of_declared : (text : Declared) (o : Option VariableType)
    → option_and_then (kind_among text.types) o ≡ kind_of (typing_of_type text o)
kind_of_declared text None = refl
kind_of_declared text (Some (types.Simple (Elementary k at))) = refl
kind_of_declared text (Some (types.Simple (Named x))) =
    kind_of_named text x.name (enumeration_named (enumerations_of text.types) x.name)
kind_of_declared text (Some (types.Array a)) = refl

kind_of_written : (o : Option Kind) → o ≡ kind_of (typing_of_number o)
kind_of_written None = refl
kind_of_written (Some k) = refl

kind_back : (o : Option Kind) → o ≡ kind_of (typing_of_kind o)
kind_back None = refl
kind_back (Some k) = refl

kind_of_only : (ms : List Member)
    → option_map (λ m. m.kind) (only_one ms) ≡ kind_of (typing_of_reading (reading_among ms))
kind_of_only [] = refl
kind_of_only (m ∷ []) = refl
kind_of_only (m ∷ n ∷ rest) = refl

kind_of_member : (o : Option Member) → option_map (λ m. m.kind) o ≡ kind_of (typing_of_reading (reading_of o))
kind_of_member None = refl
kind_of_member (Some m) = refl

kind_of_value_of : (text : Declared) (x : Name) (o : Option Name)
    → option_map (λ m. m.kind)
    (elim o [ Some t ↦ member_of_type text.types t x | None ↦ only_one (members_named (enumerations_of text.types) x) ])
    ≡ kind_of (typing_of_reading
    (elim o [ Some t ↦ reading_of (member_of_type text.types t x) | None ↦ reading_of_name text x ]))
kind_of_value_of text x None = kind_of_only (members_named (enumerations_of text.types) x)
kind_of_value_of text x (Some t) = kind_of_member (member_of_type text.types t x)

kind_of_spelled : (text : Declared) (l : Literal)
    → kind_of_literal text.types l ≡ kind_of (typing_of_literal text l)
kind_of_spelled text (literals.Number n) = kind_of_written n.written
kind_of_spelled text (literals.Truth at b) = refl
kind_of_spelled text (literals.Duration at n) = refl
kind_of_spelled text (literals.Enumerated v) = kind_of_value_of text v.name v.type_name

pub or_nothing : (o : Option Kind) → or_kind o None ≡ o
or_nothing None = refl
or_nothing (Some k) = refl

kind_of_alone : (env : Environment) (x : Name) (o : Option VariableType)
    → or_kind (option_and_then (kind_among env.text.types) o)
    (option_map (λ m. m.kind) (if is_some o then None else only_one (members_named (enumerations_of env.text.types) x)))
    ≡ kind_of (typing_of_alone env x o)
kind_of_alone env x None = kind_of_only (members_named (enumerations_of env.text.types) x)
kind_of_alone env x (Some t) = or_nothing (kind_among env.text.types t) ∙ kind_of_declared env.text (Some t)

-- `option_and_then Some` changes nothing
type_itself : (o : Option VariableType) → option_and_then Some o ≡ o
type_itself None = refl
type_itself (Some t) = refl

kind_of_read : (env : Environment) (v : Variable) → own_kind env.text env.unit (read v) ≡ kind_of (typing_of_read env v)
kind_of_read env (variable x no_selectors) =
    rw (type_itself (type_of_name env x.name)) (kind_of_alone env x.name (type_of_name env x.name))
kind_of_read env (variable x (selector_then y ys)) =
    or_nothing _ ∙ kind_of_declared env.text (type_of_place env (variable x (selector_then y ys)))

kind_of_joined : (t u : Typing) → or_kind (kind_of t) (kind_of u) ≡ kind_of (joined t u)
kind_of_joined (elementary k) u = refl
kind_of_joined untyped u = refl
kind_of_joined composite (elementary k) = refl
kind_of_joined composite untyped = refl
kind_of_joined composite composite = refl
kind_of_joined composite nothing = refl
kind_of_joined nothing (elementary k) = refl
kind_of_joined nothing untyped = refl
kind_of_joined nothing composite = refl
kind_of_joined nothing nothing = refl

kind_of_sort : (text : Declared) (s : UnitSort) (bs : List VariableBlock) (ks : List (Option Kind))
    → result_kind text s ≡ kind_of (typing_of_callee (callee_of_sort text s bs) ks)
kind_of_sort text (Function t) bs ks = kind_back (result_kind text (Function t))
kind_of_sort text FunctionBlock bs ks = refl
kind_of_sort text Program bs ks = refl

kind_of_unit : (text : Declared) (o : Option OrganisationUnit) (ks : List (Option Kind)) → result_of_unit text o
    ≡ kind_of (typing_of_callee (option_and_then (λ u. callee_of_sort text u.sort u.blocks) o) ks)
kind_of_unit text None ks = refl
kind_of_unit text (Some u) ks = kind_of_sort text u.sort u.blocks ks

kind_of_call : (text : Declared) (s : Option Standard) (o : Option OrganisationUnit) (ls ks : List (Option Kind))
    → ls ≡ ks → elim s [ Some std ↦ standard_kind std ls | None ↦ result_of_unit text o ]
    ≡ kind_of (typing_of_callee (elim s [
      | Some std ↦ Some (standard std)
      | None ↦ option_and_then (λ u. callee_of_sort text u.sort u.blocks) o
    ]) ks)
kind_of_call text (Some std) o ls ks h = ap (standard_kind std) h ∙ kind_back (standard_kind std ks)
kind_of_call text None o ls ks h = kind_of_unit text o ks

kind_of_operation : (b : Bool) (k l : Option Kind) (t u : Typing) → k ≡ kind_of t → l ≡ kind_of u
    → (if b then or_kind k l else Some Boolean) ≡ kind_of (if b then joined t u else elementary Boolean)
kind_of_operation true k l t u p q = rw (p, q) (kind_of_joined t u)
kind_of_operation false k l t u p q = refl

mutual
  pub kinds_told : (env : Environment) (e : Expr) → own_kind env.text env.unit e ≡ kind_of (typing_of env e)
  kinds_told env (literal l) = kind_of_spelled env.text l
  kinds_told env (read v) = kind_of_read env v
  kinds_told env (call f es) = kind_of_call env.text (standard_of f.name) (unit_named env.text.units f.name)
      (own_kinds env.text env.unit es) (kinds_of (typings_of env es)) (all_kinds_told env es)
  kinds_told env (parenthesis at e) = kinds_told env e
  kinds_told env (unary op at e) = kinds_told env e
  kinds_told env (binary op l r) = kind_of_operation (is_joining op) _ _ (typing_of env l) (typing_of env r)
      (kinds_told env l) (kinds_told env r)

  pub all_kinds_told : (env : Environment) (es : Exprs) → own_kinds env.text env.unit es ≡ kinds_of (typings_of env es)
  all_kinds_told env no_exprs = refl
  all_kinds_told env (expr_then e es) = rw (kinds_told env e, all_kinds_told env es) refl

untyped_other : (b : Bool) → false ≡ is_untyped_typing (if b then composite else nothing)
untyped_other true = refl
untyped_other false = refl

untyped_named : (text : Declared) (x : Name) (o : Option Enumeration)
    → false ≡ is_untyped_typing (typing_of_named text x o)
untyped_named text x (Some e) = refl
untyped_named text x None = untyped_other _

pub untyped_declared : (text : Declared) (o : Option VariableType) → false ≡ is_untyped_typing (typing_of_type text o)
untyped_declared text None = refl
untyped_declared text (Some (types.Simple (Elementary k at))) = refl
untyped_declared text (Some (types.Simple (Named x))) =
    untyped_named text x.name (enumeration_named (enumerations_of text.types) x.name)
untyped_declared text (Some (types.Array a)) = refl

untyped_written : (o : Option Kind) → elim o [ Some k ↦ false | None ↦ true ] ≡ is_untyped_typing (typing_of_number o)
untyped_written None = refl
untyped_written (Some k) = refl

untyped_reading : (r : Reading) → false ≡ is_untyped_typing (typing_of_reading r)
untyped_reading (readings.value m) = refl
untyped_reading readings.unknown = refl
untyped_reading readings.ambiguous = refl

untyped_spelled : (text : Declared) (l : Literal) → is_untyped_literal l ≡ is_untyped_typing (typing_of_literal text l)
untyped_spelled text (literals.Number n) = untyped_written n.written
untyped_spelled text (literals.Truth at b) = refl
untyped_spelled text (literals.Duration at n) = refl
untyped_spelled text (literals.Enumerated v) = untyped_reading (reading_written text v)

untyped_alone : (env : Environment) (x : Name) (o : Option VariableType)
    → false ≡ is_untyped_typing (typing_of_alone env x o)
untyped_alone env x None = untyped_reading (reading_of_name env.text x)
untyped_alone env x (Some t) = untyped_declared env.text (Some t)

untyped_read : (env : Environment) (v : Variable) → false ≡ is_untyped_typing (typing_of_read env v)
untyped_read env (variable x no_selectors) = untyped_alone env x.name (type_of_name env x.name)
untyped_read env (variable x (selector_then y ys)) =
    untyped_declared env.text (type_of_place env (variable x (selector_then y ys)))

never_untyped : (o : Option Kind) → false ≡ is_untyped_typing (typing_of_kind o)
never_untyped None = refl
never_untyped (Some k) = refl

untyped_called : (c : Option Callee) (ks : List (Option Kind)) → false ≡ is_untyped_typing (typing_of_callee c ks)
untyped_called None ks = refl
untyped_called (Some (standard std)) ks = never_untyped (standard_kind std ks)
untyped_called (Some (own inputs result)) ks = never_untyped result

untyped_joined : (t u : Typing) → (is_untyped_typing t && is_untyped_typing u) ≡ is_untyped_typing (joined t u)
untyped_joined (elementary k) u = refl
untyped_joined untyped u = refl
untyped_joined composite (elementary k) = refl
untyped_joined composite untyped = refl
untyped_joined composite composite = refl
untyped_joined composite nothing = refl
untyped_joined nothing (elementary k) = refl
untyped_joined nothing untyped = refl
untyped_joined nothing composite = refl
untyped_joined nothing nothing = refl

untyped_operation : (b c d : Bool) (t u : Typing) → c ≡ is_untyped_typing t → d ≡ is_untyped_typing u
    → (b && c && d) ≡ is_untyped_typing (if b then joined t u else elementary Boolean)
untyped_operation true c d t u p q = rw (p, q) (untyped_joined t u)
untyped_operation false c d t u p q = refl

pub untyped_told : (env : Environment) (e : Expr) → is_untyped e ≡ is_untyped_typing (typing_of env e)
untyped_told env (literal l) = untyped_spelled env.text l
untyped_told env (read v) = untyped_read env v
untyped_told env (call f es) = untyped_called (callee_of env f.name) (kinds_of (typings_of env es))
untyped_told env (parenthesis at e) = untyped_told env e
untyped_told env (unary op at e) = untyped_told env e
untyped_told env (binary op l r) = untyped_operation (is_joining op) (is_untyped l) (is_untyped r) (typing_of env l)
    (typing_of env r) (untyped_told env l) (untyped_told env r)
