-- The parts of units and types, and how deep they are.
use Rattle.std.specs.Prelude.{ℕ, suc, zero, ◌+◌, ◌*◌, List, [], ◌∷◌, ◌++◌, map, length, Bool, true, false, ◌||◌}
use Rattle.std.specs.Prelude.{if◌then◌else◌}
use Rattle.std.specs.Prelude.{Option, Some, None, is_some, bytes_eq}
use Rattle.std.specs.List.{flat_map, list_any, filter}
use Rattle.st_types.specs.declared.data_type.SimpleType.{SimpleType}
use Rattle.st_types.specs.declared.data_type.SimpleType.TheVariants.{Elementary, Named}
use Rattle.st_types.specs.declared.data_type.ArrayType.{ArrayType}
use Rattle.st_types.specs.declared.data_type.VariableType.{VariableType}
use Rattle.st_types.specs.declared.data_type.VariableType.TheVariants as types
use Rattle.st_types.specs.declared.unit.UnitSort.{UnitSort}
use Rattle.st_types.specs.declared.unit.UnitSort.TheVariants.{Function, FunctionBlock, Program}
use Rattle.st_types.specs.Expressions.{Expr, literal, read, call, parenthesis, unary, binary, Exprs, no_exprs}
use Rattle.st_types.specs.Expressions.{expr_then, Variable, variable, Selector, member, subscript, Selectors}
use Rattle.st_types.specs.Expressions.{no_selectors, selector_then}
use Rattle.st_types.specs.Statements.{Argument, given, copied, Stmt, assign, invoke, IF, CASE, FOR, WHILE}
use Rattle.st_types.specs.Statements.{REPEAT, Arms, no_arms, arm_then}
use Rattle.st_types.specs.Declarations as declared_as
use Rattle.st_types.specs.Declarations.{TypeDefinition, VariableBlock}
use Rattle.st_types.specs.Units.{OrganisationUnit}
use Rattle.st_types.specs.Sources.{Source}
use Rattle.st_meaning.specs.Scopes.{Name}
use Rattle.st_meaning.specs.StandardBlocks.{block_of}
use Rattle.st_meaning.specs.Bodies.{is_external}
use Rattle.st_meaning.specs.NameTypes.{Declared, declared_in, unit_named, type_named}
use Rattle.st_rules.specs.declared.limits.TheConstants.{MAX_TYPE_DEPTH}
use Rattle.st_rules.specs.declared.reason.Reason.{Reason}
use Rattle.st_rules.specs.declared.reason.Reason.TheVariants.{ContainsItself, TooDeep}
use Rattle.st_rules.specs.declared.rule.Broken.{Broken}
use Rattle.st_rules.specs.Faults.{breaking, in_case}
use Rattle.st_rules.specs.Statements.{statements_in}
use Rattle.st_rules.specs.DeclaredTypes.{unnamed_arrays_in}

-- a part: an elementary type, a unit or type by its name, or an array without a name, by its element
pub data Part : Type 0 where
  elementary : Part
  named : Name → Part
  row : SimpleType → Part

abbrev pub part_of_simple : SimpleType → Part
part_of_simple (Elementary k at) = elementary
part_of_simple (Named x) = named x.name

abbrev pub part_of_type : VariableType → Part
part_of_type (types.Simple t) = part_of_simple t
part_of_type (types.Array a) = row a.element

-- the functions that an expression calls, by their names
abbrev mutual
  pub calls_in : Expr → List Name
  calls_in (literal l) = []
  calls_in (read v) = calls_in_variable v
  calls_in (call f es) = f.name ∷ calls_in_all es
  calls_in (parenthesis at e) = calls_in e
  calls_in (unary op at e) = calls_in e
  calls_in (binary op l r) = calls_in l ++ calls_in r

  pub calls_in_all : Exprs → List Name
  calls_in_all no_exprs = []
  calls_in_all (expr_then e es) = calls_in e ++ calls_in_all es

  pub calls_in_variable : Variable → List Name
  calls_in_variable (variable x xs) = calls_in_selectors xs

  pub calls_in_selectors : Selectors → List Name
  calls_in_selectors no_selectors = []
  calls_in_selectors (selector_then x xs) = calls_in_selector x ++ calls_in_selectors xs

  pub calls_in_selector : Selector → List Name
  calls_in_selector (member x) = []
  calls_in_selector (subscript e) = calls_in e

abbrev pub calls_in_argument : Argument → List Name
calls_in_argument (given x e) = calls_in e
calls_in_argument (copied x v) = calls_in_variable v

abbrev pub calls_in_conditions : Arms → List Name
calls_in_conditions no_arms = []
calls_in_conditions (arm_then e body arms) = calls_in e ++ calls_in_conditions arms

abbrev pub calls_in_step : Option Expr → List Name
calls_in_step None = []
calls_in_step (Some e) = calls_in e

-- the functions that a statement's own expressions call
abbrev pub calls_in_statement : Stmt → List Name
calls_in_statement (assign v e) = calls_in_variable v ++ calls_in e
calls_in_statement (invoke x arguments) = flat_map calls_in_argument arguments
calls_in_statement (IF arms otherwise) = calls_in_conditions arms
calls_in_statement (CASE e arms otherwise) = calls_in e
calls_in_statement (FOR x start limit step body) = calls_in start ++ calls_in limit ++ calls_in_step step
calls_in_statement (WHILE e body) = calls_in e
calls_in_statement (REPEAT body e) = calls_in e
calls_in_statement _ = []

-- all functions that a unit calls
abbrev pub calls_of : OrganisationUnit → List Name
calls_of u = flat_map (λ p. calls_in_statement p.statement) (statements_in u)

abbrev pub is_function_sort : UnitSort → Bool
is_function_sort (Function t) = true
is_function_sort FunctionBlock = false
is_function_sort Program = false

abbrev pub is_own_function : Option OrganisationUnit → Bool
is_own_function None = false
is_own_function (Some u) = is_function_sort u.sort

-- a function of the text
abbrev pub is_function : Declared → Name → Bool
is_function text x = is_own_function (unit_named text.units x)

-- the variables of a unit but its externals, the result of a function, and the functions of the text that it calls
abbrev pub parts_of_block : VariableBlock → List Part
parts_of_block b = if is_external b.section then [] else map (λ d. part_of_type d.declared) b.declarations

abbrev pub part_of_result : UnitSort → List Part
part_of_result (Function t) = part_of_simple t ∷ []
part_of_result FunctionBlock = []
part_of_result Program = []

abbrev pub parts_of_unit : Declared → OrganisationUnit → List Part
parts_of_unit text u =
    flat_map parts_of_block u.blocks ++ part_of_result u.sort ++ map named (filter (is_function text) (calls_of u))

-- an enumerated type has no parts
abbrev pub parts_of_definition : TypeDefinition → List Part
parts_of_definition (declared_as.array a) = part_of_simple a.element ∷ []
parts_of_definition (declared_as.structure fields) = map (λ f. part_of_type f.declared) fields
parts_of_definition (declared_as.enumeration names) = []

-- a standard block has only elementary parts
abbrev pub parts_of_standard : Name → List Part
parts_of_standard x = if is_some (block_of x) then elementary ∷ [] else []

abbrev pub parts_named : Declared → Name → List Part
parts_named text x = elim (type_named text.types x) [
  | Some t ↦ parts_of_definition t
  | None ↦ elim (unit_named text.units x) [ Some u ↦ parts_of_unit text u | None ↦ parts_of_standard x ]
]

abbrev pub parts_of : Declared → Part → List Part
parts_of text elementary = []
parts_of text (named x) = parts_named text x
parts_of text (row t) = part_of_simple t ∷ []

-- A chain of `n` parts begins here: each is a part of the one before.
unfoldable pub has_chain : Declared → ℕ → Part → Bool
has_chain text zero p = true
has_chain text (suc zero) p = true
has_chain text (suc (suc n)) p = list_any (has_chain text (suc n)) (parts_of text p)

-- more than 64 deep, as is any part that contains itself
abbrev pub is_too_deep : Declared → Part → Bool
is_too_deep text p = has_chain text (MAX_TYPE_DEPTH + 1) p

abbrev pub is_part_named : Name → Part → Bool
is_part_named x elementary = false
is_part_named x (named y) = bytes_eq x y
is_part_named x (row t) = false

-- at most `n` steps from part to part lead to the name
unfoldable pub leads_to : Declared → ℕ → Name → Part → Bool
leads_to text zero x p = false
leads_to text (suc n) x p = list_any (λ q. is_part_named x q || leads_to text n x q) (parts_of text p)

-- A unit is a part of itself; no way there is longer than twice the number of the types and units, since between two
-- of them there is at most an array without a name.
abbrev pub contains_itself : Declared → Name → Bool
contains_itself text x = leads_to text (2 * (length text.types + length text.units)) x (named x)

-- a program's depth has no limit, but it isn't a part of itself
abbrev pub is_wrong_unit : Declared → UnitSort → Name → Bool
is_wrong_unit text (Function t) x = is_too_deep text (named x)
is_wrong_unit text FunctionBlock x = is_too_deep text (named x)
is_wrong_unit text Program x = contains_itself text x

-- why a type or unit is too deep
abbrev pub reason_of_depth : Declared → Name → Reason
reason_of_depth text x = if contains_itself text x then ContainsItself else TooDeep

abbrev pub too_deep_types : Declared → List Broken
too_deep_types text = flat_map (λ t. breaking (reason_of_depth text t.name.name)
    (in_case (is_too_deep text (named t.name.name)) t.name.place)) text.types

abbrev pub too_deep_units : Declared → List Broken
too_deep_units text = flat_map (λ u. breaking (reason_of_depth text u.name.name)
    (in_case (is_wrong_unit text u.sort u.name.name) u.name.place)) text.units

-- an array without a name, at its place
abbrev pub too_deep_array : Declared → ArrayType → List Broken
too_deep_array text a = breaking TooDeep (in_case (is_too_deep text (row a.element)) a.place)

abbrev pub too_deep : Source → List Broken
too_deep source =
    too_deep_types (declared_in source) ++ too_deep_units (declared_in source)
    ++ flat_map (too_deep_array (declared_in source)) (unnamed_arrays_in source)
