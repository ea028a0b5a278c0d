-- Statements, initial values and units in which each untyped literal has its type.
use Rattle.std.specs.Prelude.{map, Option, Some, None, option_map, option_and_then}
use Rattle.st_types.specs.declared.kind.Kind.{Kind}
use Rattle.st_types.specs.declared.kind.Kind.TheVariants.{Bool as Boolean}
use Rattle.st_types.specs.declared.statement.Label.{Label}
use Rattle.st_types.specs.declared.statement.Label.TheVariants.{Single, Range, Enumerated}
use Rattle.st_types.specs.declared.data_type.ArrayType.{ArrayType}
use Rattle.st_types.specs.declared.data_type.VariableType.{VariableType}
use Rattle.st_types.specs.declared.data_type.VariableType.TheVariants as variable_types
use Rattle.st_types.specs.Statements.{Argument, given, copied, Stmt, empty, assign, invoke, IF, CASE, FOR, WHILE}
use Rattle.st_types.specs.Statements.{REPEAT, EXIT, RETURN, Stmts, no_stmts, stmt_then, Arms, no_arms, arm_then}
use Rattle.st_types.specs.Statements.{CaseArms, no_case_arms, case_arm_then}
use Rattle.st_types.specs.Initials.{Initial, constant, list, structure, Element, single, repeated, defaults, Elements}
use Rattle.st_types.specs.Initials.{no_elements, element_then, Members, no_members, member_then}
use Rattle.st_types.specs.Declarations as declared_as
use Rattle.st_types.specs.Declarations.{Field, TypeDefinition, TypeDeclaration, Declaration, VariableBlock}
use Rattle.st_types.specs.Units.{OrganisationUnit}
use Rattle.st_types.specs.Configurations.{GlobalDeclaration, GlobalBlock}
use Rattle.st_types.specs.Sources.{LibraryElement, types, unit, configuration, Source}
use Rattle.st_meaning.specs.Scopes.{Name}
use Rattle.st_meaning.specs.NameTypes.{Declared, declared_in, variable_type, kind_among, kind_of_variable, input_kind}
use Rattle.st_meaning.specs.Enumerations.{member_written, number_of_member}
use Rattle.st_meaning.specs.NameTypes.{definition_of, element_type, field_type}
use Rattle.st_meaning.specs.Resolution.{own_kind, taken_kind, taking_number, taking_literal, resolved_expr}
use Rattle.st_meaning.specs.Resolution.{resolved_variable}

-- the elementary or enumerated type that is there
abbrev pub kind_there : Declared → Option VariableType → Option Kind
kind_there text t = option_and_then (kind_among text.types) t

-- a label takes the selector's type; a name is a value of an enumerated type, whatever variables there are
abbrev pub resolved_label : Declared → Option Kind → Label → Label
resolved_label text k (Single n) = Single (taking_number (taken_kind k) n)
resolved_label text k (Range a b) = Range (taking_number (taken_kind k) a) (taking_number (taken_kind k) b)
resolved_label text k (Enumerated v) = elim (member_written text.types v)
    [ Some m ↦ Single (number_of_member v.place m) | None ↦ Enumerated v ]

-- an argument of a call of an instance takes the type of its input
abbrev pub resolved_argument : Declared → OrganisationUnit → Name → Argument → Argument
resolved_argument text u instance (given x e) = given x (resolved_expr text u (input_kind text u instance x.name) e)
resolved_argument text u instance (copied x v) = copied x (resolved_variable text u v)

-- conditions expect a BOOL, and a selector nothing; the control variable's type is expected of start, limit and step
abbrev mutual
  pub resolved_stmt : Declared → OrganisationUnit → Stmt → Stmt
  resolved_stmt text u empty = empty
  resolved_stmt text u (assign v e) =
      assign (resolved_variable text u v) (resolved_expr text u (kind_of_variable text u v) e)
  resolved_stmt text u (invoke x arguments) = invoke x (map (resolved_argument text u x.name) arguments)
  resolved_stmt text u (IF arms otherwise) = IF (resolved_arms text u arms) (resolved_stmts text u otherwise)
  resolved_stmt text u (CASE e arms otherwise) = CASE (resolved_expr text u None e)
      (resolved_case_arms text u (own_kind text u e) arms) (resolved_stmts text u otherwise)
  resolved_stmt text u (FOR x start limit step body) =
      FOR x (resolved_expr text u (kind_there text (variable_type u x.name)) start)
      (resolved_expr text u (kind_there text (variable_type u x.name)) limit)
      (option_map (resolved_expr text u (kind_there text (variable_type u x.name))) step)
      (resolved_stmts text u body)
  resolved_stmt text u (WHILE e body) = WHILE (resolved_expr text u (Some Boolean) e) (resolved_stmts text u body)
  resolved_stmt text u (REPEAT body e) = REPEAT (resolved_stmts text u body) (resolved_expr text u (Some Boolean) e)
  resolved_stmt text u (EXIT at) = EXIT at
  resolved_stmt text u RETURN = RETURN

  pub resolved_stmts : Declared → OrganisationUnit → Stmts → Stmts
  resolved_stmts text u no_stmts = no_stmts
  resolved_stmts text u (stmt_then x xs) = stmt_then (resolved_stmt text u x) (resolved_stmts text u xs)

  pub resolved_arms : Declared → OrganisationUnit → Arms → Arms
  resolved_arms text u no_arms = no_arms
  resolved_arms text u (arm_then e body arms) =
      arm_then (resolved_expr text u (Some Boolean) e) (resolved_stmts text u body) (resolved_arms text u arms)

  pub resolved_case_arms : Declared → OrganisationUnit → Option Kind → CaseArms → CaseArms
  resolved_case_arms text u k no_case_arms = no_case_arms
  resolved_case_arms text u k (case_arm_then labels body arms) =
      case_arm_then (map (resolved_label text k) labels) (resolved_stmts text u body) (resolved_case_arms text u k arms)

-- the type of a list's elements, and of a structure's field
abbrev pub element_of : Declared → Option VariableType → Option VariableType
element_of text None = None
element_of text (Some t) = element_type (definition_of text t)

abbrev pub field_in : Option TypeDefinition → Name → Option VariableType
field_in (Some (declared_as.structure fields)) x = field_type fields x
field_in (Some (declared_as.array a)) x = None
field_in (Some (declared_as.enumeration names)) x = None
field_in None x = None

abbrev pub field_of : Declared → Option VariableType → Name → Option VariableType
field_of text None x = None
field_of text (Some t) x = field_in (definition_of text t) x

-- an initial value of a variable of a type; a count that is untyped is a LINT
abbrev mutual
  pub resolved_initial : Declared → Option VariableType → Initial → Initial
  resolved_initial text t (constant l) = constant (taking_literal text.types (taken_kind (kind_there text t)) l)
  resolved_initial text t (list at xs) = list at (resolved_elements text (element_of text t) xs)
  resolved_initial text t (structure at xs) = structure at (resolved_members text t xs)

  pub resolved_element : Declared → Option VariableType → Element → Element
  resolved_element text t (single x) = single (resolved_initial text t x)
  resolved_element text t (repeated n x) = repeated (taking_number (taken_kind None) n) (resolved_initial text t x)
  resolved_element text t (defaults n) = defaults (taking_number (taken_kind None) n)

  pub resolved_elements : Declared → Option VariableType → Elements → Elements
  resolved_elements text t no_elements = no_elements
  resolved_elements text t (element_then x xs) = element_then (resolved_element text t x) (resolved_elements text t xs)

  pub resolved_members : Declared → Option VariableType → Members → Members
  resolved_members text t no_members = no_members
  resolved_members text t (member_then x v rest) =
      member_then x (resolved_initial text (field_of text t x.name) v) (resolved_members text t rest)

-- an array's bounds that are untyped are LINTs
abbrev pub resolved_array : ArrayType → ArrayType
resolved_array a =
    record a { lower = taking_number (taken_kind None) a.lower; upper = taking_number (taken_kind None) a.upper }

abbrev pub resolved_type : VariableType → VariableType
resolved_type (variable_types.Simple t) = variable_types.Simple t
resolved_type (variable_types.Array a) = variable_types.Array (resolved_array a)

abbrev pub resolved_declaration : Declared → Declaration → Declaration
resolved_declaration text d = record {
  names = d.names;
  declared = resolved_type d.declared;
  initial =
      option_map (resolved_initial text (Some d.declared)) d.initial;
}

abbrev pub resolved_block : Declared → VariableBlock → VariableBlock
resolved_block text b = record { section = b.section; declarations = map (resolved_declaration text) b.declarations }

-- a unit of a text
abbrev pub resolved : Declared → OrganisationUnit → OrganisationUnit
resolved text u = record {
  sort = u.sort;
  name = u.name;
  blocks = map (resolved_block text) u.blocks;
  body =
      map (resolved_stmt text u) u.body;
}

abbrev pub resolved_field : Declared → Field → Field
resolved_field text f = record {
  name = f.name;
  declared = resolved_type f.declared;
  initial =
      option_map (resolved_initial text (Some f.declared)) f.initial;
}

abbrev pub resolved_definition : Declared → TypeDefinition → TypeDefinition
resolved_definition text (declared_as.array a) = declared_as.array (resolved_array a)
resolved_definition text (declared_as.structure fields) = declared_as.structure (map (resolved_field text) fields)
resolved_definition text (declared_as.enumeration names) = declared_as.enumeration names

abbrev pub resolved_type_declaration : Declared → TypeDeclaration → TypeDeclaration
resolved_type_declaration text t = record { name = t.name; definition = resolved_definition text t.definition }

abbrev pub resolved_global : Declared → GlobalDeclaration → GlobalDeclaration
resolved_global text d = record {
  names = d.names;
  declared = resolved_type d.declared;
  initial =
      option_map (resolved_initial text (Some d.declared)) d.initial;
}

abbrev pub resolved_globals : Declared → GlobalBlock → GlobalBlock
resolved_globals text b = record { qualifier = b.qualifier; declarations = map (resolved_global text) b.declarations }

abbrev pub resolved_element_of_text : Declared → LibraryElement → LibraryElement
resolved_element_of_text text (types ts) = types (map (resolved_type_declaration text) ts)
resolved_element_of_text text (unit u) = unit (resolved text u)
resolved_element_of_text text (configuration c) =
    configuration (record c { globals = map (resolved_globals text) c.globals })

-- a whole text
abbrev pub resolved_source : Source → Source
resolved_source source = map (resolved_element_of_text (declared_in source)) source
