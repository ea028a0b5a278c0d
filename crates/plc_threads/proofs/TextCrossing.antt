-- The trees of a text, its paths and its values may cross threads.
use denote.RattleType.{RattleType}
use denote.Param.Send.{IsSend, IsSync, sendable}
use denote.Param.SendFields.{declared_send, declared_sync, variants_send, variants_sync}
use denote.Hole.FixSend.{Crosses, both_send, both_sync}
use Rattle.std.proofs.Crossing.{crosses}
use Rattle.std.specs.contracts.option.Option as Option
use Rattle.st_types.specs.contracts.kind.Kind as Kind
use Rattle.st_types.specs.contracts.name.Name as Name
use Rattle.st_types.specs.contracts.identifier.Identifier as Identifier
use Rattle.st_types.specs.contracts.literal.Number as Number
use Rattle.st_types.specs.contracts.literal.EnumeratedValue as EnumeratedValue
use Rattle.st_types.specs.contracts.literal.Literal as Literal
use Rattle.st_types.specs.contracts.expression.Expr.TheKnot as ExprKnot
use Rattle.st_types.specs.declared.expression.Expr.TheBlock.{the_members as expr_members, member-Expr}
use Rattle.st_types.specs.declared.expression.Expr.TheBlock.{member-Selector, member-Variable}
use Rattle.st_types.specs.contracts.expression.Variable as Variable
use Rattle.st_types.specs.contracts.expression.Expr as Expr
use Rattle.st_types.specs.contracts.initial.Initial.TheKnot as InitialKnot
use Rattle.st_types.specs.declared.initial.Initial.TheBlock.{the_members as initial_members, member-Initial}
use Rattle.st_types.specs.declared.initial.Initial.TheBlock.{member-InitialElement, member-InitialMember}
use Rattle.st_types.specs.contracts.initial.Initial as Initial
use Rattle.st_types.specs.contracts.data_type.SimpleType as SimpleType
use Rattle.st_types.specs.contracts.data_type.ArrayType as ArrayType
use Rattle.st_types.specs.contracts.data_type.VariableType as VariableType
use Rattle.st_types.specs.contracts.declaration.Declaration as Declaration
use Rattle.st_types.specs.contracts.declaration.VariableBlock as VariableBlock
use Rattle.st_types.specs.contracts.statement.Label as Label
use Rattle.st_types.specs.contracts.statement.Argument as Argument
use Rattle.st_types.specs.contracts.statement.Stmt.TheKnot as StmtKnot
use Rattle.st_types.specs.declared.statement.Stmt.TheBlock.{the_members as stmt_members, member-Stmt}
use Rattle.st_types.specs.declared.statement.Stmt.TheBlock.{member-Arm, member-CaseArm}
use Rattle.st_types.specs.contracts.statement.Stmt as Stmt
use Rattle.st_types.specs.contracts.unit.UnitSort as UnitSort
use Rattle.st_types.specs.contracts.unit.Unit as Unit
use Rattle.st_types.specs.contracts.data_type.Field as Field
use Rattle.st_types.specs.contracts.data_type.TypeDefinition as TypeDefinition
use Rattle.st_types.specs.contracts.data_type.TypeDeclaration as TypeDeclaration
use Rattle.st_types.specs.contracts.configuration.Address as Address
use Rattle.st_types.specs.contracts.configuration.GlobalNames as GlobalNames
use Rattle.st_types.specs.contracts.configuration.GlobalDeclaration as GlobalDeclaration
use Rattle.st_types.specs.contracts.configuration.GlobalBlock as GlobalBlock
use Rattle.st_types.specs.contracts.configuration.Task as TextTask
use Rattle.st_types.specs.contracts.configuration.Instance as TextInstance
use Rattle.st_types.specs.contracts.configuration.Resource as Resource
use Rattle.st_types.specs.contracts.configuration.Configuration as Configuration
use Rattle.st_types.specs.contracts.source.LibraryElement as LibraryElement
use Rattle.st_types.specs.contracts.source.Source as Source
use Rattle.st_types.specs.contracts.path.Owner as Owner
use Rattle.st_types.specs.contracts.path.Path as Path
use Rattle.st_types.specs.contracts.value.Value.TheInside as ValueInside
use Rattle.st_types.specs.contracts.value.Value as Value

-- the laws of types that cross by their parts
pub ruleset plain = (sendable, crosses)

pub option-send : (T : RattleType) → IsSend T → IsSend (Option.the_row T)
option-send T s = variants_send (Option.enum T) (search plain depth 20)

pub option-sync : (T : RattleType) → IsSync T → IsSync (Option.the_row T)
option-sync T s = variants_sync (Option.enum T) (search plain depth 20)

-- ---- words of a text

pub kind-send : IsSend Kind.the_row
kind-send = search plain depth 20

pub kind-sync : IsSync Kind.the_row
kind-sync = search plain depth 20

pub name-send : IsSend Name.the_row
name-send = search plain depth 20

pub name-sync : IsSync Name.the_row
name-sync = search plain depth 20

ruleset names-send = (plain, option-send, kind-send, name-send)

ruleset names-sync = (plain, option-sync, kind-sync, name-sync)

pub identifier-send : IsSend Identifier.the_row
identifier-send = search names-send depth 20

pub identifier-sync : IsSync Identifier.the_row
identifier-sync = search names-sync depth 20

number-send : IsSend Number.the_row
number-send = search names-send depth 40 fits 20000

number-sync : IsSync Number.the_row
number-sync = search names-sync depth 40 fits 20000

enumerated-send : IsSend EnumeratedValue.the_row
enumerated-send = search names-send depth 40 fits 20000

enumerated-sync : IsSync EnumeratedValue.the_row
enumerated-sync = search names-sync depth 40 fits 20000

ruleset numbers-send = (names-send, identifier-send, number-send, enumerated-send)

ruleset numbers-sync = (names-sync, identifier-sync, number-sync, enumerated-sync)

literal-send : IsSend Literal.the_row
literal-send = search numbers-send depth 40 fits 20000

literal-sync : IsSync Literal.the_row
literal-sync = search numbers-sync depth 40 fits 20000

ruleset literals-send = (numbers-send, literal-send)

ruleset literals-sync = (numbers-sync, literal-sync)

-- ---- expressions

expr_crosses : (i : expr_members) → Crosses ExprKnot.ring i
expr_crosses member-Expr = record {
  send = λ h s y. variants_send (ExprKnot.type-Expr (h member-Variable) (h member-Expr)
      (h member-Expr) (h member-Expr) (h member-Expr) (h member-Expr)) (search (literals-send, s) depth 60 fits 20000);
  sync = λ h s y. variants_sync (ExprKnot.type-Expr (h member-Variable) (h member-Expr)
      (h member-Expr) (h member-Expr) (h member-Expr) (h member-Expr)) (search (literals-sync, y) depth 60 fits 20000);
}
expr_crosses member-Selector = record {
  send = λ h s y. variants_send (ExprKnot.type-Selector (h member-Expr)) (search literals-send depth 40 fits 20000);
  sync = λ h s y. variants_sync (ExprKnot.type-Selector (h member-Expr)) (search literals-sync depth 40 fits 20000);
}
expr_crosses member-Variable = record {
  send = λ h s y. declared_send (ExprKnot.type-Variable (h member-Selector)) (search literals-send depth 40 fits 20000);
  sync = λ h s y. declared_sync (ExprKnot.type-Variable (h member-Selector)) (search literals-sync depth 40 fits 20000);
}

expr_hole-send : IsSend ExprKnot.hole-Expr
expr_hole-send = both_send ExprKnot.ring expr_crosses member-Expr

expr_hole-sync : IsSync ExprKnot.hole-Expr
expr_hole-sync = both_sync ExprKnot.ring expr_crosses member-Expr

selector_hole-send : IsSend ExprKnot.hole-Selector
selector_hole-send = both_send ExprKnot.ring expr_crosses member-Selector

selector_hole-sync : IsSync ExprKnot.hole-Selector
selector_hole-sync = both_sync ExprKnot.ring expr_crosses member-Selector

ruleset holes-send = (literals-send, expr_hole-send, selector_hole-send)

ruleset holes-sync = (literals-sync, expr_hole-sync, selector_hole-sync)

variable-send : IsSend Variable.the_row
variable-send = search holes-send depth 40 fits 20000

variable-sync : IsSync Variable.the_row
variable-sync = search holes-sync depth 40 fits 20000

ruleset operands-send = (holes-send, variable-send)

ruleset operands-sync = (holes-sync, variable-sync)

expr-send : IsSend Expr.the_row
expr-send = variants_send Expr.enum (search operands-send depth 60 fits 20000)

expr-sync : IsSync Expr.the_row
expr-sync = variants_sync Expr.enum (search operands-sync depth 60 fits 20000)

-- ---- initial values

initial_crosses : (i : initial_members) → Crosses InitialKnot.ring i
initial_crosses member-Initial = record {
  send = λ h s y. let member = s member-InitialMember in
      variants_send (InitialKnot.type-Initial (h member-InitialElement) (h member-InitialMember))
      (search (literals-send, s) depth 40 fits 20000);
  sync = λ h s y. let member = y member-InitialMember in
      variants_sync (InitialKnot.type-Initial (h member-InitialElement) (h member-InitialMember))
      (search (literals-sync, y) depth 40 fits 20000);
}
initial_crosses member-InitialElement = record {
  send = λ h s y. variants_send (InitialKnot.type-InitialElement (h member-Initial) (h member-Initial))
      (search literals-send depth 40 fits 20000);
  sync = λ h s y. variants_sync (InitialKnot.type-InitialElement (h member-Initial) (h member-Initial))
      (search literals-sync depth 40 fits 20000);
}
initial_crosses member-InitialMember = record {
  send = λ h s y. declared_send (InitialKnot.type-InitialMember (h member-Initial)) (search literals-send depth 40 fits 20000);
  sync = λ h s y. declared_sync (InitialKnot.type-InitialMember (h member-Initial)) (search literals-sync depth 40 fits 20000);
}

element_hole-send : IsSend InitialKnot.hole-InitialElement
element_hole-send = both_send InitialKnot.ring initial_crosses member-InitialElement

element_hole-sync : IsSync InitialKnot.hole-InitialElement
element_hole-sync = both_sync InitialKnot.ring initial_crosses member-InitialElement

member_hole-send : IsSend InitialKnot.hole-InitialMember
member_hole-send = both_send InitialKnot.ring initial_crosses member-InitialMember

member_hole-sync : IsSync InitialKnot.hole-InitialMember
member_hole-sync = both_sync InitialKnot.ring initial_crosses member-InitialMember

initial-send : IsSend Initial.the_row
initial-send = search (literals-send, element_hole-send, member_hole-send) depth 40 fits 20000

initial-sync : IsSync Initial.the_row
initial-sync = search (literals-sync, element_hole-sync, member_hole-sync) depth 40 fits 20000

-- ---- declarations

simple-send : IsSend SimpleType.the_row
simple-send = search numbers-send depth 40 fits 20000

simple-sync : IsSync SimpleType.the_row
simple-sync = search numbers-sync depth 40 fits 20000

array-send : IsSend ArrayType.the_row
array-send = search plain depth 40 fits 20000

array-sync : IsSync ArrayType.the_row
array-sync = search plain depth 40 fits 20000

ruleset types-send = (numbers-send, initial-send, simple-send, array-send)

ruleset types-sync = (numbers-sync, initial-sync, simple-sync, array-sync)

declared-send : IsSend VariableType.the_row
declared-send = search types-send depth 40 fits 20000

declared-sync : IsSync VariableType.the_row
declared-sync = search types-sync depth 40 fits 20000

declaration-send : IsSend Declaration.the_row
declaration-send = search types-send depth 40 fits 20000

declaration-sync : IsSync Declaration.the_row
declaration-sync = search types-sync depth 40 fits 20000

block-send : IsSend VariableBlock.the_row
block-send = search (types-send, declaration-send) depth 40 fits 20000

block-sync : IsSync VariableBlock.the_row
block-sync = search (types-sync, declaration-sync) depth 40 fits 20000

-- ---- statements

label-send : IsSend Label.the_row
label-send = search numbers-send depth 40 fits 20000

label-sync : IsSync Label.the_row
label-sync = search numbers-sync depth 40 fits 20000

argument-send : IsSend Argument.the_row
argument-send = search operands-send depth 40 fits 20000

argument-sync : IsSync Argument.the_row
argument-sync = search operands-sync depth 40 fits 20000

ruleset lines-send = (names-send, identifier-send, variable-send, expr-send, label-send, argument-send)

ruleset lines-sync = (names-sync, identifier-sync, variable-sync, expr-sync, label-sync, argument-sync)

stmt_crosses : (i : stmt_members) → Crosses StmtKnot.ring i
stmt_crosses member-Stmt = record {
  send = λ h s y. let case = s member-CaseArm in
      variants_send (StmtKnot.type-Stmt (h member-Arm) (h member-Stmt) (h member-CaseArm) (h member-Stmt) (h member-Stmt)
      (h member-Stmt) (h member-Stmt)) (search (lines-send, s) depth 80 fits 20000);
  sync = λ h s y. let case = y member-CaseArm in
      variants_sync (StmtKnot.type-Stmt (h member-Arm) (h member-Stmt) (h member-CaseArm) (h member-Stmt) (h member-Stmt)
      (h member-Stmt) (h member-Stmt)) (search (lines-sync, y) depth 80 fits 20000);
}
stmt_crosses member-Arm = record {
  send = λ h s y. let stmt = s member-Stmt in
      declared_send (StmtKnot.type-Arm (h member-Stmt)) (search lines-send depth 40 fits 20000);
  sync = λ h s y. let stmt = y member-Stmt in
      declared_sync (StmtKnot.type-Arm (h member-Stmt)) (search lines-sync depth 40 fits 20000);
}
stmt_crosses member-CaseArm = record {
  send = λ h s y. let stmt = s member-Stmt in
      declared_send (StmtKnot.type-CaseArm (h member-Stmt)) (search lines-send depth 40 fits 20000);
  sync = λ h s y. let stmt = y member-Stmt in
      declared_sync (StmtKnot.type-CaseArm (h member-Stmt)) (search lines-sync depth 40 fits 20000);
}

stmt_hole-send : IsSend StmtKnot.hole-Stmt
stmt_hole-send = both_send StmtKnot.ring stmt_crosses member-Stmt

stmt_hole-sync : IsSync StmtKnot.hole-Stmt
stmt_hole-sync = both_sync StmtKnot.ring stmt_crosses member-Stmt

arm_hole-send : IsSend StmtKnot.hole-Arm
arm_hole-send = both_send StmtKnot.ring stmt_crosses member-Arm

arm_hole-sync : IsSync StmtKnot.hole-Arm
arm_hole-sync = both_sync StmtKnot.ring stmt_crosses member-Arm

case_arm_hole-send : IsSend StmtKnot.hole-CaseArm
case_arm_hole-send = both_send StmtKnot.ring stmt_crosses member-CaseArm

case_arm_hole-sync : IsSync StmtKnot.hole-CaseArm
case_arm_hole-sync = both_sync StmtKnot.ring stmt_crosses member-CaseArm

stmt-send : IsSend Stmt.the_row
stmt-send = variants_send Stmt.enum (search (lines-send, stmt_hole-send, arm_hole-send, case_arm_hole-send) depth 80 fits 20000)

stmt-sync : IsSync Stmt.the_row
stmt-sync = variants_sync Stmt.enum (search (lines-sync, stmt_hole-sync, arm_hole-sync, case_arm_hole-sync) depth 80 fits 20000)

-- ---- units, types and configurations

sort-send : IsSend UnitSort.the_row
sort-send = search plain depth 40 fits 20000

sort-sync : IsSync UnitSort.the_row
sort-sync = search plain depth 40 fits 20000

ruleset parts-send = (types-send, declared-send, block-send, sort-send, stmt-send)

ruleset parts-sync = (types-sync, declared-sync, block-sync, sort-sync, stmt-sync)

unit-send : IsSend Unit.the_row
unit-send = search parts-send depth 60 fits 20000

unit-sync : IsSync Unit.the_row
unit-sync = search parts-sync depth 60 fits 20000

field-send : IsSend Field.the_row
field-send = search parts-send depth 40 fits 20000

field-sync : IsSync Field.the_row
field-sync = search parts-sync depth 40 fits 20000

definition-send : IsSend TypeDefinition.the_row
definition-send = search (parts-send, field-send) depth 40 fits 20000

definition-sync : IsSync TypeDefinition.the_row
definition-sync = search (parts-sync, field-sync) depth 40 fits 20000

type_declaration-send : IsSend TypeDeclaration.the_row
type_declaration-send = declared_send TypeDeclaration.the_type (search (parts-send, definition-send) depth 40 fits 20000)

type_declaration-sync : IsSync TypeDeclaration.the_row
type_declaration-sync = declared_sync TypeDeclaration.the_type (search (parts-sync, definition-sync) depth 40 fits 20000)

address-send : IsSend Address.the_row
address-send = search names-send depth 40 fits 20000

address-sync : IsSync Address.the_row
address-sync = search names-sync depth 40 fits 20000

global_names-send : IsSend GlobalNames.the_row
global_names-send = search parts-send depth 40 fits 20000

global_names-sync : IsSync GlobalNames.the_row
global_names-sync = search parts-sync depth 40 fits 20000

global_declaration-send : IsSend GlobalDeclaration.the_row
global_declaration-send = search parts-send depth 40 fits 20000

global_declaration-sync : IsSync GlobalDeclaration.the_row
global_declaration-sync = search parts-sync depth 40 fits 20000

global_block-send : IsSend GlobalBlock.the_row
global_block-send = search (parts-send, global_declaration-send) depth 40 fits 20000

global_block-sync : IsSync GlobalBlock.the_row
global_block-sync = search (parts-sync, global_declaration-sync) depth 40 fits 20000

text_task-send : IsSend TextTask.the_row
text_task-send = search parts-send depth 60 fits 20000

text_task-sync : IsSync TextTask.the_row
text_task-sync = search parts-sync depth 60 fits 20000

text_instance-send : IsSend TextInstance.the_row
text_instance-send = search parts-send depth 40 fits 20000

text_instance-sync : IsSync TextInstance.the_row
text_instance-sync = search parts-sync depth 40 fits 20000

resource-send : IsSend Resource.the_row
resource-send = search (parts-send, text_task-send, text_instance-send) depth 40 fits 20000

resource-sync : IsSync Resource.the_row
resource-sync = search (parts-sync, text_task-sync, text_instance-sync) depth 40 fits 20000

configuration-send : IsSend Configuration.the_row
configuration-send = search (parts-send, global_block-send, resource-send) depth 40 fits 20000

configuration-sync : IsSync Configuration.the_row
configuration-sync = search (parts-sync, global_block-sync, resource-sync) depth 40 fits 20000

element-send : IsSend LibraryElement.the_row
element-send = variants_send LibraryElement.enum (search (plain, type_declaration-send, unit-send, configuration-send) depth 40 fits 20000)

element-sync : IsSync LibraryElement.the_row
element-sync = variants_sync LibraryElement.enum (search (plain, type_declaration-sync, unit-sync, configuration-sync) depth 40 fits 20000)

pub source-send : IsSend Source.the_row
source-send = search (plain, element-send) depth 40 fits 20000

pub source-sync : IsSync Source.the_row
source-sync = search (plain, element-sync) depth 40 fits 20000

-- ---- paths and values

pub owner-send : IsSend Owner.the_row
owner-send = search names-send depth 40 fits 20000

pub owner-sync : IsSync Owner.the_row
owner-sync = search names-sync depth 40 fits 20000

pub path-send : IsSend Path.the_row
path-send = search (names-send, owner-send) depth 40 fits 20000

pub path-sync : IsSync Path.the_row
path-sync = search (names-sync, owner-sync) depth 40 fits 20000

value_inside-send : IsSend ValueInside.the_row
value_inside-send = search names-send depth 40 fits 20000

value_inside-sync : IsSync ValueInside.the_row
value_inside-sync = search names-sync depth 40 fits 20000

pub value-send : IsSend Value.the_row
value-send = search (plain, value_inside-send) depth 20

pub value-sync : IsSync Value.the_row
value-sync = search (plain, value_inside-sync) depth 20
