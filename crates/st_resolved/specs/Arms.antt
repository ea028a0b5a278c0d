-- Parts of statements and initial values that have two sides: arms, and members of structures.
use Rattle.std.specs.Prelude.{Option, Some, map}
use Rattle.st_types.specs.declared.kind.Kind.{Kind}
use Rattle.st_types.specs.declared.kind.Kind.TheVariants.{Bool as Boolean}
use Rattle.st_types.specs.declared.data_type.VariableType.{VariableType}
use Rattle.st_types.specs.Statements.{Arm, CaseArm}
use Rattle.st_types.specs.Initials.{Member}
use Rattle.st_types.specs.Units.{OrganisationUnit}
use Rattle.st_meaning.specs.NameTypes.{Declared}
use Rattle.st_meaning.specs.Resolution.{resolved_expr}
use Rattle.st_meaning.specs.ResolvedUnits.{resolved_stmts, resolved_label, resolved_initial, field_of}

abbrev pub resolved_arm : Declared → OrganisationUnit → Arm → Arm
resolved_arm text u a = (resolved_expr text u (Some Boolean) a.0, resolved_stmts text u a.1)

-- an arm of a CASE over a selector of a type
abbrev pub resolved_case_arm : Declared → OrganisationUnit → Option Kind → CaseArm → CaseArm
resolved_case_arm text u k a = (map (resolved_label text k) a.0, resolved_stmts text u a.1)

-- a field of a structure of a type
abbrev pub resolved_member : Declared → Option VariableType → Member → Member
resolved_member text t m = (m.0, resolved_initial text (field_of text t m.0.name) m.1)
