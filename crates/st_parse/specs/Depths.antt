-- How deep the trees of a text may be: every initial value and every statement is at most this deep.
use Rattle.std.specs.Prelude.{ℕ, ◌≤◌, Option, IfSome}
use Rattle.std.specs.List.{AllByRecursion}
use Rattle.st_types.specs.Initials.{Initial}
use Rattle.st_types.specs.Statements.{stmts_of}
use Rattle.st_types.specs.Declarations.{Field, TypeDefinition, array, structure, enumeration, TypeDeclaration}
use Rattle.st_types.specs.Declarations.{Declaration}
use Rattle.st_types.specs.Declarations.{VariableBlock}
use Rattle.st_types.specs.Units.{OrganisationUnit}
use Rattle.st_types.specs.Configurations.{GlobalDeclaration, GlobalBlock, Configuration}
use Rattle.st_types.specs.Sources.{LibraryElement, types, unit, configuration, Source}
use Rattle.st_types.specs.Depths.{depth_of_initial, deepest_stmt}

module _ (depth : ℕ) where
  abbrev pub ValueWithin : Option Initial → Type 0
  ValueWithin o = IfSome o (λ v. depth_of_initial v ≤ depth)

  abbrev pub FieldWithin : Field → Type 0
  FieldWithin f = ValueWithin f.initial

  abbrev pub DefinitionWithin : TypeDefinition → Type 0
  DefinitionWithin (array a) = Unit {0}
  DefinitionWithin (structure fields) = AllByRecursion FieldWithin fields
  DefinitionWithin (enumeration names) = Unit {0}

  abbrev pub TypeWithin : TypeDeclaration → Type 0
  TypeWithin t = DefinitionWithin t.definition

  abbrev pub DeclarationWithin : Declaration → Type 0
  DeclarationWithin d = ValueWithin d.initial

  abbrev pub BlockWithin : VariableBlock → Type 0
  BlockWithin b = AllByRecursion DeclarationWithin b.declarations

  abbrev pub UnitWithin : OrganisationUnit → Type 0
  UnitWithin u = AllByRecursion BlockWithin u.blocks × (deepest_stmt (stmts_of u.body) ≤ depth)

  abbrev pub GlobalWithin : GlobalDeclaration → Type 0
  GlobalWithin g = ValueWithin g.initial

  abbrev pub GlobalBlockWithin : GlobalBlock → Type 0
  GlobalBlockWithin b = AllByRecursion GlobalWithin b.declarations

  abbrev pub ConfigurationWithin : Configuration → Type 0
  ConfigurationWithin c = AllByRecursion GlobalBlockWithin c.globals

  abbrev pub ElementWithin : LibraryElement → Type 0
  ElementWithin (types ts) = AllByRecursion TypeWithin ts
  ElementWithin (unit u) = UnitWithin u
  ElementWithin (configuration c) = ConfigurationWithin c

  abbrev pub SourceWithin : Source → Type 0
  SourceWithin s = AllByRecursion ElementWithin s
