-- A function of a text in which no rule on declarations is broken has no instances.
use Rattle.std.proofs.Common.{◌≡◌, refl, sym, ap, subst, ◌∙◌, Bool, true, false, ◌||◌, if◌then◌else◌, []}
use Rattle.std.proofs.Common.{Option, Some, None}
use Rattle.std.specs.Prelude.{is_some}
use Rattle.st_types.specs.declared.identifier.Identifier.{Identifier}
use Rattle.st_types.specs.declared.data_type.SimpleType.{SimpleType}
use Rattle.st_types.specs.declared.data_type.SimpleType.TheVariants.{Elementary, Named}
use Rattle.st_types.specs.declared.data_type.VariableType.{VariableType}
use Rattle.st_types.specs.declared.data_type.VariableType.TheVariants as types
use Rattle.st_types.specs.declared.declaration.Section.{Section}
use Rattle.st_types.specs.declared.declaration.Section.TheVariants as sections
use Rattle.st_types.specs.declared.unit.UnitSort.TheVariants.{Function as function}
use Rattle.st_types.specs.Units.{OrganisationUnit}
use Rattle.st_types.specs.Sources as sources
use Rattle.st_types.specs.Sources.{Source}
use Rattle.st_meaning.specs.StandardFunctions.{standard_of}
use Rattle.st_meaning.specs.Scopes.{Name}
use Rattle.st_meaning.specs.NameTypes.{Declared, declared_in, is_named, type_named, unit_named, result_type}
use Rattle.st_meaning.specs.NameTypes.{type_in_blocks, variable_type}
use Rattle.st_rules.specs.declared.reason.Reason.TheVariants.{HasParts}
use Rattle.st_rules.specs.Faults.{breaking, in_case}
use Rattle.st_rules.specs.Environments.{is_block, is_instance}
use Rattle.st_rules.specs.Typings.{typing_of_type, is_composite}
use Rattle.st_rules.specs.DeclaredTypes.{variable_of, Declaring}
use Rattle.st_rules.specs.TypeRules.{place_of_simple, wrong_simple, wrong_name, may_be_instance}
use Rattle.st_rules.specs.Rules.{environment}
use Rattle.st_link.specs.StatementSoundness.{HasNoInstances}
use Rattle.st_link.proofs.Among.{Among}
use Rattle.st_link.proofs.FoundNames.{FoundVariable, variable_found}
use Rattle.st_link.proofs.KnownTypes.{TypesRight, declared_right, variable_among, result_right}
use Rattle.st_link.proofs.NamedFaults.{no_block_named}
use Rattle.st_link.proofs.ApartNames.{NamesRight, types_are_no_blocks}
use Rattle.st_types.proofs.ListLemmas.{append_first}

-- no instance is allowed among a function's variables
no_instance_stands : (t : SimpleType) (section : Section) → may_be_instance (variable_of (function t) section) ≡ false
no_instance_stands t (sections.Input keep) = refl
no_instance_stands t (sections.Output keep) = refl
no_instance_stands t (sections.Local keep) = refl
no_instance_stands t sections.Constant = refl
no_instance_stands t sections.External = refl
no_instance_stands t sections.ConstantExternal = refl

module _ (source : Source) (right : TypesRight source) (names : NamesRight source) (u : OrganisationUnit)
    (unit : Among (sources.unit u) source) (result : SimpleType) (sort : u.sort ≡ function result) where
  abbrev text : Declared
  text = declared_in source

  result_simple : wrong_simple text false result ≡ []
  result_simple = append_first (wrong_simple text false result) (breaking HasParts
      (in_case (is_composite (typing_of_type text (Some (types.Simple result)))) (place_of_simple result)))
      (result_right source right u result unit sort)

  variable_simple : (s : SimpleType) → FoundVariable u.blocks (types.Simple s) → wrong_simple text false s ≡ []
  variable_simple s v =
      let d = v.found.declaration in
      let it : Declaring =
      record { role = variable_of u.sort v.block.section; declared = d.declared; initial = d.initial } in
      let rules = declared_right source right it (variable_among source right u v.block d unit v.there v.found.among) in
      let may : may_be_instance (variable_of u.sort v.block.section) ≡ false =
      ap (λ o. may_be_instance (variable_of o v.block.section)) sort ∙ no_instance_stands result v.block.section in
      subst (λ (b : Bool). wrong_name text b (types.Simple s) ≡ []) may
      (subst (λ (t : VariableType). wrong_name text (may_be_instance (variable_of u.sort v.block.section)) t ≡ [])
      v.found.declared rules.name)

  simple_by : (x : Name) (s : SimpleType) (b : Bool)
      → (if b then result_type u.sort else type_in_blocks u.blocks x) ≡ Some (types.Simple s)
      → wrong_simple text false s ≡ []
  simple_by x s true h =
      let e : Some (types.Simple result) ≡ Some (types.Simple s) = sym (ap result_type sort) ∙ h in
      let same : result ≡ s = cc in
      subst (λ (t : SimpleType). wrong_simple text false t ≡ []) same result_simple
  simple_by x s false h = variable_simple s (variable_found u.blocks x (types.Simple s) h)

  no_block : (x : Name) (b : Identifier) → variable_type u x ≡ Some (types.Simple (Named b))
      → is_block text b.name ≡ false
  no_block x b is =
      no_block_named (is_some (type_named text.types b.name)) (is_block text b.name)
      (is_some (unit_named text.units b.name) || is_some (standard_of b.name)) b.place
      (simple_by x (Named b) (is_named x u.name) is) (types_are_no_blocks source names b.name)

  no_instance : (x : Name) (o : Option VariableType) → variable_type u x ≡ o
      → is_instance (environment (declared_in source) u) o ≡ false
  no_instance x None is = refl
  no_instance x (Some (types.Array a)) is = refl
  no_instance x (Some (types.Simple (Elementary k at))) is = refl
  no_instance x (Some (types.Simple (Named b))) is = no_block x b is

  pub functions_have_none : HasNoInstances (environment (declared_in source) u)
  functions_have_none x = no_instance x (variable_type u x) refl
