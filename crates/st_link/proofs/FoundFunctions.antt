-- A function of the text that may be called, by its name.
use Rattle.std.proofs.Common.{◌≡◌, refl, Option, Some, None, List}
use Rattle.std.specs.Prelude.{option_and_then}
use Rattle.st_types.specs.declared.kind.Kind.{Kind}
use Rattle.st_types.specs.declared.data_type.SimpleType.{SimpleType}
use Rattle.st_types.specs.declared.data_type.VariableType.TheVariants as types
use Rattle.st_types.specs.declared.unit.UnitSort.{UnitSort}
use Rattle.st_types.specs.declared.unit.UnitSort.TheVariants.{Function as function, FunctionBlock as function_block}
use Rattle.st_types.specs.declared.unit.UnitSort.TheVariants.{Program as program}
use Rattle.st_types.specs.Units.{OrganisationUnit}
use Rattle.st_meaning.specs.StandardFunctions.{Standard, standard_of}
use Rattle.st_meaning.specs.Scopes.{Name}
use Rattle.st_meaning.specs.NameTypes.{Declared, unit_named, kind_among, input_kinds, result_kind}
use Rattle.st_rules.specs.Environments.{Callee, standard, own, callee_of_sort, callee_of}
use Rattle.st_rules.specs.Rules.{environment}

pub record OwnFunction (text : Declared) (f : Name) (inputs : List (Option Kind)) (o : Option Kind) : Type 0 where
  pub unit : OrganisationUnit
  pub result : SimpleType
  pub declared : unit_named text.units f ≡ Some unit
  pub sort : unit.sort ≡ function result
  pub takes : input_kinds text unit.blocks ≡ inputs
  pub gives : kind_among text.types (types.Simple result) ≡ o

by_sort : (text : Declared) (f : Name) (inputs : List (Option Kind)) (o : Option Kind) (u : OrganisationUnit)
    (sort : UnitSort) → unit_named text.units f ≡ Some u → u.sort ≡ sort
    → callee_of_sort text sort u.blocks ≡ Some (own inputs o) → OwnFunction text f inputs o
by_sort text f inputs o u (function t) declared is h =
    let same : own (input_kinds text u.blocks) (result_kind text (function t)) ≡ own inputs o = cc in
    record { unit = u; result = t; declared = declared; sort = is; takes = cc; gives = cc }
by_sort text f inputs o u function_block declared is h = absurd (cc)
by_sort text f inputs o u program declared is h = absurd (cc)

by_unit : (text : Declared) (f : Name) (inputs : List (Option Kind)) (o : Option Kind)
    (found : Option OrganisationUnit) → unit_named text.units f ≡ found
    → option_and_then (λ u. callee_of_sort text u.sort u.blocks) found ≡ Some (own inputs o)
    → OwnFunction text f inputs o
by_unit text f inputs o None is h = absurd (cc)
by_unit text f inputs o (Some u) is h = by_sort text f inputs o u u.sort is refl h

abbrev callee_where : Declared → Name → Option Standard → Option Callee
callee_where text f found = elim found [
  | Some std ↦ Some (standard std)
  | None ↦ option_and_then (λ u. callee_of_sort text u.sort u.blocks) (unit_named text.units f)
]

by_name : (text : Declared) (f : Name) (inputs : List (Option Kind)) (o : Option Kind) (found : Option Standard)
    → callee_where text f found ≡ Some (own inputs o) → OwnFunction text f inputs o
by_name text f inputs o (Some std) h = absurd (cc)
by_name text f inputs o None h = by_unit text f inputs o (unit_named text.units f) refl h

pub own_function : (text : Declared) (d : OrganisationUnit) (f : Name) (inputs : List (Option Kind)) (o : Option Kind)
    → callee_of (environment text d) f ≡ Some (own inputs o) → OwnFunction text f inputs o
own_function text d f inputs o h = by_name text f inputs o (standard_of f) h
