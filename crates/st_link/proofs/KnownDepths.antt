-- No type of a unit's variables is too deep in a text that breaks no rule on declarations.
use Rattle.std.proofs.Common.{◌≡◌, ◌+◌, Bool, true, false, ◌||◌, if◌then◌else◌, List, [], ◌∷◌, ◌++◌, Option, Some}
use Rattle.std.proofs.Common.{None, refl, sym, ap, ◌∙◌, subst}
use Rattle.std.specs.Prelude.{is_some}
use Rattle.std.specs.List.{list_any, flat_map}
use Rattle.st_types.specs.declared.identifier.Identifier.{Identifier}
use Rattle.st_types.specs.declared.data_type.ArrayType.{ArrayType}
use Rattle.st_types.specs.declared.data_type.SimpleType.TheVariants.{Elementary, Named}
use Rattle.st_types.specs.declared.data_type.VariableType.{VariableType}
use Rattle.st_types.specs.declared.data_type.VariableType.TheVariants as types
use Rattle.st_types.specs.declared.unit.UnitSort.{UnitSort}
use Rattle.st_types.specs.declared.unit.UnitSort.TheVariants.{Function, FunctionBlock, Program}
use Rattle.st_types.specs.Declarations.{TypeDeclaration, TypeDefinition}
use Rattle.st_types.specs.Units.{OrganisationUnit}
use Rattle.st_types.specs.Sources as sources
use Rattle.st_types.specs.Sources.{Source}
use Rattle.st_meaning.specs.Enumerations.{Enumeration, enumerations_of, enumeration_named}
use Rattle.st_meaning.specs.NameTypes.{Declared, declared_in, is_named, type_named, unit_named, result_type, type_in_blocks}
use Rattle.st_meaning.specs.NameTypes.{variable_type}
use Rattle.st_meaning.specs.Scopes.{Name}
use Rattle.st_meaning.specs.StandardBlocks.{StandardBlock, block_of}
use Rattle.st_meaning.specs.StandardFunctions.{standard_of}
use Rattle.st_rules.specs.Containment.{elementary, named, row, part_of_type, parts_of_unit, parts_of_definition}
use Rattle.st_rules.specs.Containment.{parts_of_standard, parts_named, has_chain, is_too_deep, is_wrong_unit}
use Rattle.st_rules.specs.Containment.{reason_of_depth, too_deep_types, too_deep_units, too_deep_array, too_deep}
use Rattle.st_rules.specs.DeclaredTypes.{variable_of, Declaring, array_of_type, declarings_in, unnamed_arrays_in}
use Rattle.st_rules.specs.Environments.{is_block}
use Rattle.st_rules.specs.Faults.{breaking, in_case}
use Rattle.st_rules.specs.NameScopes.{names_of_element}
use Rattle.st_rules.specs.TwiceDeclared.{is_standard}
use Rattle.st_rules.specs.declared.typings.Typing.TheVariants.{Composite as composite, Nothing as nothing}
use Rattle.st_rules.specs.Typings.{typing_of_named, is_nothing}
use Rattle.st_rules.specs.declared.reason.Reason.TheVariants.{TooDeep}
use Rattle.st_rules.specs.declared.rule.Broken.{Broken}
use Rattle.st_rules.specs.declared.limits.TheConstants.{MAX_TYPE_DEPTH}
use Rattle.st_link.specs.Soundness.{IsKnown}
use Rattle.st_link.proofs.Among.{Among, here, in_flat, none_of, none_passes}
use Rattle.st_link.proofs.ApartNames.{NamesRight}
use Rattle.st_link.proofs.BodyRunLaw.{own_block}
use Rattle.st_link.proofs.FoundNames.{FoundVariable, unit_found, unit_in, type_found, variable_found}
use Rattle.st_link.proofs.KnownTypes.{TypesRight, sound_declared, variable_among, variable_sound}
use Rattle.layout.specs.Types.{is_within_depth}
use Rattle.layout.proofs.LibraryLemmas.{no_enumeration}
use Rattle.layout.proofs.ListLemmas.{same_name}
use Rattle.st_link.proofs.ChainLemmas.{without_chain}
use Rattle.st_link.proofs.BoundedArrays.{no_breaking}
use Rattle.st_types.proofs.ListLemmas.{append_first, append_second}
use Rattle.st_types.proofs.TestLemmas.{or_first}
use Rattle.st_types.proofs.OptionLemmas.{none_is}

elementary_shallow : (text : Declared) → has_chain text (MAX_TYPE_DEPTH + 1) elementary ≡ false
unfolding has_chain
elementary_shallow text = refl

elementary_alone : (text : Declared) (x : Name) → parts_named text x ≡ elementary ∷ []
    → has_chain text (MAX_TYPE_DEPTH + 1) (named x) ≡ false
unfolding has_chain
elementary_alone text x h = ap (list_any (has_chain text MAX_TYPE_DEPTH)) h

known_named : (text : Declared) (x : Name) (o : Option Enumeration) → o ≡ None → type_named text.types x ≡ None
    → is_nothing (typing_of_named text x o) ≡ false → is_block text x ≡ true
known_named text x (Some e) h none known = absurd (cc)
known_named text x None h none known =
    by_test (is_block text x) (subst (λ (d : Option TypeDefinition).
    is_nothing (if is_some d || is_block text x then composite else nothing) ≡ false) none known)
  where
    by_test : (b : Bool) → is_nothing (if b then composite else nothing) ≡ false → b ≡ true
    by_test true k = refl
    by_test false k = absurd (cc)

module _ (source : Source) (right : TypesRight source) (names : NamesRight source) (deep : too_deep source ≡ []) where
  abbrev text : Declared
  text = declared_in source

  abbrev arrays : List Broken
  arrays = flat_map (too_deep_array (declared_in source)) (unnamed_arrays_in source)

  types_shallow : too_deep_types text ≡ []
  types_shallow = append_first (too_deep_types text) (too_deep_units text)
      (append_first (too_deep_types text ++ too_deep_units text) arrays deep)

  units_shallow : too_deep_units text ≡ []
  units_shallow = append_second (too_deep_types text) (too_deep_units text)
      (append_first (too_deep_types text ++ too_deep_units text) arrays deep)

  arrays_shallow : arrays ≡ []
  arrays_shallow = append_second (too_deep_types text ++ too_deep_units text) arrays deep

  -- no unit has the name of a standard block
  unit_not_standard : (x : Name) (o : Option OrganisationUnit) → unit_named text.units x ≡ o → is_some o ≡ true
      → block_of x ≡ None
  unit_not_standard x None is h = absurd (cc)
  unit_not_standard x (Some u) is h =
      let found = unit_found text.units x u is in
      let name = in_flat names_of_element (unit_in source u found.among) here in
      let free = or_first (is_some (block_of u.name.name)) (is_some (standard_of u.name.name))
      (none_passes (λ y. is_standard y.name) name names.free) in
      none_is (block_of x) (subst (λ (y : Name). is_some (block_of y) ≡ false)
      (sym (same_name x u.name.name found.named)) free)

  not_standard : (x : Name) → is_some (unit_named text.units x) ≡ true → block_of x ≡ None
  not_standard x h = unit_not_standard x (unit_named text.units x) refl h

  -- named types
  type_shallow : (x : Name) (d : TypeDefinition) → type_named text.types x ≡ Some d
      → has_chain text (MAX_TYPE_DEPTH + 1) (named x) ≡ false
  type_shallow x d is =
      let found = type_found text.types x d is in
      let t = found.declaration in
      subst (λ (y : Name). has_chain text (MAX_TYPE_DEPTH + 1) (named y) ≡ false)
      (sym (same_name x t.name.name found.named))
      (no_breaking (reason_of_depth text t.name.name) (is_too_deep text (named t.name.name)) t.name.place
      (none_of (λ (e : TypeDeclaration). breaking (reason_of_depth text e.name.name)
      (in_case (is_too_deep text (named e.name.name)) e.name.place)) found.among types_shallow))

  block_shallow : (x : Name) → block_of x ≡ None → is_block text x ≡ true
      → has_chain text (MAX_TYPE_DEPTH + 1) (named x) ≡ false
  block_shallow x own is =
      let d = own_block text x own is in
      let found = unit_found text.units x d.unit d.declared in
      let u = d.unit in
      let wrong =
      no_breaking (reason_of_depth text u.name.name) (is_wrong_unit text u.sort u.name.name) u.name.place
      (none_of (λ (e : OrganisationUnit). breaking (reason_of_depth text e.name.name)
      (in_case (is_wrong_unit text e.sort e.name.name) e.name.place)) found.among units_shallow) in
      subst (λ (y : Name). has_chain text (MAX_TYPE_DEPTH + 1) (named y) ≡ false)
      (sym (same_name x u.name.name found.named))
      (ap (λ (s : UnitSort). is_wrong_unit text s u.name.name) (sym d.sort) ∙ wrong)

  unit_absent : (x : Name) (k : StandardBlock) → block_of x ≡ Some k → (o : Option OrganisationUnit)
      → unit_named text.units x ≡ o → o ≡ None
  unit_absent x k is None e = refl
  unit_absent x k is (Some u) e = absurd (let none = unit_not_standard x (Some u) e refl in cc)

  standard_shallow : (x : Name) (k : StandardBlock) → type_named text.types x ≡ None → block_of x ≡ Some k
      → has_chain text (MAX_TYPE_DEPTH + 1) (named x) ≡ false
  standard_shallow x k none is = elementary_alone text x
      (ap (λ (d : Option TypeDefinition). elim d [
        | Some t ↦ parts_of_definition t
        | None ↦ elim (unit_named text.units x) [ Some u ↦ parts_of_unit text u | None ↦ parts_of_standard x ]
      ]) none
      ∙ ap (λ (o : Option OrganisationUnit). elim o [ Some u ↦ parts_of_unit text u | None ↦ parts_of_standard x ])
      (unit_absent x k is (unit_named text.units x) refl)
      ∙ ap (λ (o : Option StandardBlock). if is_some o then elementary ∷ [] else []) is)

  any_block_shallow : (x : Name) → type_named text.types x ≡ None → is_block text x ≡ true
      → (o : Option StandardBlock) → block_of x ≡ o → has_chain text (MAX_TYPE_DEPTH + 1) (named x) ≡ false
  any_block_shallow x none is (Some k) e = standard_shallow x k none e
  any_block_shallow x none is None e = block_shallow x e is

  named_shallow : (x : Identifier) → IsKnown text (types.Simple (Named x)) → (o : Option TypeDefinition)
      → type_named text.types x.name ≡ o → has_chain text (MAX_TYPE_DEPTH + 1) (named x.name) ≡ false
  named_shallow x known (Some d) is = type_shallow x.name d is
  named_shallow x known None is = any_block_shallow x.name is
      (known_named text x.name (enumeration_named (enumerations_of text.types) x.name)
      (no_enumeration 0 text.types x.name is) is known) (block_of x.name) refl

  -- arrays without a name
  array_shallow : (u : OrganisationUnit) → Among (sources.unit u) source → (a : ArrayType)
      → FoundVariable u.blocks (types.Array a) → has_chain text (MAX_TYPE_DEPTH + 1) (row a.element) ≡ false
  array_shallow u unit a v =
      let d = v.found.declaration in
      let it : Declaring =
      record { role = variable_of u.sort v.block.section; declared = d.declared; initial = d.initial } in
      let array = in_flat (λ (e : Declaring). array_of_type e.declared)
      (variable_among source right u v.block d unit v.there v.found.among)
      (subst (λ (t : VariableType). Among a (array_of_type t)) (sym v.found.declared) here) in
      no_breaking TooDeep (is_too_deep text (row a.element)) a.place
      (none_of (too_deep_array text) array arrays_shallow)

  array_by : (u : OrganisationUnit) → Among (sources.unit u) source → (x : Name) (a : ArrayType) (b : Bool)
      → (if b then result_type u.sort else type_in_blocks u.blocks x) ≡ Some (types.Array a)
      → has_chain text (MAX_TYPE_DEPTH + 1) (row a.element) ≡ false
  array_by u unit x a true h = absurd (no_array u.sort h)
    where
      no_array : (s : UnitSort) → result_type s ≡ Some (types.Array a) → ⊥
      no_array (Function t) k = cc
      no_array FunctionBlock k = cc
      no_array Program k = cc
  array_by u unit x a false h = array_shallow u unit a (variable_found u.blocks x (types.Array a) h)

  variable_shallow : (u : OrganisationUnit) → Among (sources.unit u) source → (x : Name) (t : VariableType)
      → variable_type u x ≡ Some t → has_chain text (MAX_TYPE_DEPTH + 1) (part_of_type t) ≡ false
  variable_shallow u unit x (types.Array a) h = array_by u unit x a (is_named x u.name) h
  variable_shallow u unit x (types.Simple (Elementary k at)) h = elementary_shallow text
  variable_shallow u unit x (types.Simple (Named y)) h =
      named_shallow y (variable_sound source right u unit x (types.Simple (Named y)) h) (type_named text.types y.name) refl

  pub depths_known : (u : OrganisationUnit) → Among (sources.unit u) source → (x : Name) (t : VariableType)
      → variable_type u x ≡ Some t → is_within_depth MAX_TYPE_DEPTH (declared_in source) t ≡ true
  depths_known u unit x t h =
      without_chain text not_standard MAX_TYPE_DEPTH t (variable_shallow u unit x t h)

  -- whatever is declared
  unnamed_shallow : (d : Declaring) → Among d (declarings_in source) → (a : ArrayType) → d.declared ≡ types.Array a
      → has_chain text (MAX_TYPE_DEPTH + 1) (row a.element) ≡ false
  unnamed_shallow d among a is =
      no_breaking TooDeep (is_too_deep text (row a.element)) a.place
      (none_of (too_deep_array text)
      (in_flat (λ (e : Declaring). array_of_type e.declared) among
      (subst (λ (t : VariableType). Among a (array_of_type t)) (sym is) here)) arrays_shallow)

  declaring_shallow : (d : Declaring) → Among d (declarings_in source) → (t : VariableType) → d.declared ≡ t
      → has_chain text (MAX_TYPE_DEPTH + 1) (part_of_type t) ≡ false
  declaring_shallow d among (types.Array a) is = unnamed_shallow d among a is
  declaring_shallow d among (types.Simple (Elementary k at)) is = elementary_shallow text
  declaring_shallow d among (types.Simple (Named y)) is =
      named_shallow y (sound_declared source right d among (types.Simple (Named y)) is) (type_named text.types y.name)
      refl

  pub declared_depths : (d : Declaring) → Among d (declarings_in source)
      → is_within_depth MAX_TYPE_DEPTH (declared_in source) d.declared ≡ true
  declared_depths d among =
      without_chain text not_standard MAX_TYPE_DEPTH d.declared (declaring_shallow d among d.declared refl)
