-- In a text that breaks no rule on declarations each array of a unit's variables and of their parts has an element.
use Rattle.std.proofs.Common.{◌≡◌, ℕ, ℤ, Bool, true, false, if◌then◌else◌, List, [], ◌++◌, Option}
use Rattle.std.proofs.Common.{Some, None, option_map, option_and_then, refl, sym, subst, arith}
use Rattle.std.specs.Prelude.{nat_lt, int_lt, pos, negsuc, ◌+ℤ◌, ◌-ℤ◌}
use Rattle.std.specs.List.{flat_map}
use Rattle.std.proofs.lemmas.Bool.Decides.{nat_tests}
use Rattle.std.proofs.lemmas.Int.{ints}
use Rattle.st_types.specs.declared.identifier.Identifier.{Identifier}
use Rattle.st_types.specs.declared.kind.Kind.{Kind}
use Rattle.st_types.specs.declared.data_type.ArrayType.{ArrayType}
use Rattle.st_types.specs.declared.data_type.SimpleType.TheVariants.{Elementary, Named}
use Rattle.st_types.specs.declared.data_type.VariableType.{VariableType}
use Rattle.st_types.specs.declared.data_type.VariableType.TheVariants as types
use Rattle.st_types.specs.declared.unit.UnitSort.{UnitSort}
use Rattle.st_types.specs.declared.unit.UnitSort.TheVariants.{Function, FunctionBlock, Program}
use Rattle.st_types.specs.Declarations as declared_as
use Rattle.st_types.specs.Declarations.{TypeDefinition, TypeDeclaration, Field}
use Rattle.st_types.specs.Expressions.{Selector, member, subscript}
use Rattle.st_types.specs.Sources as sources
use Rattle.st_types.specs.Sources.{Source}
use Rattle.st_types.specs.Units.{OrganisationUnit}
use Rattle.st_meaning.specs.NameTypes.{Declared, declared_in, is_named, type_named, definition_of, field_type}
use Rattle.st_meaning.specs.NameTypes.{result_type}
use Rattle.st_meaning.specs.NameTypes.{type_in_blocks, member_type, element_type, selected_type, kind_among}
use Rattle.st_meaning.specs.NameTypes.{elementary, block_variable, variable_of_block, type_in_sections, sections_of}
use Rattle.st_meaning.specs.NameTypes.{is_output}
use Rattle.st_meaning.specs.NameTypes.{unit_named, member_kind}
use Rattle.st_meaning.specs.Operators.{natural, number_of}
use Rattle.st_meaning.specs.Scopes.{Name}
use Rattle.st_meaning.specs.StandardBlocks.{StandardBlock, block_of, outputs_of}
use Rattle.st_rules.specs.declared.limits.TheConstants.{MAX_ELEMENTS}
use Rattle.st_rules.specs.declared.reason.Reason.{Reason}
use Rattle.st_rules.specs.declared.reason.Reason.TheVariants.{WrongBounds, RetainedAddress}
use Rattle.st_rules.specs.DeclaredTypes.{Declaring, field, variable_of, declarings_of_element}
use Rattle.st_rules.specs.DeclaredTypes.{declarings_of_definition}
use Rattle.st_rules.specs.DeclaredTypes.{declarings_in, array_of_definition, named_arrays_of_element}
use Rattle.st_rules.specs.DeclaredTypes.{unnamed_arrays_in}
use Rattle.st_rules.specs.DeclaredTypes.{arrays_in}
use Rattle.st_rules.specs.Containment.{too_deep}
use Rattle.st_rules.specs.Faults.{breaking, in_case}
use Rattle.st_rules.specs.InitialRules.{too_long}
use Rattle.st_rules.specs.Rules.{environment, starts_in, wrong_declarations, wrong_types, wrong_starts, wrong_bodies}
use Rattle.st_rules.specs.Rules.{IsWellTyped}
use Rattle.st_rules.specs.TwiceDeclared.{twice_declared}
use Rattle.st_rules.specs.TypeRules.{has_wrong_bounds, bounds_of, wrong_bounds, elements_of_array}
use Rattle.st_rules.specs.TypeRules.{retained_addresses_of}
use Rattle.layout.specs.Types.{of_kind, of_elements, defined_composition, instance_of}
use Rattle.layout.specs.Types.{instance_parts, BlockType, composition_of}
use Rattle.st_link.specs.Soundness.{IsTypeIn, of_variable, of_part}
use Rattle.st_link.proofs.Among.{Among, here, in_front, in_flat, in_map, none_of}
use Rattle.st_link.proofs.CallLaw.{places_none}
use Rattle.st_link.proofs.FoundNames.{unit_found, unit_in, type_found, type_in_source, field_found, FoundVariable}
use Rattle.st_link.proofs.FoundNames.{variable_found, section_found}
use Rattle.st_link.proofs.KnownTypes.{TypesRight, unnamed_among, variable_among}
use Rattle.st_link.specs.Served.{AreBounded}
use Rattle.std.proofs.lemmas.Bool.{or_parts}
use Rattle.st_types.proofs.OptionLemmas.{some_is}
use Rattle.st_types.proofs.ListLemmas.{append_first, append_second}

-- bounds that are not reversed
pub some_elements : (z : ℤ) → nat_lt 0 (natural z) ≡ false → int_lt z (pos 1) ≡ true
some_elements (pos n) h = grind (arith, ints, nat_tests)
some_elements (negsuc n) h = grind (arith, ints)

pub has_elements : (u l : ℤ) → int_lt u l ≡ false → nat_lt 0 (natural ((u -ℤ l) +ℤ pos 1)) ≡ true
has_elements u l h = by_test (nat_lt 0 (natural ((u -ℤ l) +ℤ pos 1))) refl
  where
    by_test : (b : Bool) → nat_lt 0 (natural ((u -ℤ l) +ℤ pos 1)) ≡ b → b ≡ true
    by_test true e = refl
    by_test false e =
        let few = some_elements ((u -ℤ l) +ℤ pos 1) e in absurd (grind (arith, ints))

pub no_case : (b : Bool) (at : ℕ) → in_case b at ≡ [] → b ≡ false
no_case true at h = absurd (cc)
no_case false at h = refl

pub no_breaking : (reason : Reason) (b : Bool) (at : ℕ) → breaking reason (in_case b at) ≡ [] → b ≡ false
no_breaking reason b at h = no_case b at (places_none reason (in_case b at) h)

-- the bounds of a text's arrays
bounds_right : (source : Source) → IsWellTyped source → flat_map wrong_bounds (arrays_in source) ≡ []
bounds_right source h =
    let a = wrong_declarations source in
    let b = wrong_types source in
    let c = wrong_starts source in
    let d = wrong_bodies source in
    let declarations = append_first a b (append_first (a ++ b) c (append_first ((a ++ b) ++ c) d h)) in
    let twice = twice_declared source in
    let deep = too_deep source in
    let bounds = flat_map wrong_bounds (arrays_in source) in
    let long = flat_map (too_long (declared_in source)) (starts_in source) in
    let addresses = breaking RetainedAddress (flat_map retained_addresses_of source) in
    let front = append_first ((twice ++ deep) ++ bounds) long
    (append_first (((twice ++ deep) ++ bounds) ++ long) addresses declarations) in
    append_second (twice ++ deep) bounds front

module _ (source : Source) (right : TypesRight source) where
  abbrev text : Declared
  text = declared_in source

  -- an array without a name is one of the text's
  abbrev IsListed : VariableType → Type 0
  IsListed (types.Array a) = Among a (arrays_in source)
  IsListed (types.Simple s) = Unit {0}

  declared_listed : (d : Declaring) → Among d (declarings_in source) → (t : VariableType) → d.declared ≡ t → IsListed t
  declared_listed d among (types.Array a) is = unnamed_among source right d a among is
  declared_listed d among (types.Simple s) is = tt

  found_listed : (u : OrganisationUnit) → Among (sources.unit u) source → (t : VariableType)
      → FoundVariable u.blocks t → IsListed t
  found_listed u unit t v =
      let d = v.found.declaration in
      declared_listed (record { role = variable_of u.sort v.block.section; declared = d.declared; initial = d.initial })
      (variable_among source right u v.block d unit v.there v.found.among) t v.found.declared

  result_listed : (s : UnitSort) (t : VariableType) → result_type s ≡ Some t → IsListed t
  result_listed (Function r) t h = subst IsListed (some_is h) tt
  result_listed FunctionBlock t h = absurd (cc)
  result_listed Program t h = absurd (cc)

  variable_listed : (u : OrganisationUnit) → Among (sources.unit u) source → (x : Name) (t : VariableType) (b : Bool)
      → (if b then result_type u.sort else type_in_blocks u.blocks x) ≡ Some t → IsListed t
  variable_listed u unit x t true h = result_listed u.sort t h
  variable_listed u unit x t false h = found_listed u unit t (variable_found u.blocks x t h)

  -- outputs of blocks
  own_output : (y : Name) (t : VariableType) (u : OrganisationUnit) → Among (sources.unit u) source
      → (sort : UnitSort) → type_in_sections is_output (sections_of sort u.blocks) y ≡ Some t → IsListed t
  own_output y t u unit (Function s) h = absurd (cc)
  own_output y t u unit Program h = absurd (cc)
  own_output y t u unit FunctionBlock h = found_listed u unit t (section_found is_output u.blocks y t h)

  output_of_unit : (b y : Name) (t : VariableType) (o : Option OrganisationUnit) → unit_named text.units b ≡ o
      → option_and_then (λ u. type_in_sections is_output (sections_of u.sort u.blocks) y) o ≡ Some t → IsListed t
  output_of_unit b y t None is h = absurd (cc)
  output_of_unit b y t (Some u) is h =
      own_output y t u (unit_in source u (unit_found text.units b u is).among) u.sort h

  standard_output : (o : Option Kind) (t : VariableType) → option_map elementary o ≡ Some t → IsListed t
  standard_output None t h = absurd (cc)
  standard_output (Some k) t h = subst IsListed (some_is h) tt

  output_by : (b : Identifier) (y : Name) (t : VariableType) (o : Option StandardBlock) → block_of b.name ≡ o
      → block_variable text outputs_of is_output (types.Simple (Named b)) y ≡ Some t → IsListed t
  output_by b y t (Some k) e h =
      let g : option_map elementary (member_kind (outputs_of k) y) ≡ Some t = rw e at h in
      standard_output (member_kind (outputs_of k) y) t g
  output_by b y t None e h =
      let g : variable_of_block text is_output b.name y ≡ Some t = rw e at h in
      output_of_unit b.name y t (unit_named text.units b.name) refl g

  -- parts
  field_listed : (y : Name) (fs : List Field) (x : Name) (t : VariableType)
      → type_named text.types y ≡ Some (declared_as.structure fs) → field_type fs x ≡ Some t → IsListed t
  field_listed y fs x t is h =
      let d = type_found text.types y (declared_as.structure fs) is in
      let block = type_in_source source d.declaration d.among in
      let f = field_found fs x t h in
      let it : Declaring = record { role = field; declared = f.field.declared; initial = f.field.initial } in
      declared_listed it
      (in_flat declarings_of_element block.there
      (in_flat (λ (e : TypeDeclaration). declarings_of_definition e.definition) block.among
      (subst (λ (o : TypeDefinition). Among it (declarings_of_definition o)) (sym d.is)
      (in_map (λ (e : Field). record { role = field; declared = e.declared; initial = e.initial }) f.among))))
      t f.declared

  named_listed : (y : Identifier) (x : Name) (t : VariableType) (o : Option TypeDefinition)
      → type_named text.types y.name ≡ o → member_type text (types.Simple (Named y)) x o ≡ Some t → IsListed t
  named_listed y x t (Some (declared_as.structure fs)) is h = field_listed y.name fs x t is h
  named_listed y x t (Some (declared_as.array a)) is h = absurd (cc)
  named_listed y x t (Some (declared_as.enumeration names)) is h = absurd (cc)
  named_listed y x t None is h = output_by y x t (block_of y.name) refl h

  element_listed : (o : Option TypeDefinition) (t : VariableType) → element_type o ≡ Some t → IsListed t
  element_listed (Some (declared_as.array a)) t h = subst IsListed (some_is h) tt
  element_listed (Some (declared_as.structure fs)) t h = absurd (cc)
  element_listed (Some (declared_as.enumeration names)) t h = absurd (cc)
  element_listed None t h = absurd (cc)

  part_listed : (s t : VariableType) (x : Selector) → selected_type text s x ≡ Some t → IsListed t
  part_listed s t (subscript e) h = element_listed (definition_of text s) t h
  part_listed (types.Array a) t (member x) h = absurd (cc)
  part_listed (types.Simple (Elementary k at)) t (member x) h = absurd (cc)
  part_listed (types.Simple (Named y)) t (member x) h = named_listed y x.name t (type_named text.types y.name) refl h

  types_listed : (u : OrganisationUnit) → Among (sources.unit u) source → (t : VariableType)
      → IsTypeIn (environment text u) t → IsListed t
  types_listed u unit t (of_variable x is) = variable_listed u unit x t (is_named x u.name) is
  types_listed u unit t (of_part {t = whole} x h is) = part_listed whole t x is

  -- an array with a name is one of the text's
  named_array : (y : Name) (a : ArrayType) → type_named text.types y ≡ Some (declared_as.array a)
      → Among a (arrays_in source)
  named_array y a is =
      let d = type_found text.types y (declared_as.array a) is in
      let block = type_in_source source d.declaration d.among in
      in_front (unnamed_arrays_in source) (in_flat named_arrays_of_element block.there
      (in_flat (λ (e : TypeDeclaration). array_of_definition e.definition) block.among
      (subst (λ (o : TypeDefinition). Among a (array_of_definition o)) (sym d.is) here)))

  elements_are : (a b : ArrayType) → of_elements a ≡ of_elements b → a ≡ b
  elements_are a b h = cc

  no_instance_elements : (o : Option BlockType) (a : ArrayType) → instance_parts o ≡ of_elements a → ⊥
  no_instance_elements None a h = cc
  no_instance_elements (Some b) a h = cc

  by_definition : (y : Identifier) (a : ArrayType) (o : Option TypeDefinition) → type_named text.types y.name ≡ o
      → defined_composition text (types.Simple (Named y)) o ≡ of_elements a → Among a (arrays_in source)
  by_definition y a (Some (declared_as.array c)) is h =
      subst (λ b. Among b (arrays_in source)) (elements_are c a h) (named_array y.name c is)
  by_definition y a (Some (declared_as.structure fields)) is h = absurd (cc)
  by_definition y a (Some (declared_as.enumeration names)) is h = absurd (cc)
  by_definition y a None is h =
      absurd (no_instance_elements (instance_of text (types.Simple (Named y))) a h)

  by_kind : (y : Identifier) (a : ArrayType) (o : Option Kind)
      → elim o [
        | Some k ↦ of_kind k
        | None ↦ defined_composition text (types.Simple (Named y)) (type_named text.types y.name)
      ] ≡ of_elements a
      → Among a (arrays_in source)
  by_kind y a (Some k) h = absurd (cc)
  by_kind y a None h = by_definition y a (type_named text.types y.name) refl h

  elements_listed : (t : VariableType) → IsListed t → (a : ArrayType) → composition_of text t ≡ of_elements a
      → Among a (arrays_in source)
  elements_listed (types.Array c) listed a h = subst (λ b. Among b (arrays_in source)) (elements_are c a h) listed
  elements_listed (types.Simple (Elementary k at)) listed a h = absurd (cc)
  elements_listed (types.Simple (Named y)) listed a h =
      by_kind y a (kind_among text.types (types.Simple (Named y))) h

pub arrays_bounded : (source : Source) → IsWellTyped source → TypesRight source → (u : OrganisationUnit)
    → Among (sources.unit u) source → AreBounded (environment (declared_in source) u)
arrays_bounded source h right u unit s typed a is =
    let listed = types_listed source right u unit s typed in
    let among = elements_listed source right s listed a is in
    let places = places_none (WrongBounds (bounds_of a)) (in_case (has_wrong_bounds a) a.lower.place)
    (none_of wrong_bounds among (bounds_right source h)) in
    let wrong = no_case (has_wrong_bounds a) a.lower.place places in
    has_elements (number_of a.upper) (number_of a.lower)
    (or_parts (int_lt (number_of a.upper) (number_of a.lower)) (nat_lt MAX_ELEMENTS (elements_of_array a)) wrong).0
