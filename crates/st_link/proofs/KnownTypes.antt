-- In a text whose declared types are right, each type of a unit's variables and of their parts is known.
use Rattle.std.proofs.Common.{◌≡◌, refl, sym, subst, Bool, true, false, ◌&&◌, ◌||◌, if◌then◌else◌, List, []}
use Rattle.std.proofs.Common.{◌++◌, Option, Some, None}
use Rattle.std.specs.Prelude.{option_map, option_and_then, is_some}
use Rattle.std.specs.List.{flat_map}
use Rattle.st_types.specs.declared.kind.Kind.{Kind}
use Rattle.st_types.specs.declared.identifier.Identifier.{Identifier}
use Rattle.st_types.specs.declared.data_type.ArrayType.{ArrayType}
use Rattle.st_types.specs.declared.data_type.SimpleType.{SimpleType}
use Rattle.st_types.specs.declared.data_type.SimpleType.TheVariants.{Elementary, Named}
use Rattle.st_types.specs.declared.data_type.VariableType.{VariableType}
use Rattle.st_types.specs.declared.data_type.VariableType.TheVariants as types
use Rattle.st_types.specs.declared.declaration.Section.{Section}
use Rattle.st_types.specs.declared.unit.UnitSort.{UnitSort}
use Rattle.st_types.specs.declared.unit.UnitSort.TheVariants.{Function as function, FunctionBlock as function_block}
use Rattle.st_types.specs.declared.unit.UnitSort.TheVariants.{Program as program}
use Rattle.st_types.specs.Expressions.{Selector, member, subscript}
use Rattle.st_types.specs.Declarations as declared_as
use Rattle.st_types.specs.Declarations.{Field, TypeDefinition, TypeDeclaration, Declaration, VariableBlock}
use Rattle.st_types.specs.Units.{OrganisationUnit}
use Rattle.st_types.specs.Sources as sources
use Rattle.st_types.specs.Sources.{Source}
use Rattle.st_meaning.specs.StandardBlocks.{StandardBlock, BlockMember, block_of, outputs_of}
use Rattle.st_meaning.specs.StandardFunctions.{standard_of}
use Rattle.st_meaning.specs.Enumerations.{Enumeration, enumerations_of, enumeration_named}
use Rattle.st_meaning.specs.Scopes.{Name}
use Rattle.st_meaning.specs.NameTypes.{Declared, declared_in, is_named, type_named, unit_named, elementary, result_type}
use Rattle.st_meaning.specs.NameTypes.{type_in_blocks, variable_type, member_kind, sections_of, variable_of_block}
use Rattle.st_meaning.specs.NameTypes.{block_variable, member_type, selected_type, is_output, type_in_sections, element_type, field_type}
use Rattle.st_rules.specs.declared.reason.Reason.TheVariants.{HasParts, InstanceWithValue}
use Rattle.st_rules.specs.Faults.{breaking, in_case}
use Rattle.st_rules.specs.Environments.{is_block, is_block_type}
use Rattle.st_rules.specs.Typings.{typing_of_named, typing_of_type, is_nothing, is_composite}
use Rattle.st_rules.specs.DeclaredTypes.{field, variable_of, Declaring, declarings_of_definition}
use Rattle.st_rules.specs.DeclaredTypes.{declarings_of_block, declarings_of_element, declarings_in}
use Rattle.st_rules.specs.DeclaredTypes.{array_of_definition, array_of_type, named_arrays_of_element}
use Rattle.st_rules.specs.DeclaredTypes.{unnamed_arrays_in, arrays_in, result_of_sort, results_of_element, results_in}
use Rattle.st_rules.specs.TypeRules.{place_of_simple, place_of_type, wrong_simple, wrong_name, may_be_instance}
use Rattle.st_rules.specs.TypeRules.{is_without_parts, wrong_declaring, wrong_element, wrong_result}
use Rattle.st_rules.specs.Rules.{environment}
use Rattle.st_link.specs.Soundness.{IsKnown, IsTypeIn, of_variable, of_part}
use Rattle.st_link.proofs.Among.{Among, here, in_front, in_back, in_map, in_flat, none_of}
use Rattle.st_link.proofs.NamedFaults.{named_something}
use Rattle.st_link.proofs.FoundNames.{unit_found, unit_in, type_found, type_in_source, field_found, FoundVariable}
use Rattle.st_link.proofs.FoundNames.{variable_found, section_found}
use Rattle.st_types.proofs.ListLemmas.{append_first, append_second}

-- a name that isn't a wrong type
composite_known : (text : Declared) (x : Name) (o : Option Enumeration)
    → (is_some (type_named text.types x) || is_block text x) ≡ true → is_nothing (typing_of_named text x o) ≡ false
composite_known text x (Some e) h = refl
composite_known text x None h = rw h refl

pub simple_known : (text : Declared) (blocks : Bool) (t : SimpleType) → wrong_simple text blocks t ≡ []
    → IsKnown text (types.Simple t)
simple_known text blocks (Elementary k at) h = refl
simple_known text blocks (Named x) h =
    composite_known text x.name (enumeration_named (enumerations_of text.types) x.name)
    (named_something (is_some (type_named text.types x.name)) (is_block text x.name)
    (is_some (unit_named text.units x.name) || is_some (standard_of x.name)) blocks x.place h)

-- a type that is known, and whose elements are if it is an array without a name
abbrev pub IsSoundType : Declared → VariableType → Type 0
IsSoundType text (types.Array a) = IsKnown text (types.Simple a.element)
IsSoundType text (types.Simple t) = IsKnown text (types.Simple t)

pub sound_known : (text : Declared) (t : VariableType) → IsSoundType text t → IsKnown text t
sound_known text (types.Array a) h = refl
sound_known text (types.Simple t) h = h

-- the declared types of a text in which no rule on them is broken
pub record TypesRight (source : Source) : Type 0 where
  pub declarings : flat_map (wrong_declaring (declared_in source)) (declarings_in source) ≡ []
  pub elements : flat_map (wrong_element (declared_in source)) (arrays_in source) ≡ []
  pub results : flat_map (wrong_result (declared_in source)) (results_in source) ≡ []

-- the three rules on a declaration
pub record DeclaringRight (text : Declared) (d : Declaring) : Type 0 where
  pub name : wrong_name text (may_be_instance d.role) d.declared ≡ []
  pub whole : breaking HasParts
      (in_case (is_without_parts d.role && is_composite (typing_of_type text (Some d.declared)))
      (place_of_type d.declared)) ≡ []

pub declaring_right : (text : Declared) (d : Declaring) → wrong_declaring text d ≡ [] → DeclaringRight text d
declaring_right text d h =
    let one = wrong_name text (may_be_instance d.role) d.declared in
    let two = breaking HasParts
    (in_case (is_without_parts d.role && is_composite (typing_of_type text (Some d.declared)))
    (place_of_type d.declared)) in
    let three = breaking InstanceWithValue (in_case (is_block_type text d.declared && is_some d.initial)
    (place_of_type d.declared)) in
    let front = append_first (one ++ two) three h in
    record { name = append_first one two front; whole = append_second one two front }

module _ (source : Source) (right : TypesRight source) where
  abbrev text : Declared
  text = declared_in source

  pub declared_right : (d : Declaring) → Among d (declarings_in source) → DeclaringRight (declared_in source) d
  declared_right d among = declaring_right text d (none_of (wrong_declaring text) among right.declarings)

  element_known : (a : ArrayType) → Among a (arrays_in source) → IsKnown text (types.Simple a.element)
  element_known a among = simple_known text false a.element (none_of (wrong_element text) among right.elements)

  pub unnamed_among : (d : Declaring) (a : ArrayType) → Among d (declarings_in source) → d.declared ≡ types.Array a
      → Among a (arrays_in source)
  unnamed_among d a among is = in_back (flat_map named_arrays_of_element source)
      (in_flat (λ (e : Declaring). array_of_type e.declared) among
      (subst (λ (t : VariableType). Among a (array_of_type t)) (sym is) here))

  pub sound_declared : (d : Declaring) → Among d (declarings_in source) → (t : VariableType) → d.declared ≡ t
      → IsSoundType text t
  sound_declared d among (types.Array a) is = element_known a (unnamed_among d a among is)
  sound_declared d among (types.Simple s) is = simple_known text (may_be_instance d.role) s
      (subst (λ (t : VariableType). wrong_name text (may_be_instance d.role) t ≡ []) is (declared_right d among).name)

  -- variables
  pub variable_among : (u : OrganisationUnit) (b : VariableBlock) (d : Declaration) → Among (sources.unit u) source
      → Among b u.blocks → Among d b.declarations
      → Among (record { role = variable_of u.sort b.section; declared = d.declared; initial = d.initial })
      (declarings_in source)
  variable_among u b d unit block declaration = in_flat declarings_of_element unit
      (in_flat (declarings_of_block u.sort) block
      (in_map (λ (e : Declaration).
      record { role = variable_of u.sort b.section; declared = e.declared; initial = e.initial }) declaration))

  sound_variable : (u : OrganisationUnit) → Among (sources.unit u) source → (t : VariableType)
      → FoundVariable u.blocks t
      → IsSoundType text t
  sound_variable u unit t v =
      let d = v.found.declaration in
      sound_declared (record { role = variable_of u.sort v.block.section; declared = d.declared; initial = d.initial })
      (variable_among u v.block d unit v.there v.found.among) t v.found.declared

  pub result_right : (u : OrganisationUnit) (s : SimpleType) → Among (sources.unit u) source → u.sort ≡ function s
      → wrong_result text s ≡ []
  result_right u s unit is = none_of (wrong_result text)
      (in_flat results_of_element unit (subst (λ (o : UnitSort). Among s (result_of_sort o)) (sym is) here)) right.results

  pub result_known : (u : OrganisationUnit) (s : SimpleType) → Among (sources.unit u) source → u.sort ≡ function s
      → IsKnown text (types.Simple s)
  result_known u s unit is = simple_known text false s
      (append_first (wrong_simple text false s) (breaking HasParts
      (in_case (is_composite (typing_of_type text (Some (types.Simple s)))) (place_of_simple s)))
      (result_right u s unit is))

  sound_result : (u : OrganisationUnit) → Among (sources.unit u) source → (sort : UnitSort) → u.sort ≡ sort
      → (t : VariableType) → result_type sort ≡ Some t → IsSoundType text t
  sound_result u unit (function s) is t h =
      let same : types.Simple s ≡ t = cc in
      subst (λ (v : VariableType). IsSoundType text v) same (result_known u s unit is)
  sound_result u unit function_block is t h = absurd (cc)
  sound_result u unit program is t h = absurd (cc)

  named_variable : (u : OrganisationUnit) → Among (sources.unit u) source → (x : Name) (t : VariableType) (b : Bool)
      → (if b then result_type u.sort else type_in_blocks u.blocks x) ≡ Some t → IsSoundType text t
  named_variable u unit x t true h = sound_result u unit u.sort refl t h
  named_variable u unit x t false h = sound_variable u unit t (variable_found u.blocks x t h)

  pub variable_sound : (u : OrganisationUnit) → Among (sources.unit u) source → (x : Name) (t : VariableType)
      → variable_type u x ≡ Some t → IsSoundType text t
  variable_sound u unit x t h = named_variable u unit x t (is_named x u.name) h

  -- inputs and outputs of blocks
  own_member : (wanted : Section → Bool) (y : Name) (t : VariableType) (u : OrganisationUnit)
      → Among (sources.unit u) source → (sort : UnitSort) → type_in_sections wanted (sections_of sort u.blocks) y ≡ Some t
      → IsSoundType text t
  own_member wanted y t u unit (function s) h = absurd (cc)
  own_member wanted y t u unit program h = absurd (cc)
  own_member wanted y t u unit function_block h = sound_variable u unit t (section_found wanted u.blocks y t h)

  member_of_unit : (wanted : Section → Bool) (b y : Name) (t : VariableType) (o : Option OrganisationUnit)
      → unit_named text.units b ≡ o
      → option_and_then (λ u. type_in_sections wanted (sections_of u.sort u.blocks) y) o ≡ Some t
      → IsSoundType text t
  member_of_unit wanted b y t None is h = absurd (cc)
  member_of_unit wanted b y t (Some u) is h =
      own_member wanted y t u (unit_in source u (unit_found text.units b u is).among) u.sort h

  standard_member : (o : Option Kind) (t : VariableType) → option_map elementary o ≡ Some t → IsSoundType text t
  standard_member None t h = absurd (cc)
  standard_member (Some k) t h =
      let is : elementary k ≡ t = cc in subst (λ (v : VariableType). IsSoundType text v) is refl

  member_by : (members : StandardBlock → List BlockMember) (wanted : Section → Bool) (b : Identifier) (y : Name)
      (t : VariableType) (o : Option StandardBlock) → block_of b.name ≡ o
      → block_variable text members wanted (types.Simple (Named b)) y ≡ Some t → IsSoundType text t
  member_by members wanted b y t (Some k) e h =
      let g : option_map elementary (member_kind (members k) y) ≡ Some t = rw e at h in
      standard_member (member_kind (members k) y) t g
  member_by members wanted b y t None e h =
      let g : variable_of_block text wanted b.name y ≡ Some t = rw e at h in
      member_of_unit wanted b.name y t (unit_named text.units b.name) refl g

  pub member_sound : (members : StandardBlock → List BlockMember) (wanted : Section → Bool) (b : Identifier) (y : Name)
      (t : VariableType) → block_variable text members wanted (types.Simple (Named b)) y ≡ Some t → IsSoundType text t
  member_sound members wanted b y t h = member_by members wanted b y t (block_of b.name) refl h

  -- parts
  sound_field : (y : Name) (fs : List Field) (x : Name) (t : VariableType)
      → type_named text.types y ≡ Some (declared_as.structure fs)
      → field_type fs x ≡ Some t → IsSoundType text t
  sound_field y fs x t is h =
      let d = type_found text.types y (declared_as.structure fs) is in
      let block = type_in_source source d.declaration d.among in
      let f = field_found fs x t h in
      let it : Declaring = record { role = field; declared = f.field.declared; initial = f.field.initial } in
      sound_declared it
      (in_flat declarings_of_element block.there
      (in_flat (λ (e : TypeDeclaration). declarings_of_definition e.definition) block.among
      (subst (λ (o : TypeDefinition). Among it (declarings_of_definition o)) (sym d.is)
      (in_map (λ (e : Field). record { role = field; declared = e.declared; initial = e.initial }) f.among))))
      t f.declared

  named_element : (y : Name) (a : ArrayType) → type_named text.types y ≡ Some (declared_as.array a)
      → IsKnown text (types.Simple a.element)
  named_element y a is =
      let d = type_found text.types y (declared_as.array a) is in
      let block = type_in_source source d.declaration d.among in
      element_known a (in_front (unnamed_arrays_in source) (in_flat named_arrays_of_element block.there
      (in_flat (λ (e : TypeDeclaration). array_of_definition e.definition) block.among
      (subst (λ (o : TypeDefinition). Among a (array_of_definition o)) (sym d.is) here))))

  named_member : (y : Identifier) (x : Name) (t : VariableType) (o : Option TypeDefinition)
      → type_named text.types y.name ≡ o
      → member_type text (types.Simple (Named y)) x o ≡ Some t → IsSoundType text t
  named_member y x t (Some (declared_as.structure fs)) is h = sound_field y.name fs x t is h
  named_member y x t (Some (declared_as.array a)) is h = absurd (cc)
  named_member y x t (Some (declared_as.enumeration names)) is h = absurd (cc)
  named_member y x t None is h = member_sound outputs_of is_output y x t h

  named_subscript : (y : Identifier) (t : VariableType) (o : Option TypeDefinition) → type_named text.types y.name ≡ o
      → element_type o ≡ Some t → IsSoundType text t
  named_subscript y t (Some (declared_as.array a)) is h =
      let e : types.Simple a.element ≡ t = cc in
      subst (λ (v : VariableType). IsSoundType text v) e (named_element y.name a is)
  named_subscript y t (Some (declared_as.structure fs)) is h = absurd (cc)
  named_subscript y t (Some (declared_as.enumeration names)) is h = absurd (cc)
  named_subscript y t None is h = absurd (cc)

  part_sound : (t u : VariableType) (x : Selector) → IsSoundType text t → selected_type text t x ≡ Some u
      → IsSoundType text u
  part_sound (types.Array a) u (member x) s h = absurd (cc)
  part_sound (types.Array a) u (subscript e) s h =
      let is : types.Simple a.element ≡ u = cc in subst (λ (v : VariableType). IsSoundType text v) is s
  part_sound (types.Simple (Elementary k at)) u (member x) s h = absurd (cc)
  part_sound (types.Simple (Elementary k at)) u (subscript e) s h = absurd (cc)
  part_sound (types.Simple (Named y)) u (member x) s h = named_member y x.name u (type_named text.types y.name) refl h
  part_sound (types.Simple (Named y)) u (subscript e) s h =
      named_subscript y u (type_named text.types y.name) refl h

  types_sound : (u : OrganisationUnit) → Among (sources.unit u) source → (t : VariableType)
      → IsTypeIn (environment (declared_in source) u) t → IsSoundType (declared_in source) t
  types_sound u unit t (of_variable x is) = variable_sound u unit x t is
  types_sound u unit t (of_part {t = whole} x h is) = part_sound whole t x (types_sound u unit whole h) is

  pub types_known : (u : OrganisationUnit) → Among (sources.unit u) source → (t : VariableType)
      → IsTypeIn (environment (declared_in source) u) t → IsKnown (declared_in source) t
  types_known u unit t h = sound_known text t (types_sound u unit t h)
