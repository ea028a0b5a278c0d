-- The units that a unit calls are not as deep as the unit.
use Rattle.std.proofs.Common.{◌≡◌, refl, sym, ap, subst, ◌∙◌, ℕ, suc, ◌+◌, Bool, true, false, ◌||◌, if◌then◌else◌}
use Rattle.std.proofs.Common.{List, [], ◌∷◌, ◌++◌, map, Option, Some, None}
use Rattle.std.specs.Prelude.{bytes_eq, is_some}
use Rattle.std.specs.List.{flat_map, filter, list_any}
use Rattle.st_types.specs.declared.identifier.Identifier.{Identifier}
use Rattle.st_types.specs.declared.data_type.SimpleType.{SimpleType}
use Rattle.st_types.specs.declared.data_type.SimpleType.TheVariants.{Named}
use Rattle.st_types.specs.declared.data_type.VariableType.{VariableType}
use Rattle.st_types.specs.declared.data_type.VariableType.TheVariants as types
use Rattle.st_types.specs.declared.declaration.Section.{Section}
use Rattle.st_types.specs.declared.declaration.Section.TheVariants as sections
use Rattle.st_types.specs.declared.unit.UnitSort.{UnitSort}
use Rattle.st_types.specs.declared.unit.UnitSort.TheVariants as sorts
use Rattle.st_types.specs.Declarations.{TypeDeclaration, TypeDefinition, Declaration, VariableBlock}
use Rattle.st_types.specs.Sources as sources
use Rattle.st_types.specs.Sources.{Source}
use Rattle.st_types.specs.Units.{OrganisationUnit}
use Rattle.st_meaning.specs.Bodies.{is_external}
use Rattle.st_meaning.specs.NameTypes.{Declared, declared_in, is_named, or_type, type_in, type_in_blocks, type_named, unit_named}
use Rattle.st_meaning.specs.NameTypes.{variable_type}
use Rattle.st_meaning.specs.Scopes.{Name}
use Rattle.st_meaning.specs.StandardBlocks.{StandardBlock, block_of}
use Rattle.st_rules.specs.declared.limits.TheConstants.{MAX_TYPE_DEPTH}
use Rattle.st_rules.specs.Containment.{Part, elementary, named, part_of_type, calls_of, is_function, is_own_function}
use Rattle.st_rules.specs.Containment.{is_function_sort, parts_of_block, part_of_result, parts_of_unit}
use Rattle.st_rules.specs.Containment.{parts_of_definition, parts_of_standard, parts_named, has_chain}
use Rattle.st_rules.specs.Containment.{is_too_deep, is_wrong_unit, reason_of_depth}
use Rattle.st_rules.specs.Containment.{too_deep_types, too_deep_units, too_deep_array}
use Rattle.st_rules.specs.DeclaredTypes.{variable_of, unnamed_arrays_in}
use Rattle.st_rules.specs.Environments.{section_in, is_block}
use Rattle.st_rules.specs.Faults.{breaking, in_case}
use Rattle.st_rules.specs.NameScopes.{names_of_element, names_of_text}
use Rattle.st_rules.specs.Places.{repeats}
use Rattle.st_rules.specs.Rules.{IsWellTyped}
use Rattle.st_rules.specs.TwiceDeclared.{is_standard}
use Rattle.st_meaning.specs.StandardFunctions.{standard_of}
use Rattle.st_rules.specs.TypeRules.{may_be_instance}
use Rattle.layout.proofs.ListLemmas.{same_name}
use Rattle.st_link.proofs.Among.{Among, here, later, in_front, in_back, in_map, in_flat, none_of, none_passes}
use Rattle.st_link.proofs.ApartNames.{names_apart, repeats_behind, turned, types_are_no_blocks, types_apart}
use Rattle.st_link.proofs.BodyRunLaw.{own_block}
use Rattle.st_link.proofs.FoundNames.{unit_found, unit_in, type_found, type_in_source}
use Rattle.st_link.proofs.InstanceSections.{instance_variable, found_among, absent}
use Rattle.st_link.proofs.WellTypedTexts.{PartsRight, parts_right}
use Rattle.st_link.proofs.RunHomes.{no_type_by}
use Rattle.st_link.proofs.BoundedArrays.{no_breaking}
use Rattle.std.proofs.lemmas.Bool.{or_parts}
use Rattle.st_types.proofs.OptionLemmas.{some_is, none_is}
use Rattle.st_types.proofs.ListLemmas.{append_first, append_second}
use Rattle.st_types.proofs.TestLemmas.{or_first}
use Rattle.st_link.proofs.LibraryBodies.{local_is}

-- none of a list passes
pub none_at : {A : Type 0} (p : A → Bool) {a : A} {xs : List A} → Among a xs → list_any p xs ≡ false → p a ≡ false
none_at p (here {a = a} {rest = rest}) h = (or_parts (p a) (list_any p rest) h).0
none_at p (later {b = x} {rest = rest} k) h = none_at p k (or_parts (p x) (list_any p rest) h).1

in_filter : {A : Type 0} (p : A → Bool) {a : A} {xs : List A} → Among a xs → p a ≡ true → Among a (filter p xs)
in_filter p (here {a = a} {rest = rest}) h =
    subst (λ b. Among a (if b then a ∷ filter p rest else filter p rest)) (sym h) here
in_filter p {a = a} (later {b = x} {rest = rest} k) h = by_test (p x) (in_filter p k h)
  where
    by_test : (b : Bool) → Among a (filter p rest) → Among a (if b then x ∷ filter p rest else filter p rest)
    by_test true i = later i
    by_test false i = i

-- a type doesn't have the name of a unit
abbrev name_of_type : TypeDeclaration → Identifier
name_of_type t = t.name

elementary_alone : (text : Declared) (x : Name) → parts_named text x ≡ elementary ∷ []
    → has_chain text 65 (named x) ≡ false
unfolding has_chain
elementary_alone text x h = ap (list_any (has_chain text 64)) h

block_part : (b : VariableBlock) (t : VariableType) (d : Declaration) → is_external b.section ≡ false
    → Among d b.declarations → d.declared ≡ t → Among (part_of_type t) (parts_of_block b)
block_part b t d e among is =
    subst (λ c. Among (part_of_type t) (if c then [] else map (λ d. part_of_type d.declared) b.declarations)) (sym e)
    (subst (λ (u : VariableType). Among (part_of_type u) (map (λ d. part_of_type d.declared) b.declarations)) is
    (in_map (λ (d : Declaration). part_of_type d.declared) among))

part_there : (bs : List VariableBlock) (x : Name) (t : VariableType) (s : Section) → type_in_blocks bs x ≡ Some t
    → section_in bs x ≡ Some s → is_external s ≡ false → Among (part_of_type t) (flat_map parts_of_block bs)
part_there [] x t s h k e = absurd (cc)
part_there (b ∷ bs) x t s h k e =
    by_type (type_in b.declarations x) refl h k (λ g l. part_there bs x t s g l e)
  where
    by_type : (o : Option VariableType) → type_in b.declarations x ≡ o → or_type o (type_in_blocks bs x) ≡ Some t
        → (if list_any (λ d. list_any (is_named x) d.names) b.declarations then Some b.section else section_in bs x)
        ≡ Some s
        → (type_in_blocks bs x ≡ Some t → section_in bs x ≡ Some s
        → Among (part_of_type t) (flat_map parts_of_block bs))
        → Among (part_of_type t) (flat_map parts_of_block (b ∷ bs))
    by_type (Some q) is g l ih =
        let f = found_among b.declarations x q is in
        let same : q ≡ t = some_is g in
        let section : b.section ≡ s =
        some_is (sym (ap (λ (c : Bool). if c then Some b.section else section_in bs x) f.named) ∙ l) in
        in_front (flat_map parts_of_block bs)
        (block_part b t f.declaration (ap is_external section ∙ e) f.among (f.declared ∙ same))
    by_type None is g l ih =
        let other : section_in bs x ≡ Some s =
        sym (ap (λ (c : Bool). if c then Some b.section else section_in bs x) (absent b.declarations x is)) ∙ l in
        in_back (parts_of_block b) (ih g other)

-- the units that a unit calls begin no chain of `m + 1` parts
pub record IsShallow (source : Source) (u : OrganisationUnit) (m : ℕ) : Type 0 where
  pub functions : (f : Name) (g : OrganisationUnit) (r : SimpleType) → Among f (calls_of u)
      → unit_named (declared_in source).units f ≡ Some g → g.sort ≡ sorts.Function r
      → has_chain (declared_in source) (suc m) (named f) ≡ false
  pub instances : (x : Name) (b : Identifier) → variable_type u x ≡ Some (types.Simple (Named b))
      → is_block (declared_in source) b.name ≡ true → has_chain (declared_in source) (suc m) (named b.name) ≡ false

module _ (source : Source) (h : IsWellTyped source) where
  abbrev text : Declared
  text = declared_in source

  right : PartsRight source
  right = parts_right source h

  no_type : (x : Name) (u : OrganisationUnit) → unit_named text.units x ≡ Some u → (o : Option TypeDefinition)
      → type_named text.types x ≡ o → o ≡ None
  no_type x u is None e = refl
  no_type x u is (Some d) e =
      let type = type_found text.types x d e in
      let block = type_in_source source type.declaration type.among in
      let unit = unit_found text.units x u is in
      absurd (types_apart source right.names.once block.there block.among (unit_in source u unit.among)
      (subst (λ (y : Name). bytes_eq y u.name.name ≡ true) (same_name x type.declaration.name.name type.named)
      unit.named))

  pub is_function_there : (f : Name) (g : OrganisationUnit) (r : SimpleType) → unit_named text.units f ≡ Some g
      → g.sort ≡ sorts.Function r → is_function text f ≡ true
  is_function_there f g r is sort = ap is_own_function is ∙ ap is_function_sort sort

  pub parts_are : (x : Name) (u : OrganisationUnit) → unit_named text.units x ≡ Some u
      → parts_named text x ≡ parts_of_unit text u
  parts_are x u is =
      ap (λ (d : Option TypeDefinition). elim d [
        | Some t ↦ parts_of_definition t
        | None ↦ elim (unit_named text.units x) [ Some u ↦ parts_of_unit text u | None ↦ parts_of_standard x ]
      ]) (no_type x u is (type_named text.types x) refl)
      ∙ ap (λ (o : Option OrganisationUnit). elim o [ Some u ↦ parts_of_unit text u | None ↦ parts_of_standard x ]) is

  -- a function that is called, and a block of an instance, are parts
  pub function_part : (u : OrganisationUnit) (f : Name) → Among f (calls_of u) → is_function text f ≡ true
      → Among (named f) (parts_of_unit text u)
  function_part u f among is =
      in_back (flat_map parts_of_block u.blocks ++ part_of_result u.sort)
      (in_map named (in_filter (is_function text) among is))

  instance_part : (u : OrganisationUnit) → Among (sources.unit u) source → (x : Name) (b : Identifier)
      → variable_type u x ≡ Some (types.Simple (Named b)) → is_block text b.name ≡ true
      → Among (named b.name) (parts_of_unit text u)
  instance_part u unit x b is block =
      let v = instance_variable source right.types right.names u unit x b is block in
      in_front (map named (filter (is_function text) (calls_of u)))
      (in_front (part_of_result u.sort)
      (part_there u.blocks x (types.Simple (Named b)) v.section v.declared v.there (local_is u.sort v.section v.local)))

  abbrev chains : ℕ → Part → Bool
  chains m = has_chain (declared_in source) (suc m)

  parts_shallow : (u : OrganisationUnit) → Among (sources.unit u) source → (m : ℕ)
      → list_any (has_chain (declared_in source) (suc m)) (parts_of_unit (declared_in source) u) ≡ false
      → IsShallow source u m
  parts_shallow u unit m none = record {
    functions = λ f g r among is sort.
        none_at (has_chain text (suc m)) (function_part u f among (is_function_there f g r is sort)) none;
    instances = λ x b is block. none_at (has_chain text (suc m)) (instance_part u unit x b is block) none;
  }

  -- of a unit that begins no chain of one part more
  pub unit_shallow : (x : Name) (u : OrganisationUnit) → unit_named (declared_in source).units x ≡ Some u → (m : ℕ)
      → has_chain (declared_in source) (suc (suc m)) (named x) ≡ false → IsShallow source u m
  unfolding has_chain
  unit_shallow x u is m none =
      parts_shallow u (unit_in source u (unit_found text.units x u is).among) m
      (ap (list_any (has_chain text (suc m))) (sym (parts_are x u is)) ∙ none)

  -- units of a text are at most 64 deep
  units_shallow : too_deep_units text ≡ []
  units_shallow =
      append_second (too_deep_types text) (too_deep_units text)
      (append_first (too_deep_types text ++ too_deep_units text)
      (flat_map (too_deep_array text) (unnamed_arrays_in source)) right.deep)

  pub own_shallow : (x : Name) (u : OrganisationUnit) → unit_named text.units x ≡ Some u → (s : UnitSort) → u.sort ≡ s
      → is_wrong_unit text s u.name.name ≡ is_too_deep text (named u.name.name)
      → has_chain text (MAX_TYPE_DEPTH + 1) (named x) ≡ false
  own_shallow x u is s sort same =
      let found = unit_found text.units x u is in
      let wrong =
      no_breaking (reason_of_depth text u.name.name) (is_wrong_unit text u.sort u.name.name) u.name.place
      (none_of (λ (e : OrganisationUnit). breaking (reason_of_depth text e.name.name)
      (in_case (is_wrong_unit text e.sort e.name.name) e.name.place)) found.among units_shallow) in
      subst (λ (y : Name). has_chain text (MAX_TYPE_DEPTH + 1) (named y) ≡ false)
      (sym (same_name x u.name.name found.named))
      (sym same ∙ ap (λ (s : UnitSort). is_wrong_unit text s u.name.name) (sym sort) ∙ wrong)

  pub unit_not_standard : (x : Name) (o : Option OrganisationUnit) → unit_named text.units x ≡ o → is_some o ≡ true
      → block_of x ≡ None
  unit_not_standard x None is h = absurd (cc)
  unit_not_standard x (Some u) is h =
      let found = unit_found text.units x u is in
      let name = in_flat names_of_element (unit_in source u found.among) here in
      let free = or_first (is_some (block_of u.name.name)) (is_some (standard_of u.name.name))
      (none_passes (λ y. is_standard y.name) name right.names.free) in
      none_is (block_of x) (subst (λ (y : Name). is_some (block_of y) ≡ false)
      (sym (same_name x u.name.name found.named)) free)

  unit_absent : (x : Name) (k : StandardBlock) → block_of x ≡ Some k → (o : Option OrganisationUnit)
      → unit_named text.units x ≡ o → o ≡ None
  unit_absent x k is None e = refl
  unit_absent x k is (Some u) e = absurd (let none = unit_not_standard x (Some u) e refl in cc)

  standard_shallow : (x : Name) (k : StandardBlock) → type_named text.types x ≡ None → block_of x ≡ Some k
      → has_chain text 65 (named x) ≡ false
  standard_shallow x k none is =
      elementary_alone text x
      (ap (λ (d : Option TypeDefinition). elim d [
        | Some t ↦ parts_of_definition t
        | None ↦ elim (unit_named text.units x) [ Some u ↦ parts_of_unit text u | None ↦ parts_of_standard x ]
      ]) none
      ∙ ap (λ (o : Option OrganisationUnit). elim o [ Some u ↦ parts_of_unit text u | None ↦ parts_of_standard x ])
      (unit_absent x k is (unit_named text.units x) refl)
      ∙ ap (λ (o : Option StandardBlock). if is_some o then elementary ∷ [] else []) is)

  pub block_shallow : (x : Name) → is_block text x ≡ true → (o : Option StandardBlock) → block_of x ≡ o
      → has_chain text 65 (named x) ≡ false
  block_shallow x is (Some k) e =
      standard_shallow x k
      (no_type_by (type_named text.types x) (is_block text x) (types_are_no_blocks source right.names x) is) e
  block_shallow x is None e =
      let d = own_block text x e is in own_shallow x d.unit d.declared sorts.FunctionBlock d.sort refl

  -- so are those that a program calls
  pub program_shallow : (u : OrganisationUnit) → IsShallow source u 64
  program_shallow u = record {
    functions = λ f g r among is sort. own_shallow f g is (sorts.Function r) sort refl;
    instances = λ x b is block. block_shallow b.name block (block_of b.name) refl;
  }
