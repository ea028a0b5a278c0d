-- Each body that a run reaches has homes in the layout for its names, and so do the members of the instances in it.
use Rattle.std.proofs.Common.{◌≡◌, ℕ, Bool, true, false, ◌||◌, List, [], ◌∷◌, Option, Some, None, refl, ap}
use Rattle.std.proofs.Common.{◌∙◌, subst}
use Rattle.std.specs.Prelude.{is_some}
use Rattle.st_types.specs.declared.identifier.Identifier.{Identifier}
use Rattle.st_types.specs.Values.{Datum}
use Rattle.st_types.specs.Paths.{Path}
use Rattle.st_types.specs.declared.data_type.SimpleType.TheVariants.{Named}
use Rattle.st_types.specs.declared.data_type.VariableType.{VariableType}
use Rattle.st_types.specs.declared.data_type.VariableType.TheVariants as types
use Rattle.st_types.specs.declared.unit.UnitSort.TheVariants.{FunctionBlock}
use Rattle.st_types.specs.Declarations.{TypeDefinition}
use Rattle.st_types.specs.Units.{OrganisationUnit}
use Rattle.st_types.specs.Sources.{Source}
use Rattle.st_meaning.specs.NameTypes.{Declared, declared_in, type_named, unit_named, variable_type, elementary}
use Rattle.st_meaning.specs.Scopes.{Name, of_block, Block, Library, path_in, member_at}
use Rattle.st_meaning.specs.Bodies.{externals_in}
use Rattle.st_meaning.specs.Slots.{Slot, variables_with, inputs_in}
use Rattle.st_meaning.specs.StandardBlocks.{StandardBlock, BlockMember, block_of, members_of}
use Rattle.st_meaning.specs.Stores.{Store}
use Rattle.st_rules.specs.Environments.{is_block_sort, is_own_block, is_block}
use Rattle.st_rules.specs.Rules.{environment}
use Rattle.st_link.specs.UnitSoundness.{IsBlockOf, BodyRun, Reaches, itself, inside, scope_of_run, AreStored}
use Rattle.st_link.specs.UnitSoundness.{InstanceIsTyped, PlacesAreTyped, IsLibraryOf}
use Rattle.st_link.proofs.ApartNames.{NamesRight, types_are_no_blocks}
use Rattle.st_link.proofs.InstanceSections.{instances_are_free}
use Rattle.st_link.proofs.KnownTypes.{TypesRight}
use Rattle.st_link.proofs.WellTypedTexts.{unit_there}
use Rattle.layout.specs.LayoutVariables.{Owned}
use Rattle.layout.specs.VariableSlots.{are_declared_once}
use Rattle.layout.specs.TextLayouts.{slots_of}
use Rattle.st_link.specs.Homes.{IsLayoutPart, HaveSlots, are_names_different, AreValuesOf, IsGrounded}
use Rattle.st_link.proofs.AgreementLemmas.{stored_home, slots_agree}
use Rattle.st_link.proofs.InstanceParts.{AreFound, members_found, own_instance, standard_part, input_part, output_part}
use Rattle.st_link.proofs.SoundMembers.{IsPart}
use Rattle.st_link.proofs.UnitHomeLemmas.{member_home, block_homes}
use Rattle.std.proofs.lemmas.Bool.{or_right}

-- a block's name isn't a type's
pub no_type_by : (o : Option TypeDefinition) (is : Bool) → (is_some o ≡ true → is ≡ false) → is ≡ true → o ≡ None
no_type_by None is f h = refl
no_type_by (Some d) is f h = absurd (let e = f refl in cc)

own_is_block : (text : Declared) (b : Name) (d : OrganisationUnit) → unit_named text.units b ≡ Some d
    → d.sort ≡ FunctionBlock → is_block text b ≡ true
own_is_block text b d declared sort =
    or_right (is_some (block_of b)) (is_own_block (unit_named text.units b))
    (ap is_own_block declared ∙ ap is_block_sort sort)

module _ (source : Source) (right : TypesRight source) (names : NamesRight source)
    (differ : are_names_different (declared_in source) ≡ true) (variables : List Owned)
    (once : are_declared_once (declared_in source) variables ≡ true) (vs : List Datum)
    (values : AreValuesOf (slots_of (declared_in source) variables) vs) (library : Library)
    (of_text : IsLibraryOf (declared_in source) library)
    (grounded : (b : Name) (d : OrganisationUnit) → unit_named (declared_in source).units b ≡ Some d
    → d.sort ≡ FunctionBlock → IsGrounded (declared_in source) variables d)
    (now : ℕ) where
  abbrev text : Declared
  text = declared_in source

  abbrev layout : List Slot
  layout = slots_of (declared_in source) variables

  abbrev image : Store
  image = inputs_in (slots_of (declared_in source) variables) vs

  abbrev store : Store
  store = variables_with (slots_of (declared_in source) variables) vs

  -- a body of a unit of the text whose names have homes
  pub record IsHoused (q : BodyRun) : Type 0 where
    pub name : Name
    pub declared : unit_named text.units name ≡ Some q.unit
    pub homes : HaveSlots (environment text q.unit) variables (scope_of_run image now q)

  no_type : (b : Identifier) → is_block text b.name ≡ true → type_named text.types b.name ≡ None
  no_type b is = no_type_by (type_named text.types b.name) (is_block text b.name)
      (types_are_no_blocks source names b.name) is

  instance_home : (q : BodyRun) → IsHoused q → (x : Name) (b : Identifier)
      → variable_type q.unit x ≡ Some (types.Simple (Named b)) → is_block text b.name ≡ true
      → IsLayoutPart text variables false (path_in q.frame q.body x) (types.Simple (Named b))
  instance_home q housed x b named is =
      subst (λ (c : Bool). IsLayoutPart text variables c (path_in q.frame q.body x) (types.Simple (Named b)))
      (instances_are_free source right names q.unit (unit_there source housed.name q.unit housed.declared) x b named is)
      (housed.homes x (types.Simple (Named b)) named)

  externals_of : (b : Name) (u : OrganisationUnit) (c : Block) → IsBlockOf text library b u c
      → c.body.externals ≡ externals_in u.blocks
  externals_of b u c is =
      let has = of_text.blocks b u is.own is.declared is.sort in
      let same : has.value ≡ c = cc (has.there, is.there) in
      subst (λ (d : Block). d.body.externals ≡ externals_in u.blocks) same has.body.externals

  housed_inside : (q : BodyRun) → IsHoused q → (x : Name) (b : Identifier) (u : OrganisationUnit) (c : Block)
      → variable_type q.unit x ≡ Some (types.Simple (Named b)) → IsBlockOf text library b.name u c
      → IsHoused (record { unit = u; frame = of_block (path_in q.frame q.body x); body = c.body })
  housed_inside q housed x b u c named is =
      let block = own_is_block text b.name u is.declared is.sort in
      let at = path_in q.frame q.body x in
      let r : BodyRun = record { unit = u; frame = of_block at; body = c.body } in
      record {
        name = b.name;
        declared = is.declared;
        homes = block_homes text variables u (types.Simple (Named b)) at (scope_of_run image now r) is.sort
            (own_instance text differ b u (no_type b block) is.own is.declared is.sort)
            (instance_home q housed x b named block) (grounded b.name u is.declared is.sort)
            (record { names_of = refl; externals = externals_of b.name u c is });
      }

  all_housed : {r q : BodyRun} → IsHoused r → Reaches text library r q → IsHoused q
  all_housed h itself = h
  all_housed h (inside {q = p} x b u c reach named is) = housed_inside p (all_housed h reach) x b u c named is

  module _ (q : BodyRun) (housed : IsHoused q) (x : Name) (b : Identifier)
      (named : variable_type q.unit x ≡ Some (types.Simple (Named b))) (is : is_block text b.name ≡ true) where
    abbrev site : Path
    site = path_in q.frame q.body x

    part_stored : (y : Name) (t : VariableType) → IsPart text (types.Simple (Named b)) y t
        → IsLayoutPart text variables false (member_at site y) t
    part_stored y t part =
        member_home text variables site (types.Simple (Named b)) y t false part (instance_home q housed x b named is)

    members_stored : (k : StandardBlock) → block_of b.name ≡ Some k → (ms : List BlockMember)
        → AreFound (members_of k) ms → AreStored store site ms
    members_stored k e [] found = tt
    members_stored k e (m ∷ ms) found = (
      stored_home (environment text q.unit) variables (scope_of_run image now q) vs differ once values refl housed.homes
          (part_stored m.0 (elementary m.1) (standard_part text differ b k (no_type b is) e m.0 m.1 found.0)) m.1 refl refl,
      members_stored k e ms found.1,
    )

    instance_stands : InstanceIsTyped text store site b
    instance_stands = record {
      inputs = λ y t k h among. stored_home (environment text q.unit) variables (scope_of_run image now q) vs differ once
          values refl housed.homes (part_stored y t (input_part text differ b y t (no_type b is) h)) k refl among;
      outputs = λ y t k h among. stored_home (environment text q.unit) variables (scope_of_run image now q) vs differ once
          values refl housed.homes (part_stored y t (output_part text differ b y t (no_type b is) h)) k refl among;
      members = λ k e. members_stored k e (members_of k) (members_found k);
    }

  pub run_stands : (r : BodyRun) → IsHoused r → PlacesAreTyped text library image now r store
  run_stands r housed = record {
    places = λ q reach. slots_agree (environment text q.unit) variables (scope_of_run image now q) vs differ once values
        refl (all_housed housed reach).homes;
    instances = λ q reach x b named is. instance_stands q (all_housed housed reach) x b named is;
  }
