-- The inputs, outputs and members of an instance's block are parts of the instance.
use Rattle.std.proofs.Common.{◌≡◌, Bool, true, false, if◌then◌else◌, List, [], ◌∷◌, ◌++◌, map, Option, Some, None}
use Rattle.std.proofs.Common.{option_map, option_and_then, refl, ap, ◌∙◌}
use Rattle.std.specs.Prelude.{bytes_eq}
use Rattle.std.specs.List.{list_all}
use Rattle.st_types.specs.declared.identifier.Identifier.{Identifier}
use Rattle.st_types.specs.declared.kind.Kind.{Kind}
use Rattle.st_types.specs.declared.data_type.SimpleType.TheVariants.{Named}
use Rattle.st_types.specs.declared.data_type.VariableType.{VariableType}
use Rattle.st_types.specs.declared.data_type.VariableType.TheVariants as types
use Rattle.st_types.specs.declared.declaration.Retention.{Retention}
use Rattle.st_types.specs.declared.declaration.Section.{Section}
use Rattle.st_types.specs.declared.declaration.Section.TheVariants.{Input, Output, Local, Constant, External}
use Rattle.st_types.specs.declared.declaration.Section.TheVariants.{ConstantExternal}
use Rattle.st_types.specs.declared.unit.UnitSort.{UnitSort}
use Rattle.st_types.specs.declared.unit.UnitSort.TheVariants.{Function, FunctionBlock, Program}
use Rattle.st_types.specs.Declarations.{Declaration, VariableBlock}
use Rattle.st_types.specs.Units.{OrganisationUnit}
use Rattle.st_meaning.specs.Bodies.{is_external}
use Rattle.st_meaning.specs.NameTypes.{Declared, type_named, unit_named, type_in, or_type, member_kind, elementary, is_input}
use Rattle.st_meaning.specs.NameTypes.{is_output, type_in_sections, sections_of, variable_of_block, block_variable}
use Rattle.st_meaning.specs.NameTypes.{member_type}
use Rattle.st_meaning.specs.Scopes.{Name}
use Rattle.st_meaning.specs.StandardBlocks.{StandardBlock, SR, RS, R_TRIG, F_TRIG, CTU, CTD, CTUD, TON, TOF, TP}
use Rattle.st_meaning.specs.StandardBlocks.{BlockMember, block_of, inputs_of, outputs_of, hidden_of, members_of}
use Rattle.layout.specs.Shapes.{of_instance}
use Rattle.layout.specs.Types.{NamedSite, site_named, sites_of_declarations, retention_of, sites_of_blocks}
use Rattle.layout.specs.Types.{site_of_member, BlockType, block_type_of, own_block_type, instance_of}
use Rattle.layout.specs.Names
use Rattle.layout.specs.Names.{are_different, names_of_sites, has_different_variables}
use Rattle.layout.specs.Names.{are_types_and_units_different}
use Rattle.layout.proofs.LibraryLemmas.{instance_made}
use Rattle.layout.proofs.NameLemmas.{found_unit}
use Rattle.st_link.specs.Homes.{are_names_different}
use Rattle.st_link.proofs.SoundMembers.{Declares, later_differ, found_later, found_first, member_declared}
use Rattle.st_link.proofs.SoundMembers.{declaration_declared, IsPart, instance_by, member_part}
use Rattle.std.proofs.lemmas.Bool.{and_parts}

-- an input of a block of the text is one of its variables
module _ (ds : List Declaration) (bs : List VariableBlock) (x : Name) (u : VariableType) where
  abbrev sites_with : Section → List NamedSite
  sites_with s =
      if is_external s then sites_of_blocks bs else sites_of_declarations (retention_of s) ds ++ sites_of_blocks bs

  abbrev Later : Type 0
  Later =
      are_different (names_of_sites (sites_of_blocks bs)) ≡ true → type_in_sections is_input bs x ≡ Some u
      → Declares (site_named (sites_of_blocks bs) x) u

  behind_section : (keep : Option Retention)
      → are_different (names_of_sites (sites_of_declarations keep ds ++ sites_of_blocks bs)) ≡ true → Later
      → type_in_sections is_input bs x ≡ Some u
      → Declares (site_named (sites_of_declarations keep ds ++ sites_of_blocks bs) x) u
  behind_section keep d ih h =
      let i = ih (later_differ (sites_of_declarations keep ds) (sites_of_blocks bs) d) h in
      record {
        site = i.site;
        is = found_later (sites_of_declarations keep ds) (sites_of_blocks bs) d x i.site i.is;
        declared = i.declared;
      }

  in_section : (keep : Option Retention)
      → are_different (names_of_sites (sites_of_declarations keep ds ++ sites_of_blocks bs)) ≡ true → Later
      → (o : Option VariableType) → type_in ds x ≡ o → or_type o (type_in_sections is_input bs x) ≡ Some u
      → Declares (site_named (sites_of_declarations keep ds ++ sites_of_blocks bs) x) u
  in_section keep d ih None e h = behind_section keep d ih h
  in_section keep d ih (Some v) e h =
      let i = declaration_declared keep ds x u (e ∙ h) in
      record {
        site = i.site;
        is = found_first (sites_of_declarations keep ds) (sites_of_blocks bs) x i.site i.is;
        declared = i.declared;
      }

  by_section : (s : Section) → are_different (names_of_sites (sites_with s)) ≡ true → Later
      → (if is_input s then or_type (type_in ds x) (type_in_sections is_input bs x)
      else type_in_sections is_input bs x) ≡ Some u
      → Declares (site_named (sites_with s) x) u
  by_section (Input keep) d ih h = in_section keep d ih (type_in ds x) refl h
  by_section (Output keep) d ih h = behind_section keep d ih h
  by_section (Local keep) d ih h = behind_section keep d ih h
  by_section Constant d ih h = behind_section None d ih h
  by_section External d ih h = ih d h
  by_section ConstantExternal d ih h = ih d h

input_declared : (bs : List VariableBlock) → are_different (names_of_sites (sites_of_blocks bs)) ≡ true
    → (x : Name) (u : VariableType) → type_in_sections is_input bs x ≡ Some u
    → Declares (site_named (sites_of_blocks bs) x) u
input_declared [] d x u h = absurd (cc)
input_declared (b ∷ bs) d x u h =
    by_section b.declarations bs x u b.section d (λ e g. input_declared bs e x u g) h

-- members of a standard block by their names
kind_in_front : (cs ds : List BlockMember) (x : Name) (k : Kind) → member_kind cs x ≡ Some k
    → member_kind (cs ++ ds) x ≡ Some k
kind_in_front [] ds x k h = absurd (cc)
kind_in_front (c ∷ cs) ds x k h = by_test (bytes_eq x c.0) h (kind_in_front cs ds x k)
  where
    by_test : (b : Bool) → (if b then Some c.1 else member_kind cs x) ≡ Some k
        → (member_kind cs x ≡ Some k → member_kind (cs ++ ds) x ≡ Some k)
        → (if b then Some c.1 else member_kind (cs ++ ds) x) ≡ Some k
    by_test true e ih = e
    by_test false e ih = ih e

-- each of these members is found by its name among all
abbrev pub AreFound : List BlockMember → List BlockMember → Type 0
AreFound all [] = Unit {0}
AreFound all (m ∷ ms) = (member_kind all m.0 ≡ Some m.1) × AreFound all ms

pub members_found : (k : StandardBlock) → AreFound (members_of k) (members_of k)
members_found SR = (refl, (refl, (refl, tt)))
members_found RS = (refl, (refl, (refl, tt)))
members_found R_TRIG = (refl, (refl, (refl, tt)))
members_found F_TRIG = (refl, (refl, (refl, tt)))
members_found CTU = (refl, (refl, (refl, (refl, (refl, (refl, tt))))))
members_found CTD = (refl, (refl, (refl, (refl, (refl, (refl, tt))))))
members_found CTUD = (refl, (refl, (refl, (refl, (refl, (refl, (refl, (refl, (refl, (refl, tt))))))))))
members_found TON = (refl, (refl, (refl, (refl, (refl, (refl, tt))))))
members_found TOF = (refl, (refl, (refl, (refl, (refl, (refl, tt))))))
members_found TP = (refl, (refl, (refl, (refl, (refl, (refl, tt))))))

module _ (text : Declared) (differ : are_names_different text ≡ true) where
  units_differ : list_all has_different_variables text.units ≡ true
  units_differ = (and_parts (list_all (λ t. Names.has_different_fields t.definition) text.types)
      (list_all has_different_variables text.units)
      (and_parts (are_different (map (λ t. t.name.name) text.types)) (are_types_and_units_different text) differ).1).1

  -- the block of an instance
  pub own_instance : (b : Identifier) (d : OrganisationUnit) → type_named text.types b.name ≡ None
      → block_of b.name ≡ None
      → unit_named text.units b.name ≡ Some d → d.sort ≡ FunctionBlock
      → instance_of text (types.Simple (Named b))
      ≡ Some (record { name = d.name.name; members = sites_of_blocks d.blocks })
  own_instance b d none own declared sort =
      instance_by text differ b None (record { name = d.name.name; members = sites_of_blocks d.blocks }) none own
      (ap own_block_type declared ∙ ap (λ s. block_type_of s d) sort)

  pub standard_instance : (b : Identifier) (k : StandardBlock) → type_named text.types b.name ≡ None
      → block_of b.name ≡ Some k
      → instance_of text (types.Simple (Named b))
      ≡ Some (record { name = b.name; members = map site_of_member (members_of k) })
  standard_instance b k none is =
      instance_by text differ b (Some k) (record { name = b.name; members = map site_of_member (members_of k) }) none is
      refl

  part_of : (b : Identifier) (block : BlockType) → instance_of text (types.Simple (Named b)) ≡ Some block → (y : Name)
      (t : VariableType) → Declares (site_named block.members y) t → IsPart text (types.Simple (Named b)) y t
  part_of b block is y t d = record {
    whole = of_instance;
    sites = block.members;
    own = d.site;
    composition = instance_made text (types.Simple (Named b)) block is;
    named = d.is;
    declared = d.declared;
  }

  pub standard_part : (b : Identifier) (k : StandardBlock) → type_named text.types b.name ≡ None
      → block_of b.name ≡ Some k → (y : Name) (l : Kind) → member_kind (members_of k) y ≡ Some l
      → IsPart text (types.Simple (Named b)) y (elementary l)
  standard_part b k none is y l h =
      part_of b (record { name = b.name; members = map site_of_member (members_of k) })
      (standard_instance b k none is) y (elementary l) (member_declared (members_of k) y l h)

  -- inputs
  standard_input : (b : Identifier) (k : StandardBlock) → type_named text.types b.name ≡ None
      → block_of b.name ≡ Some k → (y : Name) (t : VariableType) (o : Option Kind)
      → member_kind (inputs_of k) y ≡ o → option_map elementary o ≡ Some t
      → IsPart text (types.Simple (Named b)) y t
  standard_input b k none is y t None e h = absurd (cc)
  standard_input b k none is y t (Some l) e h =
      let d = member_declared (members_of k) y l
      (kind_in_front (inputs_of k ++ outputs_of k) (hidden_of k) y l
      (kind_in_front (inputs_of k) (outputs_of k) y l e)) in
      let same : elementary l ≡ t = cc in
      part_of b (record { name = b.name; members = map site_of_member (members_of k) })
      (standard_instance b k none is) y t (record { site = d.site; is = d.is; declared = d.declared ∙ same })

  unit_input : (b : Identifier) (y : Name) (t : VariableType) → type_named text.types b.name ≡ None
      → block_of b.name ≡ None → (u : OrganisationUnit) → unit_named text.units b.name ≡ Some u
      → (sort : UnitSort) → u.sort ≡ sort
      → are_different (Names.variable_names sort u) ≡ true
      → type_in_sections is_input (sections_of sort u.blocks) y ≡ Some t → IsPart text (types.Simple (Named b)) y t
  unit_input b y t none own u declared (Function s) sort d h = absurd (cc)
  unit_input b y t none own u declared Program sort d h = absurd (cc)
  unit_input b y t none own u declared FunctionBlock sort d h =
      part_of b (record { name = u.name.name; members = sites_of_blocks u.blocks })
      (own_instance b u none own declared sort) y t (input_declared u.blocks d y t h)

  own_input : (b : Identifier) (y : Name) (t : VariableType) → type_named text.types b.name ≡ None
      → block_of b.name ≡ None → (o : Option OrganisationUnit) → unit_named text.units b.name ≡ o
      → option_and_then (λ u. type_in_sections is_input (sections_of u.sort u.blocks) y) o ≡ Some t
      → IsPart text (types.Simple (Named b)) y t
  own_input b y t none own None is h = absurd (cc)
  own_input b y t none own (Some u) is h =
      unit_input b y t none own u is u.sort refl (found_unit text.units units_differ b.name u is) h

  input_by : (b : Identifier) (y : Name) (t : VariableType) → type_named text.types b.name ≡ None
      → (k : Option StandardBlock) → block_of b.name ≡ k
      → block_variable text inputs_of is_input (types.Simple (Named b)) y ≡ Some t
      → IsPart text (types.Simple (Named b)) y t
  input_by b y t none (Some k) e h =
      let g : option_map elementary (member_kind (inputs_of k) y) ≡ Some t = rw e at h in
      standard_input b k none e y t (member_kind (inputs_of k) y) refl g
  input_by b y t none None e h =
      let g : variable_of_block text is_input b.name y ≡ Some t = rw e at h in
      own_input b y t none e (unit_named text.units b.name) refl g

  pub input_part : (b : Identifier) (y : Name) (t : VariableType) → type_named text.types b.name ≡ None
      → block_variable text inputs_of is_input (types.Simple (Named b)) y ≡ Some t
      → IsPart text (types.Simple (Named b)) y t
  input_part b y t none h = input_by b y t none (block_of b.name) refl h

  -- outputs
  pub output_part : (b : Identifier) (y : Name) (t : VariableType) → type_named text.types b.name ≡ None
      → block_variable text outputs_of is_output (types.Simple (Named b)) y ≡ Some t
      → IsPart text (types.Simple (Named b)) y t
  output_part b y t none h =
      member_part text differ (types.Simple (Named b)) y t (ap (member_type text (types.Simple (Named b)) y) none ∙ h)
