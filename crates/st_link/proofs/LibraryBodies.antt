-- The blocks of a text's own library have the bodies of its units.
use Rattle.std.proofs.Common.{◌≡◌, true, false, if◌then◌else◌, List, map, Option, Some, None, option_map, refl, sym, ap}
use Rattle.std.proofs.Common.{◌∙◌}
use Rattle.std.specs.Prelude.{is_none}
use Rattle.st_types.specs.declared.identifier.Identifier.{Identifier}
use Rattle.st_types.specs.declared.data_type.SimpleType.TheVariants.{Named}
use Rattle.st_types.specs.declared.data_type.VariableType.{VariableType}
use Rattle.st_types.specs.declared.data_type.VariableType.TheVariants as types
use Rattle.st_types.specs.declared.declaration.Section.{Section}
use Rattle.st_types.specs.declared.declaration.Section.TheVariants as sections
use Rattle.st_types.specs.declared.unit.UnitSort.{UnitSort}
use Rattle.st_types.specs.declared.unit.UnitSort.TheVariants.{FunctionBlock}
use Rattle.st_types.specs.Declarations.{TypeDefinition, VariableBlock}
use Rattle.st_types.specs.Units.{OrganisationUnit}
use Rattle.st_types.specs.Sources as sources
use Rattle.st_types.specs.Sources.{Source}
use Rattle.st_meaning.specs.Bodies.{is_external}
use Rattle.st_meaning.specs.NameTypes.{Declared, declared_in, type_named, unit_named, variable_type}
use Rattle.st_meaning.specs.ResolvedUnits.{resolved_type, resolved_block, resolved}
use Rattle.st_meaning.specs.Scopes.{Name, block_named}
use Rattle.st_meaning.specs.StandardBlocks.{StandardBlock, block_of, members_of}
use Rattle.st_rules.specs.DeclaredTypes.{variable_of}
use Rattle.st_rules.specs.Environments.{is_block}
use Rattle.st_rules.specs.TypeRules.{may_be_instance}
use Rattle.st_link.specs.UnitSoundness.{IsBodyOf, HasBlock}
use Rattle.st_link.proofs.Among.{Among}
use Rattle.st_link.proofs.ApartNames.{NamesRight, types_are_no_blocks}
use Rattle.st_link.proofs.BodyRunLaw.{own_block}
use Rattle.st_link.proofs.FoundNames.{unit_found, unit_in}
use Rattle.st_link.proofs.InstanceSections.{instance_variable}
use Rattle.st_link.proofs.KnownTypes.{TypesRight}
use Rattle.layout.specs.LayoutVariables.{declared_of}
use Rattle.layout.specs.Libraries.{body_of_unit, block_of_unit, instances_among, library_of_text}
use Rattle.layout.specs.Types.{sites_of_blocks, site_of_member, BlockType, block_type_of, own_block_type}
use Rattle.layout.specs.Types.{block_type_named, instance_of}
use Rattle.layout.proofs.LibraryLemmas.{block_found}
use Rattle.layout.proofs.ListLemmas.{same_name}
use Rattle.st_link.proofs.RunHomes.{no_type_by}
use Rattle.st_link.proofs.TakenBodies.{unit_taken, no_type_taken, statements_taken, externals_taken, types_in_taken}
use Rattle.st_link.proofs.TakenBodies.{section_taken, site_of_variable, named_instance}

pub local_is : (sort : UnitSort) (section : Section) → may_be_instance (variable_of sort section) ≡ true
    → is_external section ≡ false
local_is sort (sections.Local keep) h = refl
local_is sort (sections.Input keep) h = absurd (cc)
local_is sort (sections.Output keep) h = absurd (cc)
local_is sort sections.Constant h = absurd (cc)
local_is sort sections.External h = absurd (cc)
local_is sort sections.ConstantExternal h = absurd (cc)

module _ (source : Source) (right : TypesRight source) (names : NamesRight source) where
  abbrev text : Declared
  text = declared_in source

  -- the block of a name, in the resolved text
  record TakenInstance (b : Identifier) : Type 0 where
    pub block : BlockType
    pub is : instance_of (declared_of source) (types.Simple (Named b)) ≡ Some block
    pub named : block.name ≡ b.name

  by_no_type : (b : Identifier) → is_block text b.name ≡ true
      → instance_of (declared_of source) (types.Simple (Named b)) ≡ block_type_named (declared_of source) b.name
  by_no_type b is =
      let none = no_type_by (type_named text.types b.name) (is_block text b.name)
      (types_are_no_blocks source names b.name) is in
      ap (λ (o : Option TypeDefinition). if is_none o then block_type_named (declared_of source) b.name else None)
      (no_type_taken source b.name none)

  abbrev block_by : Identifier → Option StandardBlock → Option BlockType
  block_by b k = elim k [
    | Some c ↦ Some (record { name = b.name; members = map site_of_member (members_of c) })
    | None ↦ own_block_type (unit_named (declared_of source).units b.name)
  ]

  taken_by : (b : Identifier) → is_block text b.name ≡ true → (k : Option StandardBlock) → block_of b.name ≡ k
      → TakenInstance b
  taken_by b is (Some k) e = record {
    block = record { name = b.name; members = map site_of_member (members_of k) };
    is = by_no_type b is ∙ ap (block_by b) e;
    named = refl;
  }
  taken_by b is None e =
      let d = own_block text b.name e is in
      let v = resolved text d.unit in
      record {
        block = record { name = v.name.name; members = sites_of_blocks v.blocks };
        is = by_no_type b is ∙ ap (block_by b) e ∙ ap own_block_type (unit_taken source b.name d.unit d.declared)
            ∙ ap (λ (s : UnitSort). block_type_of s v) d.sort;
        named = sym (same_name b.name d.unit.name.name (unit_found text.units b.name d.unit d.declared).named);
      }

  taken_instance : (b : Identifier) → is_block text b.name ≡ true → TakenInstance b
  taken_instance b is = taken_by b is (block_of b.name) refl

  module _ (u : OrganisationUnit) (unit : Among (sources.unit u) source) where
    abbrev blocks : List VariableBlock
    blocks = map (resolved_block (declared_in source)) u.blocks

    instance_found : (x : Name) (b : Identifier) → variable_type u x ≡ Some (types.Simple (Named b))
        → is_block text b.name ≡ true
        → block_named (instances_among (declared_of source) (sites_of_blocks blocks)) x ≡ Some b.name
    instance_found x b h is =
        let v = instance_variable source right names u unit x b h is in
        let t = types.Simple (Named b) in
        let d = site_of_variable blocks x t v.section
        (types_in_taken text u.blocks x ∙ ap (λ (o : Option VariableType). option_map resolved_type o) v.declared)
        (section_taken text u.blocks x ∙ v.there) (local_is u.sort v.section v.local) in
        let taken = taken_instance b is in
        named_instance (declared_of source) (sites_of_blocks blocks) x d.site taken.block d.is
        (ap (instance_of (declared_of source)) d.declared ∙ taken.is)
        ∙ ap (λ (n : Name). Some n) taken.named

    pub body_taken : IsBodyOf (declared_in source) u (body_of_unit (declared_of source) (resolved (declared_in source) u))
    body_taken = record {
      externals = externals_taken text u.blocks;
      statements = statements_taken text u u.body;
      instances = instance_found;
    }

  pub has_block : (b : Name) (u : OrganisationUnit) → unit_named (declared_in source).units b ≡ Some u
      → u.sort ≡ FunctionBlock → HasBlock (declared_in source) (library_of_text source) b u
  has_block b u declared sort = record {
    value = block_of_unit (declared_of source) (resolved text u);
    there = block_found (declared_of source) b (resolved text u) (unit_taken source b u declared) sort;
    body = body_taken u (unit_in source u (unit_found text.units b u declared).among);
  }
