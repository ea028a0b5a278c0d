-- A block that is linked by the table of its declarations is linked, and so is a program's instance.
use Rattle.std.proofs.Common.{◌≡◌, ℕ, true, false, not, if◌then◌else◌, List, Some, None, sym}
use Rattle.std.proofs.Common.{ap, ◌∙◌, subst}
use Rattle.st_types.specs.declared.path.Owner.{Owner}
use Rattle.st_types.specs.Units.{OrganisationUnit}
use Rattle.st_meaning.specs.Bodies.{externals_in}
use Rattle.st_meaning.specs.NameTypes.{Declared}
use Rattle.st_meaning.specs.Scopes.{Name, contains_name}
use Rattle.st_rules.specs.declared.limits.TheConstants.{MAX_TYPE_DEPTH}
use Rattle.layout.specs.LayoutVariables.{Owned, owned_variable}
use Rattle.layout.specs.Libraries.{instances_among, block_of_unit, program_of_unit}
use Rattle.layout.specs.Names.{are_different, names_of_sites}
use Rattle.layout.specs.Shapes.{of_instance}
use Rattle.layout.specs.VariableSlots.{are_declared_once, variable_at}
use Rattle.layout.specs.TextLayouts.{slots_of, variable_shape}
use Rattle.layout.specs.Types.{Site, shape_of_type, parts_of, sites_of_blocks, site_named, is_within_depth}
use Rattle.slot_trees.specs.SlotTrees.{SlotStmts}
use Rattle.slot_trees.specs.Tables.{Symbol, named_in}
use Rattle.slot_trees.specs.LinkedTexts.{IsInstance, EachInstance, IsBlockLink}
use Rattle.slot_trees.specs.ProgramTables.{owner_of_name}
use Rattle.slot_trees.specs.TextNumbers.{members_of_block, numbers_of}
use Rattle.slot_trees.specs.TextLinks.{names_in, symbols_of_block, linked_block, symbols_of_program}
use Rattle.slot_trees.specs.Orderly.{has_orderly_variables}
use Rattle.slot_trees.proofs.BlockTableLemmas.{externals_stand, members_stand}
use Rattle.slot_trees.proofs.InstanceLemmas.{IsInstanceSite, instance_site, site_part, orderly_site, instance_shape}
use Rattle.slot_trees.proofs.InstanceLemmas.{members_known}
use Rattle.slot_trees.proofs.ProgramTableLemmas.{named}
use Rattle.st_types.proofs.OptionLemmas.{some_is}
use Rattle.std.proofs.lemmas.Bool.{and_parts}
use Rattle.st_types.proofs.TestLemmas.{false_from_not}

-- the layout has each of the unit's own variables, as one of the owner
abbrev pub HasVariables : Declared → OrganisationUnit → List Owned → Owner → Type 0
HasVariables text u vs owner =
    (x : Name) (s : Site) → site_named (sites_of_blocks u.blocks) x ≡ Some s
    → (k : ℕ) × (variable_at text vs (Some owner) x
    ≡ Some (k, owned_variable (Some owner) (record { name = x; site = s })))

module _ (text : Declared) (u : OrganisationUnit)
    (differ : are_different (names_of_sites (sites_of_blocks u.blocks)) ≡ true)
    (orderly : has_orderly_variables text u ≡ true) where
  -- an instance of the unit isn't an external, and isn't too deep
  apart : (x : Name) (s : Site) → site_named (sites_of_blocks u.blocks) x ≡ Some s
      → (contains_name (externals_in u.blocks) x ≡ false) × (is_within_depth MAX_TYPE_DEPTH text s.declared ≡ true)
  apart x s h =
      let b = and_parts (not (contains_name (externals_in u.blocks) x)) (is_within_depth MAX_TYPE_DEPTH text s.declared)
      (orderly_site text (externals_in u.blocks) (sites_of_blocks u.blocks) orderly x s h) in
      (false_from_not (contains_name (externals_in u.blocks) x) b.0, b.1)

  -- a symbol with the shape of an instance's type has the members of its block
  is_instance : (x b : Name) (y : Symbol) (i : IsInstanceSite text (sites_of_blocks u.blocks) x b)
      → y.shape ≡ shape_of_type text i.site.declared → y.is_input ≡ false → IsInstance (numbers_of text) b y
  is_instance x b y i shape input = record {
    whole = of_instance;
    members = parts_of (shape_of_type text) i.block.members;
    known = subst
        (λ n. named_in (numbers_of text).members n ≡ Some (parts_of (shape_of_type text) i.block.members)) i.named
        (members_known text i.site.declared i.block i.is);
    shape = shape ∙ instance_shape text i.site.declared i.block i.is (apart x i.site i.there).1;
    is_variable = input;
  }

  block_instances : (vs : List Owned)
      → EachInstance (numbers_of text) (symbols_of_block text vs u) (instances_among text (sites_of_blocks u.blocks))
  block_instances vs x b y h g =
      let i = instance_site text x b (sites_of_blocks u.blocks) differ h in
      let p = members_stand text vs (members_of_block text u) (externals_in u.blocks) (names_in u.blocks) x y g
      (apart x i.site i.there).0 in
      is_instance x b y i
      (site_part (shape_of_type text) (sites_of_blocks u.blocks) x i.site
      (record { offset = p.offset; shape = y.shape }) i.there p.part)
      p.is_variable

  pub block_link : (vs : List Owned) → are_declared_once text vs ≡ true → (code : SlotStmts)
      → linked_block text vs u ≡ Some code
      → IsBlockLink (slots_of text vs) (numbers_of text) (members_of_block text u) (block_of_unit text u) code
  block_link vs once code h = record {
    symbols = symbols_of_block text vs u;
    externals = externals_stand text vs (members_of_block text u) (externals_in u.blocks) once (names_in u.blocks);
    variables = members_stand text vs (members_of_block text u) (externals_in u.blocks) (names_in u.blocks);
    instances = block_instances vs;
    body = h;
  }

  pub program_instances : (vs : List Owned) (owner : Owner) → HasVariables text u vs owner
      → EachInstance (numbers_of text) (symbols_of_program text vs owner u)
      (instances_among text (sites_of_blocks u.blocks))
  program_instances vs owner has x b y h g =
      let i = instance_site text x b (sites_of_blocks u.blocks) differ h in
      let n = named text vs (program_of_unit text owner u) x y (names_in u.blocks) g in
      let own : owner_of_name (program_of_unit text owner u) x ≡ Some owner =
      ap (λ e. if e then None else Some owner) (apart x i.site i.there).0 in
      let v = has x i.site i.there in
      let same : n.entry ≡ (v.0, owned_variable (Some owner) (record { name = x; site = i.site })) =
      some_is (sym n.there ∙ ap (λ o. variable_at text vs o x) own ∙ v.1) in
      is_instance x b y i
      (ap (λ z. z.shape) (sym n.is) ∙ ap (λ e. variable_shape text e.1) same)
      (ap (λ z. z.is_input) (sym n.is) ∙ ap (λ e. e.1.is_input) same)
