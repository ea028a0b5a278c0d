-- The instances of a block have the members of their blocks.
use Rattle.std.proofs.Common.{◌≡◌, true, false, not, List, Some, ◌∙◌, subst}
use Rattle.st_types.specs.Units.{OrganisationUnit}
use Rattle.st_meaning.specs.Bodies.{externals_in}
use Rattle.st_meaning.specs.NameTypes.{Declared}
use Rattle.st_meaning.specs.Scopes.{Name, contains_name}
use Rattle.st_rules.specs.declared.limits.TheConstants.{MAX_TYPE_DEPTH}
use Rattle.layout.specs.LayoutVariables.{Owned}
use Rattle.layout.specs.Libraries.{instances_among}
use Rattle.layout.specs.Names.{are_different, names_of_sites}
use Rattle.layout.specs.Shapes.{of_instance}
use Rattle.layout.specs.Types.{Site, shape_of_type, parts_of, sites_of_blocks, site_named, is_within_depth}
use Rattle.slot_trees.specs.Tables.{Symbol, named_in}
use Rattle.slot_trees.specs.LinkedTexts.{IsInstance, EachInstance}
use Rattle.slot_trees.specs.Orderly.{has_orderly_variables}
use Rattle.slot_trees.specs.TextLinks.{names_in, symbols_of_block}
use Rattle.slot_trees.specs.TextNumbers.{members_of_block, numbers_of}
use Rattle.slot_trees.proofs.BlockTableLemmas.{members_stand}
use Rattle.slot_trees.proofs.InstanceLemmas.{IsInstanceSite, instance_site, instance_shape, members_known, orderly_site}
use Rattle.slot_trees.proofs.InstanceLemmas.{site_part}
use Rattle.std.proofs.lemmas.Bool.{and_parts}
use Rattle.st_types.proofs.TestLemmas.{false_from_not}

module _ (text : Declared) (u : OrganisationUnit)
    (differ : are_different (names_of_sites (sites_of_blocks u.blocks)) ≡ true)
    (orderly : has_orderly_variables text u ≡ true) where
  -- an instance of the unit isn't an external, and is not too deep
  apart : (x : Name) (s : Site) → site_named (sites_of_blocks u.blocks) x ≡ Some s
      → (contains_name (externals_in u.blocks) x ≡ false) × (is_within_depth MAX_TYPE_DEPTH text s.declared ≡ true)
  apart x s h =
      let b = and_parts (not (contains_name (externals_in u.blocks) x)) (is_within_depth MAX_TYPE_DEPTH text s.declared)
      (orderly_site text (externals_in u.blocks) (sites_of_blocks u.blocks) orderly x s h) in
      (false_from_not (contains_name (externals_in u.blocks) x) b.0, b.1)

  is_instance : (x b : Name) (y : Symbol) (i : IsInstanceSite text (sites_of_blocks u.blocks) x b)
      → y.shape ≡ shape_of_type text i.site.declared → y.is_input ≡ false → IsInstance (numbers_of text) b y
  is_instance x b y i shape input = record {
    whole = of_instance;
    members = parts_of (shape_of_type text) i.block.members;
    known = subst
        (λ n. named_in (numbers_of text).members n ≡ Some (parts_of (shape_of_type text) i.block.members)) i.named
        (members_known text i.site.declared i.block i.is);
    shape = shape ∙ instance_shape text i.site.declared i.block i.is (apart x i.site i.there).1;
    is_variable = input;
  }

  pub block_instances : (vs : List Owned)
      → EachInstance (numbers_of text) (symbols_of_block text vs u) (instances_among text (sites_of_blocks u.blocks))
  block_instances vs x b y h g =
      let i = instance_site text x b (sites_of_blocks u.blocks) differ h in
      let p = members_stand text vs (members_of_block text u) (externals_in u.blocks) (names_in u.blocks) x y g
      (apart x i.site i.there).0 in
      is_instance x b y i
      (site_part (shape_of_type text) (sites_of_blocks u.blocks) x i.site
      (record { offset = p.offset; shape = y.shape }) i.there p.part)
      p.is_variable
