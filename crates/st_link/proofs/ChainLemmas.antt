-- A type at which no chain of `n` parts begins is at most `n` deep.
use Rattle.std.proofs.Common.{◌≡◌, ℕ, zero, suc, Bool, true, false, ◌&&◌, if◌then◌else◌, List, [], ◌∷◌, ◌++◌, map}
use Rattle.std.proofs.Common.{Option, Some, None, refl, sym, ap, ◌∙◌}
use Rattle.std.specs.Prelude.{is_none, is_some}
use Rattle.std.specs.List.{list_any, list_all, flat_map, filter}
use Rattle.st_types.specs.declared.identifier.Identifier.{Identifier}
use Rattle.st_types.specs.declared.kind.Kind.{Kind}
use Rattle.st_types.specs.declared.data_type.SimpleType.TheVariants.{Elementary, Named}
use Rattle.st_types.specs.declared.data_type.VariableType.{VariableType}
use Rattle.st_types.specs.declared.data_type.VariableType.TheVariants as types
use Rattle.st_types.specs.declared.declaration.Retention.{Retention}
use Rattle.st_types.specs.declared.unit.UnitSort.{UnitSort}
use Rattle.st_types.specs.declared.unit.UnitSort.TheVariants.{Function, FunctionBlock, Program}
use Rattle.st_types.specs.Declarations as declarations
use Rattle.st_types.specs.Declarations.{Field, TypeDefinition, Declaration, VariableBlock}
use Rattle.st_types.specs.Units.{OrganisationUnit}
use Rattle.st_meaning.specs.Bodies.{is_external}
use Rattle.st_meaning.specs.NameTypes.{Declared, type_named, unit_named, definition_of, kind_among}
use Rattle.st_meaning.specs.Scopes.{Name}
use Rattle.st_meaning.specs.StandardBlocks.{StandardBlock, BlockMember, block_of, members_of}
use Rattle.st_rules.specs.Containment.{Part, elementary, named, part_of_type, parts_of_block, part_of_result}
use Rattle.st_rules.specs.Containment.{calls_of, is_function, parts_of_unit, parts_of_definition, parts_of_standard}
use Rattle.st_rules.specs.Containment.{parts_named, parts_of, has_chain}
use Rattle.layout.specs.Types.{Site, NamedSite, with_site, site_of_declaration, sites_of_declarations, retention_of}
use Rattle.layout.specs.Types.{sites_of_blocks, site_of_field, site_of_member, block_type_of}
use Rattle.layout.specs.Types.{own_block_type, block_type_named, of_kind, instance_parts}
use Rattle.layout.specs.Types.{defined_composition, composition_of, parts_within, is_within_depth}
use Rattle.std.proofs.lemmas.Bool.{or_parts, and_from}
use Rattle.st_types.proofs.ListLemmas.{all_append}
use Rattle.std.proofs.lemmas.List.Folds.{list_any-append}

module _ (text : Declared) (m : ℕ)
    (ih : (t : VariableType) → has_chain text (suc m) (part_of_type t) ≡ false → is_within_depth m text t ≡ true) where
  abbrev within : NamedSite → Bool
  within d = is_within_depth m text d.site.declared

  abbrev chains : List Part → Bool
  chains ps = list_any (has_chain text (suc m)) ps

  fields_within : (fields : List Field) → chains (map (λ f. part_of_type f.declared) fields) ≡ false
      → list_all within (map site_of_field fields) ≡ true
  fields_within [] h = refl
  fields_within (f ∷ fs) h =
      let n = or_parts (has_chain text (suc m) (part_of_type f.declared))
      (chains (map (λ f. part_of_type f.declared) fs)) h in
      and_from (is_within_depth m text f.declared) (list_all within (map site_of_field fs)) (ih f.declared n.0)
      (fields_within fs n.1)

  names_within : (s : Site) → is_within_depth m text s.declared ≡ true → (xs : List Identifier)
      → list_all within (map (with_site s) xs) ≡ true
  names_within s h [] = refl
  names_within s h (x ∷ xs) =
      and_from (is_within_depth m text s.declared) (list_all within (map (with_site s) xs)) h (names_within s h xs)

  declarations_within : (keep : Option Retention) (ds : List Declaration)
      → chains (map (λ d. part_of_type d.declared) ds) ≡ false
      → list_all within (sites_of_declarations keep ds) ≡ true
  declarations_within keep [] h = refl
  declarations_within keep (d ∷ ds) h =
      let n = or_parts (has_chain text (suc m) (part_of_type d.declared))
      (chains (map (λ d. part_of_type d.declared) ds)) h in
      all_append within (map (with_site (site_of_declaration keep d)) d.names) (sites_of_declarations keep ds)
      (names_within (site_of_declaration keep d) (ih d.declared n.0) d.names) (declarations_within keep ds n.1)

  blocks_within : (bs : List VariableBlock) → chains (flat_map parts_of_block bs) ≡ false
      → list_all within (sites_of_blocks bs) ≡ true
  blocks_within [] h = refl
  blocks_within (b ∷ bs) h =
      let n = or_parts (chains (parts_of_block b)) (chains (flat_map parts_of_block bs))
      (sym (list_any-append (has_chain text (suc m)) (parts_of_block b) (flat_map parts_of_block bs)) ∙ h) in
      by_section (is_external b.section) n.0 (blocks_within bs n.1)
    where
      by_section : (external : Bool)
          → chains (if external then [] else map (λ d. part_of_type d.declared) b.declarations) ≡ false
          → list_all within (sites_of_blocks bs) ≡ true
          → list_all within (if external then sites_of_blocks bs
          else sites_of_declarations (retention_of b.section) b.declarations ++ sites_of_blocks bs) ≡ true
      by_section true g rest = rest
      by_section false g rest =
          all_append within (sites_of_declarations (retention_of b.section) b.declarations) (sites_of_blocks bs)
          (declarations_within (retention_of b.section) b.declarations g) rest

  members_within : (k : ℕ) → m ≡ suc k → (ms : List BlockMember) → list_all within (map site_of_member ms) ≡ true
  unfolding is_within_depth
  members_within k e [] = refl
  members_within k e (x ∷ xs) =
      and_from (within (site_of_member x)) (list_all within (map site_of_member xs))
      (ap (λ n. is_within_depth n text (site_of_member x).site.declared) e) (members_within k e xs)

  -- a unit that isn't a function block has no members
  unit_within : (u : OrganisationUnit) → chains (parts_of_unit text u) ≡ false → (s : UnitSort)
      → parts_within (is_within_depth m text) (instance_parts (block_type_of s u)) ≡ true
  unit_within u h (Function t) = refl
  unit_within u h Program = refl
  unit_within u h FunctionBlock =
      let a = or_parts (chains (flat_map parts_of_block u.blocks ++ part_of_result u.sort))
      (chains (map named (filter (is_function text) (calls_of u))))
      (sym (list_any-append (has_chain text (suc m)) (flat_map parts_of_block u.blocks ++ part_of_result u.sort)
      (map named (filter (is_function text) (calls_of u)))) ∙ h) in
      let b = or_parts (chains (flat_map parts_of_block u.blocks)) (chains (part_of_result u.sort))
      (sym (list_any-append (has_chain text (suc m)) (flat_map parts_of_block u.blocks) (part_of_result u.sort)) ∙ a.0) in
      blocks_within u.blocks b.0

  own_within : (x : Identifier) (o : Option OrganisationUnit)
      → chains (elim o [ Some u ↦ parts_of_unit text u | None ↦ parts_of_standard x.name ]) ≡ false
      → parts_within (is_within_depth m text) (instance_parts (own_block_type o)) ≡ true
  own_within x None h = refl
  own_within x (Some u) h = unit_within u h u.sort

  -- a chain of two parts has a second one
  more_than_one : (n : ℕ) → m ≡ n → has_chain text (suc n) elementary ≡ false → (k : ℕ) × (m ≡ suc k)
  unfolding has_chain
  more_than_one zero e h = absurd (cc)
  more_than_one (suc k) e h = (k, e)

  module _ (standard : (x : Name) → is_some (unit_named text.units x) ≡ true → block_of x ≡ None) where
    block_within : (x : Identifier) (b : StandardBlock) → block_of x.name ≡ Some b → (o : Option OrganisationUnit)
        → unit_named text.units x.name ≡ o
        → chains (elim o [ Some u ↦ parts_of_unit text u | None ↦ parts_of_standard x.name ]) ≡ false
        → list_all within (map site_of_member (members_of b)) ≡ true
    block_within x b e (Some u) q h =
        let n : block_of x.name ≡ None = standard x.name (ap is_some q) in
        let f : ◌≡◌ {A = Option StandardBlock} (Some b) None = sym e ∙ n in
        absurd (cc)
    block_within x b e None q h =
        let g : chains (if is_some (Some b) then elementary ∷ [] else []) ≡ false =
        ap (λ k. chains (if is_some k then elementary ∷ [] else [])) (sym e) ∙ h in
        let n = or_parts (has_chain text (suc m) elementary) false g in
        let k = more_than_one m refl n.0 in
        members_within k.0 k.1 (members_of b)

    by_block : (x : Identifier) (k : Option StandardBlock) → block_of x.name ≡ k
        → chains (elim (unit_named text.units x.name)
        [ Some u ↦ parts_of_unit text u | None ↦ parts_of_standard x.name ]) ≡ false
        → parts_within (is_within_depth m text) (instance_parts (elim k [
          | Some b ↦ Some (record { name = x.name; members = map site_of_member (members_of b) })
          | None ↦ own_block_type (unit_named text.units x.name)
        ])) ≡ true
    by_block x (Some b) e h = block_within x b e (unit_named text.units x.name) refl h
    by_block x None e h = own_within x (unit_named text.units x.name) h

    by_name : (x : Identifier) (free : Bool)
        → chains (elim (unit_named text.units x.name)
        [ Some u ↦ parts_of_unit text u | None ↦ parts_of_standard x.name ]) ≡ false
        → parts_within (is_within_depth m text)
        (instance_parts (if free then block_type_named text x.name else None)) ≡ true
    by_name x false h = refl
    by_name x true h = by_block x (block_of x.name) refl h

    by_definition : (x : Identifier) (d : Option TypeDefinition)
        → chains (elim d [
          | Some e ↦ parts_of_definition e
          | None ↦
              elim (unit_named text.units x.name)
              [ Some u ↦ parts_of_unit text u | None ↦ parts_of_standard x.name ]
        ]) ≡ false
        → parts_within (is_within_depth m text) (defined_composition text (types.Simple (Named x)) d) ≡ true
    by_definition x (Some (declarations.array a)) h =
        ih (types.Simple a.element) (or_parts (has_chain text (suc m) (part_of_type (types.Simple a.element))) false h).0
    by_definition x (Some (declarations.structure fields)) h = fields_within fields h
    by_definition x (Some (declarations.enumeration names)) h = refl
    by_definition x None h = by_name x (is_none (type_named text.types x.name)) h

    by_kind : (x : Identifier) (k : Option Kind) → chains (parts_named text x.name) ≡ false
        → parts_within (is_within_depth m text) (elim k [
          | Some l ↦ of_kind l
          | None ↦ defined_composition text (types.Simple (Named x)) (definition_of text (types.Simple (Named x)))
        ]) ≡ true
    by_kind x (Some l) h = refl
    by_kind x None h = by_definition x (type_named text.types x.name) h

    by_type : (t : VariableType) → chains (parts_of text (part_of_type t)) ≡ false
        → parts_within (is_within_depth m text) (composition_of text t) ≡ true
    by_type (types.Simple (Elementary k at)) h = refl
    by_type (types.Array a) h =
        ih (types.Simple a.element) (or_parts (has_chain text (suc m) (part_of_type (types.Simple a.element))) false h).0
    by_type (types.Simple (Named x)) h = by_kind x (kind_among text.types (types.Simple (Named x))) h

pub without_chain : (text : Declared)
    → ((x : Name) → is_some (unit_named text.units x) ≡ true → block_of x ≡ None) → (n : ℕ) (t : VariableType)
    → has_chain text (suc n) (part_of_type t) ≡ false → is_within_depth n text t ≡ true
unfolding has_chain is_within_depth
without_chain text standard zero t h = absurd (cc)
without_chain text standard (suc m) t h =
    by_type text m (λ u g. without_chain text standard m u g) standard t h
