-- Slots don't depend on literals: the layout of a text is that of the text as it was parsed, but for its initial values.
use Rattle.std.proofs.Common.{◌≡◌, ℕ, zero, suc, ◌+◌, pos, ◌+ℤ◌, ◌-ℤ◌, Bool, true, false, if◌then◌else◌, List, []}
use Rattle.std.proofs.Common.{◌∷◌, ◌++◌}
use Rattle.std.proofs.Common.{map, Option, Some, None, option_map, refl, sym, ap, ap₂, ◌∙◌}
use Rattle.std.specs.Prelude.{is_none}
use Rattle.st_types.specs.declared.identifier.Identifier.{Identifier}
use Rattle.st_types.specs.declared.kind.Kind.{Kind}
use Rattle.st_types.specs.declared.literal.Number.{Number}
use Rattle.st_types.specs.declared.path.Owner.{Owner}
use Rattle.st_types.specs.declared.configuration.Instance.{Instance}
use Rattle.st_types.specs.declared.data_type.ArrayType.{ArrayType}
use Rattle.st_types.specs.declared.data_type.SimpleType.TheVariants.{Elementary, Named}
use Rattle.st_types.specs.declared.data_type.VariableType.{VariableType}
use Rattle.st_types.specs.declared.data_type.VariableType.TheVariants as types
use Rattle.st_types.specs.declared.declaration.Retention.{Retention}
use Rattle.st_types.specs.declared.unit.UnitSort.{UnitSort}
use Rattle.st_types.specs.declared.unit.UnitSort.TheVariants.{Function, FunctionBlock, Program}
use Rattle.st_types.specs.Declarations as declarations
use Rattle.st_types.specs.Declarations.{Field, TypeDefinition, TypeDeclaration, Declaration, VariableBlock}
use Rattle.st_types.specs.Configurations.{GlobalNames, located, listed, GlobalDeclaration, GlobalBlock, Resource}
use Rattle.st_types.specs.Configurations.{Configuration}
use Rattle.st_types.specs.Units.{OrganisationUnit}
use Rattle.st_types.specs.Sources as sources
use Rattle.st_types.specs.Sources.{LibraryElement, Source}
use Rattle.st_meaning.specs.Bodies.{is_external}
use Rattle.st_meaning.specs.Enumerations.{enumerated_names, enumerations_from, enumeration_named}
use Rattle.st_meaning.specs.Enumerations.{kind_of_enumeration}
use Rattle.st_meaning.specs.NameTypes.{Declared, types_in, units_in, declared_in, is_named, type_named, unit_named}
use Rattle.st_meaning.specs.NameTypes.{definition_of, kind_among}
use Rattle.st_meaning.specs.Operators.{number_of, natural}
use Rattle.st_meaning.specs.Resolution.{taken_kind, taking_number}
use Rattle.st_meaning.specs.ResolvedUnits.{resolved_array, resolved_type, resolved_declaration, resolved_block, resolved}
use Rattle.st_meaning.specs.ResolvedUnits.{resolved_field, resolved_definition, resolved_type_declaration}
use Rattle.st_meaning.specs.ResolvedUnits.{resolved_global}
use Rattle.st_meaning.specs.ResolvedUnits.{resolved_globals, resolved_element_of_text}
use Rattle.st_meaning.specs.Scopes.{Name}
use Rattle.st_meaning.specs.Slots.{Slot}
use Rattle.st_meaning.specs.StandardBlocks.{StandardBlock, BlockMember, block_of, members_of}
use Rattle.st_rules.specs.declared.limits.TheConstants.{MAX_TYPE_DEPTH}
use Rattle.st_rules.specs.TypeRules.{elements_of_array}
use Rattle.layout.specs.Shapes.{Shape, Leaf, leaves_of, array, parts, Parts, no_parts, part_then, PartsOwner}
use Rattle.layout.specs.Shapes.{of_structure, of_instance}
use Rattle.layout.specs.Types.{Site, NamedSite, with_site, site_of_declaration, sites_of_declarations, retention_of}
use Rattle.layout.specs.Types.{sites_of_blocks, site_of_field, site_of_member, BlockType, block_type_of}
use Rattle.layout.specs.Types.{own_block_type, block_type_named, instance_of, of_kind}
use Rattle.layout.specs.Types.{instance_parts, defined_composition, composition_of, lower_of}
use Rattle.layout.specs.Types.{element_of, parts_of, composed_shape, shape_within}
use Rattle.layout.specs.LayoutVariables.{Owned, owned_variable, global_variable, site_of_global, is_input_address}
use Rattle.layout.specs.LayoutVariables.{variables_of_names, variables_of_declarations, retention_of_globals}
use Rattle.layout.specs.LayoutVariables.{variables_of_globals, sites_of_program, program_sites, owner_in}
use Rattle.layout.specs.LayoutVariables.{variables_of_instances, variables_of_resources, configurations_in}
use Rattle.layout.specs.LayoutVariables.{only_configuration, variables_of_configuration, configuration_of}
use Rattle.layout.specs.TextLayouts.{further, slots_of_variable, slots_of, slots_of_text}
use Rattle.std.proofs.lemmas.List.{map-append}

-- numbers
same_number : (k : Kind) (n : Number) → number_of (taking_number k n) ≡ number_of n
same_number k n = by_written n.written
  where
    by_written : (o : Option Kind)
        → number_of (elim o [ Some l ↦ n | None ↦ record n { taken = Some k } ]) ≡ number_of n
    by_written (Some l) = refl
    by_written None = refl

same_lower : (a : ArrayType) → lower_of (resolved_array a) ≡ lower_of a
same_lower a = same_number (taken_kind None) a.lower

same_count : (a : ArrayType) → elements_of_array (resolved_array a) ≡ elements_of_array a
same_count a = ap₂ (λ x y. natural ((y -ℤ x) +ℤ pos 1)) (same_number (taken_kind None) a.lower)
    (same_number (taken_kind None) a.upper)

-- names with their types
abbrev pub Typed : Type 0
Typed = Name × VariableType

abbrev pub typed : NamedSite → Typed
typed d = (d.name, d.site.declared)

abbrev pub taking : Typed → Typed
taking e = (e.0, resolved_type e.1)

parts_from : (VariableType → Shape) → List Typed → Parts
parts_from inner [] = no_parts
parts_from inner (e ∷ es) = part_then e.0 (inner e.1) (parts_from inner es)

parts_are : (inner : VariableType → Shape) (ds : List NamedSite) → parts_of inner ds ≡ parts_from inner (map typed ds)
unfolding parts_from
parts_are inner [] = refl
parts_are inner (d ∷ ds) = ap (part_then d.name (inner d.site.declared)) (parts_are inner ds)

same_parts : (inner other : VariableType → Shape) → ((t : VariableType) → other (resolved_type t) ≡ inner t)
    → (es : List Typed) → parts_from other (map taking es) ≡ parts_from inner es
unfolding parts_from
same_parts inner other same [] = refl
same_parts inner other same (e ∷ es) =
    ap₂ (λ sh ps. part_then e.0 sh ps) (same e.1) (same_parts inner other same es)

module _ (text : Declared) where
  pub fields_typed : (fields : List Field)
      → map typed (map site_of_field (map (resolved_field text) fields))
      ≡ map taking (map typed (map site_of_field fields))
  fields_typed [] = refl
  fields_typed (f ∷ fs) = ap (λ es. (f.name.name, resolved_type f.declared) ∷ es) (fields_typed fs)

  names_typed : (s r : Site) → r.declared ≡ resolved_type s.declared → (xs : List Identifier)
      → map typed (map (with_site r) xs) ≡ map taking (map typed (map (with_site s) xs))
  names_typed s r e [] = refl
  names_typed s r e (x ∷ xs) = ap₂ (λ t es. (x.name, t) ∷ es) e (names_typed s r e xs)

  declarations_typed : (keep : Option Retention) (ds : List Declaration)
      → map typed (sites_of_declarations keep (map (resolved_declaration text) ds))
      ≡ map taking (map typed (sites_of_declarations keep ds))
  declarations_typed keep [] = refl
  declarations_typed keep (d ∷ ds) =
      map-append typed (map (with_site (site_of_declaration keep (resolved_declaration text d))) d.names)
      (sites_of_declarations keep (map (resolved_declaration text) ds))
      ∙ ap₂ (λ xs ys. xs ++ ys)
      (names_typed (site_of_declaration keep d) (site_of_declaration keep (resolved_declaration text d)) refl d.names)
      (declarations_typed keep ds)
      ∙ sym (map-append taking (map typed (map (with_site (site_of_declaration keep d)) d.names))
      (map typed (sites_of_declarations keep ds)))
      ∙ ap (map taking) (sym (map-append typed (map (with_site (site_of_declaration keep d)) d.names)
      (sites_of_declarations keep ds)))

  pub blocks_typed : (bs : List VariableBlock) → map typed (sites_of_blocks (map (resolved_block text) bs))
      ≡ map taking (map typed (sites_of_blocks bs))
  blocks_typed [] = refl
  blocks_typed (b ∷ bs) = by_section (is_external b.section) (blocks_typed bs)
    where
      by_section : (external : Bool)
          → map typed (sites_of_blocks (map (resolved_block text) bs)) ≡ map taking (map typed (sites_of_blocks bs))
          → map typed (if external then sites_of_blocks (map (resolved_block text) bs)
          else sites_of_declarations (retention_of b.section) (map (resolved_declaration text) b.declarations)
          ++ sites_of_blocks (map (resolved_block text) bs))
          ≡ map taking (map typed (if external then sites_of_blocks bs
          else sites_of_declarations (retention_of b.section) b.declarations ++ sites_of_blocks bs))
      by_section true ih = ih
      by_section false ih =
          map-append typed (sites_of_declarations (retention_of b.section)
          (map (resolved_declaration text) b.declarations)) (sites_of_blocks (map (resolved_block text) bs))
          ∙ ap₂ (λ xs ys. xs ++ ys) (declarations_typed (retention_of b.section) b.declarations) ih
          ∙ sym (map-append taking (map typed (sites_of_declarations (retention_of b.section) b.declarations))
          (map typed (sites_of_blocks bs)))
          ∙ ap (map taking) (sym (map-append typed (sites_of_declarations (retention_of b.section) b.declarations)
          (sites_of_blocks bs)))

  members_typed : (ms : List BlockMember)
      → map typed (map site_of_member ms) ≡ map taking (map typed (map site_of_member ms))
  members_typed [] = refl
  members_typed (m ∷ ms) = ap (λ es. typed (site_of_member m) ∷ es) (members_typed ms)

  -- types and units by name
  pub same_type_named : (ts : List TypeDeclaration) (x : Name)
      → type_named (map (resolved_type_declaration text) ts) x ≡ option_map (resolved_definition text) (type_named ts x)
  same_type_named [] x = refl
  same_type_named (t ∷ ts) x = by_test (is_named x t.name) (same_type_named ts x)
    where
      by_test : (b : Bool) → type_named (map (resolved_type_declaration text) ts) x
          ≡ option_map (resolved_definition text) (type_named ts x)
          → (if b then Some (resolved_definition text t.definition)
          else type_named (map (resolved_type_declaration text) ts) x)
          ≡ option_map (resolved_definition text) (if b then Some t.definition else type_named ts x)
      by_test true ih = refl
      by_test false ih = ih

  pub same_unit_named : (us : List OrganisationUnit) (x : Name)
      → unit_named (map (resolved text) us) x ≡ option_map (resolved text) (unit_named us x)
  same_unit_named [] x = refl
  same_unit_named (u ∷ us) x = by_test (is_named x u.name) (same_unit_named us x)
    where
      by_test : (b : Bool) → unit_named (map (resolved text) us) x ≡ option_map (resolved text) (unit_named us x)
          → (if b then Some (resolved text u) else unit_named (map (resolved text) us) x)
          ≡ option_map (resolved text) (if b then Some u else unit_named us x)
      by_test true ih = refl
      by_test false ih = ih

  same_names : (d : TypeDefinition) → enumerated_names (resolved_definition text d) ≡ enumerated_names d
  same_names (declarations.array a) = refl
  same_names (declarations.structure fields) = refl
  same_names (declarations.enumeration names) = refl

  same_enumerations : (n : ℕ) (ts : List TypeDeclaration)
      → enumerations_from n (map (resolved_type_declaration text) ts) ≡ enumerations_from n ts
  same_enumerations n [] = refl
  same_enumerations n (t ∷ ts) =
      ap (λ names. elim names [
        | Some xs ↦
            record { number = n; name = t.name.name; names = xs }
            ∷ enumerations_from (n + 1) (map (resolved_type_declaration text) ts)
        | None ↦ enumerations_from n (map (resolved_type_declaration text) ts)
      ]) (same_names t.definition)
      ∙ ap₂ (λ es fs. elim (enumerated_names t.definition)
      [ Some xs ↦ record { number = n; name = t.name.name; names = xs } ∷ es | None ↦ fs ])
      (same_enumerations (n + 1) ts) (same_enumerations n ts)

  -- the text with its literals resolved
  abbrev pub taken_text : Declared
  taken_text =
      record { types = map (resolved_type_declaration text) text.types; units = map (resolved text) text.units }

  pub same_kind_among : (t : VariableType) → kind_among taken_text.types (resolved_type t) ≡ kind_among text.types t
  same_kind_among (types.Simple (Elementary k at)) = refl
  same_kind_among (types.Array a) = refl
  same_kind_among (types.Simple (Named x)) =
      ap (λ es. option_map kind_of_enumeration (enumeration_named es x.name)) (same_enumerations 0 text.types)

  pub same_definition : (t : VariableType)
      → definition_of taken_text (resolved_type t) ≡ option_map (resolved_definition text) (definition_of text t)
  same_definition (types.Simple (Elementary k at)) = refl
  same_definition (types.Array a) = refl
  same_definition (types.Simple (Named x)) = same_type_named text.types x.name

  -- blocks
  pub record SameBlock (o p : Option BlockType) : Type 0 where
    pub there : is_none o ≡ is_none p
    pub members : (b c : BlockType) → o ≡ Some b → p ≡ Some c → map typed b.members ≡ map taking (map typed c.members)

  same_own : (o : Option OrganisationUnit)
      → SameBlock (own_block_type (option_map (resolved text) o)) (own_block_type o)
  same_own None = record { there = refl; members = λ b c e f. absurd (cc) }
  same_own (Some u) = by_sort u.sort
    where
      by_sort : (s : UnitSort) → SameBlock (block_type_of s (resolved text u)) (block_type_of s u)
      by_sort FunctionBlock = record {
        there = refl;
        members = λ b c e f.
            let q : ◌≡◌ {A = BlockType}
            (record { name = u.name.name; members = sites_of_blocks (map (resolved_block text) u.blocks) }) b = cc in
            let r : ◌≡◌ {A = BlockType} (record { name = u.name.name; members = sites_of_blocks u.blocks }) c = cc in
            sym (ap (λ b. map typed b.members) q) ∙ blocks_typed u.blocks
            ∙ ap (λ c. map taking (map typed c.members)) r;
      }
      by_sort (Function t) = record { there = refl; members = λ b c e f. absurd (cc) }
      by_sort Program = record { there = refl; members = λ b c e f. absurd (cc) }

  same_standard : (x : Name) (k : StandardBlock) → SameBlock
      (Some (record { name = x; members = map site_of_member (members_of k) }))
      (Some (record { name = x; members = map site_of_member (members_of k) }))
  same_standard x k = record {
    there = refl;
    members = λ b c e f.
        let q : ◌≡◌ {A = BlockType} (record { name = x; members = map site_of_member (members_of k) }) b = cc in
        let r : ◌≡◌ {A = BlockType} (record { name = x; members = map site_of_member (members_of k) }) c = cc in
        sym (ap (λ b. map typed b.members) q) ∙ members_typed (members_of k)
        ∙ ap (λ c. map taking (map typed c.members)) r;
  }

  same_block_named : (x : Name) → SameBlock (block_type_named taken_text x) (block_type_named text x)
  same_block_named x = by_block (block_of x)
    where
      by_block : (k : Option StandardBlock) → SameBlock (elim k [
        | Some b ↦ Some (record { name = x; members = map site_of_member (members_of b) })
        | None ↦ own_block_type (unit_named taken_text.units x)
      ]) (elim k [
        | Some b ↦ Some (record { name = x; members = map site_of_member (members_of b) })
        | None ↦ own_block_type (unit_named text.units x)
      ])
      by_block (Some b) = same_standard x b
      by_block None =
          let e = same_unit_named text.units x in rw e (same_own (unit_named text.units x))

  pub same_instance : (t : VariableType) → SameBlock (instance_of taken_text (resolved_type t)) (instance_of text t)
  same_instance (types.Simple (Elementary k at)) = record { there = refl; members = λ b c e f. absurd (cc) }
  same_instance (types.Array a) = record { there = refl; members = λ b c e f. absurd (cc) }
  same_instance (types.Simple (Named x)) =
      let e = same_type_named text.types x.name in
      rw e (by_type (type_named text.types x.name))
    where
      by_type : (d : Option TypeDefinition) → SameBlock
          (if is_none (option_map (resolved_definition text) d) then block_type_named taken_text x.name else None)
          (if is_none d then block_type_named text x.name else None)
      by_type None = same_block_named x.name
      by_type (Some d) = record { there = refl; members = λ b c e f. absurd (cc) }

  -- shapes
  module _ (inner other : VariableType → Shape) (same : (t : VariableType) → other (resolved_type t) ≡ inner t) where
    same_part_list : (w : PartsOwner) (ds es : List NamedSite) → map typed es ≡ map taking (map typed ds)
        → parts w (parts_of other es) ≡ parts w (parts_of inner ds)
    same_part_list w ds es h =
        ap (parts w) (parts_are other es ∙ ap (parts_from other) h ∙ same_parts inner other same (map typed ds)
        ∙ sym (parts_are inner ds))

    same_instance_shape : (o p : Option BlockType) → SameBlock o p
        → composed_shape other (instance_parts o) ≡ composed_shape inner (instance_parts p)
    same_instance_shape None None h = refl
    same_instance_shape None (Some c) h = let e = h.there in absurd (cc)
    same_instance_shape (Some b) None h = let e = h.there in absurd (cc)
    same_instance_shape (Some b) (Some c) h =
        same_part_list of_instance c.members b.members (h.members b c refl refl)

    same_defined : (t : VariableType) (d : Option TypeDefinition)
        → composed_shape other
        (defined_composition taken_text (resolved_type t) (option_map (resolved_definition text) d))
        ≡ composed_shape inner (defined_composition text t d)
    same_defined t None =
        same_instance_shape (instance_of taken_text (resolved_type t)) (instance_of text t) (same_instance t)
    same_defined t (Some (declarations.array a)) =
        ap₂ (λ l n. array l n (other (element_of a))) (same_lower a) (same_count a)
        ∙ ap (array (lower_of a) (elements_of_array a)) (same (element_of a))
    same_defined t (Some (declarations.structure fields)) =
        same_part_list of_structure (map site_of_field fields) (map site_of_field (map (resolved_field text) fields))
        (fields_typed fields)
    same_defined t (Some (declarations.enumeration names)) = refl

    same_composed : (t : VariableType)
        → composed_shape other (composition_of taken_text (resolved_type t))
        ≡ composed_shape inner (composition_of text t)
    same_composed t =
        ap (λ m. composed_shape other (elim m [
          | Some k ↦ of_kind k
          | None ↦ defined_composition taken_text (resolved_type t) (definition_of taken_text (resolved_type t))
        ])) (same_kind_among t)
        ∙ by_kind (kind_among text.types t)
      where
        by_kind : (m : Option Kind) → composed_shape other (elim m [
          | Some k ↦ of_kind k
          | None ↦ defined_composition taken_text (resolved_type t) (definition_of taken_text (resolved_type t))
        ]) ≡ composed_shape inner
            (elim m [ Some k ↦ of_kind k | None ↦ defined_composition text t (definition_of text t) ])
        by_kind (Some k) = refl
        by_kind None =
            ap (λ d. composed_shape other (defined_composition taken_text (resolved_type t) d)) (same_definition t)
            ∙ same_defined t (definition_of text t)

  pub same_shape : (n : ℕ) (t : VariableType) → shape_within n taken_text (resolved_type t) ≡ shape_within n text t
  unfolding shape_within
  same_shape zero t = refl
  same_shape (suc n) t = same_composed (shape_within n text) (shape_within n taken_text) (λ u. same_shape n u) t

-- the parts of a variable on which its slots depend
abbrev pub Key : Type 0
Key = Option Owner × Name × VariableType × Bool

abbrev pub key : Owned → Key
key v = (v.owner, v.name, v.site.declared, v.is_input)

abbrev pub taking_key : Key → Key
taking_key k = (k.0, k.1, resolved_type k.2, k.3)

abbrev slot_by : Key → Leaf → Slot
slot_by k l = record {
  path = further (record { owner = k.0; name = k.1; steps = [] }) l.steps;
  kind = l.kind;
  is_input = k.3;
}

pub slots_by : Declared → List Key → List Slot
slots_by text [] = []
slots_by text (k ∷ ks) = map (slot_by k) (leaves_of (shape_within MAX_TYPE_DEPTH text k.2)) ++ slots_by text ks

pub slots_are : (text : Declared) (vs : List Owned) → slots_of text vs ≡ slots_by text (map key vs)
unfolding slots_by
slots_are text [] = refl
slots_are text (v ∷ vs) = ap (λ ls. slots_of_variable text v ++ ls) (slots_are text vs)

pub same_slots : (text : Declared) (ks : List Key) → slots_by (taken_text text) (map taking_key ks) ≡ slots_by text ks
unfolding slots_by
same_slots text [] = refl
same_slots text (k ∷ ks) =
    ap₂ (λ sh ls. map (slot_by k) (leaves_of sh) ++ ls) (same_shape text MAX_TYPE_DEPTH k.2) (same_slots text ks)

-- keys of lists
abbrev pub IsTaken : List Owned → List Owned → Type 0
IsTaken us vs = map key us ≡ map taking_key (map key vs)

taken_append : (us vs ts ws : List Owned) → IsTaken us ts → IsTaken vs ws → IsTaken (us ++ vs) (ts ++ ws)
taken_append us vs ts ws h g =
    map-append key us vs ∙ ap₂ (λ xs ys. xs ++ ys) h g ∙ sym (map-append taking_key (map key ts) (map key ws))
    ∙ ap (map taking_key) (sym (map-append key ts ws))

abbrev key_of : Option Owner → Typed → Key
key_of o e = (o, e.0, e.1, false)

keys_of_variables : (o : Option Owner) (ds : List NamedSite)
    → map key (map (owned_variable o) ds) ≡ map (key_of o) (map typed ds)
keys_of_variables o [] = refl
keys_of_variables o (d ∷ ds) = ap (λ ks. key_of o (typed d) ∷ ks) (keys_of_variables o ds)

taking_keys : (o : Option Owner) (es : List Typed)
    → map (key_of o) (map taking es) ≡ map taking_key (map (key_of o) es)
taking_keys o [] = refl
taking_keys o (e ∷ es) = ap (λ ks. key_of o (taking e) ∷ ks) (taking_keys o es)

pub taken_variables : (o : Option Owner) (es ds : List NamedSite) → map typed es ≡ map taking (map typed ds)
    → IsTaken (map (owned_variable o) es) (map (owned_variable o) ds)
taken_variables o es ds h =
    keys_of_variables o es ∙ ap (map (key_of o)) h ∙ taking_keys o (map typed ds)
    ∙ ap (map taking_key) (sym (keys_of_variables o ds))

abbrev one_key : Key → List Key
one_key k = k ∷ []

module _ (text : Declared) where
  taken_names : (s r : Site) → r.declared ≡ resolved_type s.declared → (xs : GlobalNames)
      → IsTaken (variables_of_names r xs) (variables_of_names s xs)
  taken_names s r e (located x a) =
      ap (λ t. one_key (None, x.name, t, is_input_address a.direction)) e
  taken_names s r e (listed xs) = taken_listed xs
    where
      taken_listed : (xs : List Identifier)
          → IsTaken (map (global_variable r false) xs) (map (global_variable s false) xs)
      taken_listed [] = refl
      taken_listed (x ∷ xs) = ap₂ (λ t ks. (None, x.name, t, false) ∷ ks) e (taken_listed xs)

  taken_declarations : (keep : Option Retention) (ds : List GlobalDeclaration)
      → IsTaken (variables_of_declarations keep (map (resolved_global text) ds)) (variables_of_declarations keep ds)
  taken_declarations keep [] = refl
  taken_declarations keep (d ∷ ds) =
      taken_append (variables_of_names (site_of_global keep (resolved_global text d)) d.names)
      (variables_of_declarations keep (map (resolved_global text) ds))
      (variables_of_names (site_of_global keep d) d.names) (variables_of_declarations keep ds)
      (taken_names (site_of_global keep d) (site_of_global keep (resolved_global text d)) refl d.names)
      (taken_declarations keep ds)

  pub taken_globals : (bs : List GlobalBlock)
      → IsTaken (variables_of_globals (map (resolved_globals text) bs)) (variables_of_globals bs)
  taken_globals [] = refl
  taken_globals (b ∷ bs) =
      taken_append
      (variables_of_declarations (retention_of_globals b.qualifier) (map (resolved_global text) b.declarations))
      (variables_of_globals (map (resolved_globals text) bs))
      (variables_of_declarations (retention_of_globals b.qualifier) b.declarations) (variables_of_globals bs)
      (taken_declarations (retention_of_globals b.qualifier) b.declarations) (taken_globals bs)

  program_typed : (o : Option OrganisationUnit)
      → map typed (program_sites (option_map (resolved text) o)) ≡ map taking (map typed (program_sites o))
  program_typed None = refl
  program_typed (Some u) = by_sort u.sort
    where
      by_sort : (s : UnitSort) → map typed (sites_of_program s (map (resolved_block text) u.blocks))
          ≡ map taking (map typed (sites_of_program s u.blocks))
      by_sort Program = blocks_typed text u.blocks
      by_sort FunctionBlock = refl
      by_sort (Function t) = refl

  taken_instances : (r : Name) (is : List Instance)
      → IsTaken (variables_of_instances (taken_text text) r is) (variables_of_instances text r is)
  taken_instances r [] = refl
  taken_instances r (i ∷ is) =
      taken_append
      (map (owned_variable (Some (owner_in r i))) (program_sites (unit_named (taken_text text).units i.program.name)))
      (variables_of_instances (taken_text text) r is)
      (map (owned_variable (Some (owner_in r i))) (program_sites (unit_named text.units i.program.name)))
      (variables_of_instances text r is)
      (taken_variables (Some (owner_in r i)) (program_sites (unit_named (taken_text text).units i.program.name))
      (program_sites (unit_named text.units i.program.name))
      (ap (λ o. map typed (program_sites o)) (same_unit_named text text.units i.program.name)
      ∙ program_typed (unit_named text.units i.program.name)))
      (taken_instances r is)

  taken_resources : (rs : List Resource)
      → IsTaken (variables_of_resources (taken_text text) rs) (variables_of_resources text rs)
  taken_resources [] = refl
  taken_resources (r ∷ rs) =
      taken_append (variables_of_instances (taken_text text) r.name.name r.instances)
      (variables_of_resources (taken_text text) rs) (variables_of_instances text r.name.name r.instances)
      (variables_of_resources text rs) (taken_instances r.name.name r.instances) (taken_resources rs)

  abbrev pub taken_configuration : Configuration → Configuration
  taken_configuration c = record c { globals = map (resolved_globals text) c.globals }

  pub taken_layout : (o : Option Configuration)
      → IsTaken (variables_of_configuration (taken_text text) (option_map taken_configuration o))
      (variables_of_configuration text o)
  taken_layout None = refl
  taken_layout (Some c) =
      taken_append (variables_of_globals (map (resolved_globals text) c.globals))
      (variables_of_resources (taken_text text) c.resources) (variables_of_globals c.globals)
      (variables_of_resources text c.resources) (taken_globals c.globals) (taken_resources c.resources)

  -- the parts of a text
  pub types_taken : (source : Source) → types_in (map (resolved_element_of_text text) source)
      ≡ map (resolved_type_declaration text) (types_in source)
  types_taken [] = refl
  types_taken (sources.types ts ∷ rest) =
      ap (λ xs. map (resolved_type_declaration text) ts ++ xs) (types_taken rest)
      ∙ sym (map-append (resolved_type_declaration text) ts (types_in rest))
  types_taken (sources.unit u ∷ rest) = types_taken rest
  types_taken (sources.configuration c ∷ rest) = types_taken rest

  pub units_taken : (source : Source)
      → units_in (map (resolved_element_of_text text) source) ≡ map (resolved text) (units_in source)
  units_taken [] = refl
  units_taken (sources.types ts ∷ rest) = units_taken rest
  units_taken (sources.unit u ∷ rest) = ap (λ xs. resolved text u ∷ xs) (units_taken rest)
  units_taken (sources.configuration c ∷ rest) = units_taken rest

  configurations_taken : (source : Source)
      → configurations_in (map (resolved_element_of_text text) source)
      ≡ map taken_configuration (configurations_in source)
  configurations_taken [] = refl
  configurations_taken (sources.types ts ∷ rest) = configurations_taken rest
  configurations_taken (sources.unit u ∷ rest) = configurations_taken rest
  configurations_taken (sources.configuration c ∷ rest) =
      ap (λ xs. taken_configuration c ∷ xs) (configurations_taken rest)

  only_taken : (cs : List Configuration)
      → only_configuration (map taken_configuration cs) ≡ option_map taken_configuration (only_configuration cs)
  only_taken [] = refl
  only_taken (c ∷ []) = refl
  only_taken (c ∷ d ∷ cs) = refl

pub configuration_taken : (source : Source) → configuration_of source
    ≡ option_map (taken_configuration (declared_in source)) (only_configuration (configurations_in source))
configuration_taken source =
    ap only_configuration (configurations_taken (declared_in source) source)
    ∙ only_taken (declared_in source) (configurations_in source)

pub slots_taken : (source : Source) → slots_of_text source
    ≡ slots_of (declared_in source)
    (variables_of_configuration (declared_in source) (only_configuration (configurations_in source)))
slots_taken source =
    let text = declared_in source in
    let c = only_configuration (configurations_in source) in
    ap₂ (λ t o. slots_of t (variables_of_configuration t o))
    (ap₂ (λ ts us. record { types = ts; units = us }) (types_taken text source) (units_taken text source))
    (configuration_taken source)
    ∙ slots_are (taken_text text)
    (variables_of_configuration (taken_text text) (option_map (taken_configuration text) c))
    ∙ ap (slots_by (taken_text text)) (taken_layout text c)
    ∙ same_slots text (map key (variables_of_configuration text c))
    ∙ sym (slots_are text (variables_of_configuration text c))
