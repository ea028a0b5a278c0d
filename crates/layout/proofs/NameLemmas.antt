-- If each name occurs once in its scope, each path of the layout occurs once.
use Rattle.std.proofs.Common.{◌≡◌, ℕ, zero, suc, Bool, true, false, not, ◌&&◌, ◌||◌, if◌then◌else◌, List, [], ◌∷◌, ◌++◌}
use Rattle.std.proofs.Common.{map}
use Rattle.std.proofs.Common.{Option, Some, None, refl, sym, ap, ap₂, ◌∙◌}
use Rattle.std.specs.Prelude.{bytes_eq, is_none}
use Rattle.std.specs.List.{list_all}
use Rattle.st_types.specs.declared.identifier.Identifier.{Identifier}
use Rattle.st_types.specs.declared.kind.Kind.{Kind}
use Rattle.st_types.specs.declared.path.Owner.{Owner}
use Rattle.st_types.specs.Paths.{same_owner}
use Rattle.st_types.specs.declared.configuration.Instance.{Instance}
use Rattle.st_types.specs.declared.data_type.SimpleType.TheVariants.{Elementary, Named}
use Rattle.st_types.specs.declared.data_type.VariableType.{VariableType}
use Rattle.st_types.specs.declared.data_type.VariableType.TheVariants as types
use Rattle.st_types.specs.declared.declaration.Retention.{Retention}
use Rattle.st_types.specs.declared.unit.UnitSort.{UnitSort}
use Rattle.st_types.specs.declared.unit.UnitSort.TheVariants.{Function, FunctionBlock, Program}
use Rattle.st_types.specs.Declarations as declarations
use Rattle.st_types.specs.Declarations.{TypeDefinition, TypeDeclaration}
use Rattle.st_types.specs.Configurations.{GlobalNames, located, listed, GlobalDeclaration, GlobalBlock, Resource}
use Rattle.st_types.specs.Configurations.{Configuration}
use Rattle.st_types.specs.Units.{OrganisationUnit}
use Rattle.st_meaning.specs.NameTypes.{Declared, is_named, type_named, unit_named, definition_of, kind_among}
use Rattle.st_meaning.specs.Scopes.{Name, contains_name}
use Rattle.st_meaning.specs.StandardBlocks.{StandardBlock, SR, RS, R_TRIG, F_TRIG, CTU, CTD, CTUD, TON, TOF, TP, block_of}
use Rattle.st_meaning.specs.StandardBlocks.{members_of}
use Rattle.st_rules.specs.declared.limits.TheConstants.{MAX_TYPE_DEPTH}
use Rattle.layout.specs.Shapes.{Shape, has_name, is_sound, are_sound}
use Rattle.layout.specs.Types.{Site, NamedSite, site_of_member, BlockType}
use Rattle.layout.specs.Types.{block_type_of, own_block_type, block_type_named, instance_of, Composition, of_kind}
use Rattle.layout.specs.Types.{of_elements, of_parts, instance_parts, defined_composition, composition_of, parts_of}
use Rattle.layout.specs.Types.{composed_shape, shape_within}
use Rattle.layout.specs.LayoutVariables.{Owned, owned_variable, global_variable, variables_of_names}
use Rattle.layout.specs.LayoutVariables.{variables_of_declarations}
use Rattle.layout.specs.LayoutVariables.{retention_of_globals, site_of_global, variables_of_globals}
use Rattle.layout.specs.LayoutVariables.{sites_of_program}
use Rattle.layout.specs.LayoutVariables.{program_sites}
use Rattle.layout.specs.LayoutVariables.{owner_in, variables_of_instances, variables_of_resources}
use Rattle.layout.specs.LayoutVariables.{variables_of_configuration}
use Rattle.layout.specs.TextLayouts.{variable_shape}
use Rattle.layout.specs.VariableSlots.{is_variable, has_variable, are_declared_once}
use Rattle.layout.specs.Names.{are_different, names_of_sites, has_different_fields, variable_names}
use Rattle.layout.specs.Names.{has_different_variables, are_types_and_units_different, has_different_instances}
use Rattle.layout.specs.Names.{is_configuration_different}
use Rattle.std.proofs.lemmas.Bool.{not_from_false, or_parts, and_parts, and_from, and_left, and_right}
use Rattle.st_types.proofs.TestLemmas.{false_from_not}
use Rattle.std.proofs.lemmas.List.Folds.{list_any-append}
use Rattle.st_types.specs.Comparisons.{same_owner_itself}

-- a result of a look-up is in the list
found_type : (ts : List TypeDeclaration) → list_all (λ t. has_different_fields t.definition) ts ≡ true → (x : Name)
    → (d : TypeDefinition) → type_named ts x ≡ Some d → has_different_fields d ≡ true
found_type [] all x d h = absurd (cc)
found_type (t ∷ ts) all x d h =
    let b = and_parts (has_different_fields t.definition) (list_all (λ t. has_different_fields t.definition) ts) all in
    by_test (is_named x t.name) h b.0 (found_type ts b.1 x d)
  where
    by_test : (s : Bool) → (if s then Some t.definition else type_named ts x) ≡ Some d
        → has_different_fields t.definition ≡ true
        → (type_named ts x ≡ Some d → has_different_fields d ≡ true) → has_different_fields d ≡ true
    by_test true g here ih = let e : t.definition ≡ d = cc in ap has_different_fields (sym e) ∙ here
    by_test false g here ih = ih g

pub found_unit : (us : List OrganisationUnit) → list_all has_different_variables us ≡ true → (x : Name)
    → (u : OrganisationUnit) → unit_named us x ≡ Some u → has_different_variables u ≡ true
found_unit [] all x u h = absurd (cc)
found_unit (v ∷ us) all x u h =
    let b = and_parts (has_different_variables v) (list_all has_different_variables us) all in
    by_test (is_named x v.name) h b.0 (found_unit us b.1 x u)
  where
    by_test : (s : Bool) → (if s then Some v else unit_named us x) ≡ Some u → has_different_variables v ≡ true
        → (unit_named us x ≡ Some u → has_different_variables u ≡ true) → has_different_variables u ≡ true
    by_test true g here ih = let e : v ≡ u = cc in ap has_different_variables (sym e) ∙ here
    by_test false g here ih = ih g

-- the parts of such a composition have different names
abbrev parts_differ : Composition → Bool
parts_differ (of_kind k) = true
parts_differ (of_elements a) = true
parts_differ (of_parts w ds) = are_different (names_of_sites ds)

abbrev members_differ : Option BlockType → Bool
members_differ None = true
members_differ (Some b) = are_different (names_of_sites b.members)

pub standard_members : (b : StandardBlock) → are_different (names_of_sites (map site_of_member (members_of b))) ≡ true
standard_members SR = refl
standard_members RS = refl
standard_members R_TRIG = refl
standard_members F_TRIG = refl
standard_members CTU = refl
standard_members CTD = refl
standard_members CTUD = refl
standard_members TON = refl
standard_members TOF = refl
standard_members TP = refl

module _ (text : Declared) (differ : are_types_and_units_different text ≡ true) where
  types_differ : list_all (λ t. has_different_fields t.definition) text.types ≡ true
  types_differ = (and_parts (list_all (λ t. has_different_fields t.definition) text.types)
      (list_all has_different_variables text.units) differ).0

  units_differ : list_all has_different_variables text.units ≡ true
  units_differ = (and_parts (list_all (λ t. has_different_fields t.definition) text.types)
      (list_all has_different_variables text.units) differ).1

  by_sort : (s : UnitSort) (u : OrganisationUnit) → are_different (variable_names s u) ≡ true
      → members_differ (block_type_of s u) ≡ true
  by_sort FunctionBlock u h = h
  by_sort (Function t) u h = refl
  by_sort Program u h = refl

  by_unit : (o : Option OrganisationUnit)
      → ((u : OrganisationUnit) → o ≡ Some u → has_different_variables u ≡ true)
      → members_differ (own_block_type o) ≡ true
  by_unit None h = refl
  by_unit (Some u) h = by_sort u.sort u (h u refl)

  by_block : (x : Name) (o : Option StandardBlock)
      → members_differ (elim o [
        | Some b ↦ Some (record { name = x; members = map site_of_member (members_of b) })
        | None ↦ own_block_type (unit_named text.units x)
      ]) ≡ true
  by_block x (Some b) = standard_members b
  by_block x None =
      by_unit (unit_named text.units x) (λ u e. found_unit text.units units_differ x u e)

  if_untyped : (b : Bool) (o : Option BlockType) → members_differ o ≡ true
      → members_differ (if b then o else None) ≡ true
  if_untyped true o h = h
  if_untyped false o h = refl

  by_instance : (t : VariableType) → members_differ (instance_of text t) ≡ true
  by_instance (types.Array a) = refl
  by_instance (types.Simple (Elementary k at)) = refl
  by_instance (types.Simple (Named x)) =
      if_untyped (is_none (type_named text.types x.name)) (block_type_named text x.name)
      (by_block x.name (block_of x.name))

  of_instance_parts : (o : Option BlockType) → members_differ o ≡ true → parts_differ (instance_parts o) ≡ true
  of_instance_parts None h = refl
  of_instance_parts (Some b) h = h

  by_definition : (t : VariableType) (d : Option TypeDefinition)
      → ((e : TypeDefinition) → d ≡ Some e → has_different_fields e ≡ true)
      → parts_differ (defined_composition text t d) ≡ true
  by_definition t (Some (declarations.array a)) h = refl
  by_definition t (Some (declarations.structure fields)) h = h (declarations.structure fields) refl
  by_definition t (Some (declarations.enumeration names)) h = refl
  by_definition t None h = of_instance_parts (instance_of text t) (by_instance t)

  defined : (t : VariableType) (e : TypeDefinition) → definition_of text t ≡ Some e → has_different_fields e ≡ true
  defined (types.Array a) e h = let q : ◌≡◌ {A = TypeDefinition} (declarations.array a) e = cc in
      ap has_different_fields (sym q)
  defined (types.Simple (Elementary k at)) e h = absurd (cc)
  defined (types.Simple (Named x)) e h = found_type text.types types_differ x.name e h

  by_type : (t : VariableType) (m : Option Kind)
      → parts_differ (elim m [ Some k ↦ of_kind k | None ↦ defined_composition text t (definition_of text t) ])
      ≡ true
  by_type t (Some k) = refl
  by_type t None = by_definition t (definition_of text t) (defined t)

  parts_different : (t : VariableType) → parts_differ (composition_of text t) ≡ true
  parts_different t = by_type t (kind_among text.types t)

-- so each shape is sound
module _ (inner : VariableType → Shape) (ih : (t : VariableType) → is_sound (inner t) ≡ true) where
  has_name_of : (ds : List NamedSite) (x : Name) → has_name (parts_of inner ds) x ≡ contains_name (names_of_sites ds) x
  has_name_of [] x = refl
  has_name_of (d ∷ ds) x = ap (λ b. bytes_eq x d.name || b) (has_name_of ds x)

  sound_parts : (ds : List NamedSite) → are_different (names_of_sites ds) ≡ true
      → are_sound (parts_of inner ds) ≡ true
  sound_parts [] h = refl
  sound_parts (d ∷ ds) h =
      let b = and_parts (not (contains_name (names_of_sites ds) d.name)) (are_different (names_of_sites ds)) h in
      and_from (not (has_name (parts_of inner ds) d.name))
      (is_sound (inner d.site.declared) && are_sound (parts_of inner ds))
      (ap not (has_name_of ds d.name) ∙ b.0)
      (and_from (is_sound (inner d.site.declared)) (are_sound (parts_of inner ds)) (ih d.site.declared)
      (sound_parts ds b.1))

  sound_composition : (c : Composition) → parts_differ c ≡ true → is_sound (composed_shape inner c) ≡ true
  sound_composition (of_kind k) h = refl
  sound_composition (of_elements a) h = ih (types.Simple a.element)
  sound_composition (of_parts w ds) h = sound_parts ds h

sound_within : (text : Declared) → are_types_and_units_different text ≡ true → (n : ℕ) (t : VariableType)
    → is_sound (shape_within n text t) ≡ true
unfolding shape_within
sound_within text differ zero t = refl
sound_within text differ (suc n) t =
    sound_composition (shape_within n text) (λ u. sound_within text differ n u) (composition_of text t)
    (parts_different text differ t)

-- no two variables of one owner have the same name
abbrev are_apart : List Owned → Bool
are_apart [] = true
are_apart (v ∷ vs) = not (has_variable vs v.owner v.name) && are_apart vs

once_if_sound : (text : Declared) → are_types_and_units_different text ≡ true → (vs : List Owned)
    → are_apart vs ≡ true → are_declared_once text vs ≡ true
once_if_sound text differ [] h = refl
once_if_sound text differ (v ∷ vs) h =
    let b = and_parts (not (has_variable vs v.owner v.name)) (are_apart vs) h in
    and_from (not (has_variable vs v.owner v.name)) (is_sound (variable_shape text v) && are_declared_once text vs) b.0
    (and_from (is_sound (variable_shape text v)) (are_declared_once text vs)
    (sound_within text differ MAX_TYPE_DEPTH v.site.declared) (once_if_sound text differ vs b.1))

-- variables of one owner
abbrev AreOwnedBy : Option Owner → List Owned → Type 0
AreOwnedBy o [] = Unit {0}
AreOwnedBy o (v ∷ vs) = (v.owner ≡ o) × AreOwnedBy o vs

abbrev names_among : List Owned → List Name
names_among vs = map (λ v. v.name) vs

has_variable_of : (o : Option Owner) (vs : List Owned) → AreOwnedBy o vs → (x : Name)
    → has_variable vs o x ≡ contains_name (names_among vs) x
has_variable_of o [] h x = refl
has_variable_of o (v ∷ vs) h x =
    let i = same_owner_itself o in let e : same_owner o v.owner ≡ true = ap (same_owner o) h.0 ∙ i in
    ap₂ (λ a b. a || b) (ap (λ a. a && bytes_eq x v.name) e) (has_variable_of o vs h.1 x)

has_no_variable : (o p : Option Owner) → same_owner o p ≡ false → (vs : List Owned) → AreOwnedBy p vs → (x : Name)
    → has_variable vs o x ≡ false
has_no_variable o p d [] h x = refl
has_no_variable o p d (v ∷ vs) h x =
    let e : same_owner o v.owner ≡ false = ap (same_owner o) h.0 ∙ d in
    ap₂ (λ a b. a || b) (ap (λ a. a && bytes_eq x v.name) e) (has_no_variable o p d vs h.1 x)

one_owner : (o : Option Owner) (vs : List Owned) → AreOwnedBy o vs → are_different (names_among vs) ≡ true
    → are_apart vs ≡ true
one_owner o [] h d = refl
one_owner o (v ∷ vs) h d =
    let b = and_parts (not (contains_name (names_among vs) v.name)) (are_different (names_among vs)) d in
    and_from (not (has_variable vs v.owner v.name)) (are_apart vs)
    (ap (λ p. not (has_variable vs p v.name)) h.0 ∙ ap not (has_variable_of o vs h.1 v.name) ∙ b.0)
    (one_owner o vs h.1 b.1)

-- variables of one owner before variables of others
joined : (o : Option Owner) (vs ws : List Owned) → AreOwnedBy o vs → ((x : Name) → has_variable ws o x ≡ false)
    → are_apart vs ≡ true → are_apart ws ≡ true → are_apart (vs ++ ws) ≡ true
joined o [] ws h others d e = e
joined o (v ∷ vs) ws h others d e =
    let b = and_parts (not (has_variable vs v.owner v.name)) (are_apart vs) d in
    let n : has_variable ws v.owner v.name ≡ false = ap (λ p. has_variable ws p v.name) h.0 ∙ others v.name in
    and_from (not (has_variable (vs ++ ws) v.owner v.name)) (are_apart (vs ++ ws))
    (not_from_false (has_variable (vs ++ ws) v.owner v.name)
    (list_any-append (is_variable v.owner v.name) vs ws
    ∙ ap₂ (λ a b. a || b) (false_from_not (has_variable vs v.owner v.name) b.0) n))
    (joined o vs ws h.1 others b.1 e)

-- the variables of a unit
owned_variables : (o : Option Owner) (ds : List NamedSite) → AreOwnedBy o (map (owned_variable o) ds)
owned_variables o [] = tt
owned_variables o (d ∷ ds) = (refl, owned_variables o ds)

names_of_variables : (o : Option Owner) (ds : List NamedSite)
    → names_among (map (owned_variable o) ds) ≡ names_of_sites ds
names_of_variables o [] = refl
names_of_variables o (d ∷ ds) = ap (λ xs. d.name ∷ xs) (names_of_variables o ds)

variables_differ : (o : Option Owner) (ds : List NamedSite) → are_different (names_of_sites ds) ≡ true
    → are_apart (map (owned_variable o) ds) ≡ true
variables_differ o ds h =
    one_owner o (map (owned_variable o) ds) (owned_variables o ds) (ap are_different (names_of_variables o ds) ∙ h)

-- globals
owned_append : (o : Option Owner) (vs ws : List Owned) → AreOwnedBy o vs → AreOwnedBy o ws → AreOwnedBy o (vs ++ ws)
owned_append o [] ws h g = g
owned_append o (v ∷ vs) ws h g = (h.0, owned_append o vs ws h.1 g)

owned_listed : (s : Site) (xs : List Identifier) → AreOwnedBy None (map (global_variable s false) xs)
owned_listed s [] = tt
owned_listed s (x ∷ xs) = (refl, owned_listed s xs)

owned_names : (s : Site) (xs : GlobalNames) → AreOwnedBy None (variables_of_names s xs)
owned_names s (located x a) = (refl, tt)
owned_names s (listed xs) = owned_listed s xs

owned_declarations : (keep : Option Retention) (ds : List GlobalDeclaration)
    → AreOwnedBy None (variables_of_declarations keep ds)
owned_declarations keep [] = tt
owned_declarations keep (d ∷ ds) =
    owned_append None (variables_of_names (site_of_global keep d) d.names) (variables_of_declarations keep ds)
    (owned_names (site_of_global keep d) d.names) (owned_declarations keep ds)

owned_globals : (bs : List GlobalBlock) → AreOwnedBy None (variables_of_globals bs)
owned_globals [] = tt
owned_globals (b ∷ bs) =
    owned_append None (variables_of_declarations (retention_of_globals b.qualifier) b.declarations)
    (variables_of_globals bs)
    (owned_declarations (retention_of_globals b.qualifier) b.declarations) (owned_globals bs)

-- instances
abbrev owner : Name → Name → Owner
owner r i = record { resource = r; instance = i }

module _ (text : Declared) where
  abbrev variables_at : Name → Instance → List Owned
  variables_at r i =
      map (owned_variable (Some (owner_in r i))) (program_sites (unit_named text.units i.program.name))

  not_in : (o : Option Owner) (x : Name) (r : Name) (i : Instance) (rest : List Owned)
      → same_owner o (Some (owner_in r i)) ≡ false → has_variable rest o x ≡ false
      → has_variable (variables_at r i ++ rest) o x ≡ false
  not_in o x r i rest d h =
      list_any-append (is_variable o x) (variables_at r i) rest
      ∙ ap₂ (λ a b. a || b) (has_no_variable o (Some (owner_in r i)) d (variables_at r i)
      (owned_variables (Some (owner_in r i)) (program_sites (unit_named text.units i.program.name))) x) h

  -- an instance of another name, or of another resource, has other variables
  other_instances : (r r' i' : Name) (is : List Instance) → contains_name (map (λ i. i.name.name) is) i' ≡ false
      → (x : Name) → has_variable (variables_of_instances text r is) (Some (owner r' i')) x ≡ false
  other_instances r r' i' [] h x = refl
  other_instances r r' i' (i ∷ is) h x =
      let n = or_parts (bytes_eq i' i.name.name) (contains_name (map (λ i. i.name.name) is) i') h in
      not_in (Some (owner r' i')) x r i (variables_of_instances text r is)
      (and_right (bytes_eq r' r) (bytes_eq i' i.name.name) n.0) (other_instances r r' i' is n.1 x)

  other_resource : (r r' i' : Name) → bytes_eq r' r ≡ false → (is : List Instance) (x : Name)
      → has_variable (variables_of_instances text r is) (Some (owner r' i')) x ≡ false
  other_resource r r' i' d [] x = refl
  other_resource r r' i' d (i ∷ is) x =
      not_in (Some (owner r' i')) x r i (variables_of_instances text r is)
      (and_left (bytes_eq r' r) (bytes_eq i' i.name.name) d) (other_resource r r' i' d is x)

  other_resources : (r' i' : Name) (rs : List Resource) → contains_name (map (λ r. r.name.name) rs) r' ≡ false
      → (x : Name) → has_variable (variables_of_resources text rs) (Some (owner r' i')) x ≡ false
  other_resources r' i' [] h x = refl
  other_resources r' i' (r ∷ rs) h x =
      let n = or_parts (bytes_eq r' r.name.name) (contains_name (map (λ r. r.name.name) rs) r') h in
      list_any-append (is_variable (Some (owner r' i')) x) (variables_of_instances text r.name.name r.instances)
      (variables_of_resources text rs)
      ∙ ap₂ (λ a b. a || b) (other_resource r.name.name r' i' n.0 r.instances x) (other_resources r' i' rs n.1 x)

  unowned_instances : (r : Name) (is : List Instance) (x : Name)
      → has_variable (variables_of_instances text r is) None x ≡ false
  unowned_instances r [] x = refl
  unowned_instances r (i ∷ is) x = not_in None x r i (variables_of_instances text r is) refl (unowned_instances r is x)

  unowned_resources : (rs : List Resource) (x : Name) → has_variable (variables_of_resources text rs) None x ≡ false
  unowned_resources [] x = refl
  unowned_resources (r ∷ rs) x =
      list_any-append (is_variable None x) (variables_of_instances text r.name.name r.instances)
      (variables_of_resources text rs)
      ∙ ap₂ (λ a b. a || b) (unowned_instances r.name.name r.instances x) (unowned_resources rs x)

  module _ (differ : are_types_and_units_different text ≡ true) where
    program_by_sort : (s : UnitSort) (u : OrganisationUnit) → are_different (variable_names s u) ≡ true
        → are_different (names_of_sites (sites_of_program s u.blocks)) ≡ true
    program_by_sort Program u h = h
    program_by_sort FunctionBlock u h = refl
    program_by_sort (Function t) u h = refl

    program_by_unit : (o : Option OrganisationUnit)
        → ((u : OrganisationUnit) → o ≡ Some u → has_different_variables u ≡ true)
        → are_different (names_of_sites (program_sites o)) ≡ true
    program_by_unit None h = refl
    program_by_unit (Some u) h = program_by_sort u.sort u (h u refl)

    program_differs : (x : Name) → are_different (names_of_sites (program_sites (unit_named text.units x))) ≡ true
    program_differs x = program_by_unit (unit_named text.units x)
        (λ u e. found_unit text.units (units_differ text differ) x u e)

    -- the instances of a resource, before others
    instances_differ : (r : Name) (is : List Instance) (rest : List Owned)
        → are_different (map (λ i. i.name.name) is) ≡ true
        → ((i x : Name) → has_variable rest (Some (owner r i)) x ≡ false)
        → are_apart rest ≡ true → are_apart (variables_of_instances text r is ++ rest) ≡ true
    instances_differ r [] rest d others h = h
    instances_differ r (i ∷ is) rest d others h =
        let b = and_parts (not (contains_name (map (λ i. i.name.name) is) i.name.name))
        (are_different (map (λ i. i.name.name) is)) d in
        ap are_apart (append_again (variables_at r i) (variables_of_instances text r is) rest)
        ∙ joined (Some (owner_in r i)) (variables_at r i) (variables_of_instances text r is ++ rest)
        (owned_variables (Some (owner_in r i)) (program_sites (unit_named text.units i.program.name)))
        (λ x. list_any-append (is_variable (Some (owner_in r i)) x) (variables_of_instances text r is) rest
        ∙ ap₂ (λ a b. a || b)
        (other_instances r r i.name.name is (false_from_not (contains_name (map (λ i. i.name.name) is) i.name.name) b.0) x)
        (others i.name.name x))
        (variables_differ (Some (owner_in r i)) (program_sites (unit_named text.units i.program.name))
        (program_differs i.program.name))
        (instances_differ r is rest b.1 others h)
      where
        append_again : (us vs ws : List Owned) → (us ++ vs) ++ ws ≡ us ++ (vs ++ ws)
        append_again [] vs ws = refl
        append_again (u ∷ us) vs ws = ap (λ ts. u ∷ ts) (append_again us vs ws)

    resources_differ : (rs : List Resource) → are_different (map (λ r. r.name.name) rs) ≡ true
        → list_all has_different_instances rs ≡ true → are_apart (variables_of_resources text rs) ≡ true
    resources_differ [] d h = refl
    resources_differ (r ∷ rs) d h =
        let b = and_parts (not (contains_name (map (λ r. r.name.name) rs) r.name.name))
        (are_different (map (λ r. r.name.name) rs)) d in
        let c = and_parts (has_different_instances r) (list_all has_different_instances rs) h in
        instances_differ r.name.name r.instances (variables_of_resources text rs) c.0
        (λ i x. other_resources r.name.name i rs (false_from_not (contains_name (map (λ r. r.name.name) rs) r.name.name) b.0) x)
        (resources_differ rs b.1 c.1)

    configuration_differs : (c : Option Configuration) → is_configuration_different c ≡ true
        → are_apart (variables_of_configuration text c) ≡ true
    configuration_differs None h = refl
    configuration_differs (Some c) h =
        let b = and_parts (are_different (names_among (variables_of_globals c.globals)))
        (are_different (map (λ r. r.name.name) c.resources) && list_all has_different_instances c.resources) h in
        let d = and_parts (are_different (map (λ r. r.name.name) c.resources))
        (list_all has_different_instances c.resources) b.1 in
        joined None (variables_of_globals c.globals) (variables_of_resources text c.resources) (owned_globals c.globals)
        (unowned_resources c.resources)
        (one_owner None (variables_of_globals c.globals) (owned_globals c.globals) b.0)
        (resources_differ c.resources d.0 d.1)

    pub configuration_once : (c : Option Configuration) → is_configuration_different c ≡ true
        → are_declared_once text (variables_of_configuration text c) ≡ true
    configuration_once c h = once_if_sound text differ (variables_of_configuration text c) (configuration_differs c h)

    -- the variables of a call of a function
    pub variables_once : (ds : List NamedSite) → are_different (names_of_sites ds) ≡ true
        → are_declared_once text (map (owned_variable None) ds) ≡ true
    variables_once ds h = once_if_sound text differ (map (owned_variable None) ds) (variables_differ None ds h)
