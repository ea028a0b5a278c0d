-- In a text that breaks no rule each array has elements, and a lower bound that instructions hold; and no enumerated type
-- has too many names.
use Rattle.std.proofs.Common.{◌≡◌, refl, sym, ap, subst, ℕ, zero, suc, ◌+◌, ◌<◌, ◌≤◌, arith, Bool, true, false}
use Rattle.std.proofs.Common.{if◌then◌else◌, List, [], ◌∷◌, ◌++◌, length, map, Option, Some, None, slice_get}
use Rattle.std.proofs.Common.{ℤ}
use Rattle.std.specs.Prelude.{int_lt, nat_lt, pos, negsuc, is_none, ◌+ℤ◌, ◌-ℤ◌}
use Rattle.std.specs.List.{flat_map}
use Rattle.std.proofs.lemmas.Bool.Decides.{nat_tests}
use Rattle.std.proofs.lemmas.Int.{ints}
use Rattle.st_types.specs.declared.identifier.Identifier.{Identifier}
use Rattle.st_types.specs.declared.kind.Kind.{Kind}
use Rattle.st_types.specs.declared.path.Owner.{Owner}
use Rattle.st_types.specs.Kinds.{holds}
use Rattle.st_types.specs.declared.configuration.Instance.{Instance}
use Rattle.st_types.specs.declared.data_type.ArrayType.{ArrayType}
use Rattle.st_types.specs.declared.data_type.SimpleType.{SimpleType}
use Rattle.st_types.specs.declared.data_type.SimpleType.TheVariants.{Elementary, Named}
use Rattle.st_types.specs.declared.data_type.VariableType.{VariableType}
use Rattle.st_types.specs.declared.data_type.VariableType.TheVariants as types
use Rattle.st_types.specs.declared.declaration.Retention.{Retention}
use Rattle.st_types.specs.declared.unit.UnitSort.{UnitSort}
use Rattle.st_types.specs.declared.unit.UnitSort.TheVariants as sorts
use Rattle.st_types.specs.Configurations.{Configuration, GlobalBlock, GlobalDeclaration, GlobalNames, Resource, located}
use Rattle.st_types.specs.Configurations.{listed}
use Rattle.st_types.specs.Declarations as declared_as
use Rattle.st_types.specs.Declarations.{Declaration, Field, TypeDeclaration, TypeDefinition, VariableBlock}
use Rattle.st_types.specs.Sources as sources
use Rattle.st_types.specs.Sources.{Source}
use Rattle.st_types.specs.Units.{OrganisationUnit}
use Rattle.st_meaning.specs.Bodies.{is_external}
use Rattle.st_meaning.specs.Enumerations.{enumerated_names, enumerations_from, enumerations_of}
use Rattle.st_meaning.specs.NameTypes.{Declared, declared_in, kind_among, type_named, types_in, unit_named, units_in}
use Rattle.st_meaning.specs.Operators.{natural, number_of}
use Rattle.st_meaning.specs.ResolvedUnits.{resolved, resolved_type}
use Rattle.st_meaning.specs.Scopes.{Name}
use Rattle.st_meaning.specs.StandardBlocks.{StandardBlock, BlockMember, block_of, members_of}
use Rattle.st_rules.specs.declared.limits.TheConstants.{MAX_ELEMENTS, MAX_NAMES}
use Rattle.st_rules.specs.declared.reason.Reason.TheVariants.{PriorityTooGreat, RetainedAddress, SurplusName}
use Rattle.st_rules.specs.declared.reason.Reason.TheVariants.{WrongBounds}
use Rattle.st_rules.specs.Containment.{too_deep}
use Rattle.st_rules.specs.DeclaredTypes.{Declaring, arrays_in, array_of_definition, declarings_in, declarings_of_element}
use Rattle.st_rules.specs.DeclaredTypes.{declarings_of_definition, declarings_of_globals, enumerations_in, field, global}
use Rattle.st_rules.specs.DeclaredTypes.{enumerations_of_element, names_of_definition}
use Rattle.st_rules.specs.DeclaredTypes.{named_arrays_of_element, results_in, unnamed_arrays_in, variable_of}
use Rattle.st_rules.specs.ExpressionRules.{kind_or_taken, wrong_number}
use Rattle.st_rules.specs.Faults.{breaking, in_case}
use Rattle.st_rules.specs.InitialRules.{too_long}
use Rattle.st_rules.specs.Rules.{IsWellTyped, starts_in, wrong_bodies, wrong_declarations, wrong_starts, wrong_types}
use Rattle.st_rules.specs.TwiceDeclared.{twice_declared}
use Rattle.st_rules.specs.TypeRules.{bounds_of, elements_of_array, has_wrong_bounds, place_of_one}
use Rattle.st_rules.specs.TypeRules.{retained_addresses_of}
use Rattle.st_rules.specs.TypeRules.{surplus_name, wrong_bound_numbers, wrong_bounds, wrong_declaring, wrong_element}
use Rattle.st_rules.specs.TypeRules.{wrong_priorities_of, wrong_result}
use Rattle.layout.specs.LayoutVariables.{Owned, configurations_in, global_variable, only_configuration, owned_variable}
use Rattle.layout.specs.LayoutVariables.{owner_in, program_sites, retention_of_globals, site_of_global}
use Rattle.layout.specs.LayoutVariables.{sites_of_program, variables_of_configuration, variables_of_declarations}
use Rattle.layout.specs.LayoutVariables.{variables_of_globals, variables_of_instances, variables_of_names}
use Rattle.layout.specs.LayoutVariables.{variables_of_resources}
use Rattle.layout.specs.Shapes.{Shape}
use Rattle.layout.specs.Types as made
use Rattle.layout.specs.Types.{BlockType, Composition, NamedSite, block_type_named, block_type_of, composed_shape}
use Rattle.layout.specs.Types.{composition_of, defined_composition, element_of, instance_of, instance_parts}
use Rattle.layout.specs.Types.{lower_of, of_elements, of_kind, of_parts, own_block_type, parts_of, retention_of}
use Rattle.layout.specs.Types.{shape_of_type, shape_within, site_of_declaration, site_of_field, site_of_member}
use Rattle.layout.specs.Types.{sites_of_blocks, sites_of_declarations, with_site}
use Rattle.layout.proofs.ResolvedLemmas.{IsTaken, key, same_shape, taken_text, taking_key}
use Rattle.st_link.proofs.Among.{Among, here, later, in_flat, in_front, in_map, none_of}
use Rattle.st_link.proofs.CallLaw.{places_none}
use Rattle.st_link.proofs.FoundNames.{type_found, type_in_source, unit_found, unit_in}
use Rattle.st_link.proofs.KnownTypes.{unnamed_among, variable_among}
use Rattle.st_link.proofs.WellTypedTexts.{PartsRight, parts_right}
use Rattle.st_link.proofs.DeclaredSites.{declared_in_blocks}
use Rattle.st_compile.specs.Linked.{IsNumber}
use Rattle.config.specs.Sound.{AreBounded, AreBoundedVariables, IsBounded}
use Rattle.st_link.specs.Homes.{IsAmong, here as first, further_on}
use Rattle.slot_trees.specs.TextLinks.{sites_of_call}
use Rattle.slot_trees.specs.TextNumbers.{members_of_block}
use Rattle.config.specs.Bounded.{HasBoundedArrays}
use Rattle.config.specs.Spelled.{AreSpelledArrays, HaveFewNames, IsKeyword, IsSpelled}
use Rattle.config.proofs.LiteralLemmas.{held_there, kind_keyword, kind_number}
use Rattle.st_link.proofs.BoundedArrays.{some_elements, has_elements, no_case}
use Rattle.st_types.proofs.TestLemmas.{above_zero}
use Rattle.st_types.proofs.ListLemmas.{none_from, append_first, append_second}
use Rattle.std.proofs.lemmas.Bool.{or_parts}
use Rattle.st_types.proofs.OptionLemmas.{some_is}

array_spelled : (rows : List ArrayType) {a : ArrayType} → AreSpelledArrays rows → Among a rows → IsKeyword a.lower.written
array_spelled _ h (here) = h.0
array_spelled _ h (later k) = array_spelled _ h.1 k

no_surplus : (xs : List Identifier) → surplus_name xs ≡ [] → length xs ≤ MAX_NAMES
no_surplus xs h = none_from xs MAX_NAMES (by_one (slice_get xs MAX_NAMES) h)
  where
    by_one : (o : Option Identifier) → place_of_one o ≡ [] → o ≡ None
    by_one None g = refl
    by_one (Some x) g = absurd (cc)

module _ (source : Source) (h : IsWellTyped source) (spelled : IsSpelled source) where
  abbrev text : Declared
  text = declared_in source

  abbrev whole : Declared
  whole = taken_text (declared_in source)

  right : PartsRight source
  right = parts_right source h

  bounds_right : flat_map wrong_bounds (arrays_in source) ≡ []
  bounds_right =
      let a = wrong_declarations source in
      let b = wrong_types source in
      let c = wrong_starts source in
      let d = wrong_bodies source in
      let declarations = append_first a b (append_first (a ++ b) c (append_first ((a ++ b) ++ c) d h)) in
      let twice = twice_declared source in
      let deep = too_deep source in
      let bounds = flat_map wrong_bounds (arrays_in source) in
      let long = flat_map (too_long (declared_in source)) (starts_in source) in
      let addresses = breaking RetainedAddress (flat_map retained_addresses_of source) in
      let front = append_first ((twice ++ deep) ++ bounds) long
      (append_first (((twice ++ deep) ++ bounds) ++ long) addresses declarations) in
      append_second (twice ++ deep) bounds front

  types_right : wrong_types source ≡ []
  types_right =
      let a = wrong_declarations source in
      let b = wrong_types source in
      let c = wrong_starts source in
      let d = wrong_bodies source in
      append_second a b (append_first (a ++ b) c (append_first ((a ++ b) ++ c) d h))

  record NumbersRight : Type 0 where
    names : flat_map surplus_name (enumerations_in source) ≡ []
    bounds : flat_map wrong_bound_numbers (arrays_in source) ≡ []

  numbers_right : NumbersRight
  numbers_right =
      let names = breaking SurplusName (flat_map surplus_name (enumerations_in source)) in
      let declarings = flat_map (wrong_declaring (declared_in source)) (declarings_in source) in
      let elements = flat_map (wrong_element (declared_in source)) (arrays_in source) in
      let results = flat_map (wrong_result (declared_in source)) (results_in source) in
      let bounds = flat_map wrong_bound_numbers (arrays_in source) in
      let priorities = breaking PriorityTooGreat (flat_map wrong_priorities_of source) in
      let to_bounds = append_first ((((names ++ declarings) ++ elements) ++ results) ++ bounds) priorities types_right in
      let to_results = append_first (((names ++ declarings) ++ elements) ++ results) bounds to_bounds in
      let to_elements = append_first ((names ++ declarings) ++ elements) results to_results in
      let to_declarings = append_first (names ++ declarings) elements to_elements in
      record {
        names = places_none SurplusName (flat_map surplus_name (enumerations_in source))
            (append_first names declarings to_declarings);
        bounds = append_second (((names ++ declarings) ++ elements) ++ results) bounds to_bounds;
      }

  -- enumerated types
  few_of : (t : TypeDeclaration) → Among t (types_in source) → (names : List Identifier)
      → enumerated_names t.definition ≡ Some names → length names ≤ MAX_NAMES
  few_of t among names is =
      let block = type_in_source source t among in
      no_surplus names (none_of surplus_name
      (in_flat enumerations_of_element block.there
      (in_flat (λ (e : TypeDeclaration). names_of_definition e.definition) block.among (by_definition t.definition is)))
      numbers_right.names)
    where
      by_definition : (d : TypeDefinition) → enumerated_names d ≡ Some names → Among names (names_of_definition d)
      by_definition (declared_as.enumeration xs) e =
          let same : xs ≡ names = some_is e in subst (λ ys. Among names (ys ∷ [])) (sym same) here
      by_definition (declared_as.structure fields) e = absurd (cc)
      by_definition (declared_as.array a) e = absurd (cc)

  few_from : (n : ℕ) (ts : List TypeDeclaration) → ((t : TypeDeclaration) → Among t ts → Among t (types_in source))
      → HaveFewNames (enumerations_from n ts)
  few_from n [] there = tt
  few_from n (t ∷ ts) there =
      by_names (enumerated_names t.definition) refl (λ m. few_from m ts (λ e a. there e (later a)))
    where
      by_names : (o : Option (List Identifier)) → enumerated_names t.definition ≡ o
          → ((m : ℕ) → HaveFewNames (enumerations_from m ts))
          → HaveFewNames (elim o [
            | Some names ↦ record { number = n; name = t.name.name; names = names } ∷ enumerations_from (n + 1) ts
            | None ↦ enumerations_from n ts
          ])
      by_names None e rest = rest n
      by_names (Some names) e rest = (few_of t (there t here) names e, rest (n + 1))

  pub few_names : HaveFewNames (enumerations_of (declared_in source).types)
  few_names = few_from 0 (types_in source) (λ t a. a)

  -- arrays of the text
  array_counted : (a : ArrayType) → Among a (arrays_in source) → 0 < elements_of_array a
  array_counted a among =
      let places = places_none (WrongBounds (bounds_of a)) (in_case (has_wrong_bounds a) a.lower.place)
      (none_of wrong_bounds among bounds_right) in
      let wrong = no_case (has_wrong_bounds a) a.lower.place places in
      above_zero (elements_of_array a) (has_elements (number_of a.upper) (number_of a.lower)
      (or_parts (int_lt (number_of a.upper) (number_of a.lower)) (nat_lt MAX_ELEMENTS (elements_of_array a)) wrong).0)

  array_number : (a : ArrayType) → Among a (arrays_in source) → IsNumber (lower_of a)
  array_number a among =
      let wrong = none_of wrong_bound_numbers among numbers_right.bounds in
      let lower = append_first (wrong_number None a.lower) (wrong_number None a.upper) wrong in
      kind_number (kind_or_taken None a.lower.written) (number_of a.lower)
      (kind_keyword None a.lower.written (array_spelled (arrays_in source) spelled.arrays among))
      (held_there (kind_or_taken None a.lower.written)
      (holds (kind_or_taken None a.lower.written) (number_of a.lower)) a.lower.place lower)

  abbrev IsListed : VariableType → Type 0
  IsListed (types.Array a) = Among a (arrays_in source)
  IsListed (types.Simple s) = Unit {0}

  declared_listed : (d : Declaring) → Among d (declarings_in source) → (t : VariableType) → d.declared ≡ t → IsListed t
  declared_listed d among (types.Array a) is = unnamed_among source right.types d a among is
  declared_listed d among (types.Simple s) is = tt

  field_listed : (y : Name) (fs : List Field) → type_named text.types y ≡ Some (declared_as.structure fs)
      → (f : Field) → Among f fs → IsListed f.declared
  field_listed y fs is f among =
      let d = type_found text.types y (declared_as.structure fs) is in
      let block = type_in_source source d.declaration d.among in
      let it : Declaring = record { role = field; declared = f.declared; initial = f.initial } in
      declared_listed it
      (in_flat declarings_of_element block.there
      (in_flat (λ (e : TypeDeclaration). declarings_of_definition e.definition) block.among
      (subst (λ (o : TypeDefinition). Among it (declarings_of_definition o)) (sym d.is)
      (in_map (λ (e : Field). record { role = field; declared = e.declared; initial = e.initial }) among))))
      f.declared refl

  named_array : (y : Name) (a : ArrayType) → type_named text.types y ≡ Some (declared_as.array a)
      → Among a (arrays_in source)
  named_array y a is =
      let d = type_found text.types y (declared_as.array a) is in
      let block = type_in_source source d.declaration d.among in
      in_front (unnamed_arrays_in source) (in_flat named_arrays_of_element block.there
      (in_flat (λ (e : TypeDeclaration). array_of_definition e.definition) block.among
      (subst (λ (o : TypeDefinition). Among a (array_of_definition o)) (sym d.is) here)))

  -- the variables of a unit
  abbrev AreListed : List NamedSite → Type 0
  AreListed [] = Unit {0}
  AreListed (d ∷ ds) = IsListed d.site.declared × AreListed ds

  both_listed : (ds es : List NamedSite) → AreListed ds → AreListed es → AreListed (ds ++ es)
  both_listed [] es a b = b
  both_listed (d ∷ ds) es a b = (a.0, both_listed ds es a.1 b)

  names_listed : (s : made.Site) → IsListed s.declared → (xs : List Identifier) → AreListed (map (with_site s) xs)
  names_listed s l [] = tt
  names_listed s l (x ∷ xs) = (l, names_listed s l xs)

  module _ (u : OrganisationUnit) (unit : Among (sources.unit u) source) where
    declarations_listed : (b : VariableBlock) → Among b u.blocks → (keep : Option Retention) (ds : List Declaration)
        → ((d : Declaration) → Among d ds → Among d b.declarations) → AreListed (sites_of_declarations keep ds)
    declarations_listed b block keep [] there = tt
    declarations_listed b block keep (d ∷ ds) there =
        both_listed (map (with_site (site_of_declaration keep d)) d.names) (sites_of_declarations keep ds)
        (names_listed (site_of_declaration keep d)
        (declared_listed
        (record { role = variable_of u.sort b.section; declared = d.declared; initial = d.initial })
        (variable_among source right.types u b d unit block (there d here)) d.declared refl) d.names)
        (declarations_listed b block keep ds (λ e a. there e (later a)))

    blocks_listed : (bs : List VariableBlock) → ((b : VariableBlock) → Among b bs → Among b u.blocks)
        → AreListed (sites_of_blocks bs)
    blocks_listed [] there = tt
    blocks_listed (b ∷ bs) there = by_section (is_external b.section) (blocks_listed bs (λ c a. there c (later a)))
      where
        by_section : (external : Bool) → AreListed (sites_of_blocks bs)
            → AreListed (if external then sites_of_blocks bs
            else sites_of_declarations (retention_of b.section) b.declarations ++ sites_of_blocks bs)
        by_section true rest = rest
        by_section false rest =
            both_listed (sites_of_declarations (retention_of b.section) b.declarations) (sites_of_blocks bs)
            (declarations_listed b (there b here) (retention_of b.section) b.declarations (λ d a. a)) rest

    sites_listed : AreListed (sites_of_blocks u.blocks)
    sites_listed = blocks_listed u.blocks (λ b a. a)

  -- the parts of a type
  abbrev AreListedIn : Composition → Type 0
  AreListedIn (of_kind k) = Unit {0}
  AreListedIn (of_elements a) = Among a (arrays_in source)
  AreListedIn (of_parts w ds) = AreListed ds

  fields_listed : (fs : List Field) → ((f : Field) → Among f fs → IsListed f.declared)
      → AreListed (map site_of_field fs)
  fields_listed [] l = tt
  fields_listed (f ∷ fs) l = (l f here, fields_listed fs (λ g a. l g (later a)))

  members_listed : (ms : List BlockMember) → AreListed (map site_of_member ms)
  members_listed [] = tt
  members_listed (m ∷ ms) = (tt, members_listed ms)

  unit_listed : (u : OrganisationUnit) → Among (sources.unit u) source → (s : UnitSort)
      → AreListedIn (instance_parts (block_type_of s u))
  unit_listed u unit sorts.FunctionBlock = sites_listed u unit
  unit_listed u unit (sorts.Function t) = tt
  unit_listed u unit sorts.Program = tt

  own_listed : (x : Name) (o : Option OrganisationUnit) → unit_named text.units x ≡ o
      → AreListedIn (instance_parts (own_block_type o))
  own_listed x None is = tt
  own_listed x (Some u) is = unit_listed u (unit_in source u (unit_found text.units x u is).among) u.sort

  block_listed : (x : Name) (o : Option StandardBlock) → AreListedIn (instance_parts (elim o [
    | Some b ↦ Some (record { name = x; members = map site_of_member (members_of b) })
    | None ↦ own_block_type (unit_named text.units x)
  ]))
  block_listed x (Some k) = members_listed (members_of k)
  block_listed x None = own_listed x (unit_named text.units x) refl

  instance_listed : (x : Identifier) (b : Bool)
      → AreListedIn (instance_parts (if b then block_type_named text x.name else None))
  instance_listed x true = block_listed x.name (block_of x.name)
  instance_listed x false = tt

  definition_listed : (y : Identifier) (o : Option TypeDefinition) → type_named text.types y.name ≡ o
      → AreListedIn (defined_composition text (types.Simple (Named y)) o)
  definition_listed y (Some (declared_as.array a)) is = named_array y.name a is
  definition_listed y (Some (declared_as.structure fields)) is = fields_listed fields (field_listed y.name fields is)
  definition_listed y (Some (declared_as.enumeration names)) is = tt
  definition_listed y None is = instance_listed y (is_none (type_named text.types y.name))

  kind_listed : (y : Identifier) (o : Option Kind) → AreListedIn (elim o [
    | Some k ↦ of_kind k
    | None ↦ defined_composition text (types.Simple (Named y)) (type_named text.types y.name)
  ])
  kind_listed y (Some k) = tt
  kind_listed y None = definition_listed y (type_named text.types y.name) refl

  composition_listed : (t : VariableType) → IsListed t → AreListedIn (composition_of text t)
  composition_listed (types.Array a) l = l
  composition_listed (types.Simple (Elementary k at)) l = tt
  composition_listed (types.Simple (Named y)) l =
      kind_listed y (kind_among text.types (types.Simple (Named y)))

  -- so its shape is bounded
  parts_bounded : (inner : VariableType → Shape) → ((t : VariableType) → IsListed t → IsBounded (inner t))
      → (ds : List NamedSite) → AreListed ds → AreBounded (parts_of inner ds)
  parts_bounded inner each [] l = tt
  parts_bounded inner each (d ∷ ds) l = (each d.site.declared l.0, parts_bounded inner each ds l.1)

  composed_bounded : (inner : VariableType → Shape) → ((t : VariableType) → IsListed t → IsBounded (inner t))
      → (c : Composition) → AreListedIn c → IsBounded (composed_shape inner c)
  composed_bounded inner each (of_kind k) l = tt
  composed_bounded inner each (of_elements a) l = (array_counted a l, array_number a l, each (element_of a) tt)
  composed_bounded inner each (of_parts w ds) l = parts_bounded inner each ds l

  shape_bounded : (n : ℕ) (t : VariableType) → IsListed t → IsBounded (shape_within n (declared_in source) t)
  unfolding shape_within
  shape_bounded zero t l = tt
  shape_bounded (suc n) t l =
      composed_bounded (shape_within n text) (λ u k. shape_bounded n u k) (composition_of text t)
      (composition_listed t l)

  -- over the literals as they are resolved
  taken_bounded : (t : VariableType) → IsListed t → IsBounded (shape_of_type whole (resolved_type t))
  taken_bounded t l = subst IsBounded (sym (same_shape text 64 t)) (shape_bounded 64 t l)

  abbrev OwnedListed : List Owned → Type 0
  OwnedListed [] = Unit {0}
  OwnedListed (v ∷ vs) = IsListed v.site.declared × OwnedListed vs

  both_owned : (vs ws : List Owned) → OwnedListed vs → OwnedListed ws → OwnedListed (vs ++ ws)
  both_owned [] ws a b = b
  both_owned (v ∷ vs) ws a b = (a.0, both_owned vs ws a.1 b)

  variables_bounded : (us ws : List Owned) → IsTaken us ws → OwnedListed ws → AreBoundedVariables whole us
  variables_bounded [] ws same l = tt
  variables_bounded (u ∷ us) [] same l = absurd (cc)
  variables_bounded (u ∷ us) (w ∷ ws) same l =
      let one : key u ≡ taking_key (key w) = cc in
      let rest : map key us ≡ map taking_key (map key ws) = cc in
      let declared : u.site.declared ≡ resolved_type w.site.declared = ap (λ k. k.2) one in (
        subst (λ t. IsBounded (shape_of_type whole t)) (sym declared) (taken_bounded w.site.declared l.0),
        variables_bounded us ws rest l.1,
      )

  -- a unit's own variables
  site_bounded : (u : OrganisationUnit) → Among (sources.unit u) source → (e : NamedSite)
      → Among e (sites_of_blocks (resolved text u).blocks) → IsBounded (shape_of_type whole e.site.declared)
  site_bounded u unit e there =
      let i = declared_in_blocks text e u.blocks there in
      let d = i.declaration in
      let l = declared_listed
      (record { role = variable_of u.sort i.block.section; declared = d.declared; initial = d.initial })
      (variable_among source right.types u i.block d unit i.there i.among) d.declared refl in
      subst (λ t. IsBounded (shape_of_type whole t)) (sym i.declared) (taken_bounded d.declared l)

  sites_bounded : (u : OrganisationUnit) → Among (sources.unit u) source → (ds : List NamedSite)
      → ((e : NamedSite) → Among e ds → Among e (sites_of_blocks (resolved text u).blocks))
      → AreBoundedVariables whole (map (owned_variable None) ds)
  sites_bounded u unit [] there = tt
  sites_bounded u unit (d ∷ ds) there =
      (site_bounded u unit d (there d here), sites_bounded u unit ds (λ e a. there e (later a)))

  unit_bounded : (u : OrganisationUnit) → Among (sources.unit u) source → (ds : List NamedSite)
      → ((e : NamedSite) → Among e ds → Among e (sites_of_blocks (resolved text u).blocks))
      → AreBounded (parts_of (shape_of_type whole) ds)
  unit_bounded u unit [] there = tt
  unit_bounded u unit (d ∷ ds) there =
      (site_bounded u unit d (there d here), unit_bounded u unit ds (λ e a. there e (later a)))

  -- units of the resolved text
  record IsOfText (u : OrganisationUnit) (us : List OrganisationUnit) : Type 0 where
    unit : OrganisationUnit
    among : Among unit us
    is : resolved text unit ≡ u

  of_text : (us : List OrganisationUnit) (u : OrganisationUnit) → IsAmong u (map (resolved text) us) → IsOfText u us
  of_text [] u a = elim a [ ]
  of_text (v ∷ us) _ first = record { unit = v; among = here; is = refl }
  of_text (v ∷ us) u (further_on a) =
      let i = of_text us u a in record { unit = i.unit; among = later i.among; is = i.is }

  call_bounded : (u : OrganisationUnit) (t : SimpleType) → IsAmong u (map (resolved text) (units_in source))
      → AreBoundedVariables whole (map (owned_variable None) (sites_of_call t u))
  call_bounded u t among =
      let i = of_text (units_in source) u among in
      subst (λ v. AreBoundedVariables whole (map (owned_variable None) (sites_of_call t v))) i.is (
        taken_bounded (types.Simple t) tt,
        sites_bounded i.unit (unit_in source i.unit i.among) (sites_of_blocks (resolved text i.unit).blocks) (λ e a. a),
      )

  block_bounded : (u : OrganisationUnit) → IsAmong u (map (resolved text) (units_in source))
      → AreBounded (members_of_block whole u)
  block_bounded u among =
      let i = of_text (units_in source) u among in
      subst (λ v. AreBounded (members_of_block whole v)) i.is
      (unit_bounded i.unit (unit_in source i.unit i.among) (sites_of_blocks (resolved text i.unit).blocks) (λ e a. a))

  -- globals
  global_names : (s : made.Site) → IsListed s.declared → (names : GlobalNames)
      → OwnedListed (variables_of_names s names)
  global_names s l (located x a) = (l, tt)
  global_names s l (listed xs) = each xs
    where
      each : (xs : List Identifier) → OwnedListed (map (global_variable s false) xs)
      each [] = tt
      each (x ∷ xs) = (l, each xs)

  globals_declared : (b : GlobalBlock)
      → ((d : Declaring) → Among d (declarings_of_globals b) → Among d (declarings_in source))
      → (keep : Option Retention) (ds : List GlobalDeclaration)
      → ((d : GlobalDeclaration) → Among d ds → Among d b.declarations)
      → OwnedListed (variables_of_declarations keep ds)
  globals_declared b there keep [] among = tt
  globals_declared b there keep (d ∷ ds) among =
      let it : Declaring = record { role = global; declared = d.declared; initial = d.initial } in
      both_owned (variables_of_names (site_of_global keep d) d.names) (variables_of_declarations keep ds)
      (global_names (site_of_global keep d)
      (declared_listed it
      (there it
      (in_map (λ (e : GlobalDeclaration). record { role = global; declared = e.declared; initial = e.initial })
      (among d here))) d.declared refl) d.names)
      (globals_declared b there keep ds (λ e a. among e (later a)))

  globals_listed : (bs : List GlobalBlock)
      → ((d : Declaring) (b : GlobalBlock) → Among b bs → Among d (declarings_of_globals b)
      → Among d (declarings_in source))
      → OwnedListed (variables_of_globals bs)
  globals_listed [] there = tt
  globals_listed (b ∷ bs) there =
      both_owned (variables_of_declarations (retention_of_globals b.qualifier) b.declarations)
      (variables_of_globals bs)
      (globals_declared b (λ d a. there d b here a) (retention_of_globals b.qualifier) b.declarations (λ d a. a))
      (globals_listed bs (λ d c a. there d c (later a)))

  -- instances of programs
  owned_listed : (o : Option Owner) (ds : List NamedSite) → AreListed ds → OwnedListed (map (owned_variable o) ds)
  owned_listed o [] l = tt
  owned_listed o (d ∷ ds) l = (l.0, owned_listed o ds l.1)

  program_listed : (x : Name) (o : Option OrganisationUnit) → unit_named text.units x ≡ o → AreListed (program_sites o)
  program_listed x None is = tt
  program_listed x (Some u) is =
      by_sort u.sort (sites_listed u (unit_in source u (unit_found text.units x u is).among))
    where
      by_sort : (s : UnitSort) → AreListed (sites_of_blocks u.blocks) → AreListed (sites_of_program s u.blocks)
      by_sort sorts.Program l = l
      by_sort sorts.FunctionBlock l = tt
      by_sort (sorts.Function t) l = tt

  instances_listed : (r : Name) (is : List Instance) → OwnedListed (variables_of_instances text r is)
  instances_listed r [] = tt
  instances_listed r (i ∷ is) =
      let sites = program_sites (unit_named text.units i.program.name) in
      both_owned (map (owned_variable (Some (owner_in r i))) sites) (variables_of_instances text r is)
      (owned_listed (Some (owner_in r i)) sites
      (program_listed i.program.name (unit_named text.units i.program.name) refl))
      (instances_listed r is)

  resources_listed : (rs : List Resource) → OwnedListed (variables_of_resources text rs)
  resources_listed [] = tt
  resources_listed (r ∷ rs) =
      both_owned (variables_of_instances text r.name.name r.instances) (variables_of_resources text rs)
      (instances_listed r.name.name r.instances) (resources_listed rs)

  only_one : (cs : List Configuration) (c : Configuration) → only_configuration cs ≡ Some c → Among c cs
  only_one [] c h = absurd (cc)
  only_one (d ∷ []) c h = let same : d ≡ c = cc in subst (λ e. Among c (e ∷ [])) (sym same) here
  only_one (d ∷ e ∷ cs) c h = absurd (cc)

  configuration_among : (all : Source) (c : Configuration) → Among c (configurations_in all)
      → Among (sources.configuration c) all
  configuration_among [] c h = elim h [ ]
  configuration_among (sources.types ts ∷ rest) c h = later (configuration_among rest c h)
  configuration_among (sources.unit u ∷ rest) c h = later (configuration_among rest c h)
  configuration_among (sources.configuration d ∷ rest) c here = here
  configuration_among (sources.configuration d ∷ rest) c (later h) = later (configuration_among rest c h)

  pub arrays_bounded : (c : Configuration) → only_configuration (configurations_in source) ≡ Some c → (vs : List Owned)
      → IsTaken vs (variables_of_configuration (declared_in source) (Some c))
      → HasBoundedArrays (taken_text (declared_in source)) vs
  arrays_bounded c only vs same =
      let there = configuration_among source c (only_one (configurations_in source) c only) in
      record {
        layout = variables_bounded vs (variables_of_configuration text (Some c)) same
            (both_owned (variables_of_globals c.globals) (variables_of_resources text c.resources)
            (globals_listed c.globals (λ d b k g.
            in_flat declarings_of_element there (in_flat declarings_of_globals k g)))
            (resources_listed c.resources));
        functions = λ u t among sort. call_bounded u t among;
        blocks = λ u among sort. block_bounded u among;
      }
