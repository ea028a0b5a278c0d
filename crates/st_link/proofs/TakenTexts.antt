-- A text's declarations and those with its literals resolved don't differ in names or places.
use Rattle.std.proofs.Common.{◌≡◌, ℕ, ◌+◌, Bool, true, false, ◌&&◌, if◌then◌else◌, List, [], ◌∷◌, map, Option, Some}
use Rattle.std.proofs.Common.{option_map, refl, sym, ap, ap₂, ◌∙◌}
use Rattle.std.specs.Prelude.{bytes_eq}
use Rattle.std.specs.List.{list_all}
use Rattle.st_types.specs.declared.path.Owner.{Owner}
use Rattle.st_types.specs.Paths.{same_owner}
use Rattle.st_types.specs.declared.unit.UnitSort.{UnitSort}
use Rattle.st_types.specs.declared.unit.UnitSort.TheVariants.{Function, FunctionBlock, Program}
use Rattle.st_types.specs.Configurations.{GlobalBlock, Configuration}
use Rattle.st_types.specs.Declarations as declarations
use Rattle.st_types.specs.Declarations.{Field, TypeDefinition, TypeDeclaration, VariableBlock}
use Rattle.st_types.specs.Units.{OrganisationUnit}
use Rattle.st_meaning.specs.NameTypes.{Declared}
use Rattle.st_meaning.specs.ResolvedUnits.{resolved_field, resolved_definition, resolved_type_declaration}
use Rattle.st_meaning.specs.ResolvedUnits.{resolved_block, resolved, resolved_globals}
use Rattle.st_meaning.specs.Scopes.{Name}
use Rattle.layout.specs.LayoutVariables.{Owned, variables_of_globals}
use Rattle.layout.specs.Names.{are_different, names_of_sites, has_different_fields, variable_names}
use Rattle.layout.specs.Names.{has_different_variables, are_types_and_units_different, has_different_instances}
use Rattle.layout.specs.Names.{is_configuration_different}
use Rattle.layout.specs.Shapes.{size}
use Rattle.layout.specs.VariableSlots.{is_variable, later, variable_at}
use Rattle.layout.specs.TextLayouts.{variable_shape}
use Rattle.layout.specs.Types.{NamedSite, sites_of_blocks, site_of_field}
use Rattle.layout.proofs.ResolvedLemmas.{Typed, typed, taking, blocks_typed, taken_text, Key, key}
use Rattle.layout.proofs.ResolvedLemmas.{taking_key, IsTaken, taken_globals, taken_configuration}
use Rattle.st_types.proofs.OptionLemmas.{some_is, map_some}

-- names of variables
first_names : (ds : List NamedSite) → names_of_sites ds ≡ map (λ e. e.0) (map typed ds)
first_names [] = refl
first_names (d ∷ ds) = ap (λ xs. d.name ∷ xs) (first_names ds)

same_names : (es : List Typed) → map (λ e. e.0) (map taking es) ≡ map (λ e. e.0) es
same_names [] = refl
same_names (e ∷ es) = ap (λ xs. e.0 ∷ xs) (same_names es)

pub sites_taken : (text : Declared) (bs : List VariableBlock)
    → names_of_sites (sites_of_blocks (map (resolved_block text) bs)) ≡ names_of_sites (sites_of_blocks bs)
sites_taken text bs =
    first_names (sites_of_blocks (map (resolved_block text) bs)) ∙ ap (map (λ e. e.0)) (blocks_typed text bs)
    ∙ same_names (map typed (sites_of_blocks bs)) ∙ sym (first_names (sites_of_blocks bs))

module _ (text : Declared) where
  fields_taken : (fs : List Field) → names_of_sites (map site_of_field (map (resolved_field text) fs))
      ≡ names_of_sites (map site_of_field fs)
  fields_taken [] = refl
  fields_taken (f ∷ fs) = ap (λ xs. f.name.name ∷ xs) (fields_taken fs)

  definition_taken : (d : TypeDefinition) → has_different_fields (resolved_definition text d) ≡ has_different_fields d
  definition_taken (declarations.array a) = refl
  definition_taken (declarations.structure fields) = ap are_different (fields_taken fields)
  definition_taken (declarations.enumeration names) = refl

  types_differ : (ts : List TypeDeclaration)
      → list_all (λ t. has_different_fields t.definition) (map (resolved_type_declaration text) ts)
      ≡ list_all (λ t. has_different_fields t.definition) ts
  types_differ [] = refl
  types_differ (t ∷ ts) = ap₂ (λ a b. a && b) (definition_taken t.definition) (types_differ ts)

  variables_taken : (u : OrganisationUnit) (s : UnitSort) → variable_names s (resolved text u) ≡ variable_names s u
  variables_taken u (Function t) = ap (λ xs. u.name.name ∷ xs) (sites_taken text u.blocks)
  variables_taken u FunctionBlock = sites_taken text u.blocks
  variables_taken u Program = sites_taken text u.blocks

  units_differ : (us : List OrganisationUnit)
      → list_all has_different_variables (map (resolved text) us) ≡ list_all has_different_variables us
  units_differ [] = refl
  units_differ (u ∷ us) = ap₂ (λ a b. a && b) (ap are_different (variables_taken u u.sort)) (units_differ us)

  pub taken_differ : are_types_and_units_different text ≡ true → are_types_and_units_different (taken_text text) ≡ true
  taken_differ h =
      ap₂ (λ a b. a && b) (types_differ text.types) (units_differ text.units) ∙ h

  -- globals
  key_names : (vs : List Owned) → map (λ v. v.name) vs ≡ map (λ k. k.1) (map key vs)
  key_names [] = refl
  key_names (v ∷ vs) = ap (λ xs. v.name ∷ xs) (key_names vs)

  same_keys : (ks : List Key) → map (λ k. k.1) (map taking_key ks) ≡ map (λ k. k.1) ks
  same_keys [] = refl
  same_keys (k ∷ ks) = ap (λ xs. k.1 ∷ xs) (same_keys ks)

  globals_taken : (bs : List GlobalBlock) → map (λ v. v.name) (variables_of_globals (map (resolved_globals text) bs))
      ≡ map (λ v. v.name) (variables_of_globals bs)
  globals_taken bs =
      key_names (variables_of_globals (map (resolved_globals text) bs)) ∙ ap (map (λ k. k.1)) (taken_globals text bs)
      ∙ same_keys (map key (variables_of_globals bs)) ∙ sym (key_names (variables_of_globals bs))

  pub taken_configuration_differs : (c : Configuration) → is_configuration_different (Some c) ≡ true
      → is_configuration_different (Some (taken_configuration text c)) ≡ true
  taken_configuration_differs c h =
      ap (λ xs. are_different xs && (are_different (map (λ r. r.name.name) c.resources)
      && list_all has_different_instances c.resources)) (globals_taken c.globals) ∙ h

  -- a variable of the layout
  pub record TakenVariable (us : List Owned) (o : Option Owner) (x : Name) (v : Owned) : Type 0 where
    pub first : ℕ
    pub variable : Owned
    pub there : variable_at (taken_text text) us o x ≡ Some (first, variable)
    pub is : key variable ≡ taking_key (key v)

  one_taken : (u w : Owned) (us ws : List Owned) → key u ≡ taking_key (key w) → (o : Option Owner) (x : Name) (k : ℕ)
      (v : Owned)
      → ((l : ℕ) (z : Owned) → variable_at text ws o x ≡ Some (l, z) → TakenVariable us o x z) → (b : Bool)
      → is_variable o x u ≡ b
      → (if b then Some (0, w) else option_map (later text w) (variable_at text ws o x)) ≡ Some (k, v)
      → TakenVariable (u ∷ us) o x v
  one_taken u w us ws same o x k v ih true e h =
      let it : w ≡ v = ap (λ p. p.1) (some_is h) in
      record { first = 0; variable = u; there = rw e refl; is = same ∙ ap (λ z. taking_key (key z)) it }
  one_taken u w us ws same o x k v ih false e h =
      let i = map_some (later text w) (variable_at text ws o x) (k, v) h in
      let it : i.0.1 ≡ v = ap (λ p. p.1) i.2 in
      let t = ih i.0.0 i.0.1 i.1 in
      let there = t.there in
      record {
        first = size (variable_shape (taken_text text) u) + t.first;
        variable = t.variable;
        there = rw (e, there) refl;
        is = t.is ∙ ap (λ z. taking_key (key z)) it;
      }

  pub taken_variable : (us ws : List Owned) → IsTaken us ws → (o : Option Owner) (x : Name) (k : ℕ) (v : Owned)
      → variable_at text ws o x ≡ Some (k, v) → TakenVariable us o x v
  taken_variable us [] taken o x k v h = absurd (cc)
  taken_variable [] (w ∷ ws) taken o x k v h = absurd (cc)
  taken_variable (u ∷ us) (w ∷ ws) taken o x k v h =
      let same : key u ≡ taking_key (key w) = cc in
      let rest : map key us ≡ map taking_key (map key ws) = cc in
      let test : is_variable o x w ≡ is_variable o x u =
      ap (λ k. same_owner o k.0 && bytes_eq x k.1) (sym same) in
      one_taken u w us ws same o x k v (λ l z g. taken_variable us ws rest o x l z g) (is_variable o x u) refl
      (ap (λ b. if b then Some (0, w) else option_map (later text w) (variable_at text ws o x)) (sym test) ∙ h)
