-- The table that a unit's declarations make serves the unit, in a text that breaks no rule.
use Rattle.std.proofs.Common.{◌≡◌, ℕ, suc, Bool, true, false, if◌then◌else◌, List, [], ◌∷◌, map}
use Rattle.std.proofs.Common.{Option, Some, None, option_map, refl, sym, ap, ap₂, ◌∙◌, subst}
use Rattle.std.specs.Prelude.{bytes_eq}
use Rattle.std.specs.List.{list_all}
use Rattle.st_types.specs.declared.identifier.Identifier.{Identifier}
use Rattle.st_types.specs.declared.path.Owner.{Owner}
use Rattle.st_types.specs.declared.data_type.SimpleType.{SimpleType}
use Rattle.st_types.specs.declared.data_type.SimpleType.TheVariants.{Named}
use Rattle.st_types.specs.declared.data_type.VariableType.{VariableType}
use Rattle.st_types.specs.declared.data_type.VariableType.TheVariants as types
use Rattle.st_types.specs.declared.unit.UnitSort.{UnitSort}
use Rattle.st_types.specs.declared.unit.UnitSort.TheVariants as sorts
use Rattle.st_types.specs.Configurations.{Configuration}
use Rattle.st_types.specs.Sources as sources
use Rattle.st_types.specs.Sources.{Source}
use Rattle.st_types.specs.Statements.{stmts_of}
use Rattle.st_types.specs.Units.{OrganisationUnit}
use Rattle.st_meaning.specs.Bodies.{externals_in}
use Rattle.st_meaning.specs.NameTypes.{Declared, declared_in, units_in, is_named, type_named, unit_named, type_in_blocks}
use Rattle.st_meaning.specs.NameTypes.{result_type, variable_type}
use Rattle.st_meaning.specs.ResolvedUnits.{resolved, resolved_type}
use Rattle.st_meaning.specs.Scopes.{Name, contains_name, block_named, unowned}
use Rattle.st_meaning.specs.StandardBlocks.{StandardBlock, block_of}
use Rattle.st_rules.specs.declared.limits.TheConstants.{MAX_TYPE_DEPTH}
use Rattle.st_rules.specs.BodyRules.{wrong_body}
use Rattle.st_rules.specs.ConfigurationRules.{has_known_externals}
use Rattle.st_rules.specs.Environments.{Environment, type_of_name, section_of, is_block}
use Rattle.st_rules.specs.NameScopes.{names_of_element, names_of_text}
use Rattle.st_rules.specs.Places.{repeats}
use Rattle.st_rules.specs.Rules.{environment, IsWellTyped}
use Rattle.st_rules.specs.Statements.{outside}
use Rattle.st_rules.specs.TargetRules.{is_fixed}
use Rattle.layout.specs.LayoutVariables.{Owned, owned_variable, variables_of_configuration, configurations_in}
use Rattle.layout.specs.LayoutVariables.{only_configuration}
use Rattle.layout.specs.Libraries.{instances_among, program_of_unit}
use Rattle.layout.specs.Names.{are_different, are_types_and_units_different, is_configuration_different}
use Rattle.layout.specs.Shapes.{Parts}
use Rattle.layout.specs.VariableSlots.{variable_at}
use Rattle.layout.specs.TextLayouts.{variable_shape}
use Rattle.layout.specs.Types.{sites_of_blocks, site_named, shape_within, shape_of_type, is_within_depth}
use Rattle.layout.proofs.ListLemmas.{name_itself, name_turned}
use Rattle.layout.proofs.NameLemmas.{configuration_once}
use Rattle.layout.proofs.ResolvedLemmas.{taken_text, same_shape, IsTaken}
use Rattle.st_link.proofs.Among.{Among, here, later, in_flat, none_of}
use Rattle.st_link.proofs.ApartNames.{names_apart, repeats_behind, types_are_no_blocks}
use Rattle.st_link.proofs.BodyRunLaw.{own_block}
use Rattle.st_link.proofs.FoundFunctions.{own_function}
use Rattle.st_link.proofs.FoundNames.{unit_in}
use Rattle.st_link.proofs.InstanceSections.{instances_are_free}
use Rattle.st_link.proofs.WellTypedTexts.{PartsRight, parts_right, text_right}
use Rattle.st_link.specs.Homes.{are_names_different, IsLayoutPart, shape_at_steps}
use Rattle.st_link.proofs.DifferentNames.{names_differ, scopes_differ}
use Rattle.st_link.proofs.GlobalHomes.{externals_stand}
use Rattle.st_link.proofs.HomeLemmas.{own_site}
use Rattle.st_link.proofs.KnownDepths.{depths_known}
use Rattle.st_link.proofs.LibraryBodies.{body_taken}
use Rattle.st_link.proofs.ListTests.{all_at}
use Rattle.st_link.proofs.SoundMembers.{Declares}
use Rattle.st_link.proofs.RunHomes.{no_type_by}
use Rattle.st_link.proofs.TakenBodies.{text_taken, statements_taken, externals_taken, types_in_taken}
use Rattle.slot_trees.specs.SlotTrees.{own_block as numbered_block, standard_block}
use Rattle.slot_trees.specs.Tables.{Symbol, Table, symbol_of, named_in, part_at}
use Rattle.slot_trees.specs.BlockTables.{part_symbol}
use Rattle.slot_trees.specs.LinkedStatements.{linked_stmts}
use Rattle.slot_trees.specs.LinkedTexts.{table_of}
use Rattle.slot_trees.specs.ProgramTables.{owner_of_name, symbol_at}
use Rattle.slot_trees.specs.TextLinks.{names_in, symbols_of_block, symbols_of_program, linked_block, linked_program}
use Rattle.slot_trees.specs.TextNumbers.{numbered_from, function_name_then, function_names, block_name_then}
use Rattle.slot_trees.specs.TextNumbers.{block_names}
use Rattle.slot_trees.specs.TextNumbers.{standard_codes, own_codes, members_of_block, numbers_of}
use Rattle.slot_trees.proofs.BlockLinks.{HasVariables}
use Rattle.slot_trees.proofs.NamedLemmas.{named_first, named_behind, named_mapped, standard_code}
use Rattle.st_link.specs.Served.{IsLinked, HasSymbol, Serves, IsOrderly}
use Rattle.st_link.proofs.BoundedArrays.{arrays_bounded}
use Rattle.st_link.proofs.FoundSymbols.{all_names_taken, name_of_unit, program_symbol_found, block_symbol_found}
use Rattle.st_link.proofs.LinkedParts.{linked_from, linked_map, linked_as}
use Rattle.st_link.proofs.StatementLinks.{stmts_linked}
use Rattle.st_link.proofs.TakenTexts.{taken_variable}
use Rattle.st_link.proofs.TypeShapes.{named_part}
use Rattle.st_types.proofs.OptionLemmas.{some_is}
use Rattle.std.proofs.lemmas.Bool.{and_parts}

-- a unit of a text without repeated names is found by its name
pub unit_once : (source : Source) → repeats (names_of_text source) ≡ [] → (u : OrganisationUnit)
    → Among u (units_in source) → unit_named (units_in source) u.name.name ≡ Some u
unit_once [] once u among = elim among [ ]
unit_once (sources.types ts ∷ rest) once u among =
    unit_once rest (repeats_behind (names_of_element (sources.types ts)) (names_of_text rest) once) u among
unit_once (sources.configuration c ∷ rest) once u among = unit_once rest once u among
unit_once (sources.unit v ∷ rest) once u here =
    ap (λ b. if b then Some v else unit_named (units_in rest) v.name.name) (name_itself v.name.name)
unit_once (sources.unit v ∷ rest) once u (later among) =
    by_test (bytes_eq u.name.name v.name.name) refl
    (unit_once rest (repeats_behind (v.name ∷ []) (names_of_text rest) once) u among)
  where
    by_test : (b : Bool) → bytes_eq u.name.name v.name.name ≡ b
        → unit_named (units_in rest) u.name.name ≡ Some u
        → (if b then Some v else unit_named (units_in rest) u.name.name) ≡ Some u
    by_test true e g = absurd
        (names_apart (v.name ∷ []) (names_of_text rest) once here
        (in_flat names_of_element (unit_in rest u among) here) (name_turned u.name.name v.name.name true e))
    by_test false e g = g

-- numbers of functions and blocks
module _ (text : Declared) where
  function_numbered : (us : List OrganisationUnit) (n : ℕ) (f : Name) (u : OrganisationUnit) (t : SimpleType)
      → unit_named us f ≡ Some u → u.sort ≡ sorts.Function t
      → IsLinked (named_in (numbered_from n (function_names (map (resolved text) us))) f)
  function_numbered [] n f u t h sort = absurd (cc)
  function_numbered (v ∷ us) n f u t h sort =
      by_sort v.sort refl (bytes_eq f v.name.name) refl h (λ m g. function_numbered us m f u t g sort)
    where
      by_sort : (s : UnitSort) → v.sort ≡ s → (b : Bool) → bytes_eq f v.name.name ≡ b
          → (if b then Some v else unit_named us f) ≡ Some u
          → ((m : ℕ) → unit_named us f ≡ Some u
          → IsLinked (named_in (numbered_from m (function_names (map (resolved text) us))) f))
          → IsLinked (named_in
          (numbered_from n (function_name_then s v.name.name (function_names (map (resolved text) us)))) f)
      by_sort (sorts.Function r) s true e g ih = record { value = n; is = rw e refl }
      by_sort (sorts.Function r) s false e g ih =
          let i = ih (suc n) g in
          record {
            value = i.value;
            is = ap (λ b. if b then Some n
                else named_in (numbered_from (suc n) (function_names (map (resolved text) us))) f) e ∙ i.is;
          }
      by_sort sorts.FunctionBlock s true e g ih =
          let q : v ≡ u = some_is g in
          let w : sorts.FunctionBlock ≡ sorts.Function t = sym s ∙ ap (λ w. w.sort) q ∙ sort in absurd (cc)
      by_sort sorts.FunctionBlock s false e g ih = ih n g
      by_sort sorts.Program s true e g ih =
          let q : v ≡ u = some_is g in
          let w : sorts.Program ≡ sorts.Function t = sym s ∙ ap (λ w. w.sort) q ∙ sort in absurd (cc)
      by_sort sorts.Program s false e g ih = ih n g

  block_numbered : (us : List OrganisationUnit) (n : ℕ) (x : Name) (u : OrganisationUnit)
      → unit_named us x ≡ Some u → u.sort ≡ sorts.FunctionBlock
      → IsLinked (named_in (numbered_from n (block_names (map (resolved text) us))) x)
  block_numbered [] n x u h sort = absurd (cc)
  block_numbered (v ∷ us) n x u h sort =
      by_sort v.sort refl (bytes_eq x v.name.name) refl h (λ m g. block_numbered us m x u g sort)
    where
      by_sort : (s : UnitSort) → v.sort ≡ s → (b : Bool) → bytes_eq x v.name.name ≡ b
          → (if b then Some v else unit_named us x) ≡ Some u
          → ((m : ℕ) → unit_named us x ≡ Some u
          → IsLinked (named_in (numbered_from m (block_names (map (resolved text) us))) x))
          → IsLinked (named_in
          (numbered_from n (block_name_then s v.name.name (block_names (map (resolved text) us)))) x)
      by_sort sorts.FunctionBlock s true e g ih = record { value = n; is = rw e refl }
      by_sort sorts.FunctionBlock s false e g ih =
          let i = ih (suc n) g in
          record {
            value = i.value;
            is = ap (λ b. if b then Some n
                else named_in (numbered_from (suc n) (block_names (map (resolved text) us))) x) e ∙ i.is;
          }
      by_sort (sorts.Function r) s true e g ih =
          let q : v ≡ u = some_is g in
          let w : sorts.Function r ≡ sorts.FunctionBlock = sym s ∙ ap (λ w. w.sort) q ∙ sort in absurd (cc)
      by_sort (sorts.Function r) s false e g ih = ih n g
      by_sort sorts.Program s true e g ih =
          let q : v ≡ u = some_is g in
          let w : sorts.Program ≡ sorts.FunctionBlock = sym s ∙ ap (λ w. w.sort) q ∙ sort in absurd (cc)
      by_sort sorts.Program s false e g ih = ih n g

  code_by : (b : Name) → is_block text b ≡ true → (o : Option StandardBlock) → block_of b ≡ o
      → IsLinked (named_in (numbers_of (taken_text text)).blocks b)
  code_by b is (Some k) e = record {
    value = standard_block k;
    is = named_first standard_codes (own_codes 0 (block_names (taken_text text).units)) b (standard_block k)
        (standard_code b ∙ ap (option_map standard_block) e);
  }
  code_by b is None e =
      let d = own_block text b e is in
      let names = block_names (taken_text text).units in
      linked_as (named_in (numbers_of (taken_text text)).blocks b)
      (option_map numbered_block (named_in (numbered_from 0 names) b))
      (named_behind standard_codes (own_codes 0 names) b (standard_code b ∙ ap (option_map standard_block) e)
      ∙ named_mapped numbered_block (numbered_from 0 names) b)
      (linked_map numbered_block (named_in (numbered_from 0 names) b)
      (block_numbered text.units 0 b d.unit d.declared d.sort))

module _ (source : Source) (h : IsWellTyped source) where
  abbrev text : Declared
  text = declared_in source

  abbrev whole : Declared
  whole = taken_text (declared_in source)

  right : PartsRight source
  right = parts_right source h

  pub differ : are_names_different (declared_in source) ≡ true
  differ = names_differ source right.names.all

  -- a unit of the text
  module _ (u : OrganisationUnit) (among : Among u (units_in source)) where
    abbrev env : Environment
    env = environment (declared_in source) u

    abbrev taken : OrganisationUnit
    taken = resolved (declared_in source) u

    unit : Among (sources.unit u) source
    unit = unit_in source u among

    pub named_once : unit_named (declared_in source).units u.name.name ≡ Some u
    named_once = unit_once source right.names.once u among

    orderly : IsOrderly env
    orderly = record {
      names = differ;
      apart =
          λ b is. no_type_by (type_named text.types b) (is_block text b) (types_are_no_blocks source right.names b) is;
      known = (text_right source h).known u.name.name u named_once;
      inputs = (text_right source h).inputs;
      outputs = (text_right source h).outputs;
      bounded = arrays_bounded source h right.types u unit;
    }

    instance_named : (x : Name) (b : Identifier) → type_of_name env x ≡ Some (types.Simple (Named b))
        → is_block text b.name ≡ true
        → block_named (instances_among whole (sites_of_blocks taken.blocks)) x ≡ Some b.name
    instance_named x b named is =
        subst (λ d. block_named (instances_among d (sites_of_blocks taken.blocks)) x ≡ Some b.name) (text_taken source)
        ((body_taken source right.types right.names u unit).instances x b named is)

    abbrev table : List Symbol → Table
    table symbols = table_of (numbers_of whole) symbols (instances_among whole (sites_of_blocks taken.blocks))

    serves : (symbols : List Symbol)
        → ((x : Name) (s : VariableType) → type_of_name env x ≡ Some s → HasSymbol env symbols x s)
        → Serves env (table symbols)
    serves symbols has = record {
      symbols = has;
      functions = λ f inputs result e.
          let d = own_function text u f inputs result e in
          function_numbered text text.units 0 f d.unit d.result d.declared d.sort;
      instances = λ x b named is.
          linked_from (named_in (numbers_of whole).blocks)
          (block_named (instances_among whole (sites_of_blocks taken.blocks)) x) b.name (instance_named x b named is)
          (code_by text b.name is (block_of b.name) refl);
      free = λ x b named is. instances_are_free source right.types right.names u unit x b named is;
    }

    pub body_linked : (symbols : List Symbol)
        → ((x : Name) (s : VariableType) → type_of_name env x ≡ Some s → HasSymbol env symbols x s)
        → IsLinked (linked_stmts (table_of (numbers_of (taken_text (declared_in source))) symbols
        (instances_among (taken_text (declared_in source)) (sites_of_blocks (resolved (declared_in source) u).blocks)))
        (stmts_of (resolved (declared_in source) u).body))
    body_linked symbols has =
        subst (λ xs. IsLinked (linked_stmts (table symbols) xs)) (sym (statements_taken text u u.body))
        (stmts_linked env (table symbols) orderly (serves symbols has) outside (stmts_of u.body)
        (none_of (λ d. wrong_body (environment text d)) among right.bodies))

    -- a symbol with the shape of the variable's type
    pub typed_symbol : (symbols : List Symbol) (x : Name) (s : VariableType) (y : Symbol)
        → type_of_name (environment (declared_in source) u) x ≡ Some s
        → symbol_of symbols x ≡ Some y → y.is_input ≡ false
        → y.shape ≡ shape_of_type (taken_text (declared_in source)) (resolved_type s)
        → HasSymbol (environment (declared_in source) u) symbols x s
    typed_symbol symbols x s y named there free shape = record {
      symbol = y;
      there = there;
      free = λ _. free;
      depth = MAX_TYPE_DEPTH;
      within = depths_known source right.types right.names right.deep u unit x s named;
      shape = shape ∙ same_shape text MAX_TYPE_DEPTH s;
    }

    -- a variable of the unit's own
    own_variable : result_type u.sort ≡ None → (x : Name) (s : VariableType) → variable_type u x ≡ Some s
        → type_in_blocks u.blocks x ≡ Some s
    own_variable none x s named = by_test (is_named x u.name) named
      where
        by_test : (b : Bool) → (if b then result_type u.sort else type_in_blocks u.blocks x) ≡ Some s
            → type_in_blocks u.blocks x ≡ Some s
        by_test true g = let e : None ≡ Some s = sym none ∙ g in absurd (cc)
        by_test false g = g

    pub site_of : (x : Name) (s : VariableType) → type_in_blocks u.blocks x ≡ Some s
        → contains_name (externals_in u.blocks) x ≡ false
        → Declares (site_named (sites_of_blocks (resolved (declared_in source) u).blocks) x) (resolved_type s)
    site_of x s named e =
        own_site taken.blocks x (resolved_type s)
        (types_in_taken text u.blocks x ∙ ap (option_map resolved_type) named)
        (ap (λ xs. contains_name xs x) (externals_taken text u.blocks) ∙ e)

    pub name_there : (x : Name) (s : VariableType) → type_in_blocks u.blocks x ≡ Some s
        → contains_name (names_in (resolved (declared_in source) u).blocks) x ≡ true
    name_there x s named =
        ap (λ xs. contains_name xs x) (all_names_taken text u.blocks) ∙ name_of_unit u.blocks x s named

    -- in a layout
    module _ (c : Configuration) (only : only_configuration (configurations_in source) ≡ Some c)
        (externals : list_all (has_known_externals (declared_in source) c.globals) (declared_in source).units ≡ true)
        (vs : List Owned)
        (same : IsTaken vs (variables_of_configuration (declared_in source) (Some c))) where
      units_differ : are_types_and_units_different text ≡ true
      units_differ =
          (and_parts (are_different (map (λ t. t.name.name) text.types)) (are_types_and_units_different text) differ).1

      scopes : is_configuration_different (Some c) ≡ true
      scopes = subst (λ o. is_configuration_different o ≡ true) only (scopes_differ source right.names.all)

      -- an external's global
      record IsGlobal (x : Name) (s : VariableType) : Type 0 where
        pub first : ℕ
        pub variable : Owned
        pub there : variable_at whole vs None x ≡ Some (first, variable)
        pub free : is_fixed (section_of env x) ≡ false → variable.is_input ≡ false
        pub depth : ℕ
        pub within : is_within_depth depth text s ≡ true
        pub shape : variable_shape whole variable ≡ shape_within depth text s

      global_of : (x : Name) (s : VariableType) (i : IsLayoutPart text (variables_of_configuration text (Some c))
          (is_fixed (section_of env x)) (unowned x) s) → IsGlobal x s
      global_of x s i =
          let nobody : i.owner ≡ None = sym (ap (λ p. p.owner) i.path) in
          let name : i.name ≡ x = sym (ap (λ p. p.name) i.path) in
          let steps : i.steps ≡ [] = sym (ap (λ p. p.steps) i.path) in
          let there : variable_at text (variables_of_configuration text (Some c)) None x ≡ Some (i.first, i.variable) =
          ap₂ (λ o y. variable_at text (variables_of_configuration text (Some c)) o y) (sym nobody) (sym name) ∙ i.there
          in
          let t = taken_variable text vs (variables_of_configuration text (Some c)) same None x i.first i.variable there
          in
          let declared : t.variable.site.declared ≡ resolved_type i.variable.site.declared = ap (λ k. k.2) t.is in
          let input : t.variable.is_input ≡ i.variable.is_input = ap (λ k. k.3) t.is in
          let shape : variable_shape text i.variable ≡ shape_within i.depth text s =
          some_is (ap (shape_at_steps (variable_shape text i.variable)) (sym steps) ∙ i.shape) in
          record {
            first = t.first;
            variable = t.variable;
            there = t.there;
            free = λ e. input ∙ i.free e;
            depth = i.depth;
            within = i.within;
            shape = ap (shape_of_type whole) declared
                ∙ same_shape text MAX_TYPE_DEPTH i.variable.site.declared ∙ shape;
          }

      global : (x : Name) (s : VariableType) → contains_name (externals_in u.blocks) x ≡ true
          → variable_type u x ≡ Some s → IsGlobal x s
      global x s e named =
          global_of x s
          (externals_stand source right.types right.names right.deep differ c
          (configuration_once text units_differ (Some c) scopes) u unit
          (all_at (has_known_externals text c.globals) among externals) x s e named)

      global_symbol : (symbols : List Symbol) (x : Name) (s : VariableType) (g : IsGlobal x s)
          → symbol_of symbols x ≡ Some (symbol_at whole x (g.first, g.variable)) → HasSymbol env symbols x s
      global_symbol symbols x s g there = record {
        symbol = symbol_at whole x (g.first, g.variable);
        there = there;
        free = g.free;
        depth = g.depth;
        within = g.within;
        shape = g.shape;
      }

      -- a program
      module _ (owner : Owner) (variables : HasVariables whole taken vs owner) (none : result_type u.sort ≡ None) where
        program_symbol : (x : Name) (s : VariableType) → variable_type u x ≡ Some s → (b : Bool)
            → contains_name (externals_in u.blocks) x ≡ b
            → HasSymbol env (symbols_of_program whole vs owner taken) x s
        program_symbol x s named true e =
            let g = global x s e named in
            let external : owner_of_name (program_of_unit whole owner taken) x ≡ None =
            ap (λ b. if b then None else Some owner)
            (ap (λ xs. contains_name xs x) (externals_taken text u.blocks) ∙ e) in
            global_symbol (symbols_of_program whole vs owner taken) x s g
            (program_symbol_found whole vs (program_of_unit whole owner taken) (names_in taken.blocks) x
            (g.first, g.variable) (name_there x s (own_variable none x s named))
            (ap (λ o. variable_at whole vs o x) external ∙ g.there))
        program_symbol x s named false e =
            let d = site_of x s (own_variable none x s named) e in
            let v = variables x d.site d.is in
            let w : Owned = owned_variable (Some owner) (record { name = x; site = d.site }) in
            let mine : owner_of_name (program_of_unit whole owner taken) x ≡ Some owner =
            ap (λ b. if b then None else Some owner)
            (ap (λ xs. contains_name xs x) (externals_taken text u.blocks) ∙ e) in
            typed_symbol (symbols_of_program whole vs owner taken) x s (symbol_at whole x (v.0, w)) named
            (program_symbol_found whole vs (program_of_unit whole owner taken) (names_in taken.blocks) x (v.0, w)
            (name_there x s (own_variable none x s named))
            (ap (λ o. variable_at whole vs o x) mine ∙ v.1)) refl (ap (shape_of_type whole) d.declared)

        pub program_linked : IsLinked (linked_program (taken_text (declared_in source)) vs owner
            (resolved (declared_in source) u))
        program_linked =
            body_linked (symbols_of_program whole vs owner taken)
            (λ x s named. program_symbol x s named (contains_name (externals_in u.blocks) x) refl)

      -- a block
      module _ (none : result_type u.sort ≡ None) where
        abbrev members : Parts
        members = members_of_block (taken_text (declared_in source)) (resolved (declared_in source) u)

        block_symbol_of : (x : Name) (s : VariableType) → variable_type u x ≡ Some s → (b : Bool)
            → contains_name (externals_in u.blocks) x ≡ b → HasSymbol env (symbols_of_block whole vs taken) x s
        block_symbol_of x s named true e =
            let g = global x s e named in
            let external : contains_name (externals_in taken.blocks) x ≡ true =
            ap (λ xs. contains_name xs x) (externals_taken text u.blocks) ∙ e in
            global_symbol (symbols_of_block whole vs taken) x s g
            (block_symbol_found whole vs members (externals_in taken.blocks) (names_in taken.blocks) x
            (symbol_at whole x (g.first, g.variable)) (name_there x s (own_variable none x s named))
            (ap (λ b. if b then option_map (symbol_at whole x) (variable_at whole vs None x)
            else option_map (part_symbol x) (part_at members x)) external
            ∙ ap (option_map (symbol_at whole x)) g.there))
        block_symbol_of x s named false e =
            let d = site_of x s (own_variable none x s named) e in
            let p = named_part (shape_of_type whole) (sites_of_blocks taken.blocks) x d.site d.is in
            let mine : contains_name (externals_in taken.blocks) x ≡ false =
            ap (λ xs. contains_name xs x) (externals_taken text u.blocks) ∙ e in
            typed_symbol (symbols_of_block whole vs taken) x s (part_symbol x p.part) named
            (block_symbol_found whole vs members (externals_in taken.blocks) (names_in taken.blocks) x
            (part_symbol x p.part) (name_there x s (own_variable none x s named))
            (ap (λ b. if b then option_map (symbol_at whole x) (variable_at whole vs None x)
            else option_map (part_symbol x) (part_at members x)) mine
            ∙ ap (option_map (part_symbol x)) p.there))
            refl (p.is ∙ ap (shape_of_type whole) d.declared)

        pub block_linked : IsLinked (linked_block (taken_text (declared_in source)) vs
            (resolved (declared_in source) u))
        block_linked =
            body_linked (symbols_of_block whole vs taken)
            (λ x s named. block_symbol_of x s named (contains_name (externals_in u.blocks) x) refl)
