-- The functions of a text that breaks no rule are linked, and its units are in order.
use Rattle.std.proofs.Common.{◌≡◌, ℕ, Bool, true, false, ◌||◌, not, if◌then◌else◌, List, [], ◌∷◌, ◌++◌, map}
use Rattle.std.proofs.Common.{Option, Some, None, option_map, option_and_then, refl, sym, ap, ◌∙◌, subst}
use Rattle.std.specs.Prelude.{is_none, is_some}
use Rattle.st_types.specs.declared.identifier.Identifier.{Identifier}
use Rattle.st_types.specs.declared.kind.Kind.{Kind}
use Rattle.st_types.specs.declared.data_type.SimpleType.{SimpleType}
use Rattle.st_types.specs.declared.data_type.SimpleType.TheVariants.{Elementary, Named}
use Rattle.st_types.specs.declared.data_type.VariableType.{VariableType}
use Rattle.st_types.specs.declared.data_type.VariableType.TheVariants as types
use Rattle.st_types.specs.declared.declaration.Section.{Section}
use Rattle.st_types.specs.declared.unit.UnitSort.{UnitSort}
use Rattle.st_types.specs.declared.unit.UnitSort.TheVariants as sorts
use Rattle.st_types.specs.Declarations.{Declaration, VariableBlock}
use Rattle.st_types.specs.Sources as sources
use Rattle.st_types.specs.Sources.{Source}
use Rattle.st_types.specs.Statements.{stmts_of}
use Rattle.st_types.specs.Units.{OrganisationUnit}
use Rattle.st_meaning.specs.Bodies.{is_external, names_of, declared_names, externals_in}
use Rattle.st_meaning.specs.NameTypes.{Declared, declared_in, units_in, is_named, is_input, type_named, unit_named}
use Rattle.st_meaning.specs.NameTypes.{kind_among, result_type, type_in_blocks, variable_type}
use Rattle.st_meaning.specs.ResolvedUnits.{resolved, resolved_type}
use Rattle.st_meaning.specs.Scopes.{Name, contains_name}
use Rattle.st_meaning.specs.StandardBlocks.{StandardBlock, block_of, members_of}
use Rattle.st_rules.specs.declared.limits.TheConstants.{MAX_TYPE_DEPTH}
use Rattle.st_rules.specs.Environments.{Environment, is_own_block, is_block_sort, is_block_type, is_instance}
use Rattle.st_rules.specs.Environments.{section_of}
use Rattle.st_rules.specs.Rules.{environment, IsWellTyped}
use Rattle.layout.specs.LayoutVariables.{owned_variable}
use Rattle.layout.specs.Libraries.{result_site, input_names, instance_then, instances_among}
use Rattle.layout.specs.Types.{Site, NamedSite, site_named, sites_of_blocks, site_of_member, block_type_of}
use Rattle.layout.specs.Types.{own_block_type, block_type_named, instance_of, shape_of_type}
use Rattle.layout.specs.Types.{is_within_depth}
use Rattle.layout.proofs.ListLemmas.{name_itself}
use Rattle.layout.proofs.ResolvedDepths.{same_depth}
use Rattle.layout.proofs.ResolvedLemmas.{taken_text, same_shape, same_unit_named}
use Rattle.st_link.specs.StatementSoundness.{HasNoInstances}
use Rattle.st_link.proofs.Among.{Among, here, later}
use Rattle.st_link.proofs.CallLaw.{some_there}
use Rattle.st_link.proofs.DeclaredVariables.{type_of_declared, section_of_declared}
use Rattle.st_link.proofs.FoundNames.{unit_in}
use Rattle.st_link.proofs.KnownFunctions.{input_kind_there, result_has_kind}
use Rattle.st_link.proofs.WellTypedTexts.{PartsRight, parts_right, text_right}
use Rattle.st_link.proofs.ExternalNames.{external_in}
use Rattle.st_link.proofs.KnownDepths.{depths_known}
use Rattle.st_link.proofs.LibraryFunctions.{inputs_taken}
use Rattle.st_link.proofs.SoundMembers.{Declares}
use Rattle.st_link.proofs.TakenBodies.{externals_taken}
use Rattle.slot_trees.specs.SlotTrees.{own}
use Rattle.slot_trees.specs.SlotEvaluation.{slot_at}
use Rattle.slot_trees.specs.Tables.{Symbol, symbol_of}
use Rattle.slot_trees.specs.LinkedStatements.{plain_anchor, control_of, linked_stmts}
use Rattle.slot_trees.specs.LinkedTexts.{table_of}
use Rattle.slot_trees.specs.FunctionTables.{call_symbol}
use Rattle.slot_trees.specs.Orderly.{is_orderly, has_orderly_variables}
use Rattle.slot_trees.specs.TextLinks.{names_in, sites_of_call, symbols_of_function, call_slot, call_slots}
use Rattle.slot_trees.specs.TextLinks.{linked_function_body, function_with, linked_function}
use Rattle.slot_trees.specs.TextNumbers.{numbers_of}
use Rattle.st_link.specs.Served.{IsLinked}
use Rattle.st_link.proofs.DeclaredSites.{all_from, IsDeclaredIn, declared_in_blocks}
use Rattle.st_link.proofs.FoundSymbols.{call_symbol_found, call_variable}
use Rattle.st_link.proofs.LinkedParts.{linked_and, linked_map, linked_list}
use Rattle.st_link.proofs.TypeShapes.{plain_shape}
use Rattle.st_link.proofs.UnitServes.{named_once, body_linked, typed_symbol, site_of, name_there}
use Rattle.std.proofs.lemmas.Bool.{not_from_false, or_parts, and_from}
use Rattle.st_types.proofs.OptionLemmas.{some_is, map_some, none_is, then_some}
use Rattle.slot_trees.proofs.LookedUp.{either_none}

-- slots of names, from those of each
module _ (symbols : List Symbol) where
  both_slots : (xs ys : List Name) → IsLinked (call_slots symbols xs) → IsLinked (call_slots symbols ys)
      → IsLinked (call_slots symbols (xs ++ ys))
  both_slots [] ys h g = g
  both_slots (x ∷ xs) ys h g =
      let t = then_some (λ k. option_map (λ ks. k ∷ ks) (call_slots symbols xs)) (call_slot symbols x) h.value h.is in
      let m = map_some (λ ks. t.0 ∷ ks) (call_slots symbols xs) h.value t.2 in
      linked_list (call_slot symbols x) (call_slots symbols (xs ++ ys)) (record { value = t.0; is = t.1 })
      (both_slots xs ys (record { value = m.0; is = m.1 }) g)

  names_slots : (xs : List Identifier) → ((x : Identifier) → Among x xs → IsLinked (call_slot symbols x.name))
      → IsLinked (call_slots symbols (names_of xs))
  names_slots [] h = record { value = []; is = refl }
  names_slots (x ∷ xs) h =
      linked_list (call_slot symbols x.name) (call_slots symbols (names_of xs)) (h x here)
      (names_slots xs (λ y among. h y (later among)))

  declared_slots : (ds : List Declaration)
      → ((d : Declaration) → Among d ds → (x : Identifier) → Among x d.names → IsLinked (call_slot symbols x.name))
      → IsLinked (call_slots symbols (declared_names ds))
  declared_slots [] h = record { value = []; is = refl }
  declared_slots (d ∷ ds) h =
      both_slots (names_of d.names) (declared_names ds) (names_slots d.names (h d here))
      (declared_slots ds (λ e among. h e (later among)))

  block_slots : (b : VariableBlock) (xs : List Name) (is : Bool)
      → (is ≡ true → IsLinked (call_slots symbols (declared_names b.declarations)))
      → IsLinked (call_slots symbols xs)
      → IsLinked (call_slots symbols (if is then declared_names b.declarations ++ xs else xs))
  block_slots b xs true f h = both_slots (declared_names b.declarations) xs (f refl) h
  block_slots b xs false f h = h

  input_slots : (bs : List VariableBlock)
      → ((b : VariableBlock) → Among b bs → is_input b.section ≡ true → (d : Declaration) → Among d b.declarations
      → (x : Identifier) → Among x d.names → IsLinked (call_slot symbols x.name))
      → IsLinked (call_slots symbols (input_names bs))
  input_slots [] h = record { value = []; is = refl }
  input_slots (b ∷ bs) h =
      block_slots b (input_names bs) (is_input b.section) (λ is. declared_slots b.declarations (h b here is))
      (input_slots bs (λ c among. h c (later among)))

-- a unit that isn't a block has no instances
no_own_block : (text : Declared) (o : Option OrganisationUnit) → is_own_block o ≡ false
    → own_block_type (option_map (resolved text) o) ≡ None
no_own_block text None h = refl
no_own_block text (Some u) h = by_sort u.sort h
  where
    by_sort : (s : UnitSort) → is_block_sort s ≡ false → block_type_of s (resolved text u) ≡ None
    by_sort (sorts.Function t) g = refl
    by_sort sorts.Program g = refl
    by_sort sorts.FunctionBlock g = absurd (cc)

no_instance : (text : Declared) (t : VariableType) → is_block_type text t ≡ false
    → instance_of (taken_text text) (resolved_type t) ≡ None
no_instance text (types.Array a) h = refl
no_instance text (types.Simple (Elementary k at)) h = refl
no_instance text (types.Simple (Named x)) h =
    let n = or_parts (is_some (block_of x.name)) (is_own_block (unit_named text.units x.name)) h in
    let none : block_type_named (taken_text text) x.name ≡ None =
    ap (λ (o : Option StandardBlock). elim o [
      | Some k ↦ Some (record { name = x.name; members = map site_of_member (members_of k) })
      | None ↦ own_block_type (unit_named (taken_text text).units x.name)
    ]) (none_is (block_of x.name) n.0)
    ∙ ap own_block_type (same_unit_named text text.units x.name)
    ∙ no_own_block text (unit_named text.units x.name) n.1 in
    either_none (is_none (type_named (taken_text text).types x.name)) (block_type_named (taken_text text) x.name) none

no_instances_among : (text : Declared) (ds : List NamedSite)
    → ((e : NamedSite) → Among e ds → instance_of text e.site.declared ≡ None) → instances_among text ds ≡ []
no_instances_among text [] h = refl
no_instances_among text (d ∷ ds) h =
    ap (λ o. instance_then d.name o (instances_among text ds)) (h d here)
    ∙ no_instances_among text ds (λ e among. h e (later among))

same_sections : (a b : Section) → a ≡ b → is_external a ≡ true → is_external b ≡ false → ⊥
same_sections a b e h g = let i : is_external b ≡ true = ap is_external (sym e) ∙ h in cc

module _ (source : Source) (h : IsWellTyped source) (u : OrganisationUnit) (among : Among u (units_in source)) where
  abbrev text : Declared
  text = declared_in source

  abbrev whole : Declared
  whole = taken_text (declared_in source)

  abbrev taken : OrganisationUnit
  taken = resolved (declared_in source) u

  abbrev env : Environment
  env = environment (declared_in source) u

  right : PartsRight source
  right = parts_right source h

  unit : Among (sources.unit u) source
  unit = unit_in source u among

  -- the unit is in order
  site_type : (e : NamedSite) (i : IsDeclaredIn u.blocks e) → variable_type u i.one.name ≡ Some i.declaration.declared
  site_type e i = type_of_declared source right.names u unit i.block i.there i.declaration i.among i.one i.name

  no_external : (e : NamedSite) → IsDeclaredIn u.blocks e → (b : Bool)
      → contains_name (externals_in u.blocks) e.name ≡ b
      → b ≡ false
  no_external e i false is = refl
  no_external e i true is =
      let x = external_in u.blocks e.name is in
      let outer = section_of_declared source right.names u unit x.block x.there x.declaration x.among x.one x.name in
      let inner = section_of_declared source right.names u unit i.block i.there i.declaration i.among i.one i.name in
      let name : x.one.name ≡ i.one.name = sym x.named ∙ i.named in
      let same : x.block.section ≡ i.block.section =
      some_is (sym outer ∙ ap (section_of env) name ∙ inner) in
      absurd (same_sections x.block.section i.block.section same x.external i.own)

  orderly_site : (e : NamedSite) → Among e (sites_of_blocks taken.blocks)
      → is_orderly whole (externals_in taken.blocks) e ≡ true
  orderly_site e there =
      let i = declared_in_blocks text e u.blocks there in
      let apart : contains_name (externals_in taken.blocks) e.name ≡ false =
      ap (λ xs. contains_name xs e.name) (externals_taken text u.blocks)
      ∙ no_external e i (contains_name (externals_in u.blocks) e.name) refl in
      let depth : is_within_depth MAX_TYPE_DEPTH whole e.site.declared ≡ true =
      ap (is_within_depth MAX_TYPE_DEPTH whole) i.declared ∙ same_depth text MAX_TYPE_DEPTH i.declaration.declared
      ∙ depths_known source right.types right.names right.deep u unit i.one.name i.declaration.declared
      (site_type e i) in
      and_from (not (contains_name (externals_in taken.blocks) e.name))
      (is_within_depth MAX_TYPE_DEPTH whole e.site.declared)
      (not_from_false (contains_name (externals_in taken.blocks) e.name) apart) depth

  pub unit_in_order : has_orderly_variables (taken_text (declared_in source)) (resolved (declared_in source) u) ≡ true
  unit_in_order = all_from (is_orderly whole (externals_in taken.blocks)) (sites_of_blocks taken.blocks) orderly_site

  -- a function
  module _ (r : SimpleType) (sort : u.sort ≡ sorts.Function r) (no_externals : externals_in u.blocks ≡ []) where
    abbrev symbols : List Symbol
    symbols = symbols_of_function (taken_text (declared_in source)) r (resolved (declared_in source) u)

    abbrev sites : List NamedSite
    sites = sites_of_call r (resolved (declared_in source) u)

    call_site : (x : Name) (s : VariableType) → variable_type u x ≡ Some s
        → Declares (site_named sites x) (resolved_type s)
    call_site x s named = by_test (is_named x u.name) refl named
      where
        by_test : (b : Bool) → is_named x u.name ≡ b
            → (if b then result_type u.sort else type_in_blocks u.blocks x) ≡ Some s
            → Declares (site_named sites x) (resolved_type s)
        by_test true e g =
            let k : types.Simple r ≡ s = some_is (sym (ap result_type sort) ∙ g) in
            record { site = (result_site r u.name.name).site; is = rw e refl; declared = ap resolved_type k }
        by_test false e g =
            let d = site_of source h u among x s g (ap (λ xs. contains_name xs x) no_externals) in
            let there = d.is in
            record { site = d.site; is = rw e there; declared = d.declared }

    call_name : (x : Name) (s : VariableType) → variable_type u x ≡ Some s
        → contains_name (u.name.name ∷ names_in taken.blocks) x ≡ true
    call_name x s named = by_test (is_named x u.name) named
      where
        by_test : (b : Bool) → (if b then result_type u.sort else type_in_blocks u.blocks x) ≡ Some s
            → (b || contains_name (names_in taken.blocks) x) ≡ true
        by_test true g = refl
        by_test false g = name_there source h u among x s g

    -- the symbol of a variable
    record IsOfCall (x : Name) (s : VariableType) : Type 0 where
      pub first : ℕ
      pub site : Site
      pub there : symbol_of symbols x
          ≡ Some (call_symbol whole x (first, owned_variable None (record { name = x; site = site })))
      pub declared : site.declared ≡ resolved_type s

    of_call : (x : Name) (s : VariableType) → variable_type u x ≡ Some s → IsOfCall x s
    of_call x s named =
        let d = call_site x s named in
        let v = call_variable whole sites x d.site d.is in
        record {
          first = v.first;
          site = d.site;
          there = call_symbol_found whole sites (u.name.name ∷ names_in taken.blocks) x
              (v.first, owned_variable None (record { name = x; site = d.site })) (call_name x s named) v.there;
          declared = d.declared;
        }

    slot_linked : (x : Name) (s : VariableType) (k : Kind) → variable_type u x ≡ Some s
        → kind_among text.types s ≡ Some k → IsLinked (call_slot symbols x)
    slot_linked x s k named among_types =
        let c = of_call x s named in
        let shape =
        ap (shape_of_type whole) c.declared ∙ same_shape text MAX_TYPE_DEPTH s
        ∙ plain_shape text MAX_TYPE_DEPTH s k
        (depths_known source right.types right.names right.deep u unit x s named) among_types in
        record {
          value = slot_at 0 (own c.first);
          is = ap (λ o. option_map (slot_at 0) (option_and_then control_of o)) c.there
              ∙ ap (λ sh. option_map (slot_at 0) (plain_anchor (own c.first) sh)) shape;
        }

    inputs_linked : IsLinked (call_slots symbols (input_names taken.blocks))
    inputs_linked =
        subst (λ xs. IsLinked (call_slots symbols xs)) (sym (inputs_taken text u.blocks))
        (input_slots symbols u.blocks (λ b block is d declaration x name.
        let kind = some_there (kind_among text.types d.declared)
        (input_kind_there source right.types u unit b block is d declaration) in
        slot_linked x.name d.declared kind.0
        (type_of_declared source right.names u unit b block d declaration x name) kind.1))

    result_named : variable_type u u.name.name ≡ Some (types.Simple r)
    result_named =
        ap (λ b. if b then result_type u.sort else type_in_blocks u.blocks u.name.name) (name_itself u.name.name)
        ∙ ap result_type sort

    result_linked : IsLinked (call_slot symbols u.name.name)
    result_linked =
        let kind = some_there (kind_among text.types (types.Simple r))
        (result_has_kind source right.types u r unit sort) in
        slot_linked u.name.name (types.Simple r) kind.0 result_named kind.1

    none : HasNoInstances env
    none = (text_right source h).functions u.name.name u r (named_once source h u among) sort

    site_is_none : (e : NamedSite) → Among e (sites_of_blocks taken.blocks) → instance_of whole e.site.declared ≡ None
    site_is_none e there =
        let i = declared_in_blocks text e u.blocks there in
        ap (instance_of whole) i.declared
        ∙ no_instance text i.declaration.declared
        (sym (ap (is_instance env) (site_type e i)) ∙ none i.one.name)

    no_instances : instances_among whole (sites_of_blocks taken.blocks) ≡ []
    no_instances = no_instances_among whole (sites_of_blocks taken.blocks) site_is_none

    its_body : IsLinked (linked_function_body whole symbols (instances_among whole (sites_of_blocks taken.blocks))
        (stmts_of taken.body))
    its_body =
        subst (λ is. IsLinked (linked_function_body whole symbols is (stmts_of taken.body))) (sym no_instances)
        (subst (λ is. IsLinked (linked_stmts (table_of (numbers_of whole) symbols is) (stmts_of taken.body)))
        no_instances
        (body_linked source h u among symbols (λ x s named.
        let c = of_call x s named in
        typed_symbol source h u among symbols x s
        (call_symbol whole x (c.first, owned_variable None (record { name = x; site = c.site }))) named c.there refl
        (ap (shape_of_type whole) c.declared))))

    pub function_linked : IsLinked (linked_function (taken_text (declared_in source)) r
        (resolved (declared_in source) u))
    function_linked =
        let body = linked_function_body whole symbols (instances_among whole (sites_of_blocks taken.blocks))
        (stmts_of taken.body) in
        let slot = call_slot symbols u.name.name in
        linked_and
        (λ inputs. option_and_then (λ result. option_map (function_with whole r taken inputs result) body) slot)
        (call_slots symbols (input_names taken.blocks)) inputs_linked
        (λ inputs. linked_and (λ result. option_map (function_with whole r taken inputs result) body) slot result_linked
        (λ result. linked_map (function_with whole r taken inputs result) body its_body))
