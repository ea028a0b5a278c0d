-- Each function that programs call has a call in the code of one of them.
use Rattle.std.proofs.Common.{◌≡◌, refl, sym, ap, subst, ◌∙◌, ℕ, zero}
use Rattle.std.proofs.Common.{suc, Bool, true, false, List, [], ◌∷◌, map}
use Rattle.std.proofs.Common.{Option, Some, None, ◌+◌, option_map, option_and_then}
use Rattle.std.proofs.Common.{inl, inr, slice_get, arith}
use Rattle.std.specs.Prelude.{◌⊎◌, ◌||◌, bytes_eq, is_some}
use Rattle.std.specs.List.{filter, flat_map, list_all, list_any}
use Rattle.st_types.specs.declared.identifier.Identifier.{Identifier}
use Rattle.st_types.specs.declared.data_type.SimpleType.{SimpleType}
use Rattle.st_types.specs.declared.data_type.SimpleType.TheVariants.{Elementary, Named}
use Rattle.st_types.specs.declared.data_type.VariableType.{VariableType}
use Rattle.st_types.specs.declared.data_type.VariableType.TheVariants as types
use Rattle.st_types.specs.declared.unit.UnitSort.{UnitSort}
use Rattle.st_types.specs.declared.unit.UnitSort.TheVariants as sorts
use Rattle.st_types.specs.Sources.{Source}
use Rattle.st_types.specs.Statements as statements
use Rattle.st_types.specs.Statements.{Argument, Stmt, Stmts, stmts_of}
use Rattle.st_types.specs.Units.{OrganisationUnit}
use Rattle.st_meaning.specs.NameTypes.{Declared, declared_in, unit_named, units_in}
use Rattle.st_meaning.specs.ResolvedUnits.{resolved}
use Rattle.st_meaning.specs.Scopes.{Name, block_named}
use Rattle.st_meaning.specs.StandardBlocks.{block_of}
use Rattle.st_meaning.specs.StandardFunctions.{standard_of}
use Rattle.st_rules.specs.Containment.{named, calls_in_statement, calls_of}
use Rattle.st_rules.specs.Containment.{has_chain, is_function, parts_of_block}
use Rattle.st_rules.specs.Containment.{part_of_result, parts_of_unit}
use Rattle.st_rules.specs.NameScopes.{names_of_element}
use Rattle.st_rules.specs.Rules.{IsWellTyped}
use Rattle.st_rules.specs.TwiceDeclared.{is_standard}
use Rattle.st_decl.specs.Flattened.{all_in}
use Rattle.st_decl.proofs.FlatLemmas.{calls_by_statements}
use Rattle.layout.specs.LayoutVariables.{Owned}
use Rattle.layout.specs.Libraries.{instances_among, body_of_unit, input_names}
use Rattle.layout.specs.Names.{are_different, are_types_and_units_different, has_different_fields}
use Rattle.layout.specs.Names.{has_different_variables, names_of_sites, variable_names}
use Rattle.layout.specs.Types.{sites_of_blocks}
use Rattle.layout.proofs.ListLemmas.{same_name}
use Rattle.layout.proofs.ResolvedLemmas.{taken_text, same_unit_named}
use Rattle.st_link.specs.Homes.{IsAmong, here as first, further_on}
use Rattle.st_link.proofs.Among.{Among, here, later, in_front, in_either, in_flat, in_map, none_passes}
use Rattle.st_link.proofs.FoundNames.{unit_found, unit_in}
use Rattle.st_link.proofs.ListTests.{all_at}
use Rattle.st_link.proofs.TakenTexts.{taken_differ}
use Rattle.st_link.proofs.UnitServes.{differ, unit_once}
use Rattle.st_link.proofs.WellTypedTexts.{PartsRight, parts_right}
use Rattle.slot_trees.specs.SlotTrees.{own_block, standard_block, SlotFunction, SlotLibrary, SlotStmts}
use Rattle.slot_trees.specs.Tables.{Symbol, named_in}
use Rattle.slot_trees.specs.LinkedStatements.{linked_stmt, linked_stmts}
use Rattle.slot_trees.specs.LinkedTexts.{table_of}
use Rattle.slot_trees.specs.TextLinks.{call_slot, call_slots, function_with}
use Rattle.slot_trees.specs.TextLinks.{linked_block, linked_blocks, linked_function}
use Rattle.slot_trees.specs.TextLinks.{linked_function_body, linked_functions}
use Rattle.slot_trees.specs.TextLinks.{symbols_of_block, symbols_of_function}
use Rattle.slot_trees.specs.TextNumbers.{block_names, numbered_from, numbers_of, own_codes, standard_codes}
use Rattle.slot_trees.proofs.NamedLemmas.{named_behind, named_mapped, standard_code}
use Rattle.st_link.specs.LinkVariables.{LinkVariable, variables_of_blocks}
use Rattle.st_link.specs.CalledFunctions.{IsReached, program, callee, block_called, callees_of}
use Rattle.st_link.specs.CalledFunctions.{name_of_type, names_or_none, type_among}
use Rattle.st_link.proofs.SiteLemmas.{sites_seen}
use Rattle.config.proofs.Shallow.{function_part, is_function_there, none_at, own_shallow, parts_are}
use Rattle.config.proofs.Shallow.{unit_not_standard}
use Rattle.config.proofs.CallLengths.{stmts_calls, units_calls, function_calls, body_calls}
use Rattle.config.proofs.LinkedCalls.{first_or, own_calls_it, block_calls_it, stmts_call_it}
use Rattle.config.proofs.TakenCalls.{calls_taken}
use Rattle.config.proofs.InstanceNames.{of_flat, of_map, type_part, instance_is, block_is}
use Rattle.config.proofs.NumberedUnits.{function_at, block_at}
use Rattle.st_types.proofs.TestLemmas.{without_zero, or_second}
use Rattle.config.proofs.FittingUnits.{body_linked}
use Rattle.st_types.proofs.OptionLemmas.{some_is, map_some, none_is, then_some}
use Rattle.std.proofs.lemmas.Bool.{and_parts}

pub of_among : {A : Type 0} {a : A} (xs : List A) → IsAmong a xs → Among a xs
of_among [] i = elim i [ ]
of_among (x ∷ xs) first = here
of_among (x ∷ xs) (further_on i) = later (of_among xs i)

only_own : (s : UnitSort) (u : OrganisationUnit) → are_different (variable_names s u) ≡ true
    → are_different (names_of_sites (sites_of_blocks u.blocks)) ≡ true
only_own (sorts.Function t) u h = (and_parts _ _ h).1
only_own sorts.FunctionBlock u h = h
only_own sorts.Program u h = h

-- a statement that is a call of an instance
record IsBlockCall (vs : List LinkVariable) (z : Stmt) (x : Name) : Type 0 where
  instance : Identifier
  arguments : List Argument
  is : z ≡ statements.invoke instance arguments
  block : Identifier
  declared : type_among vs instance.name ≡ Some (types.Simple (Named block))
  named_so : block.name ≡ x

block_call : (vs : List LinkVariable) (z : Stmt) (x : Name) → Among x (block_called vs z) → IsBlockCall vs z x
block_call vs (statements.invoke a arguments) x h = by_type (type_among vs a.name) refl h
  where
    by_type : (o : Option VariableType) → type_among vs a.name ≡ o
        → Among x (names_or_none (option_and_then name_of_type o)) → IsBlockCall vs (statements.invoke a arguments) x
    by_type None is k = elim k [ ]
    by_type (Some (types.Array t)) is k = elim k [ ]
    by_type (Some (types.Simple (Elementary e at))) is k = elim k [ ]
    by_type (Some (types.Simple (Named b))) is k = record {
      instance = a;
      arguments = arguments;
      is = refl;
      block = b;
      declared = is;
      named_so = elim (first_or k) [ inl same ↦ sym same | inr none ↦ elim none [ ] ];
    }
block_call vs statements.empty x h = elim h [ ]
block_call vs (statements.assign v e) x h = elim h [ ]
block_call vs (statements.IF arms otherwise) x h = elim h [ ]
block_call vs (statements.CASE e arms otherwise) x h = elim h [ ]
block_call vs (statements.FOR i start limit step body) x h = elim h [ ]
block_call vs (statements.WHILE e body) x h = elim h [ ]
block_call vs (statements.REPEAT body e) x h = elim h [ ]
block_call vs (statements.EXIT at) x h = elim h [ ]
block_call vs statements.RETURN x h = elim h [ ]

-- the body of a linked function
function_body : (text : Declared) (t : SimpleType) (u : OrganisationUnit) (f : SlotFunction)
    → linked_function text t u ≡ Some f
    → linked_stmts (table_of (numbers_of text) (symbols_of_function text t u) []) (stmts_of u.body) ≡ Some f.body
function_body text t u f h =
    let symbols = symbols_of_function text t u in
    let instances = (body_of_unit text u).instances in
    let body = linked_function_body text symbols instances (stmts_of u.body) in
    let a = then_some (λ inputs. option_and_then (λ result. option_map (function_with text t u inputs result) body)
    (call_slot symbols u.name.name)) (call_slots symbols (input_names u.blocks)) f h in
    let b = then_some (λ result. option_map (function_with text t u a.0 result) body)
    (call_slot symbols u.name.name) f a.2 in
    let c = map_some (function_with text t u a.0 b.0) body f b.2 in
    let same : c.0 ≡ f.body = ap (λ (k : SlotFunction). k.body) c.2 in
    body_linked instances text symbols (stmts_of u.body) f.body (c.1 ∙ ap Some same)

-- the calls of units, one deeper
function_calls_are : (library : SlotLibrary) (m i : ℕ) (f : SlotFunction) → slice_get library.functions i ≡ Some f
    → (units_calls library (suc m)).functions i ≡ i ∷ stmts_calls (units_calls library m) f.body
unfolding units_calls
function_calls_are library m i f h = ap (function_calls (units_calls library m) i) h

block_calls_are : (library : SlotLibrary) (m i : ℕ) (b : SlotStmts) → slice_get library.blocks i ≡ Some b
    → (units_calls library (suc m)).blocks (own_block i) ≡ stmts_calls (units_calls library m) b
unfolding units_calls
block_calls_are library m i b h = ap (body_calls (units_calls library m)) h

-- a chain is longer than one part
longer : (text : Declared) (n : ℕ) (x : Name) → has_chain text (suc n) (named x) ≡ false
    → (m : ℕ) × (n ≡ suc m)
unfolding has_chain
longer text zero x h = absurd (cc)
longer text (suc m) x h = (m, refl)

module _ (source : Source) (h : IsWellTyped source) (vs : List Owned) (library : SlotLibrary)
    (functions_are : linked_functions (taken_text (declared_in source)) (map (resolved (declared_in source))
    (units_in source)) ≡ Some library.functions)
    (blocks_are : linked_blocks (taken_text (declared_in source)) vs (map (resolved (declared_in source))
    (units_in source)) ≡ Some library.blocks) (Found : ℕ → Type 0) where
  abbrev text : Declared
  text = declared_in source

  abbrev whole : Declared
  whole = taken_text (declared_in source)

  right : PartsRight source
  right = parts_right source h

  names_differ : are_types_and_units_different whole ≡ true
  names_differ =
      taken_differ text
      (and_parts (are_different (map (λ t. t.name.name) text.types)) (are_types_and_units_different text)
      (differ source h)).1

  variables_differ : (u : OrganisationUnit) → Among u (units_in source)
      → has_different_variables (resolved text u) ≡ true
  variables_differ u among =
      all_at has_different_variables (in_map (resolved text) among)
      (and_parts (list_all (λ t. has_different_fields t.definition) whole.types)
      (list_all has_different_variables whole.units) names_differ).1

  not_standard : (x : Name) (u : OrganisationUnit) → unit_named text.units x ≡ Some u → standard_of x ≡ None
  not_standard x u is =
      let found = unit_found text.units x u is in
      let name = in_flat names_of_element (unit_in source u found.among) here in
      let free = or_second (is_some (block_of u.name.name)) (is_some (standard_of u.name.name))
      (none_passes (λ y. is_standard y.name) name right.names.free) in
      none_is (standard_of x) (subst (λ (y : Name). is_some (standard_of y) ≡ false)
      (sym (same_name x u.name.name found.named)) free)

  -- a unit with the name of another is that unit
  same_unit : (x : Name) (u v : OrganisationUnit) → unit_named text.units x ≡ Some u
      → Among v (map (resolved text) (units_in source)) → bytes_eq x v.name.name ≡ true → v ≡ resolved text u
  same_unit x u v is among named_so =
      let i = of_map (resolved text) v (units_in source) among in
      let name : x ≡ i.element.name.name =
      same_name x v.name.name named_so ∙ ap (λ (w : OrganisationUnit). w.name.name) (sym i.is) in
      let same : i.element ≡ u =
      some_is (sym (unit_once source right.names.once i.element i.among)
      ∙ ap (unit_named text.units) (sym name) ∙ is) in
      sym i.is ∙ ap (resolved text) same

  -- the body of a unit, linked, if calls in it have this depth, and the units that it calls are found
  pub record IsHeld (u : OrganisationUnit) (n : ℕ) : Type 0 where
    pub symbols : List Symbol
    pub instances : List (Name × Name)
    pub body : SlotStmts
    pub instances_are : (instances ≡ instances_among whole (sites_of_blocks (resolved text u).blocks))
        ⊎ (instances ≡ [])
    pub is : linked_stmts (table_of (numbers_of whole) symbols instances) (stmts_of (resolved text u).body)
        ≡ Some body
    pub held : (g : ℕ) → Among g (stmts_calls (units_calls library n) body) → Found g

  -- its parts that are functions or blocks begin no chain of `n + 1` parts
  abbrev IsDeep : OrganisationUnit → ℕ → Type 0
  IsDeep u n = (z : Name) (v : OrganisationUnit) → unit_named text.units z ≡ Some v
      → (((r : SimpleType) × (v.sort ≡ sorts.Function r)) ⊎ (v.sort ≡ sorts.FunctionBlock))
      → Among (named z) (parts_of_unit text u) → has_chain text (suc n) (named z) ≡ false

  parts_deep : (x : Name) (u : OrganisationUnit) → unit_named text.units x ≡ Some u → (m : ℕ)
      → has_chain text (suc (suc m)) (named x) ≡ false → IsDeep u m
  unfolding has_chain
  parts_deep x u is m none z v there sort part =
      none_at (has_chain text (suc m)) part
      (ap (list_any (has_chain text (suc m))) (sym (parts_are source h x u is)) ∙ none)

  -- a unit that runs
  record Runs (x : Name) (u : OrganisationUnit) : Type 0 where
    depth : ℕ
    deep : IsDeep u depth
    unit : IsHeld u depth
    itself : (r : SimpleType) → u.sort ≡ sorts.Function r → (i : ℕ)
        → named_in (numbers_of whole).functions x ≡ Some i → Found i

  abbrev All : Type 0
  All = (g : ℕ) → Found g

  -- the calls of one of its statements
  module _ (u : OrganisationUnit) (among_units : Among u (units_in source)) (n : ℕ) (unit : IsHeld u n) where
    lift_function : (x : Name) → standard_of x ≡ None → Among x (calls_of (resolved text u)) → (g : ℕ)
        → ((i : ℕ) → named_in (numbers_of whole).functions x ≡ Some i
        → Among g ((units_calls library n).functions i)) → Found g
    lift_function x own among g calls =
        let t = table_of (numbers_of whole) unit.symbols unit.instances in
        let units = units_calls library n in
        let z = of_flat calls_in_statement x (all_in (stmts_of (resolved text u).body))
        (subst (λ xs. Among x xs) (calls_by_statements (resolved text u)) among) in
        unit.held g (stmts_call_it units t g z.element
        (λ y k. own_calls_it units t g x own calls z.element y k z.inside)
        (stmts_of (resolved text u).body) unit.body unit.is z.among)

    own_code : (x : Name) → block_of x ≡ None → named_in (numbers_of whole).blocks x
        ≡ option_map own_block (named_in (numbered_from 0 (block_names whole.units)) x)
    own_code x none =
        named_behind standard_codes (own_codes 0 (block_names whole.units)) x
        (standard_code x ∙ ap (option_map standard_block) none)
        ∙ named_mapped own_block (numbered_from 0 (block_names whole.units)) x

    instance_named : (a c : Name) (b : Identifier)
        → type_among (variables_of_blocks (resolved text u).blocks) a ≡ Some (types.Simple (Named b))
        → block_named unit.instances a ≡ Some c → c ≡ b.name
    instance_named a c b declared is = elim unit.instances_are [
      | inl same ↦
          let sites = sites_of_blocks (resolved text u).blocks in
          let i = instance_is whole sites a c (types.Simple (Named b))
          (only_own u.sort (resolved text u) (variables_differ u among_units))
          (ap (λ ws. type_among ws a) (sites_seen (resolved text u).blocks) ∙ declared)
          (ap (λ is. block_named is a) (sym same) ∙ is) in
          sym i.2 ∙ block_is whole b i.0 i.1
      | inr none ↦ absurd (let wrong : None ≡ Some c = ap (λ is. block_named is a) (sym none) ∙ is in cc)
    ]

    lift_block : (x : Name) → block_of x ≡ None
        → Among x (flat_map (block_called (variables_of_blocks (resolved text u).blocks))
        (all_in (stmts_of (resolved text u).body))) → (g : ℕ)
        → ((j : ℕ) → named_in (numbered_from 0 (block_names whole.units)) x ≡ Some j
        → Among g ((units_calls library n).blocks (own_block j))) → Found g
    lift_block x none among g calls =
        let t = table_of (numbers_of whole) unit.symbols unit.instances in
        let units = units_calls library n in
        let bs = (resolved text u).blocks in
        let z = of_flat (block_called (variables_of_blocks bs)) x (all_in (stmts_of (resolved text u).body)) among in
        let b = block_call (variables_of_blocks bs) z.element x z.inside in
        unit.held g (stmts_call_it units t g z.element
        (λ y k. block_calls_it units t g b.instance b.arguments
        (λ code is.
        let m = then_some (named_in t.blocks) (block_named unit.instances b.instance.name) code is in
        let name : m.0 ≡ x = instance_named b.instance.name m.0 b.block b.declared m.1 ∙ b.named_so in
        let own = map_some own_block (named_in (numbered_from 0 (block_names whole.units)) x) code
        (sym (own_code x none) ∙ ap (named_in (numbers_of whole).blocks) (sym name) ∙ m.2) in
        subst (λ c. Among g (units.blocks c)) own.2 (calls own.0 own.1))
        y (ap (linked_stmt t) (sym b.is) ∙ k))
        (stmts_of (resolved text u).body) unit.body unit.is z.among)

    block_part : (x : Name)
        → Among x (flat_map (block_called (variables_of_blocks (resolved text u).blocks))
        (all_in (stmts_of (resolved text u).body))) → Among (named x) (parts_of_unit text u)
    block_part x among =
        let bs = (resolved text u).blocks in
        let z = of_flat (block_called (variables_of_blocks bs)) x (all_in (stmts_of (resolved text u).body)) among in
        let b = block_call (variables_of_blocks bs) z.element x z.inside in
        in_front (map named (filter (is_function text) (calls_of u)))
        (in_front (part_of_result u.sort)
        (subst (λ y. Among (named y) (flat_map parts_of_block u.blocks)) b.named_so
        (type_part text u.blocks b.instance.name (types.Simple (Named b.block)) b.declared)))

    module _ (deep : IsDeep u n) (x : Name) (v : OrganisationUnit)
        (there : unit_named (units_in source) x ≡ Some v) where
      -- a function that it calls
      module _ (among : Among x (calls_of (resolved (declared_in source) u))) where
        numbered_function : (i : ℕ) → named_in (numbers_of whole).functions x ≡ Some i → Runs x v
        numbered_function i number =
            let k = function_at whole x i whole.units 0 library.functions functions_are number in
            let same = same_unit x v k.unit there k.among k.named in
            let sort : v.sort ≡ sorts.Function k.result =
            ap (λ (w : OrganisationUnit). w.sort) (sym same) ∙ k.sort in
            let part = function_part source h u x (subst (λ xs. Among x xs) (calls_taken text u) among)
            (is_function_there source h x v k.result there sort) in
            let chain = deep x v there (inl (k.result, sort)) part in
            let l = longer text n x chain in
            let slot : slice_get library.functions i ≡ Some k.linked =
            ap (slice_get library.functions) (sym (without_zero i k.position k.number)) ∙ k.there in
            let lift : (g : ℕ) → Among g (i ∷ stmts_calls (units_calls library l.0) k.linked.body) → Found g =
            λ g a. lift_function x (not_standard x v there) among g
            (λ j is. subst (λ e. Among g ((units_calls library n).functions e)) (some_is (sym number ∙ is))
            (subst (λ e. Among g ((units_calls library e).functions i)) (sym l.1)
            (subst (λ xs. Among g xs) (sym (function_calls_are library l.0 i k.linked slot)) a))) in
            record {
              depth = l.0;
              deep = parts_deep x v there l.0 (subst (λ e. has_chain text (suc e) (named x) ≡ false) l.1 chain);
              unit = record {
                symbols = symbols_of_function whole k.result (resolved text v);
                instances = [];
                body = k.linked.body;
                instances_are = inr refl;
                is = function_body whole k.result (resolved text v) k.linked
                    (subst (λ w. linked_function whole k.result w ≡ Some k.linked) same k.is);
                held = λ g a. lift g (later a);
              };
              itself = λ r s j is. subst Found (some_is (sym number ∙ is)) (lift i here);
            }

        called_function : (o : Option ℕ) → named_in (numbers_of whole).functions x ≡ o → Runs x v ⊎ All
        called_function None number =
            inr (λ g. lift_function x (not_standard x v there) among g
            (λ i is. absurd (let wrong : None ≡ Some i = sym number ∙ is in cc)))
        called_function (Some i) number = inl (numbered_function i number)

      -- a block
      module _ (among : Among x (flat_map
          (block_called (variables_of_blocks (resolved (declared_in source) u).blocks))
          (all_in (stmts_of (resolved (declared_in source) u).body)))) where
        no_standard : block_of x ≡ None
        no_standard = unit_not_standard source h x (Some v) there refl

        numbered_block : (i : ℕ) → named_in (numbered_from 0 (block_names whole.units)) x ≡ Some i → Runs x v
        numbered_block i number =
            let k = block_at whole vs x i whole.units 0 library.blocks blocks_are number in
            let same = same_unit x v k.unit there k.among k.named in
            let sort : v.sort ≡ sorts.FunctionBlock = ap (λ (w : OrganisationUnit). w.sort) (sym same) ∙ k.sort in
            let chain = deep x v there (inr sort) (block_part x among) in
            let l = longer text n x chain in
            let slot : slice_get library.blocks i ≡ Some k.linked =
            ap (slice_get library.blocks) (sym (without_zero i k.position k.number)) ∙ k.there in
            let lift : (g : ℕ) → Among g (stmts_calls (units_calls library l.0) k.linked) → Found g =
            λ g a. lift_block x no_standard among g
            (λ j is. subst (λ e. Among g ((units_calls library n).blocks (own_block e))) (some_is (sym number ∙ is))
            (subst (λ e. Among g ((units_calls library e).blocks (own_block i))) (sym l.1)
            (subst (λ xs. Among g xs) (sym (block_calls_are library l.0 i k.linked slot)) a))) in
            record {
              depth = l.0;
              deep = parts_deep x v there l.0 (subst (λ e. has_chain text (suc e) (named x) ≡ false) l.1 chain);
              unit = record {
                symbols = symbols_of_block whole vs (resolved text v);
                instances = instances_among whole (sites_of_blocks (resolved text v).blocks);
                body = k.linked;
                instances_are = inl refl;
                is = subst (λ w. linked_block whole vs w ≡ Some k.linked) same k.is;
                held = lift;
              };
              itself = λ r s. absurd (let wrong : sorts.Function r ≡ sorts.FunctionBlock = sym s ∙ sort in cc);
            }

        called_block : (o : Option ℕ) → named_in (numbered_from 0 (block_names whole.units)) x ≡ o → Runs x v ⊎ All
        called_block None number =
            inr (λ g. lift_block x no_standard among g
            (λ i is. absurd (let wrong : None ≡ Some i = sym number ∙ is in cc)))
        called_block (Some i) number = inl (numbered_block i number)

  program_deep : (u : OrganisationUnit) → IsDeep u 64
  program_deep u z v there (inl s) part = own_shallow source h z v there (sorts.Function s.0) s.1 refl
  program_deep u z v there (inr s) part = own_shallow source h z v there sorts.FunctionBlock s refl

  -- from programs on
  module _ (names : List Name) (roots : (x : Name) (u : OrganisationUnit) → IsAmong x names
      → unit_named (units_in source) x ≡ Some u → (u.sort ≡ sorts.Program) × IsHeld u 64) where
    root_runs : (x : Name) (u : OrganisationUnit) → IsAmong x names → unit_named text.units x ≡ Some u → Runs x u
    root_runs x u among there =
        let r = roots x u among there in
        record {
          depth = 64;
          deep = program_deep u;
          unit = r.1;
          itself = λ t s. absurd (let wrong : sorts.Function t ≡ sorts.Program = sym s ∙ r.0 in cc);
        }

    next : (x y : Name) (u v : OrganisationUnit) → unit_named text.units y ≡ Some u → unit_named text.units x ≡ Some v
        → Among x (callees_of (resolved text u)) → (Runs y u ⊎ All) → Runs x v ⊎ All
    next x y u v is there among (inr all) = inr all
    next x y u v is there among (inl runs) =
        let units = (unit_found text.units y u is).among in
        let bs = (resolved text u).blocks in
        elim (in_either (calls_of (resolved text u))
        (flat_map (block_called (variables_of_blocks bs)) (all_in (stmts_of (resolved text u).body))) among) [
          | inl a ↦ called_function u units runs.depth runs.unit runs.deep x v there a
              (named_in (numbers_of whole).functions x) refl
          | inr a ↦ called_block u units runs.depth runs.unit runs.deep x v there a
              (named_in (numbered_from 0 (block_names whole.units)) x) refl
        ]

    reached_runs : (x : Name) (v : OrganisationUnit) → IsReached whole names x → unit_named text.units x ≡ Some v
        → Runs x v ⊎ All
    reached_runs x v (program among) there = inl (root_runs x v among there)
    reached_runs x v (callee {x = _} {y = y} {u = w} reached is among) there =
        let m = map_some (resolved text) (unit_named text.units y) w (sym (same_unit_named text text.units y) ∙ is) in
        next x y m.0 v m.1 there
        (of_among (callees_of (resolved text m.0)) (subst (λ u. IsAmong x (callees_of u)) (sym m.2) among))
        (reached_runs y m.0 reached m.1)

    -- each function that is reached is found by its number
    pub reached_found : (x : Name) (v : OrganisationUnit) (r : SimpleType) (i : ℕ)
        → IsReached (taken_text (declared_in source)) names x
        → unit_named (units_in source) x ≡ Some v → v.sort ≡ sorts.Function r
        → named_in (numbers_of (taken_text (declared_in source))).functions x ≡ Some i → Found i
    reached_found x v r i reached there sort number = elim (reached_runs x v reached there) [
      | inl runs ↦ runs.itself r sort i number
      | inr all ↦ all i
    ]
