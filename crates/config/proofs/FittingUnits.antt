-- Units of an accepted text are compiled, by their depth.
use Rattle.std.proofs.Common.{◌≡◌, refl, sym, ap, subst, ◌∙◌, ℕ, zero, suc, ◌+◌, ◌<◌, ◌≤◌, arith, Bool, true, false}
use Rattle.std.proofs.Common.{if◌then◌else◌, List, [], ◌∷◌, length, map, Option, Some, None, slice_get}
use Rattle.std.specs.Prelude.{bytes_eq, nat_lt, option_map, option_and_then}
use Rattle.std.specs.List.{list_all}
use Rattle.std.proofs.lemmas.Bool.Decides.{nat_tests}
use Rattle.st_types.specs.declared.identifier.Identifier.{Identifier}
use Rattle.st_types.specs.declared.limits.TheConstants.{MAX_PATHS}
use Rattle.st_types.specs.declared.path.Owner.{Owner}
use Rattle.st_types.specs.declared.data_type.SimpleType.{SimpleType}
use Rattle.st_types.specs.declared.data_type.SimpleType.TheVariants.{Named}
use Rattle.st_types.specs.declared.data_type.VariableType.TheVariants as types
use Rattle.st_types.specs.declared.unit.UnitSort.{UnitSort}
use Rattle.st_types.specs.declared.unit.UnitSort.TheVariants as sorts
use Rattle.st_types.specs.Sources.{Source}
use Rattle.st_types.specs.Statements.{Stmts, stmts_of}
use Rattle.st_types.specs.Units.{OrganisationUnit}
use Rattle.st_meaning.specs.Bodies.{externals_in}
use Rattle.st_meaning.specs.Enumerations.{enumerations_of}
use Rattle.st_meaning.specs.NameTypes.{Declared, declared_in, unit_named, units_in, variable_type, input_kinds}
use Rattle.st_meaning.specs.ResolvedUnits.{resolved}
use Rattle.st_meaning.specs.Scopes.{Name, block_named}
use Rattle.st_meaning.specs.StandardBlocks.{StandardBlock, BlockMember, block_of, members_of}
use Rattle.st_rules.specs.Containment.{named, calls_of, has_chain}
use Rattle.st_rules.specs.Environments.{Environment, is_block, is_instance}
use Rattle.st_rules.specs.BodyRules.{wrong_body}
use Rattle.st_rules.specs.Rules.{environment, IsWellTyped}
use Rattle.st_rules.specs.Statements.{outside}
use Rattle.layout.specs.LayoutVariables.{Owned, owned_variable}
use Rattle.layout.specs.Libraries.{instances_among, body_of_unit, fresh_values, input_names}
use Rattle.layout.specs.Libraries.{program_of_unit}
use Rattle.layout.specs.Names.{are_different, are_types_and_units_different, has_different_fields}
use Rattle.layout.specs.Names.{has_different_variables, variable_names}
use Rattle.layout.specs.Shapes.{Parts, size as size_of, sizes}
use Rattle.layout.specs.VariableSlots.{are_declared_once}
use Rattle.layout.specs.TextLayouts.{slots_of}
use Rattle.layout.specs.Types.{NamedSite, sites_of_blocks}
use Rattle.layout.proofs.ListLemmas.{same_name}
use Rattle.layout.proofs.NameLemmas.{variables_once}
use Rattle.layout.proofs.ResolvedLemmas.{taken_text, same_unit_named}
use Rattle.st_link.proofs.Among.{Among, here, later, in_map, none_of}
use Rattle.st_link.proofs.BodyRunLaw.{own_block}
use Rattle.st_link.proofs.FoundFunctions.{own_function}
use Rattle.st_link.proofs.FoundNames.{unit_in}
use Rattle.st_link.proofs.WellTypedTexts.{PartsRight, parts_right, text_right}
use Rattle.st_link.proofs.LibraryBodies.{body_taken}
use Rattle.st_link.proofs.LibraryFunctions.{inputs_taken}
use Rattle.st_link.proofs.ListTests.{all_at, as_among}
use Rattle.st_link.proofs.TakenBodies.{text_taken, statements_taken}
use Rattle.layout.specs.Growth.{is_too_large}
use Rattle.layout.specs.Layouts.{layout_size}
use Rattle.slot_trees.specs.SlotEvaluation.{slot_at}
use Rattle.slot_trees.specs.SlotTrees.{BlockCode, own_block as numbered_block, standard_block, SlotFunction, SlotStmts}
use Rattle.slot_trees.specs.Tables.{Symbol, Table, symbol_of, named_in}
use Rattle.slot_trees.specs.LinkedStatements.{Instance, instance_at, instance_of_symbol, linked_stmts}
use Rattle.slot_trees.specs.LinkedTexts.{EachInstance, layout_of_fresh, parts_of_members, table_of}
use Rattle.slot_trees.specs.TextLinks.{call_slot, call_slots, function_with, linked_block, linked_function}
use Rattle.slot_trees.specs.TextLinks.{linked_function_body, linked_program, names_in, sites_of_call}
use Rattle.slot_trees.specs.TextLinks.{symbols_of_block, symbols_of_function, symbols_of_program}
use Rattle.slot_trees.specs.TextNumbers.{block_names, members_of_block, numbered_from, numbers_of}
use Rattle.slot_trees.specs.TextNumbers.{own_codes, own_members, standard_codes, standard_members}
use Rattle.slot_trees.proofs.BlockLinks.{HasVariables, program_instances}
use Rattle.slot_trees.proofs.FunctionLinks.{function_link}
use Rattle.slot_trees.proofs.FunctionLayouts.{fresh_layout}
use Rattle.slot_trees.proofs.InstanceLemmas.{own_members_named}
use Rattle.slot_trees.proofs.NamedLemmas.{named_behind, named_first, named_mapped, standard_code, standard_member}
use Rattle.slot_trees.specs.LibraryViews.{KeptLibrary}
use Rattle.machine_code.specs.Fitting.{of_block, of_function, AllBelow}
use Rattle.machine_code.specs.Programs.{program_frame}
use Rattle.machine_code.specs.UnitFrames.{UnitFrame, end_of, instance_frame, call_frame}
use Rattle.st_compile.specs.Linked.{CallLinkedWithin, FunctionLinked, IfBodyLinked, IfFunctionLinked, InstanceLinked}
use Rattle.st_compile.specs.Linked.{ProgramLinked, StmtsLinked}
use Rattle.st_link.proofs.FunctionServes.{unit_in_order}
use Rattle.st_link.proofs.TakenTexts.{taken_differ}
use Rattle.st_link.proofs.UnitServes.{differ, named_once, unit_once}
use Rattle.config.specs.Sound.{StmtsSound, SymbolsWithin}
use Rattle.config.proofs.Names.{block_within, function_within, program_within}
use Rattle.config.proofs.Selected.{symbol_within}
use Rattle.config.proofs.LinkedStatements.{stmts_linked}
use Rattle.st_link.specs.KeptTexts.{block_fits, function_fits, is_linked, kept_block, kept_blocks, kept_function, kept_functions}
use Rattle.st_link.specs.KeptTexts.{kept_if}
use Rattle.config.specs.Bounded.{HasBoundedArrays}
use Rattle.config.specs.Callable.{IsCallable, AreInvocable}
use Rattle.config.specs.Spelled.{AreSpelled, HaveFewNames, IsAny, StmtsOf}
use Rattle.config.proofs.Calls.{stmts_of as calls_are}
use Rattle.config.proofs.InstanceLemmas.{block_instances}
use Rattle.config.proofs.Kept.{block_at, block_by, block_of as kept_block_of, function_at, function_by}
use Rattle.config.proofs.Kept.{function_of}
use Rattle.config.proofs.Shallow.{IsShallow, program_shallow, unit_shallow}
use Rattle.config.proofs.Signatures.{fresh_long, inputs_below, inputs_counted, layout_long, slot_below}
use Rattle.config.proofs.Statements.{stmts_sound}
use Rattle.std.proofs.lemmas.Bool.{or_parts, and_parts}
use Rattle.st_types.proofs.TestLemmas.{without_zero, false_from_not}
use Rattle.st_types.proofs.OptionLemmas.{some_is, map_some, then_some}

spelled_at : (us : List OrganisationUnit) (u : OrganisationUnit) → Among u us → AreSpelled us
    → StmtsOf IsAny (stmts_of u.body)
spelled_at us u (here) h = h.0
spelled_at us u (later k) h = spelled_at _ u k h.1

-- a unit that is kept exists
kept_some : {A : Type 0} (b : Bool) (o : Option A) (a : A) → kept_if b o ≡ Some (Some a)
    → (b ≡ true) × (o ≡ Some a)
kept_some true (Some c) a h = let e : Some c ≡ Some a = some_is h in (refl, e)
kept_some true None a h = absurd (cc)
kept_some false o a h = let e : None ≡ Some a = some_is h in absurd (cc)

pub members_long : (ms : List BlockMember) → sizes (parts_of_members ms) ≡ length ms
members_long [] = refl
members_long (m ∷ ms) = let rest = members_long ms in omega (arith, rest)

small_layout : (n : ℕ) → nat_lt MAX_PATHS n ≡ false → n < 65536
small_layout n h = grind (arith, nat_tests)

-- a function with instances is not linked
pub body_linked : (o : List (Name × Name)) (text : Declared) (symbols : List Symbol) (statements : Stmts)
    (body : SlotStmts) → linked_function_body text symbols o statements ≡ Some body
    → linked_stmts (table_of (numbers_of text) symbols []) statements ≡ Some body
body_linked [] text symbols statements body h = h
body_linked (i ∷ is) text symbols statements body h = absurd (cc)

-- code is made of units at which no chain of `n + 1` parts begins, called at most `n` deep
pub record UnitsCompiled (source : Source) (kept : KeptLibrary) (size n : ℕ) : Type 0 where
  pub functions : (f : Name) (u : OrganisationUnit) (r : SimpleType) (i start : ℕ)
      → unit_named (declared_in source).units f ≡ Some u → u.sort ≡ sorts.Function r
      → has_chain (declared_in source) (suc n) (named f) ≡ false
      → named_in (numbers_of (taken_text (declared_in source))).functions f ≡ Some i
      → CallLinkedWithin kept n (of_function i start (length (input_kinds (declared_in source) u.blocks)))
  pub blocks : (b : Identifier) (code : BlockCode) (ps : Parts) (s : UnitFrame)
      → is_block (declared_in source) b.name ≡ true → has_chain (declared_in source) (suc n) (named b.name) ≡ false
      → named_in (numbers_of (taken_text (declared_in source))).blocks b.name ≡ Some code
      → named_in (numbers_of (taken_text (declared_in source))).members b.name ≡ Some ps
      → s.size ≡ size → s.base + sizes ps ≤ s.size → CallLinkedWithin kept n (of_block code s)

module _ (source : Source) (called : Name → Bool) (h : IsWellTyped source) (vs : List Owned) (kept : KeptLibrary)
    (size : ℕ)
    (few : HaveFewNames (enumerations_of (declared_in source).types)) (spelled : AreSpelled (units_in source))
    (bounded : HasBoundedArrays (taken_text (declared_in source)) vs)
    (functions_are : kept_functions called (taken_text (declared_in source))
    (map (resolved (declared_in source)) (units_in source)) ≡ Some kept.functions)
    (blocks_are : kept_blocks (taken_text (declared_in source)) vs
    (map (resolved (declared_in source)) (units_in source)) ≡ Some kept.blocks)
    (room : length (slots_of (taken_text (declared_in source)) vs) ≤ size) (small : size < 65536) where
  abbrev text : Declared
  text = declared_in source

  abbrev whole : Declared
  whole = taken_text (declared_in source)

  right : PartsRight source
  right = parts_right source h

  names_differ : are_types_and_units_different whole ≡ true
  names_differ =
      taken_differ text
      (and_parts (are_different (map (λ t. t.name.name) text.types)) (are_types_and_units_different text)
      (differ source h)).1

  variables_differ : (u : OrganisationUnit) → Among u (units_in source)
      → has_different_variables (resolved text u) ≡ true
  variables_differ u among =
      all_at has_different_variables (in_map (resolved text) among)
      (and_parts (list_all (λ t. has_different_fields t.definition) whole.types)
      (list_all has_different_variables whole.units) names_differ).1

  -- a body, if the units that it calls are compiled
  module _ (m : ℕ) (units : UnitsCompiled source kept size m) (u : OrganisationUnit)
      (among : Among u (units_in source)) (shallow : IsShallow source u m) (s : UnitFrame) where
    abbrev env : Environment
    env = environment (declared_in source) u

    abbrev instances : List (Name × Name)
    instances = instances_among (taken_text (declared_in source))
        (sites_of_blocks (resolved (declared_in source) u).blocks)

    abbrev table : List Symbol → List (Name × Name) → Table
    table symbols is = table_of (numbers_of (taken_text (declared_in source))) symbols is

    callable : (symbols : List Symbol) (is : List (Name × Name)) (f : Name) → Among f (calls_of u)
        → IsCallable (CallLinkedWithin kept m) s env (table symbols is) f
    callable symbols is f called inputs result i e there =
        let d = own_function text u f inputs result e in
        subst (λ k. CallLinkedWithin kept m (of_function i (end_of s) k)) (ap length d.takes)
        (units.functions f d.unit d.result i (end_of s) d.declared d.sort
        (shallow.functions f d.unit d.result called d.declared d.sort) there)

    instance_named : (x : Name) (b : Identifier) → variable_type u x ≡ Some (types.Simple (Named b))
        → is_block text b.name ≡ true → block_named instances x ≡ Some b.name
    instance_named x b is block =
        subst (λ d. block_named (instances_among d (sites_of_blocks (resolved text u).blocks)) x ≡ Some b.name)
        (text_taken source)
        ((body_taken source right.types right.names u (unit_in source u among)).instances x b is block)

    invocable : (symbols : List Symbol) → EachInstance (numbers_of whole) symbols instances
        → SymbolsWithin s symbols → s.size ≡ size
        → AreInvocable (CallLinkedWithin kept m) s env (table symbols instances)
    invocable symbols each within same x b is block code i code_is i_is =
        let name = instance_named x b is block in
        let coded : named_in (numbers_of whole).blocks b.name ≡ Some code =
        sym (ap (option_and_then (named_in (numbers_of whole).blocks)) name) ∙ code_is in
        let y = then_some instance_of_symbol (symbol_of symbols x) i i_is in
        let e = each x b.name y.0 name y.1 in
        let made : instance_of_symbol y.0 ≡ Some (record { anchor = y.0.anchor; members = e.members }) =
        ap (λ (c : Bool). if c then None else instance_at y.0.anchor y.0.shape) e.is_variable
        ∙ ap (instance_at y.0.anchor) e.shape in
        let anchor : y.0.anchor ≡ i.anchor = ap (λ (j : Instance). j.anchor) (some_is (sym made ∙ y.2)) in
        let w = symbol_within s symbols x y.0 y.1 within in
        let there : slot_at s.base y.0.anchor + sizes e.members ≤ s.size =
        subst (λ sh. slot_at s.base y.0.anchor + size_of sh ≤ s.size) e.shape w.within in
        subst (λ a. CallLinkedWithin kept m (of_block code (instance_frame s (slot_at s.base a)))) anchor
        (units.blocks b code e.members (instance_frame s (slot_at s.base y.0.anchor)) block
        (shallow.instances x b is block) coded e.known same there)

    body_compiled : (symbols : List Symbol) (is : List (Name × Name)) (x : SlotStmts) → SymbolsWithin s symbols
        → s.size < 65536 → AreInvocable (CallLinkedWithin kept m) s env (table symbols is)
        → linked_stmts (table symbols is) (stmts_of (resolved text u).body) ≡ Some x
        → StmtsLinked (CallLinkedWithin kept m) s x
    body_compiled symbols is x within few_slots ready linked =
        let t = table symbols is in
        let known = (text_right source h).known u.name.name u (named_once source h u among) in
        let calls = calls_are (IsCallable (CallLinkedWithin kept m) s env t) outside (stmts_of u.body)
        (spelled_at (units_in source) u among spelled) (λ f called. callable symbols is f called) in
        let sound = stmts_sound (CallLinkedWithin kept m) s env t known few ready outside (stmts_of u.body)
        (none_of (λ d. wrong_body (environment text d)) among right.bodies) calls in
        stmts_linked (CallLinkedWithin kept m) s t few_slots within (stmts_of (resolved text u).body) x linked
        (subst (λ xs. StmtsSound (CallLinkedWithin kept m) s t xs) (sym (statements_taken text u u.body)) sound)

  -- a unit that is kept is that of its name
  same_unit : (x : Name) (u v : OrganisationUnit) → unit_named text.units x ≡ Some u → Among v (units_in source)
      → bytes_eq x v.name.name ≡ true → v ≡ u
  same_unit x u v is among named_so =
      some_is (sym (unit_once source right.names.once v among)
      ∙ ap (unit_named text.units) (sym (same_name x v.name.name named_so)) ∙ is)

  -- a function
  module _ (m : ℕ) (units : UnitsCompiled source kept size m) (u : OrganisationUnit)
      (among : Among u (units_in source)) (shallow : IsShallow source u m) (r : SimpleType)
      (sort : u.sort ≡ sorts.Function r) where
    abbrev taken : OrganisationUnit
    taken = resolved (declared_in source) u

    abbrev sites : List NamedSite
    sites = sites_of_call r (resolved (declared_in source) u)

    abbrev symbols : List Symbol
    symbols = symbols_of_function (taken_text (declared_in source)) r (resolved (declared_in source) u)

    call_once : are_declared_once whole (map (owned_variable None) sites) ≡ true
    call_once =
        variables_once whole names_differ sites
        (ap (λ t. are_different (variable_names t taken)) (sym sort) ∙ variables_differ u among)

    no_invocation : (s : UnitFrame) (is : List (Name × Name))
        → AreInvocable (CallLinkedWithin kept m) s (environment text u) (table_of (numbers_of whole) symbols is)
    no_invocation s is x b named_so block =
        let none = (text_right source h).functions u.name.name u r (named_once source h u among) sort x in
        absurd (let wrong : is_block text b.name ≡ false =
        sym (ap (is_instance (environment text u)) named_so) ∙ none in cc)

    few_values : function_fits whole r taken ≡ true → length (slots_of whole (map (owned_variable None) sites)) < 65536
    few_values fits =
        let n = or_parts (nat_lt MAX_PATHS (layout_size whole (map (owned_variable None) sites))) _
        (false_from_not (is_too_large whole (map (owned_variable None) sites)) fits) in
        subst (λ k. k < 65536) (sym (layout_long whole (map (owned_variable None) sites)))
        (small_layout (layout_size whole (map (owned_variable None) sites)) n.0)

    function_compiled : (g : SlotFunction) (start : ℕ) → function_fits whole r taken ≡ true
        → linked_function whole r taken ≡ Some g
        → FunctionLinked (CallLinkedWithin kept m) g start (length (input_kinds text u.blocks))
    function_compiled g start fits linked =
        let ds = map (owned_variable None) sites in
        let instances = (body_of_unit whole taken).instances in
        let body = linked_function_body whole symbols instances (stmts_of taken.body) in
        let a = then_some
        (λ inputs. option_and_then (λ result. option_map (function_with whole r taken inputs result) body)
        (call_slot symbols taken.name.name)) (call_slots symbols (input_names taken.blocks)) g linked in
        let b = then_some (λ result. option_map (function_with whole r taken a.0 result) body)
        (call_slot symbols taken.name.name) g a.2 in
        let c = map_some (function_with whole r taken a.0 b.0) body g b.2 in
        let link = function_link whole r taken g call_once linked in
        let values : length g.fresh ≡ length (slots_of whole ds) =
        ap length link.fresh ∙ fresh_long whole sites in
        let layout : length (layout_of_fresh (fresh_values whole sites)) ≡ length g.fresh =
        ap length (fresh_layout whole sites) ∙ sym values in
        let inputs = inputs_below (layout_of_fresh (fresh_values whole sites)) (input_names taken.blocks) g.inputs
        link.inputs in
        let result = slot_below (layout_of_fresh (fresh_values whole sites)) taken.name.name g.result link.result in
        let count : length (input_kinds text u.blocks) ≡ length g.inputs =
        inputs_counted text u.blocks ∙ ap length (sym (inputs_taken text u.blocks)) ∙ inputs.0 in
        let s = call_frame start (length g.fresh) in
        let few_slots : s.size < 65536 = subst (λ k. k < 65536) (sym values) (few_values fits) in
        let unit = as_among (in_map (resolved text) among) in
        let within : SymbolsWithin s symbols =
        function_within whole sites s refl (subst (λ k. length (slots_of whole ds) ≤ k) (sym values) (omega arith))
        (bounded.functions taken r unit sort) (taken.name.name ∷ names_in taken.blocks) in
        let same : c.0 ≡ g.body = ap (λ (f : SlotFunction). f.body) c.2 in (
          (
            count,
            subst (λ k. AllBelow k g.inputs) layout inputs.1,
            subst (λ k. g.result < k) layout result,
          ),
          body_compiled m units u among shallow s symbols [] g.body within few_slots (no_invocation s [])
              (body_linked instances whole symbols (stmts_of taken.body) g.body (c.1 ∙ ap Some same)),
        )

    function_if : (o : Option SlotFunction) (start : ℕ) → kept_function called whole r taken ≡ Some o
        → IfFunctionLinked (CallLinkedWithin kept m) (Some o) start (length (input_kinds text u.blocks))
    function_if None start is = tt
    function_if (Some g) start is =
        let k = kept_some (is_linked called whole r taken) (linked_function whole r taken) g is in
        function_compiled g start (and_parts (called taken.name.name) (function_fits whole r taken) k.0).1 k.1

  -- a block
  module _ (m : ℕ) (units : UnitsCompiled source kept size m) (u : OrganisationUnit)
      (among : Among u (units_in source)) (shallow : IsShallow source u m)
      (sort : u.sort ≡ sorts.FunctionBlock) where
    abbrev taken_block : OrganisationUnit
    taken_block = resolved (declared_in source) u

    block_compiled : (x : SlotStmts) (s : UnitFrame) → s.size ≡ size
        → s.base + sizes (members_of_block whole taken_block) ≤ s.size → linked_block whole vs taken_block ≡ Some x
        → StmtsLinked (CallLinkedWithin kept m) s x
    block_compiled x s same instance linked =
        let differ = ap (λ t. are_different (variable_names t taken_block)) (sym sort) ∙ variables_differ u among in
        let each = block_instances whole taken_block differ (unit_in_order source h u among) vs in
        let within : SymbolsWithin s (symbols_of_block whole vs taken_block) =
        block_within whole vs (members_of_block whole taken_block) (externals_in taken_block.blocks) s
        (subst (λ k. length (slots_of whole vs) ≤ k) (sym same) room) bounded.layout instance
        (bounded.blocks taken_block (as_among (in_map (resolved text) among)) sort) (names_in taken_block.blocks) in
        body_compiled m units u among shallow s (symbols_of_block whole vs taken_block)
        (instances_among whole (sites_of_blocks taken_block.blocks)) x within
        (subst (λ k. k < 65536) (sym same) small)
        (invocable m units u among shallow s (symbols_of_block whole vs taken_block) each within same) linked

    block_if : (o : Option SlotStmts) (s : UnitFrame) → s.size ≡ size
        → s.base + sizes (members_of_block whole taken_block) ≤ s.size → kept_block whole vs taken_block ≡ Some o
        → IfBodyLinked (CallLinkedWithin kept m) (Some o) s
    block_if None s same instance is = tt
    block_if (Some x) s same instance is =
        let k = kept_some (block_fits whole taken_block) (linked_block whole vs taken_block) x is in
        block_compiled x s same instance k.1

  -- by their depth
  function_kept : (f : Name) (i : ℕ) (u : OrganisationUnit) (r : SimpleType) → u.sort ≡ sorts.Function r
      → kept_function called whole r (resolved text u) ≡ function_of called text f i u
  function_kept f i u r sort = ap (λ (s : UnitSort). function_by called text f i s u) (sym sort)

  next_function : (m : ℕ) → UnitsCompiled source kept size m → (f : Name) (u : OrganisationUnit) (r : SimpleType)
      (i start : ℕ) → unit_named text.units f ≡ Some u → u.sort ≡ sorts.Function r
      → has_chain text (suc (suc m)) (named f) ≡ false → named_in (numbers_of whole).functions f ≡ Some i
      → CallLinkedWithin kept (suc m) (of_function i start (length (input_kinds text u.blocks)))
  unfolding CallLinkedWithin
  next_function m units f u r i start is sort none numbered =
      let k = function_at called text f i (units_in source) 0 kept.functions functions_are numbered in
      let same = same_unit f u k.unit is k.among k.named in
      let among = subst (λ (v : OrganisationUnit). Among v (units_in source)) same k.among in
      let kept_is : kept_function called whole r (resolved text u) ≡ Some k.value =
      function_kept f i u r sort ∙ ap (function_of called text f i) (sym same) ∙ k.is in
      let there : slice_get kept.functions i ≡ Some k.value =
      ap (slice_get kept.functions) (sym (without_zero i k.position k.number)) ∙ k.there in
      subst (λ (o : Option (Option SlotFunction)). IfFunctionLinked (CallLinkedWithin kept m) o start
      (length (input_kinds text u.blocks))) (sym there)
      (function_if m units u among (unit_shallow source h f u is m none) r sort k.value start kept_is)

  block_kept : (f : Name) (i : ℕ) (u : OrganisationUnit) → u.sort ≡ sorts.FunctionBlock
      → kept_block whole vs (resolved text u) ≡ kept_block_of called text f i vs u
  block_kept f i u sort = ap (λ (s : UnitSort). block_by called text f i vs s u) (sym sort)

  standard_compiled : (m : ℕ) (b : Name) (k : StandardBlock) (code : BlockCode) (ps : Parts) (s : UnitFrame)
      → block_of b ≡ Some k → named_in (numbers_of whole).blocks b ≡ Some code
      → named_in (numbers_of whole).members b ≡ Some ps → s.base + sizes ps ≤ s.size
      → InstanceLinked (CallLinkedWithin kept m) kept code s
  standard_compiled m b k code ps s is coded members instance =
      let code_is : standard_block k ≡ code =
      some_is (sym (named_first standard_codes (own_codes 0 (block_names whole.units)) b (standard_block k)
      (standard_code b ∙ ap (option_map standard_block) is)) ∙ coded) in
      let members_are : parts_of_members (members_of k) ≡ ps =
      some_is (sym (named_first standard_members (own_members whole whole.units) b (parts_of_members (members_of k))
      (standard_member b ∙ ap (option_map (λ i. parts_of_members (members_of i))) is)) ∙ members) in
      subst (λ (c : BlockCode). InstanceLinked (CallLinkedWithin kept m) kept c s) code_is
      (subst (λ n. s.base + n ≤ s.size) (ap sizes (sym members_are) ∙ members_long (members_of k)) instance)

  own_compiled : (m : ℕ) → UnitsCompiled source kept size m → (b : Name) (u : OrganisationUnit) (code : BlockCode)
      (ps : Parts) (s : UnitFrame) → block_of b ≡ None → unit_named text.units b ≡ Some u → u.sort ≡ sorts.FunctionBlock
      → has_chain text (suc (suc m)) (named b) ≡ false → named_in (numbers_of whole).blocks b ≡ Some code
      → named_in (numbers_of whole).members b ≡ Some ps → s.size ≡ size → s.base + sizes ps ≤ s.size
      → InstanceLinked (CallLinkedWithin kept m) kept code s
  own_compiled m units b u code ps s own is sort none coded members same_size instance =
      let names = block_names whole.units in
      let behind = named_behind standard_codes (own_codes 0 names) b
      (standard_code b ∙ ap (option_map standard_block) own) in
      let numbered : option_map numbered_block (named_in (numbered_from 0 names) b) ≡ Some code =
      sym (named_mapped numbered_block (numbered_from 0 names) b) ∙ sym behind ∙ coded in
      let n = map_some numbered_block (named_in (numbered_from 0 names) b) code numbered in
      let found : unit_named whole.units b ≡ Some (resolved text u) =
      same_unit_named text text.units b ∙ ap (option_map (resolved text)) is in
      let members_are : members_of_block whole (resolved text u) ≡ ps =
      some_is (sym (named_behind standard_members (own_members whole whole.units) b
      (standard_member b ∙ ap (option_map (λ i. parts_of_members (members_of i))) own)
      ∙ own_members_named whole b (resolved text u) sort whole.units found) ∙ members) in
      let k = block_at called text b n.0 vs (units_in source) 0 kept.blocks blocks_are n.1 in
      let same = same_unit b u k.unit is k.among k.named in
      let among = subst (λ (v : OrganisationUnit). Among v (units_in source)) same k.among in
      let kept_is : kept_block whole vs (resolved text u) ≡ Some k.value =
      block_kept b n.0 u sort ∙ ap (kept_block_of called text b n.0 vs) (sym same) ∙ k.is in
      let there : slice_get kept.blocks n.0 ≡ Some k.value =
      ap (slice_get kept.blocks) (sym (without_zero n.0 k.position k.number)) ∙ k.there in
      subst (λ (c : BlockCode). InstanceLinked (CallLinkedWithin kept m) kept c s) n.2
      (subst (λ (o : Option (Option SlotStmts)). IfBodyLinked (CallLinkedWithin kept m) o s) (sym there)
      (block_if m units u among (unit_shallow source h b u is m none) sort k.value s same_size
      (subst (λ qs. s.base + sizes qs ≤ s.size) (sym members_are) instance) kept_is))

  next_block : (m : ℕ) → UnitsCompiled source kept size m → (b : Identifier) (code : BlockCode) (ps : Parts) (s : UnitFrame)
      → is_block text b.name ≡ true → has_chain text (suc (suc m)) (named b.name) ≡ false
      → named_in (numbers_of whole).blocks b.name ≡ Some code → named_in (numbers_of whole).members b.name ≡ Some ps
      → s.size ≡ size → s.base + sizes ps ≤ s.size → CallLinkedWithin kept (suc m) (of_block code s)
  unfolding CallLinkedWithin
  next_block m units b code ps s block none coded members same instance = by_block (block_of b.name) refl
    where
      by_block : (o : Option StandardBlock) → block_of b.name ≡ o
          → InstanceLinked (CallLinkedWithin kept m) kept code s
      by_block (Some k) e = standard_compiled m b.name k code ps s e coded members instance
      by_block None e =
          let d = own_block text b.name e block in
          own_compiled m units b.name d.unit code ps s e d.declared d.sort none coded members same instance

  -- a chain of one part begins everywhere
  one_part : (x : Name) → has_chain text 1 (named x) ≡ false → ⊥
  unfolding has_chain
  one_part x none = cc

  pub units_compiled : (n : ℕ) → UnitsCompiled source kept size n
  units_compiled zero = record {
    functions = λ f u r i start is sort none numbered. absurd (one_part f none);
    blocks = λ b code ps s block none coded members same instance. absurd (one_part b.name none);
  }
  units_compiled (suc m) =
      let units = units_compiled m in
      record { functions = next_function m units; blocks = next_block m units }

  -- programs
  pub program_compiled : (u : OrganisationUnit) → Among u (units_in source) → u.sort ≡ sorts.Program
      → (owner : Owner) → HasVariables (taken_text (declared_in source)) (resolved (declared_in source) u) vs owner
      → (x : SlotStmts)
      → linked_program (taken_text (declared_in source)) vs owner (resolved (declared_in source) u) ≡ Some x
      → ProgramLinked kept 0 size x 64
  program_compiled u among sort owner has x linked =
      let taken = resolved text u in
      let s = program_frame 0 size in
      let symbols = symbols_of_program whole vs owner taken in
      let differ = ap (λ t. are_different (variable_names t taken)) (sym sort) ∙ variables_differ u among in
      let each = program_instances whole taken differ (unit_in_order source h u among) vs owner has in
      let within : SymbolsWithin s symbols =
      program_within whole vs s room bounded.layout (program_of_unit whole owner taken) (names_in taken.blocks) in
      body_compiled 64 (units_compiled 64) u among (program_shallow source h u) s symbols
      (instances_among whole (sites_of_blocks taken.blocks)) x within small
      (invocable 64 (units_compiled 64) u among (program_shallow source h u) s symbols each within refl) linked
