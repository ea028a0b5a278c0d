-- Statements in which nothing is wrong are linked.
use Rattle.std.proofs.Common.{◌≡◌, refl, sym, ap, subst, ◌∙◌, true, false, if◌then◌else◌, List, []}
use Rattle.std.proofs.Common.{◌∷◌, ◌++◌, Option, Some, None, option_map, option_and_then}
use Rattle.std.specs.Prelude.{map, is_some}
use Rattle.std.specs.List.{flat_map}
use Rattle.std.proofs.lemmas.Bool.{and_parts}
use Rattle.std.proofs.lemmas.List.Concat.{flat_map-append}
use Rattle.st_types.specs.declared.identifier.Identifier.{Identifier}
use Rattle.st_types.specs.declared.kind.Kind.{Kind}
use Rattle.st_types.specs.declared.kind.Kind.TheVariants.{Bool as Boolean}
use Rattle.st_types.specs.declared.data_type.SimpleType.TheVariants.{Named}
use Rattle.st_types.specs.declared.data_type.VariableType.{VariableType}
use Rattle.st_types.specs.declared.data_type.VariableType.TheVariants as types
use Rattle.st_types.specs.Expressions.{Expr, Variable, variable, Selectors}
use Rattle.st_types.specs.Statements as text
use Rattle.st_types.specs.Statements.{Argument, Stmt, Stmts, Arms, CaseArms}
use Rattle.st_meaning.specs.NameTypes.{type_named, variable_type, block_variable, is_input, is_output}
use Rattle.st_meaning.specs.NameTypes.{kind_among, kind_of_variable}
use Rattle.st_meaning.specs.Resolution.{own_kind, resolved_expr, resolved_variable, resolved_selectors}
use Rattle.st_meaning.specs.ResolvedUnits.{kind_there, resolved_label, resolved_argument, resolved_stmt, resolved_stmts}
use Rattle.st_meaning.specs.ResolvedUnits.{resolved_arms, resolved_case_arms}
use Rattle.st_meaning.specs.Scopes.{Name}
use Rattle.st_meaning.specs.StandardBlocks.{StandardBlock, block_of, inputs_of, outputs_of}
use Rattle.st_rules.specs.declared.demand.Sorts.TheVariants.{Selecting as selecting, NoSort as no_sort}
use Rattle.st_rules.specs.declared.demand.Demand.{Demand}
use Rattle.st_rules.specs.declared.demand.Demand.TheVariants.{Asked as asked}
use Rattle.st_rules.specs.declared.demand.Purpose.{Purpose}
use Rattle.st_rules.specs.declared.demand.Purpose.TheVariants as purposes
use Rattle.st_rules.specs.declared.reason.TypeWord.{TypeWord}
use Rattle.st_rules.specs.declared.typings.Typing.{Typing}
use Rattle.st_rules.specs.declared.typings.Typing.TheVariants.{Untyped as untyped, Elementary as elementary}
use Rattle.st_rules.specs.declared.typings.Typing.TheVariants.{Composite as composite, Nothing as nothing}
use Rattle.st_rules.specs.Reasons.{type_word}
use Rattle.st_rules.specs.Environments.{Environment, type_of_name, type_of_place, section_of, is_block, input_of}
use Rattle.st_rules.specs.Environments.{output_of}
use Rattle.st_rules.specs.Demands.{condition, exactly}
use Rattle.st_rules.specs.Typings.{kind_of, typing_of, typing_of_type, typing_of_variable, is_nothing}
use Rattle.st_rules.specs.Typings.{is_untyped_typing, settled, allows}
use Rattle.st_rules.specs.Nodes.{node, nodes_of_place}
use Rattle.st_rules.specs.ExpressionRules.{wrong_node, wrong_expression}
use Rattle.st_rules.specs.Statements.{Context, placed, in_loop, in_for, statements_below, statements_of}
use Rattle.st_rules.specs.Statements.{statements_of_arms, statements_of_case_arms}
use Rattle.st_rules.specs.Roots.{demand_of_typing, demand_of_type, roots_of_argument, conditions_of, roots_of_step}
use Rattle.st_rules.specs.Roots.{targets_of_arguments, nodes_of_root}
use Rattle.st_rules.specs.TargetRules.{is_fixed, wrong_target}
use Rattle.st_rules.specs.CallRules.{wrong_arguments, wrong_copy}
use Rattle.st_rules.specs.BodyRules.{wrong_statement}
use Rattle.st_rules.proofs.TypingLaws.{kind_of_declared, untyped_declared}
use Rattle.layout.specs.Shapes.{plain}
use Rattle.layout.proofs.LibraryLemmas.{instance_made}
use Rattle.st_link.specs.Soundness.{IsKnown, of_variable}
use Rattle.st_link.specs.StatementSoundness.{BodyRight}
use Rattle.st_link.proofs.AssignmentLaw.{composite_refused, exact_kind, target_right}
use Rattle.st_link.proofs.AssignmentLaw.{nodes_right}
use Rattle.st_link.proofs.BodyRunLaw.{own_block}
use Rattle.st_link.proofs.CallLaw.{place_right, some_there, IsTarget, target_is, demanded_kind}
use Rattle.st_link.proofs.KnownLemmas.{IsThere, type_there, typing_known}
use Rattle.st_link.proofs.StatementParts.{statement_right, body_split, first_right, RootsRight}
use Rattle.st_link.proofs.StatementParts.{roots_right, first_root, unless_right, control_right}
use Rattle.st_link.proofs.TextParts.{invoked}
use Rattle.st_link.proofs.ValueLaw.{settled_known, inside, asked_right, kind_asked}
use Rattle.st_link.proofs.InstanceParts.{own_instance, standard_instance, input_part, output_part}
use Rattle.st_link.proofs.SoundMembers.{IsPart}
use Rattle.slot_trees.specs.SlotTrees.{SlotExpr, given, copied, SlotStmt, empty, assign, invoke, IF, CASE}
use Rattle.slot_trees.specs.SlotTrees.{FOR, WHILE, REPEAT, EXIT, RETURN, SlotStmts, no_stmts, stmt_then, SlotArms}
use Rattle.slot_trees.specs.SlotTrees.{no_arms, arm_then, SlotCaseArms, no_case_arms, case_arm_then}
use Rattle.slot_trees.specs.Tables.{Table, symbol_of, part_at}
use Rattle.slot_trees.specs.Linking.{linked, linked_target}
use Rattle.slot_trees.specs.LinkedStatements.{plain_anchor, control_of, instance_at, instance_of_symbol}
use Rattle.slot_trees.specs.LinkedStatements.{plain_offset, offset_of, linked_argument, linked_arguments, linked_step}
use Rattle.slot_trees.specs.LinkedStatements.{block_code_of, linked_call_of, linked_invocation, linked_stmt, linked_stmts}
use Rattle.slot_trees.specs.LinkedStatements.{linked_arms, linked_case_arms}
use Rattle.st_link.specs.Served.{IsLinked, HasSymbol, Serves, IsOrderly}
use Rattle.st_link.proofs.ExpressionLinks.{LeadsTo, target_linked, expr_linked, selectors_linked}
use Rattle.st_link.proofs.LinkedParts.{linked_and, linked_from, linked_map}
use Rattle.st_link.proofs.TypeShapes.{has_part, plain_shape, HasMembers, has_members, members_in}
use Rattle.st_types.proofs.ListLemmas.{append_first, append_second}

module _ (env : Environment) (t : Table) (orderly : IsOrderly env) (serves : Serves env t) where
  abbrev tree : Option Kind → Expr → Expr
  tree k e = resolved_expr env.text env.unit k e

  -- an expression of the type that a place demands
  exact_linked : (k : Kind) (p : Purpose) (e : Expr) → wrong_expression env (exactly k p) e ≡ []
      → IsLinked (linked t (tree (Some k) e))
  exact_linked k p e h =
      let within = inside env (exactly k p) e h in
      let kind = exact_kind k (settled (Some k) (typing_of env e)) (asked_right env (exactly k p) e h)
      (settled_known (Some k) (typing_of env e) (typing_known env orderly.known (Some k) e within)) in
      expr_linked env t orderly serves (Some k) e within k kind

  -- a target
  place_linked : (x : Identifier) (xs : Selectors) (there : IsThere env x xs) (k : Kind)
      → kind_among env.text.types there.behind.type_is ≡ Some k → is_fixed (section_of env x.name) ≡ false
      → flat_map (wrong_node env) (nodes_of_place env (variable x xs)) ≡ []
      → IsLinked (linked_target t (resolved_variable env.text env.unit (variable x xs)))
  place_linked x xs there k among free parts =
      let y = serves.symbols x.name there.declared there.named in
      let ys = resolved_selectors env.text env.unit xs in
      target_linked t x y.symbol y.there ys k
      (subst (λ sh. LeadsTo t sh ys k) (sym y.shape)
      (selectors_linked env t orderly serves xs y.depth there.declared (of_variable x.name there.named) y.within
      there.behind.type_is there.behind.leads k among parts))
      (y.free free)

  -- an assignment
  abbrev assigned : Option Kind → Variable → Expr → Option SlotStmt
  assigned k v e = option_and_then (λ p. option_map (assign p) (linked t (tree k e)))
      (linked_target t (resolved_variable env.text env.unit v))

  assigning_linked : (p : Purpose) (x : Identifier) (xs : Selectors) (e : Expr) (there : IsThere env x xs)
      → is_fixed (section_of env x.name) ≡ false → flat_map (wrong_node env) (nodes_of_place env (variable x xs)) ≡ []
      → (ty : Typing) → typing_of_type env.text (Some there.behind.type_is) ≡ ty → is_nothing ty ≡ false
      → is_untyped_typing ty ≡ false → wrong_expression env (demand_of_typing p ty) e ≡ []
      → IsLinked (assigned (kind_of ty) (variable x xs) e)
  assigning_linked p x xs e there free parts untyped is k n h = absurd (cc)
  assigning_linked p x xs e there free parts nothing is k n h = absurd (cc)
  assigning_linked p x xs e there free parts composite is k n h =
      let d = asked None no_sort p in
      absurd (composite_refused (settled None (typing_of env e)) (asked_right env d e h)
      (settled_known None (typing_of env e) (typing_known env orderly.known None e (inside env d e h))))
  assigning_linked p x xs e there free parts (elementary k) is known n h =
      let among = kind_of_declared env.text (Some there.behind.type_is) ∙ ap kind_of is in
      linked_and (λ p. option_map (assign p) (linked t (tree (Some k) e)))
      (linked_target t (resolved_variable env.text env.unit (variable x xs)))
      (place_linked x xs there k among free parts)
      (λ q. linked_map (assign q) (linked t (tree (Some k) e)) (exact_linked k p e h))

  assign_linked : (c : Context) (x : Identifier) (xs : Selectors) (e : Expr)
      → wrong_statement env (placed c (text.assign (variable x xs) e)) ≡ []
      → IsLinked (assigned (kind_of_variable env.text env.unit (variable x xs)) (variable x xs) e)
  assign_linked c x xs e h =
      let v = variable x xs in
      let right = nodes_right env c v e h in
      let target = target_is env orderly.known c x xs (target_right env c v e h) in
      let there = target.there in
      let is = type_there env x xs there in
      let kind : kind_of_variable env.text env.unit v
      ≡ kind_of (typing_of_type env.text (Some there.behind.type_is)) =
      kind_of_declared env.text (type_of_place env v) ∙ ap (λ o. kind_of (typing_of_type env.text o)) is in
      subst (λ (k : Option Kind). IsLinked (assigned k v e)) (sym kind)
      (assigning_linked (purposes.Assigned x.place) x xs e there target.free right.1
      (typing_of_type env.text (Some there.behind.type_is)) refl there.behind.known
      (sym (untyped_declared env.text (Some there.behind.type_is)))
      (subst (λ o. wrong_expression env (demand_of_type env (purposes.Assigned x.place) o) e ≡ []) is right.0))

  -- an expression at a place of a declared type
  record Valued (s : VariableType) (e : Expr) : Type 0 where
    pub kind : Kind
    pub among : kind_among env.text.types s ≡ Some kind
    pub linked : IsLinked (linked t (tree (Some kind) e))

  valued_by : (p : Purpose) (s : VariableType) (e : Expr) (ty : Typing) → typing_of_type env.text (Some s) ≡ ty
      → is_nothing ty ≡ false → is_untyped_typing ty ≡ false → wrong_expression env (demand_of_typing p ty) e ≡ []
      → Valued s e
  valued_by p s e untyped is k n h = absurd (cc)
  valued_by p s e nothing is k n h = absurd (cc)
  valued_by p s e composite is k n h =
      let d = asked None no_sort p in
      absurd (composite_refused (settled None (typing_of env e)) (asked_right env d e h)
      (settled_known None (typing_of env e) (typing_known env orderly.known None e (inside env d e h))))
  valued_by p s e (elementary k) is n m h = record {
    kind = k;
    among = kind_of_declared env.text (Some s) ∙ ap kind_of is;
    linked = exact_linked k p e h;
  }

  valued : (p : Purpose) (s : VariableType) (e : Expr) → IsKnown env.text s
      → wrong_expression env (demand_of_type env p (Some s)) e ≡ [] → Valued s e
  valued p s e is h = valued_by p s e (typing_of_type env.text (Some s)) refl is
      (sym (untyped_declared env.text (Some s))) h

  -- a call of an instance
  module _ (x b : Identifier) (named : type_of_name env x.name ≡ Some (types.Simple (Named b)))
      (is : is_block env.text b.name ≡ true) where
    abbrev type_of_block : VariableType
    type_of_block = types.Simple (Named b)

    symbol_is : HasSymbol env t.symbols x.name (types.Simple (Named b))
    symbol_is = serves.symbols x.name (types.Simple (Named b)) named

    none : type_named env.text.types b.name ≡ None
    none = orderly.apart b.name is

    members_by : (o : Option StandardBlock) → block_of b.name ≡ o
        → HasMembers env.text symbol_is.depth (types.Simple (Named b))
    members_by (Some k) e =
        has_members env.text symbol_is.depth type_of_block _ _ symbol_is.within
        (instance_made env.text type_of_block _ (standard_instance env.text orderly.names b k none e))
    members_by None e =
        let d = own_block env.text b.name e is in
        has_members env.text symbol_is.depth type_of_block _ _ symbol_is.within
        (instance_made env.text type_of_block _
        (own_instance env.text orderly.names b d.unit none e d.declared d.sort))

    its : HasMembers env.text symbol_is.depth (types.Simple (Named b))
    its = members_by (block_of b.name) refl

    offset_linked : (y : Name) (s : VariableType) (k : Kind) → IsPart env.text type_of_block y s
        → kind_among env.text.types s ≡ Some k → IsLinked (option_and_then offset_of (part_at its.members y))
    offset_linked y s k part among =
        let p = has_part env.text symbol_is.depth type_of_block y s symbol_is.within part in
        let same : p.members ≡ its.members = ap members_in (sym p.is ∙ its.is) in
        let shape : p.part.shape ≡ plain k =
        p.shape ∙ plain_shape env.text p.depth s k p.within among in
        record {
          value = p.part.offset;
          is = ap (λ ps. option_and_then offset_of (part_at ps y)) (sym same)
              ∙ ap (option_and_then offset_of) p.there ∙ ap (plain_offset p.part.offset) shape;
        }

    input_is : (y : Name) → input_of env x.name y ≡ block_variable env.text inputs_of is_input type_of_block y
    input_is y = ap (option_and_then (λ s. block_variable env.text inputs_of is_input s y)) named

    output_is : (y : Name) → output_of env x.name y ≡ block_variable env.text outputs_of is_output type_of_block y
    output_is y = ap (option_and_then (λ s. block_variable env.text outputs_of is_output s y)) named

    given_linked : (y : Identifier) (e : Expr) (s : VariableType) → input_of env x.name y.name ≡ Some s
        → wrong_expression env (demand_of_type env (purposes.Input y.place) (input_of env x.name y.name)) e ≡ []
        → IsLinked (linked_argument t its.members (resolved_argument env.text env.unit x.name (text.given y e)))
    given_linked y e s there h =
        let input = sym (input_is y.name) ∙ there in
        let p = purposes.Input y.place in
        let worth = valued p s e (orderly.inputs b y.name s input)
        (subst (λ (o : Option VariableType). wrong_expression env (demand_of_type env p o) e ≡ []) there h) in
        let kind : option_and_then (kind_among env.text.types) (input_of env x.name y.name) ≡ Some worth.kind =
        ap (option_and_then (kind_among env.text.types)) there ∙ worth.among in
        subst (λ (o : Option Kind). IsLinked (linked_argument t its.members (text.given y (tree o e)))) (sym kind)
        (linked_and (λ o. option_map (given o) (linked t (tree (Some worth.kind) e)))
        (option_and_then offset_of (part_at its.members y.name))
        (offset_linked y.name s worth.kind (input_part env.text orderly.names b y.name s none input) worth.among)
        (λ o. linked_map (given o) (linked t (tree (Some worth.kind) e)) worth.linked))

    copied_linked : (y z : Identifier) (zs : Selectors) (s : VariableType) → output_of env x.name y.name ≡ Some s
        → IsTarget env z zs
        → allows (demand_of_type env (purposes.Output y.place) (output_of env x.name y.name))
        (typing_of_variable env (variable z zs)) ≡ true
        → flat_map (wrong_node env) (nodes_of_place env (variable z zs)) ≡ []
        → IsLinked (linked_argument t its.members
        (resolved_argument env.text env.unit x.name (text.copied y (variable z zs))))
    copied_linked y z zs s there target right parts =
        let r = target.there.behind.type_is in
        let output = sym (output_is y.name) ∙ there in
        let p = purposes.Output y.place in
        let kinds = demanded_kind p (typing_of_type env.text (Some s)) (typing_of_type env.text (Some r))
        (orderly.outputs b y.name s output) (sym (untyped_declared env.text (Some s))) target.there.behind.known
        (subst (λ (o : Option VariableType). allows (demand_of_type env p (Some s)) (typing_of_type env.text o) ≡ true)
        (type_there env z zs target.there)
        (subst (λ (o : Option VariableType). allows (demand_of_type env p o) (typing_of_variable env (variable z zs))
        ≡ true) there right)) in
        let k = kinds.0 in
        let from : kind_among env.text.types s ≡ Some k = kind_of_declared env.text (Some s) ∙ ap kind_of kinds.1 in
        let to : kind_among env.text.types r ≡ Some k = kind_of_declared env.text (Some r) ∙ ap kind_of kinds.2 in
        let v = resolved_variable env.text env.unit (variable z zs) in
        linked_and (λ o. option_map (copied o) (linked_target t v))
        (option_and_then offset_of (part_at its.members y.name))
        (offset_linked y.name s k (output_part env.text orderly.names b y.name s none output) from)
        (λ o. linked_map (copied o) (linked_target t v) (place_linked z zs target.there k to target.free parts))

    abbrev arguments_in : List Argument → List Argument
    arguments_in arguments = map (resolved_argument env.text env.unit x.name) arguments

    first_linked : (a : Argument) (rest : List Argument)
        → IsLinked (linked_argument t its.members (resolved_argument env.text env.unit x.name a))
        → IsLinked (linked_arguments t its.members (arguments_in rest))
        → IsLinked (linked_arguments t its.members (arguments_in (a ∷ rest)))
    first_linked a rest h g =
        linked_and (λ z. option_map (λ zs. z ∷ zs) (linked_arguments t its.members (arguments_in rest)))
        (linked_argument t its.members (resolved_argument env.text env.unit x.name a)) h
        (λ z. linked_map (λ zs. z ∷ zs) (linked_arguments t its.members (arguments_in rest)) g)

    arguments_linked : (c : Context) (block : TypeWord) (before : List Name) (arguments : List Argument)
        → wrong_arguments env block x.name before arguments ≡ [] → flat_map (wrong_copy env x.name) arguments ≡ []
        → RootsRight env (flat_map (roots_of_argument env x.name) arguments)
        → flat_map (wrong_target env c) (targets_of_arguments arguments) ≡ []
        → flat_map (wrong_node env) (flat_map (nodes_of_place env) (targets_of_arguments arguments)) ≡ []
        → IsLinked (linked_arguments t its.members (arguments_in arguments))
    arguments_linked c block before [] h copies roots targets parts = record { value = []; is = refl }
    arguments_linked c block before (text.given y e ∷ rest) h copies roots targets parts =
        let right = place_right _ _ y.place (wrong_arguments env block x.name (y.name ∷ before) rest) h in
        let input = some_there (input_of env x.name y.name)
        (and_parts (is_some (input_of env x.name y.name)) _ right.0).0 in
        let root = first_root env (demand_of_type env (purposes.Input y.place) (input_of env x.name y.name)) e
        (flat_map (roots_of_argument env x.name) rest) roots in
        first_linked (text.given y e) rest (given_linked y e input.0 input.1 root.0)
        (arguments_linked c block (y.name ∷ before) rest right.1 copies root.1 targets parts)
    arguments_linked c block before (text.copied y (variable z zs) ∷ rest) h copies roots targets parts =
        let a = variable z zs in
        let right = place_right _ _ y.place (wrong_arguments env block x.name (y.name ∷ before) rest) h in
        let output = some_there (output_of env x.name y.name)
        (and_parts (is_some (output_of env x.name y.name)) _ right.0).0 in
        let copy = wrong_copy env x.name (text.copied y a) in
        let other_copies = flat_map (wrong_copy env x.name) rest in
        let target = wrong_target env c a in
        let other_targets = flat_map (wrong_target env c) (targets_of_arguments rest) in
        let nodes = nodes_of_place env a in
        let other_nodes = flat_map (nodes_of_place env) (targets_of_arguments rest) in
        let split : flat_map (wrong_node env) nodes ++ flat_map (wrong_node env) other_nodes ≡ [] =
        sym (flat_map-append (wrong_node env) nodes other_nodes) ∙ parts in
        first_linked (text.copied y a) rest
        (copied_linked y z zs output.0 output.1
        (target_is env orderly.known c z zs (append_first target other_targets targets))
        (unless_right _ _ z.place (append_first copy other_copies copies))
        (append_first (flat_map (wrong_node env) nodes) (flat_map (wrong_node env) other_nodes) split))
        (arguments_linked c block (y.name ∷ before) rest right.1 (append_second copy other_copies copies) roots
        (append_second target other_targets targets)
        (append_second (flat_map (wrong_node env) nodes) (flat_map (wrong_node env) other_nodes) split))

    instance_is : option_and_then instance_of_symbol (symbol_of t.symbols x.name)
        ≡ Some (record { anchor = symbol_is.symbol.anchor; members = its.members })
    instance_is =
        let y = symbol_is.symbol in
        ap (option_and_then instance_of_symbol) symbol_is.there
        ∙ ap (λ e. if e then None else instance_at y.anchor y.shape) (symbol_is.free (serves.free x.name b named is))
        ∙ ap (instance_at y.anchor) (symbol_is.shape ∙ its.is)

    invocation_linked : (arguments : List Argument)
        → IsLinked (linked_arguments t its.members (arguments_in arguments))
        → IsLinked (linked_invocation t x.name (arguments_in arguments))
    invocation_linked arguments h =
        let a = symbol_is.symbol.anchor in
        let zs = linked_arguments t its.members (arguments_in arguments) in
        linked_from (linked_call_of t x.name (arguments_in arguments))
        (option_and_then instance_of_symbol (symbol_of t.symbols x.name))
        (record { anchor = a; members = its.members }) instance_is
        (linked_and (λ code. option_map (invoke a code) zs) (block_code_of t x.name) (serves.instances x.name b named is)
        (λ code. linked_map (invoke a code) zs h))

  call_linked : (c : Context) (x : Identifier) (arguments : List Argument)
      → wrong_statement env (placed c (text.invoke x arguments)) ≡ []
      → IsLinked (linked_stmt t (resolved_stmt env.text env.unit (text.invoke x arguments)))
  call_linked c x arguments h =
      let right = statement_right env c (text.invoke x arguments) h in
      let call = invoked env orderly.known x arguments (type_of_name env x.name) refl right.invocation in
      let roots = flat_map (nodes_of_root env) (flat_map (roots_of_argument env x.name) arguments) in
      let parts = flat_map (nodes_of_place env) (targets_of_arguments arguments) in
      let split : flat_map (wrong_node env) roots ++ flat_map (wrong_node env) parts ≡ [] =
      sym (flat_map-append (wrong_node env) roots parts) ∙ right.nodes in
      invocation_linked x call.block call.named call.is arguments
      (arguments_linked x call.block call.named call.is c (type_word (types.Simple (Named call.block))) [] arguments
      call.fit call.copies
      (append_first (flat_map (wrong_node env) roots) (flat_map (wrong_node env) parts) split) right.targets
      (append_second (flat_map (wrong_node env) roots) (flat_map (wrong_node env) parts) split))

  -- a loop with a control variable
  control_linked : (x : Identifier) (s : VariableType) (k : Kind) → type_of_name env x.name ≡ Some s
      → is_fixed (section_of env x.name) ≡ false → kind_among env.text.types s ≡ Some k
      → IsLinked (option_and_then control_of (symbol_of t.symbols x.name))
  control_linked x s k named free among =
      let y = serves.symbols x.name s named in
      let z = y.symbol in
      record {
        value = z.anchor;
        is = ap (option_and_then control_of) y.there
            ∙ ap (λ e. if e then None else plain_anchor z.anchor z.shape) (y.free free)
            ∙ ap (plain_anchor z.anchor) (y.shape ∙ plain_shape env.text y.depth s k y.within among);
      }

  step_linked : (k : Kind) (p : Purpose) (step : Option Expr) → RootsRight env (roots_of_step (exactly k p) step)
      → IsLinked (linked_step t (option_map (tree (Some k)) step))
  step_linked k p None h = record { value = None; is = refl }
  step_linked k p (Some e) h =
      linked_map Some (linked t (tree (Some k) e)) (exact_linked k p e (first_root env (exactly k p) e [] h).0)

  abbrev counted : Option Kind → Identifier → Expr → Expr → Option Expr → Option SlotStmts → Option SlotStmt
  counted o x start limit step body =
      option_and_then (λ a. option_and_then (λ i. option_and_then (λ n. option_and_then
      (λ d. option_map (FOR a i n d) body) (linked_step t (option_map (tree o) step))) (linked t (tree o limit)))
      (linked t (tree o start))) (option_and_then control_of (symbol_of t.symbols x.name))

  counting_linked : (k : Kind) (p : Purpose) (x : Identifier) (start limit : Expr) (step : Option Expr)
      (body : Option SlotStmts)
      → IsLinked (option_and_then control_of (symbol_of t.symbols x.name))
      → RootsRight env (node (exactly k p) start ∷ node (exactly k p) limit ∷ roots_of_step (exactly k p) step)
      → IsLinked body → IsLinked (counted (Some k) x start limit step body)
  counting_linked k p x start limit step body control h bodies =
      let first = first_root env (exactly k p) start (node (exactly k p) limit ∷ roots_of_step (exactly k p) step) h in
      let second = first_root env (exactly k p) limit (roots_of_step (exactly k p) step) first.1 in
      let from = linked t (tree (Some k) start) in
      let to = linked t (tree (Some k) limit) in
      let by = linked_step t (option_map (tree (Some k)) step) in
      linked_and
      (λ a. option_and_then
      (λ i. option_and_then (λ n. option_and_then (λ d. option_map (FOR a i n d) body) by) to) from)
      (option_and_then control_of (symbol_of t.symbols x.name)) control
      (λ a. linked_and (λ i. option_and_then (λ n. option_and_then (λ d. option_map (FOR a i n d) body) by) to) from
      (exact_linked k p start first.0)
      (λ i. linked_and (λ n. option_and_then (λ d. option_map (FOR a i n d) body) by) to
      (exact_linked k p limit second.0)
      (λ n. linked_and (λ d. option_map (FOR a i n d) body) by (step_linked k p step second.1)
      (λ d. linked_map (FOR a i n d) body bodies))))

  for_linked : (c : Context) (x : Identifier) (start limit : Expr) (step : Option Expr) (xs : Stmts)
      → wrong_statement env (placed c (text.FOR x start limit step xs)) ≡ [] → (body : Option SlotStmts)
      → IsLinked body
      → IsLinked (counted (kind_there env.text (variable_type env.unit x.name)) x start limit step body)
  for_linked c x start limit step xs h body bodies =
      let right = statement_right env c (text.FOR x start limit step xs) h in
      let control = control_right env orderly.known c x right.control in
      let k = control.kind in
      let p = purposes.Count x.place in
      let typing = ap (λ o. typing_of_type env.text o) control.named ∙ control.typed in
      let kind : kind_there env.text (variable_type env.unit x.name) ≡ Some k =
      kind_of_declared env.text (type_of_name env x.name) ∙ ap kind_of typing in
      let among : kind_among env.text.types control.declared ≡ Some k =
      kind_of_declared env.text (Some control.declared) ∙ ap kind_of control.typed in
      let roots = subst
      (λ (d : Demand). RootsRight env (node d start ∷ node d limit ∷ roots_of_step d step))
      (ap (demand_of_typing p) typing) (roots_right env (text.FOR x start limit step xs) right.nodes) in
      subst (λ (o : Option Kind). IsLinked (counted o x start limit step body)) (sym kind)
      (counting_linked k p x start limit step body
      (control_linked x control.declared k control.named control.free among) roots bodies)

  -- the selector of a CASE
  selector_linked : (e : Expr) → wrong_expression env (asked None selecting purposes.Selector) e ≡ []
      → IsLinked (linked t (tree None e))
  selector_linked e h =
      let kind = kind_asked env orderly.known None selecting purposes.Selector e h in
      expr_linked env t orderly serves None e (inside env (asked None selecting purposes.Selector) e h) kind.0 kind.1

  -- statements in statements
  abbrev body_of : Stmts → Option SlotStmts
  body_of xs = linked_stmts t (resolved_stmts env.text env.unit xs)

  abbrev arms_of : Arms → Option SlotArms
  arms_of arms = linked_arms t (resolved_arms env.text env.unit arms)

  abbrev cases_of : Option Kind → CaseArms → Option SlotCaseArms
  cases_of k arms = linked_case_arms t (resolved_case_arms env.text env.unit k arms)

  abbrev choosing : Option SlotArms → Option SlotStmts → Option SlotStmt
  choosing arms otherwise = option_and_then (λ a. option_map (IF a) otherwise) arms

  abbrev selecting_of : Option SlotExpr → Option SlotCaseArms → Option SlotStmts → Option SlotStmt
  selecting_of e arms otherwise =
      option_and_then (λ x. option_and_then (λ a. option_map (CASE x a) otherwise) arms) e

  choice_linked : (arms : Option SlotArms) (otherwise : Option SlotStmts) → IsLinked arms → IsLinked otherwise
      → IsLinked (choosing arms otherwise)
  choice_linked arms otherwise h g =
      linked_and (λ a. option_map (IF a) otherwise) arms h (λ a. linked_map (IF a) otherwise g)

  case_linked : (e : Option SlotExpr) (arms : Option SlotCaseArms) (otherwise : Option SlotStmts) → IsLinked e
      → IsLinked arms → IsLinked otherwise → IsLinked (selecting_of e arms otherwise)
  case_linked e arms otherwise h g i =
      linked_and (λ x. option_and_then (λ a. option_map (CASE x a) otherwise) arms) e h
      (λ x. linked_and (λ a. option_map (CASE x a) otherwise) arms g (λ a. linked_map (CASE x a) otherwise i))

  while_linked : (e : Option SlotExpr) (body : Option SlotStmts) → IsLinked e → IsLinked body
      → IsLinked (option_and_then (λ x. option_map (WHILE x) body) e)
  while_linked e body h g = linked_and (λ x. option_map (WHILE x) body) e h (λ x. linked_map (WHILE x) body g)

  repeat_linked : (e : Option SlotExpr) (body : Option SlotStmts) → IsLinked e → IsLinked body
      → IsLinked (option_and_then (λ x. option_map (λ b. REPEAT b x) body) e)
  repeat_linked e body h g =
      linked_and (λ x. option_map (λ b. REPEAT b x) body) e h (λ x. linked_map (λ b. REPEAT b x) body g)

  arm_linked : (e : Option SlotExpr) (body : Option SlotStmts) (arms : Option SlotArms) → IsLinked e → IsLinked body
      → IsLinked arms
      → IsLinked (option_and_then (λ x. option_and_then (λ b. option_map (arm_then x b) arms) body) e)
  arm_linked e body arms h g i =
      linked_and (λ x. option_and_then (λ b. option_map (arm_then x b) arms) body) e h
      (λ x. linked_and (λ b. option_map (arm_then x b) arms) body g (λ b. linked_map (arm_then x b) arms i))

  mutual
    pub stmt_linked : (c : Context) (x : Stmt) → wrong_statement env (placed c x) ≡ []
        → BodyRight env (statements_below c x) → IsLinked (linked_stmt t (resolved_stmt env.text env.unit x))
    stmt_linked c text.empty h below = record { value = empty; is = refl }
    stmt_linked c (text.assign (variable x xs) e) h below = assign_linked c x xs e h
    stmt_linked c (text.invoke x arguments) h below = call_linked c x arguments h
    stmt_linked c (text.IF arms otherwise) h below =
        let right = statement_right env c (text.IF arms otherwise) h in
        let parts = body_split env (statements_of_arms c arms) (statements_of c otherwise) below in
        choice_linked (arms_of arms) (body_of otherwise)
        (arms_linked c arms (roots_right env (text.IF arms otherwise) right.nodes) parts.0)
        (stmts_linked c otherwise parts.1)
    stmt_linked c (text.CASE e arms otherwise) h below =
        let right = statement_right env c (text.CASE e arms otherwise) h in
        let parts = body_split env (statements_of_case_arms c arms) (statements_of c otherwise) below in
        let selector = first_root env (asked None selecting purposes.Selector) e []
        (roots_right env (text.CASE e arms otherwise) right.nodes) in
        case_linked (linked t (tree None e)) (cases_of (own_kind env.text env.unit e) arms) (body_of otherwise)
        (selector_linked e selector.0) (cases_linked c (own_kind env.text env.unit e) arms parts.0)
        (stmts_linked c otherwise parts.1)
    stmt_linked c (text.FOR x start limit step body) h below =
        for_linked c x start limit step body h (body_of body) (stmts_linked (in_for x.name c) body below)
    stmt_linked c (text.WHILE e body) h below =
        let right = statement_right env c (text.WHILE e body) h in
        let test = first_root env condition e [] (roots_right env (text.WHILE e body) right.nodes) in
        while_linked (linked t (tree (Some Boolean) e)) (body_of body)
        (exact_linked Boolean purposes.Condition e test.0)
        (stmts_linked (in_loop c) body below)
    stmt_linked c (text.REPEAT body e) h below =
        let right = statement_right env c (text.REPEAT body e) h in
        let test = first_root env condition e [] (roots_right env (text.REPEAT body e) right.nodes) in
        repeat_linked (linked t (tree (Some Boolean) e)) (body_of body)
        (exact_linked Boolean purposes.Condition e test.0)
        (stmts_linked (in_loop c) body below)
    stmt_linked c (text.EXIT at) h below = record { value = EXIT; is = refl }
    stmt_linked c text.RETURN h below = record { value = RETURN; is = refl }

    pub stmts_linked : (c : Context) (xs : Stmts) → BodyRight env (statements_of c xs)
        → IsLinked (linked_stmts t (resolved_stmts env.text env.unit xs))
    stmts_linked c text.no_stmts h = record { value = no_stmts; is = refl }
    stmts_linked c (text.stmt_then x xs) h =
        let right = first_right env c x xs h in
        linked_and (λ y. option_map (stmt_then y) (linked_stmts t (resolved_stmts env.text env.unit xs)))
        (linked_stmt t (resolved_stmt env.text env.unit x)) (stmt_linked c x right.itself right.below)
        (λ y. linked_map (stmt_then y) (linked_stmts t (resolved_stmts env.text env.unit xs))
        (stmts_linked c xs right.rest))

    arms_linked : (c : Context) (arms : Arms) → RootsRight env (conditions_of arms)
        → BodyRight env (statements_of_arms c arms) → IsLinked (linked_arms t (resolved_arms env.text env.unit arms))
    arms_linked c text.no_arms roots below = record { value = no_arms; is = refl }
    arms_linked c (text.arm_then e body arms) roots below =
        let first = first_root env condition e (conditions_of arms) roots in
        let parts = body_split env (statements_of c body) (statements_of_arms c arms) below in
        arm_linked (linked t (tree (Some Boolean) e)) (body_of body) (arms_of arms)
        (exact_linked Boolean purposes.Condition e first.0)
        (stmts_linked c body parts.0) (arms_linked c arms first.1 parts.1)

    cases_linked : (c : Context) (k : Option Kind) (arms : CaseArms) → BodyRight env (statements_of_case_arms c arms)
        → IsLinked (linked_case_arms t (resolved_case_arms env.text env.unit k arms))
    cases_linked c k text.no_case_arms below = record { value = no_case_arms; is = refl }
    cases_linked c k (text.case_arm_then labels body arms) below =
        let parts = body_split env (statements_of c body) (statements_of_case_arms c arms) below in
        let ls = map (resolved_label env.text k) labels in
        linked_and (λ b. option_map (case_arm_then ls b) (cases_of k arms)) (body_of body) (stmts_linked c body parts.0)
        (λ b. linked_map (case_arm_then ls b) (cases_of k arms) (cases_linked c k arms parts.1))
