-- Calls of instances in which nothing is wrong end alike, if a run of the instance's block does.
use Rattle.std.proofs.Common.{◌≡◌, refl, sym, ap, subst, ◌∙◌, ℕ, Bool, true, false, ◌&&◌, not, if◌then◌else◌}
use Rattle.std.proofs.Common.{List, [], ◌∷◌, ◌++◌, Option, Some, None}
use Rattle.std.specs.Prelude.{map, option_and_then, is_some}
use Rattle.std.specs.List.{flat_map}
use Rattle.std.proofs.lemmas.Bool.{and_parts}
use Rattle.std.proofs.lemmas.List.Concat.{flat_map-append}
use Rattle.st_types.specs.declared.kind.Kind.{Kind}
use Rattle.st_types.specs.declared.identifier.Identifier.{Identifier}
use Rattle.st_types.specs.Values.{Datum}
use Rattle.st_types.specs.Paths.{Path}
use Rattle.st_types.specs.declared.data_type.SimpleType.TheVariants.{Named}
use Rattle.st_types.specs.declared.data_type.VariableType.{VariableType}
use Rattle.st_types.specs.declared.data_type.VariableType.TheVariants as types
use Rattle.st_types.specs.Expressions.{Expr, variable, Selectors}
use Rattle.st_types.specs.Statements.{Argument, given, copied, invoke}
use Rattle.st_meaning.specs.Failures.{StuckFaults, ill_typed, or_failure}
use Rattle.st_meaning.specs.Stores.{Store, get, assigned}
use Rattle.st_meaning.specs.Ticks.{◌>>=◌, give}
use Rattle.st_meaning.specs.StandardBlocks.{inputs_of, outputs_of}
use Rattle.st_meaning.specs.Scopes.{Name, Units, Scope, path_in, member_at, block_named}
use Rattle.st_meaning.specs.Evaluation.{value}
use Rattle.st_meaning.specs.Loops.{goes_on}
use Rattle.st_meaning.specs.Execution.{given_inputs, assigned_inputs, copied_outputs, ran_block, exec}
use Rattle.st_meaning.specs.NameTypes.{kind_among, block_variable, is_input, is_output}
use Rattle.st_meaning.specs.Resolution.{resolved_expr}
use Rattle.st_meaning.specs.ResolvedUnits.{resolved_argument, resolved_stmt}
use Rattle.st_rules.specs.declared.reason.Reason.{Reason}
use Rattle.st_rules.specs.declared.reason.TypeWord.{TypeWord}
use Rattle.st_rules.specs.declared.rule.Broken.{Broken}
use Rattle.st_rules.specs.declared.demand.Purpose.{Purpose}
use Rattle.st_rules.specs.declared.demand.Purpose.TheVariants as purposes
use Rattle.st_rules.specs.declared.demand.Sorts.TheVariants.{NoSort as no_sort}
use Rattle.st_rules.specs.declared.demand.Demand.TheVariants.{Asked as asked}
use Rattle.st_rules.specs.declared.typings.Typing.{Typing}
use Rattle.st_rules.specs.declared.typings.Typing.TheVariants.{Untyped as untyped, Elementary as elementary}
use Rattle.st_rules.specs.declared.typings.Typing.TheVariants.{Composite as composite, Nothing as nothing}
use Rattle.st_rules.specs.Faults.{breaking, unless}
use Rattle.st_rules.specs.Environments.{Environment, type_of_name, section_of, type_of_place, input_of}
use Rattle.st_rules.specs.Environments.{output_of}
use Rattle.st_rules.specs.Typings.{kind_of, is_untyped_typing, is_nothing, typing_of, typing_of_type, settled, allows}
use Rattle.st_rules.specs.Typings.{typing_of_variable}
use Rattle.st_rules.specs.Nodes.{nodes_of_place}
use Rattle.st_rules.specs.ExpressionRules.{wrong_variable, wrong_node, wrong_expression}
use Rattle.st_rules.specs.Statements.{Context}
use Rattle.st_rules.specs.Roots.{demand_of_typing, demand_of_type, roots_of_argument, targets_of_arguments}
use Rattle.st_rules.specs.Roots.{nodes_of_root}
use Rattle.st_rules.specs.TargetRules.{is_fixed, is_assignable, unassignable, wrong_target}
use Rattle.st_rules.specs.CallRules.{wrong_arguments, wrong_copy}
use Rattle.st_rules.proofs.TypingLaws.{kind_of_declared, untyped_declared}
use Rattle.st_link.specs.Soundness.{IsOf, with_units, IsPlace, root, Agrees, Keeps, UnitsAgree, IsKnown}
use Rattle.st_link.specs.Soundness.{AreKnown}
use Rattle.st_link.specs.UnitSoundness.{InstanceIsTyped}
use Rattle.st_link.proofs.KnownLemmas.{IsThere, variable_is_there, type_there, typing_known}
use Rattle.st_link.proofs.ValueLaw.{settled_known, place_alike, inside, asked_right}
use Rattle.st_link.proofs.AssignmentLaw.{composite_refused, exact_kind, assignable_there, assigned_succeeds}
use Rattle.st_link.proofs.RunsAlike.{RunsAlike, both_then, both_as, both_give, both_attempt, both_tick}
use Rattle.st_link.proofs.LoopLaw.{Leaves}
use Rattle.st_link.proofs.StatementParts.{StatementRight, RootsRight, first_root, unless_right}
use Rattle.st_link.proofs.StatementLaw.{there_succeeds, exact_alike}
use Rattle.st_types.proofs.TestLemmas.{false_from_not}
use Rattle.st_types.proofs.ListLemmas.{append_first, append_second}

-- places of a rule that is not broken
pub places_none : (reason : Reason) (ps : List ℕ) → breaking reason ps ≡ [] → ps ≡ []
places_none reason [] h = refl
places_none reason (p ∷ ps) h = absurd (cc)

pub place_right : (reason : Reason) (b : Bool) (at : ℕ) (rest : List Broken)
    → breaking reason (unless b at) ++ rest ≡ [] → (b ≡ true) × (rest ≡ [])
place_right reason true at rest h = (refl, h)
place_right reason false at rest h = absurd (cc)

pub some_there : {A : Type 0} (o : Option A) → is_some o ≡ true → (a : A) × (o ≡ Some a)
some_there (Some a) h = (a, refl)
some_there None h = absurd (cc)

-- a variable that may be assigned
pub record IsTarget (env : Environment) (x : Identifier) (xs : Selectors) : Type 0 where
  pub there : IsThere env x xs
  pub free : is_fixed (section_of env x.name) ≡ false

pub target_is : (env : Environment) → AreKnown env → (c : Context) (x : Identifier) (xs : Selectors)
    → wrong_target env c (variable x xs) ≡ [] → IsTarget env x xs
target_is env known c x xs h =
    let v = variable x xs in
    let faults = breaking (unassignable env c v)
    (if is_some (type_of_place env v) then unless (is_assignable env c v) x.place else []) in
    let there = variable_is_there env known x xs (append_first (wrong_variable env v) faults h) in
    let assignable =
    assignable_there (unassignable env c v) (type_of_place env v) there.behind.type_is (is_assignable env c v) x.place
    (type_there env x xs there) (append_second (wrong_variable env v) faults h) in
    let outer = (and_parts (not (is_fixed (section_of env x.name)) && _) _ assignable).0 in
    let free = (and_parts (not (is_fixed (section_of env x.name))) _ outer).0 in
    record { there = there; free = false_from_not (is_fixed (section_of env x.name)) free }

-- a type that its place demands, and the elementary type that both are
pub demanded_kind : (p : Purpose) (t u : Typing) → is_nothing t ≡ false → is_untyped_typing t ≡ false
    → is_nothing u ≡ false → allows (demand_of_typing p t) u ≡ true
    → (k : Kind) × (t ≡ elementary k) × (u ≡ elementary k)
demanded_kind p untyped u h i j m = absurd (cc)
demanded_kind p nothing u h i j m = absurd (cc)
demanded_kind p composite u h i j m = absurd (composite_refused u m j)
demanded_kind p (elementary k) u h i j m = (k, refl, exact_kind k u m j)

module _ (env : Environment) (w : Scope) (u v : Units) (i j : StuckFaults) (I : Store → Type 0)
    (agrees : (s : Store) → I s → Agrees env w s) (kept : (s t : Store) → I s → Keeps s t → I t)
    (units : UnitsAgree env u v) (known : AreKnown env) where
  abbrev one : Scope
  one = with_units u i w

  abbrev two : Scope
  two = with_units v j w

  abbrev tree : Option Kind → Expr → Expr
  tree k e = resolved_expr env.text env.unit k e

  -- an expression at a place of a declared type
  record Valued (t : VariableType) (e : Expr) (s : Store) : Type 0 where
    pub kind : Kind
    pub among : kind_among env.text.types t ≡ Some kind
    pub alike : RunsAlike (IsOf kind) (value one s (tree (Some kind) e)) (value two s (tree (Some kind) e))

  valued_by : (p : Purpose) (t : VariableType) (e : Expr) (ty : Typing) → typing_of_type env.text (Some t) ≡ ty
      → is_nothing ty ≡ false → is_untyped_typing ty ≡ false → wrong_expression env (demand_of_typing p ty) e ≡ []
      → (s : Store) → I s → Valued t e s
  valued_by p t e untyped is k n h s has = absurd (cc)
  valued_by p t e nothing is k n h s has = absurd (cc)
  valued_by p t e composite is k n h s has =
      let d = asked None no_sort p in
      absurd (composite_refused (settled None (typing_of env e)) (asked_right env d e h)
      (settled_known None (typing_of env e) (typing_known env known None e (inside env d e h))))
  valued_by p t e (elementary k) is n m h s has = record {
    kind = k;
    among = kind_of_declared env.text (Some t) ∙ ap kind_of is;
    alike = exact_alike env w u v i j I agrees kept units known k p e h s has;
  }

  valued : (p : Purpose) (t : VariableType) (e : Expr) → IsKnown env.text t
      → wrong_expression env (demand_of_type env p (Some t)) e ≡ []
      → (s : Store) → I s → Valued t e s
  valued p t e is h s has = valued_by p t e (typing_of_type env.text (Some t)) refl is
      (sym (untyped_declared env.text (Some t))) h s has

  module _ (x b : Identifier) (named : type_of_name env x.name ≡ Some (types.Simple (Named b)))
      (inputs_known : (y : Name) (t : VariableType)
      → block_variable env.text inputs_of is_input (types.Simple (Named b)) y ≡ Some t → IsKnown env.text t)
      (outputs_known : (y : Name) (t : VariableType)
      → block_variable env.text outputs_of is_output (types.Simple (Named b)) y ≡ Some t → IsKnown env.text t)
      (stands : (s : Store) → I s → InstanceIsTyped env.text s (path_in w.frame w.body x.name) b) where
    abbrev site : Path
    site = path_in w.frame w.body x.name

    -- inputs that are given
    record FitsInput (y : Name) (n : Datum) : Type 0 where
      pub declared : VariableType
      pub kind : Kind
      pub input : block_variable env.text inputs_of is_input (types.Simple (Named b)) y ≡ Some declared
      pub among : kind_among env.text.types declared ≡ Some kind
      pub is_of : IsOf kind n

    abbrev AreGiven : List (Name × Datum) → Type 0
    AreGiven [] = Unit {0}
    AreGiven (e ∷ es) = FitsInput e.0 e.1 × AreGiven es

    input_is : (y : Name)
        → input_of env x.name y ≡ block_variable env.text inputs_of is_input (types.Simple (Named b)) y
    input_is y = ap (option_and_then (λ t. block_variable env.text inputs_of is_input t y)) named

    output_is : (y : Name)
        → output_of env x.name y ≡ block_variable env.text outputs_of is_output (types.Simple (Named b)) y
    output_is y = ap (option_and_then (λ t. block_variable env.text outputs_of is_output t y)) named

    abbrev arguments_in : List Argument → List Argument
    arguments_in arguments = map (resolved_argument env.text env.unit x.name) arguments

    first_given : (y : Identifier) (e : Expr) (rest : List Argument) (t : VariableType)
        → input_of env x.name y.name ≡ Some t
        → wrong_expression env (demand_of_type env (purposes.Input y.place) (input_of env x.name y.name)) e ≡ []
        → (s : Store) → I s
        → RunsAlike AreGiven (given_inputs one s (arguments_in rest)) (given_inputs two s (arguments_in rest))
        → RunsAlike AreGiven (given_inputs one s (arguments_in (given y e ∷ rest)))
        (given_inputs two s (arguments_in (given y e ∷ rest)))
    first_given y e rest t is h s has others =
        let input = sym (input_is y.name) ∙ is in
        let p = purposes.Input y.place in
        let worth = valued p t e (inputs_known y.name t input)
        (subst (λ (o : Option VariableType). wrong_expression env (demand_of_type env p o) e ≡ []) is h) s has in
        let kind : option_and_then (kind_among env.text.types) (input_of env x.name y.name) ≡ Some worth.kind =
        ap (option_and_then (kind_among env.text.types)) is ∙ worth.among in
        subst (λ (o : Option Kind). RunsAlike AreGiven
        (value one s (tree o e) >>= (λ n. given_inputs one s (arguments_in rest) >>= (λ vs. give ((y.name, n) ∷ vs))))
        (value two s (tree o e) >>= (λ n. given_inputs two s (arguments_in rest) >>= (λ vs. give ((y.name, n) ∷ vs)))))
        (sym kind)
        (both_then worth.alike
        (λ n of. both_then others
        (λ vs fit. both_give AreGiven ((y.name, n) ∷ vs) (
          record { declared = t; kind = worth.kind; input = input; among = worth.among; is_of = of },
          fit,
        ))))

    given_alike : (block : TypeWord) (before : List Name) (arguments : List Argument)
        → wrong_arguments env block x.name before arguments ≡ []
        → RootsRight env (flat_map (roots_of_argument env x.name) arguments) → (s : Store) → I s
        → RunsAlike AreGiven (given_inputs one s (arguments_in arguments)) (given_inputs two s (arguments_in arguments))
    given_alike block before [] h roots s has = both_give AreGiven [] tt
    given_alike block before (given y e ∷ rest) h roots s has =
        let right = place_right _ _ y.place (wrong_arguments env block x.name (y.name ∷ before) rest) h in
        let input = some_there (input_of env x.name y.name)
        (and_parts (is_some (input_of env x.name y.name)) _ right.0).0 in
        let root = first_root env (demand_of_type env (purposes.Input y.place) (input_of env x.name y.name)) e
        (flat_map (roots_of_argument env x.name) rest) roots in
        first_given y e rest input.0 input.1 root.0 s has
        (given_alike block (y.name ∷ before) rest right.1 root.1 s has)
    given_alike block before (copied y z ∷ rest) h roots s has =
        let right = place_right _ _ y.place (wrong_arguments env block x.name (y.name ∷ before) rest) h in
        given_alike block (y.name ∷ before) rest right.1 roots s has

    -- inputs that are assigned
    inputs_alike : (vs : List (Name × Datum)) → AreGiven vs → (s : Store) → I s
        → RunsAlike I (assigned_inputs i site vs s) (assigned_inputs j site vs s)
    inputs_alike [] fit s has = both_give I s has
    inputs_alike (e ∷ es) fit s has =
        both_then (both_as {P = Keeps s} {Q = I} (λ t keeps. kept s t has keeps)
        (both_attempt (Keeps s) i j (assigned s (member_at site e.0) e.1)
        (assigned_succeeds s (member_at site e.0) e.1 fit.0.kind
        ((stands s has).inputs e.0 fit.0.declared fit.0.kind fit.0.input fit.0.among) fit.0.is_of)))
        (λ t is. inputs_alike es fit.1 t is)

    -- outputs that are copied
    first_copied : (c : Context) (y z : Identifier) (zs : Selectors) (rest : List Argument) (t : VariableType)
        → output_of env x.name y.name ≡ Some t → IsTarget env z zs
        → allows (demand_of_type env (purposes.Output y.place) (output_of env x.name y.name))
        (typing_of_variable env (variable z zs)) ≡ true
        → flat_map (wrong_node env) (nodes_of_place env (variable z zs)) ≡ [] → (s : Store) → I s
        → ((r : Store) → I r
        → RunsAlike I (copied_outputs one site (arguments_in rest) r) (copied_outputs two site (arguments_in rest) r))
        → RunsAlike I (copied_outputs one site (arguments_in (copied y (variable z zs) ∷ rest)) s)
        (copied_outputs two site (arguments_in (copied y (variable z zs) ∷ rest)) s)
    first_copied c y z zs rest t is target right parts s has others =
        let r = target.there.behind.type_is in
        let output = sym (output_is y.name) ∙ is in
        let p = purposes.Output y.place in
        let kinds = demanded_kind p (typing_of_type env.text (Some t)) (typing_of_type env.text (Some r))
        (outputs_known y.name t output) (sym (untyped_declared env.text (Some t))) target.there.behind.known
        (subst (λ (o : Option VariableType). allows (demand_of_type env p (Some t)) (typing_of_type env.text o) ≡ true)
        (type_there env z zs target.there)
        (subst (λ (o : Option VariableType). allows (demand_of_type env p o) (typing_of_variable env (variable z zs))
        ≡ true) is right)) in
        let k = kinds.0 in
        let source : kind_among env.text.types t ≡ Some k =
        kind_of_declared env.text (Some t) ∙ ap kind_of kinds.1 in
        let goal : kind_among env.text.types r ≡ Some k = kind_of_declared env.text (Some r) ∙ ap kind_of kinds.2 in
        let from = member_at site y.name in
        let to = path_in w.frame w.body z.name in
        both_then (both_attempt (IsOf k) i j (or_failure ill_typed (get s from))
        (there_succeeds (get s from) k ((stands s has).outputs y.name t k output source)))
        (λ n of. both_then {P = λ p. IsPlace env w s z.name p r}
        (record {
          ends = place_alike env w s u v i j (record { agrees = agrees s has; units = units; known = known }) z.name to
              target.there.declared (root z.name target.there.named) zs r target.there.behind.leads parts;
        })
        (λ p place. both_then (both_as {P = Keeps s} {Q = I} (λ q keeps. kept s q has keeps)
        (both_attempt (Keeps s) i j (assigned s p n)
        (assigned_succeeds s p n k ((agrees s has).stored k place target.free goal) of)))
        (λ q it. others q it)))

    copied_alike : (c : Context) (block : TypeWord) (before : List Name) (arguments : List Argument)
        → wrong_arguments env block x.name before arguments ≡ [] → flat_map (wrong_copy env x.name) arguments ≡ []
        → flat_map (wrong_target env c) (targets_of_arguments arguments) ≡ []
        → flat_map (wrong_node env) (flat_map (nodes_of_place env) (targets_of_arguments arguments)) ≡ []
        → (s : Store) → I s
        → RunsAlike I (copied_outputs one site (arguments_in arguments) s)
        (copied_outputs two site (arguments_in arguments) s)
    copied_alike c block before [] h copies targets parts s has = both_give I s has
    copied_alike c block before (given y e ∷ rest) h copies targets parts s has =
        let right = place_right _ _ y.place (wrong_arguments env block x.name (y.name ∷ before) rest) h in
        copied_alike c block (y.name ∷ before) rest right.1 copies targets parts s has
    copied_alike c block before (copied y (variable z zs) ∷ rest) h copies targets parts s has =
        let a = variable z zs in
        let right = place_right _ _ y.place (wrong_arguments env block x.name (y.name ∷ before) rest) h in
        let output = some_there (output_of env x.name y.name)
        (and_parts (is_some (output_of env x.name y.name)) _ right.0).0 in
        let copy = wrong_copy env x.name (copied y a) in
        let other_copies = flat_map (wrong_copy env x.name) rest in
        let target = wrong_target env c a in
        let other_targets = flat_map (wrong_target env c) (targets_of_arguments rest) in
        let nodes = nodes_of_place env a in
        let other_nodes = flat_map (nodes_of_place env) (targets_of_arguments rest) in
        let split : flat_map (wrong_node env) nodes ++ flat_map (wrong_node env) other_nodes ≡ [] =
        sym (flat_map-append (wrong_node env) nodes other_nodes) ∙ parts in
        first_copied c y z zs rest output.0 output.1 (target_is env known c z zs (append_first target other_targets targets))
        (unless_right _ _ z.place (append_first copy other_copies copies))
        (append_first (flat_map (wrong_node env) nodes) (flat_map (wrong_node env) other_nodes) split) s has
        (λ r is. copied_alike c block (y.name ∷ before) rest right.1 (append_second copy other_copies copies)
        (append_second target other_targets targets)
        (append_second (flat_map (wrong_node env) nodes) (flat_map (wrong_node env) other_nodes) split) r is)

    pub invoking_alike : (c : Context) (block : TypeWord) (arguments : List Argument)
        → StatementRight env c (invoke x arguments)
        → wrong_arguments env block x.name [] arguments ≡ [] → flat_map (wrong_copy env x.name) arguments ≡ []
        → ((s : Store) → I s → RunsAlike I (ran_block one site (block_named w.body.instances x.name) s)
        (ran_block two site (block_named w.body.instances x.name) s)) → (s : Store) → I s
        → RunsAlike (Leaves I) (exec one (resolved_stmt env.text env.unit (invoke x arguments)) s)
        (exec two (resolved_stmt env.text env.unit (invoke x arguments)) s)
    invoking_alike c block arguments right fit copies ran s has =
        let roots = flat_map (nodes_of_root env) (flat_map (roots_of_argument env x.name) arguments) in
        let parts = flat_map (nodes_of_place env) (targets_of_arguments arguments) in
        let split : flat_map (wrong_node env) roots ++ flat_map (wrong_node env) parts ≡ [] =
        sym (flat_map-append (wrong_node env) roots parts) ∙ right.nodes in
        both_tick (both_then
        (given_alike block [] arguments fit
        (append_first (flat_map (wrong_node env) roots) (flat_map (wrong_node env) parts) split) s has)
        (λ vs given. both_then (inputs_alike vs given s has)
        (λ t is. both_then (ran t is)
        (λ r was. both_then
        (copied_alike c block [] arguments fit copies right.targets
        (append_second (flat_map (wrong_node env) roots) (flat_map (wrong_node env) parts) split) r was)
        (λ z done. both_give (Leaves I) (goes_on z) done)))))
