-- Statements in which nothing is wrong are sound.
use Rattle.std.proofs.Common.{◌≡◌, refl, sym, subst, ◌∙◌, List, [], ◌∷◌, ◌++◌, Option, Some, None, option_map}
use Rattle.std.specs.Prelude.{map}
use Rattle.std.specs.List.{flat_map}
use Rattle.std.proofs.lemmas.List.Concat.{flat_map-append}
use Rattle.st_types.specs.declared.identifier.Identifier.{Identifier}
use Rattle.st_types.specs.declared.kind.Kind.{Kind}
use Rattle.st_types.specs.declared.kind.Kind.TheVariants.{Bool as Boolean}
use Rattle.st_types.specs.declared.data_type.VariableType.{VariableType}
use Rattle.st_types.specs.declared.statement.Label.{Label}
use Rattle.st_types.specs.Expressions.{Expr, Variable, variable}
use Rattle.st_types.specs.Statements as text
use Rattle.st_types.specs.Statements.{Argument, Stmt, Stmts, Arms, CaseArms}
use Rattle.st_meaning.specs.Enumerations.{enumerations_of}
use Rattle.st_meaning.specs.Resolution.{own_kind, resolved_expr, resolved_variable}
use Rattle.st_meaning.specs.ResolvedUnits.{kind_there, resolved_argument, resolved_stmt, resolved_stmts, resolved_arms}
use Rattle.st_meaning.specs.ResolvedUnits.{resolved_case_arms}
use Rattle.st_rules.specs.declared.demand.Sorts.TheVariants.{Selecting as selecting}
use Rattle.st_rules.specs.declared.demand.Demand.TheVariants.{Asked as asked}
use Rattle.st_rules.specs.declared.demand.Purpose.{Purpose}
use Rattle.st_rules.specs.declared.demand.Purpose.TheVariants as purposes
use Rattle.st_rules.specs.declared.typings.Typing.{Typing}
use Rattle.st_rules.specs.declared.typings.Typing.TheVariants.{Untyped as untyped, Elementary as elementary}
use Rattle.st_rules.specs.declared.typings.Typing.TheVariants.{Composite as composite, Nothing as nothing}
use Rattle.st_rules.specs.BodyRules.{wrong_exit, wrong_statement}
use Rattle.st_rules.specs.CallRules.{wrong_invocation}
use Rattle.st_rules.specs.Demands.{expected_of, condition}
use Rattle.st_rules.specs.Environments.{Environment, type_of_name, type_of_place, input_of}
use Rattle.st_rules.specs.ExpressionRules.{wrong_node, wrong_expression}
use Rattle.st_rules.specs.LabelRules.{labels_of, wrong_label, wrong_spans, spans_of, wrong_case}
use Rattle.st_rules.specs.Nodes.{node, nodes_of_place}
use Rattle.st_rules.specs.Roots.{demand_of_typing, demand_of_type, roots_of_argument, conditions_of, roots_of_step}
use Rattle.st_rules.specs.Roots.{targets_of_arguments, nodes_of_root, wrong_nodes}
use Rattle.st_rules.specs.Statements.{Context, placed, in_loop, in_for, statements_below, statements_of}
use Rattle.st_rules.specs.Statements.{statements_of_arms, statements_of_case_arms}
use Rattle.st_rules.specs.TargetRules.{wrong_targets, wrong_for}
use Rattle.st_rules.specs.Typings.{kind_of, settled, typing_of, typing_of_type}
use Rattle.st_rules.proofs.TypingLaws.{kind_of_declared}
use Rattle.st_link.specs.Soundness.{AreKnown}
use Rattle.st_link.specs.StatementSoundness.{BodyRight}
use Rattle.st_link.proofs.AssignmentLaw.{nodes_right}
use Rattle.st_link.proofs.StatementParts.{statement_right, body_split, first_right, RootsRight, roots_right, first_root}
use Rattle.st_link.proofs.TextParts.{invoked}
use Rattle.st_link.proofs.ValueLaw.{inside}
use Rattle.slot_trees.specs.Tables.{Table}
use Rattle.machine_code.specs.Fitting.{UnitCall}
use Rattle.machine_code.specs.UnitFrames.{UnitFrame}
use Rattle.config.specs.Sound.{ExprSound, VariableSound, StepSound, ArgumentsSound, StmtSound, StmtsSound}
use Rattle.config.specs.Sound.{ArmsSound}
use Rattle.config.specs.Sound.{CaseArmsSound}
use Rattle.config.specs.Callable.{IsCallable, AreInvocable}
use Rattle.config.specs.Spelled.{HaveFewNames, ExprOf, VariableOf, StepOf, ArgumentsOf, StmtOf, StmtsOf, ArmsOf}
use Rattle.config.specs.Spelled.{CaseArmsOf}
use Rattle.config.proofs.Expressions.{expr_sound, selectors_sound}
use Rattle.config.proofs.LiteralLemmas.{labels_right}
use Rattle.st_types.proofs.ListLemmas.{append_first, append_second}

demanded : (p : Purpose) (ty : Typing) → expected_of (demand_of_typing p ty) ≡ kind_of ty
demanded p untyped = refl
demanded p (elementary k) = refl
demanded p composite = refl
demanded p nothing = refl

-- the labels of a statement
cases_right : (env : Environment) (c : Context) (x : Stmt) → wrong_statement env (placed c x) ≡ []
    → wrong_case env x ≡ []
cases_right env c x h =
    let n = wrong_nodes env x in
    let t = wrong_targets env c x in
    let v = wrong_invocation env x in
    let k = wrong_case env x in
    let f = wrong_for env c x in
    let to_control = append_first ((((n ++ t) ++ v) ++ k) ++ f) (wrong_exit c.in_loop x) h in
    append_second ((n ++ t) ++ v) k (append_first (((n ++ t) ++ v) ++ k) f to_control)

module _ (C : UnitCall → Type 0) (s : UnitFrame) (env : Environment) (t : Table) (known : AreKnown env)
    (few : HaveFewNames (enumerations_of env.text.types)) (instances : AreInvocable C s env t) where
  -- an expression at a place of a declared type
  demanded_sound : (p : Purpose) (o : Option VariableType) (e : Expr)
      → wrong_expression env (demand_of_type env p o) e ≡ [] → ExprOf (IsCallable C s env t) e
      → ExprSound C s t (resolved_expr env.text env.unit (kind_there env.text o) e)
  demanded_sound p o e h of =
      let d = demand_of_type env p o in
      let same : expected_of d ≡ kind_there env.text o =
      demanded p (typing_of_type env.text o) ∙ sym (kind_of_declared env.text o) in
      subst (λ (k : Option Kind). ExprSound C s t (resolved_expr env.text env.unit k e)) same
      (expr_sound C s env t (expected_of d) e (inside env d e h) of)

  variable_sound : (v : Variable) → flat_map (wrong_node env) (nodes_of_place env v) ≡ []
      → VariableOf (IsCallable C s env t) v → VariableSound C s t (resolved_variable env.text env.unit v)
  variable_sound (variable x xs) h of = selectors_sound C s env t xs h of

  condition_sound : (e : Expr) → wrong_expression env condition e ≡ [] → ExprOf (IsCallable C s env t) e
      → ExprSound C s t (resolved_expr env.text env.unit (Some Boolean) e)
  condition_sound e h of = expr_sound C s env t (Some Boolean) e (inside env condition e h) of

  assign_sound : (c : Context) (v : Variable) (e : Expr) → wrong_statement env (placed c (text.assign v e)) ≡ []
      → StmtOf (IsCallable C s env t) (text.assign v e)
      → StmtSound C s t (resolved_stmt env.text env.unit (text.assign v e))
  assign_sound c (variable x xs) e h of =
      let right = nodes_right env c (variable x xs) e h in (
        variable_sound (variable x xs) right.1 of.0,
        demanded_sound (purposes.Assigned x.place) (type_of_place env (variable x xs)) e right.0 of.1,
      )

  -- a call of an instance
  arguments_sound : (x : Identifier) (arguments : List Argument)
      → RootsRight env (flat_map (roots_of_argument env x.name) arguments)
      → flat_map (wrong_node env) (flat_map (nodes_of_place env) (targets_of_arguments arguments)) ≡ []
      → ArgumentsOf (IsCallable C s env t) arguments
      → ArgumentsSound C s t (map (resolved_argument env.text env.unit x.name) arguments)
  arguments_sound x [] roots parts of = tt
  arguments_sound x (text.given y e ∷ rest) roots parts of =
      let p = purposes.Input y.place in
      let root = first_root env (demand_of_type env p (input_of env x.name y.name)) e
      (flat_map (roots_of_argument env x.name) rest) roots in
      (demanded_sound p (input_of env x.name y.name) e root.0 of.0, arguments_sound x rest root.1 parts of.1)
  arguments_sound x (text.copied y v ∷ rest) roots parts of =
      let nodes = nodes_of_place env v in
      let others = flat_map (nodes_of_place env) (targets_of_arguments rest) in
      let split : flat_map (wrong_node env) nodes ++ flat_map (wrong_node env) others ≡ [] =
      sym (flat_map-append (wrong_node env) nodes others) ∙ parts in (
        variable_sound v (append_first (flat_map (wrong_node env) nodes) (flat_map (wrong_node env) others) split) of.0,
        arguments_sound x rest roots
            (append_second (flat_map (wrong_node env) nodes) (flat_map (wrong_node env) others) split) of.1,
      )

  call_sound : (c : Context) (x : Identifier) (arguments : List Argument)
      → wrong_statement env (placed c (text.invoke x arguments)) ≡ []
      → ArgumentsOf (IsCallable C s env t) arguments
      → StmtSound C s t (resolved_stmt env.text env.unit (text.invoke x arguments))
  call_sound c x arguments h of =
      let right = statement_right env c (text.invoke x arguments) h in
      let call = invoked env known x arguments (type_of_name env x.name) refl right.invocation in
      let roots = flat_map (nodes_of_root env) (flat_map (roots_of_argument env x.name) arguments) in
      let parts = flat_map (nodes_of_place env) (targets_of_arguments arguments) in
      let split : flat_map (wrong_node env) roots ++ flat_map (wrong_node env) parts ≡ [] =
      sym (flat_map-append (wrong_node env) roots parts) ∙ right.nodes in (
        instances x.name call.block call.named call.is,
        arguments_sound x arguments
            (append_first (flat_map (wrong_node env) roots) (flat_map (wrong_node env) parts) split)
            (append_second (flat_map (wrong_node env) roots) (flat_map (wrong_node env) parts) split) of,
      )

  -- a loop with a control variable
  step_sound : (p : Purpose) (o : Option VariableType) (step : Option Expr)
      → RootsRight env (roots_of_step (demand_of_type env p o) step) → StepOf (IsCallable C s env t) step
      → StepSound C s t (option_map (resolved_expr env.text env.unit (kind_there env.text o)) step)
  step_sound p o None h of = tt
  step_sound p o (Some e) h of = demanded_sound p o e (first_root env (demand_of_type env p o) e [] h).0 of

  -- labels
  labels_split : (q : Option Kind) (ls : List Label) (arms : CaseArms)
      → flat_map (wrong_label env.text q) (ls ++ labels_of arms) ≡ []
      → (flat_map (wrong_label env.text q) ls ≡ []) × (flat_map (wrong_label env.text q) (labels_of arms) ≡ [])
  labels_split q ls arms h =
      let both = sym (flat_map-append (wrong_label env.text q) ls (labels_of arms)) ∙ h in
      let one = flat_map (wrong_label env.text q) ls in
      let two = flat_map (wrong_label env.text q) (labels_of arms) in
      (append_first one two both, append_second one two both)

  case_labels : (e : Expr) (arms : CaseArms) (otherwise : Stmts) → wrong_case env (text.CASE e arms otherwise) ≡ []
      → flat_map (wrong_label env.text (kind_of (settled None (typing_of env e)))) (labels_of arms) ≡ []
  case_labels e arms otherwise h =
      let q = kind_of (settled None (typing_of env e)) in
      append_first (flat_map (wrong_label env.text q) (labels_of arms))
      (wrong_spans (spans_of env.text q (labels_of arms))) h

  mutual
    stmt_sound : (c : Context) (x : Stmt) → wrong_statement env (placed c x) ≡ []
        → BodyRight env (statements_below c x) → StmtOf (IsCallable C s env t) x
        → StmtSound C s t (resolved_stmt env.text env.unit x)
    stmt_sound c text.empty h below of = tt
    stmt_sound c (text.assign v e) h below of = assign_sound c v e h of
    stmt_sound c (text.invoke x arguments) h below of = call_sound c x arguments h of
    stmt_sound c (text.IF arms otherwise) h below of =
        let right = statement_right env c (text.IF arms otherwise) h in
        let parts = body_split env (statements_of_arms c arms) (statements_of c otherwise) below in (
          arms_sound c arms (roots_right env (text.IF arms otherwise) right.nodes) parts.0 of.0,
          stmts_sound c otherwise parts.1 of.1,
        )
    stmt_sound c (text.CASE e arms otherwise) h below of =
        let right = statement_right env c (text.CASE e arms otherwise) h in
        let parts = body_split env (statements_of_case_arms c arms) (statements_of c otherwise) below in
        let selector = first_root env (asked None selecting purposes.Selector) e []
        (roots_right env (text.CASE e arms otherwise) right.nodes) in (
          expr_sound C s env t None e (inside env (asked None selecting purposes.Selector) e selector.0) of.0,
          cases_sound c (own_kind env.text env.unit e) (kind_of (settled None (typing_of env e))) arms
              (case_labels e arms otherwise (cases_right env c (text.CASE e arms otherwise) h)) parts.0 of.1,
          stmts_sound c otherwise parts.1 of.2,
        )
    stmt_sound c (text.FOR x start limit step body) h below of =
        let right = statement_right env c (text.FOR x start limit step body) h in
        let o = type_of_name env x.name in
        let p = purposes.Count x.place in
        let d = demand_of_type env p o in
        let first = first_root env d start (node d limit ∷ roots_of_step d step)
        (roots_right env (text.FOR x start limit step body) right.nodes) in
        let second = first_root env d limit (roots_of_step d step) first.1 in (
          demanded_sound p o start first.0 of.0,
          demanded_sound p o limit second.0 of.1,
          step_sound p o step second.1 of.2,
          stmts_sound (in_for x.name c) body below of.3,
        )
    stmt_sound c (text.WHILE e body) h below of =
        let right = statement_right env c (text.WHILE e body) h in
        let test = first_root env condition e [] (roots_right env (text.WHILE e body) right.nodes) in
        (condition_sound e test.0 of.0, stmts_sound (in_loop c) body below of.1)
    stmt_sound c (text.REPEAT body e) h below of =
        let right = statement_right env c (text.REPEAT body e) h in
        let test = first_root env condition e [] (roots_right env (text.REPEAT body e) right.nodes) in
        (stmts_sound (in_loop c) body below of.0, condition_sound e test.0 of.1)
    stmt_sound c (text.EXIT at) h below of = tt
    stmt_sound c text.RETURN h below of = tt

    pub stmts_sound : (c : Context) (xs : Stmts) → BodyRight env (statements_of c xs)
        → StmtsOf (IsCallable C s env t) xs → StmtsSound C s t (resolved_stmts env.text env.unit xs)
    stmts_sound c text.no_stmts h of = tt
    stmts_sound c (text.stmt_then x xs) h of =
        let right = first_right env c x xs h in
        (stmt_sound c x right.itself right.below of.0, stmts_sound c xs right.rest of.1)

    arms_sound : (c : Context) (arms : Arms) → RootsRight env (conditions_of arms)
        → BodyRight env (statements_of_arms c arms) → ArmsOf (IsCallable C s env t) arms
        → ArmsSound C s t (resolved_arms env.text env.unit arms)
    arms_sound c text.no_arms roots below of = tt
    arms_sound c (text.arm_then e body arms) roots below of =
        let test = first_root env condition e (conditions_of arms) roots in
        let parts = body_split env (statements_of c body) (statements_of_arms c arms) below in (
          condition_sound e test.0 of.0,
          stmts_sound c body parts.0 of.1,
          arms_sound c arms test.1 parts.1 of.2,
        )

    cases_sound : (c : Context) (k q : Option Kind) (arms : CaseArms)
        → flat_map (wrong_label env.text q) (labels_of arms) ≡ [] → BodyRight env (statements_of_case_arms c arms)
        → CaseArmsOf (IsCallable C s env t) arms → CaseArmsSound C s t (resolved_case_arms env.text env.unit k arms)
    cases_sound c k q text.no_case_arms h below of = tt
    cases_sound c k q (text.case_arm_then labels body arms) h below of =
        let parts = body_split env (statements_of c body) (statements_of_case_arms c arms) below in
        let split = labels_split q labels arms h in (
          labels_right env.text few k q labels split.0 of.0,
          stmts_sound c body parts.0 of.1,
          cases_sound c k q arms split.1 parts.1 of.2,
        )
