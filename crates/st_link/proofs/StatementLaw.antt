-- Well-typed statements end alike, and keep a property of the store that makes it agree.
use Rattle.std.proofs.Common.{◌≡◌, sym, ap, subst, ◌∙◌, zero, Bool, true, false, if◌then◌else◌}
use Rattle.std.proofs.Common.{List, [], ◌∷◌, Option, Some, None, Result, Ok, Err}
use Rattle.std.specs.Prelude.{ℤ, pos, ◌+ℤ◌, map, option_map}
use Rattle.std.specs.List.{list_any}
use Rattle.st_types.specs.declared.fault.Fault.{Fault}
use Rattle.st_types.specs.declared.fault.Fault.TheVariants.{ZeroStep}
use Rattle.st_types.specs.declared.kind.Kind.{Kind}
use Rattle.st_types.specs.declared.kind.Kind.TheVariants.{Bool as Boolean}
use Rattle.st_types.specs.declared.identifier.Identifier.{Identifier}
use Rattle.st_types.specs.Kinds.{same_kind}
use Rattle.st_types.specs.Values.{Datum, in_range, is_true}
use Rattle.st_types.specs.Paths.{Path}
use Rattle.st_types.specs.declared.data_type.VariableType.{VariableType}
use Rattle.st_types.specs.Expressions.{Expr}
use Rattle.st_types.specs.Statements.{Argument, Stmt, empty, assign, invoke, IF, CASE, FOR, WHILE, REPEAT, EXIT}
use Rattle.st_types.specs.Statements.{RETURN, Stmts, no_stmts, stmt_then, Arms, no_arms, arm_then, CaseArms}
use Rattle.st_types.specs.Statements.{no_case_arms, case_arm_then}
use Rattle.st_meaning.specs.Failures.{StuckFaults, ill_typed, or_failure}
use Rattle.st_meaning.specs.Stores.{Store, get, assigned}
use Rattle.st_meaning.specs.Ticks.{Run, attempt, proceed}
use Rattle.st_meaning.specs.Operators.{condition_of}
use Rattle.st_meaning.specs.Scopes.{Units, Scope, path_in}
use Rattle.st_meaning.specs.Evaluation.{value, truth_of}
use Rattle.st_meaning.specs.Loops.{End, goes_on, exits, returns, continue_with, unless_fault, stored, stepped_on, runs_on}
use Rattle.st_meaning.specs.Loops.{step_on, nonzero}
use Rattle.st_meaning.specs.Execution.{label_holds, step_of, counting, exec, exec_all, exec_arms, exec_case}
use Rattle.st_meaning.specs.NameTypes.{kind_among, variable_type}
use Rattle.st_meaning.specs.Resolution.{own_kind, resolved_expr}
use Rattle.st_meaning.specs.ResolvedUnits.{kind_there, resolved_label, resolved_stmt, resolved_stmts, resolved_arms}
use Rattle.st_meaning.specs.ResolvedUnits.{resolved_case_arms}
use Rattle.st_meaning.specs.Runs.{store_of}
use Rattle.st_rules.specs.declared.demand.Sorts.TheVariants.{Selecting as selecting}
use Rattle.st_rules.specs.declared.demand.Purpose.{Purpose}
use Rattle.st_rules.specs.declared.demand.Purpose.TheVariants as purposes
use Rattle.st_rules.specs.declared.demand.Demand.{Demand}
use Rattle.st_rules.specs.declared.demand.Demand.TheVariants.{Asked as asked}
use Rattle.st_rules.specs.Environments.{Environment, type_of_name, section_of}
use Rattle.st_rules.specs.Demands.{condition, exactly}
use Rattle.st_rules.specs.Typings.{kind_of, typing_of, typing_of_type, settled}
use Rattle.st_rules.specs.Nodes.{node}
use Rattle.st_rules.specs.ExpressionRules.{wrong_expression}
use Rattle.st_rules.specs.Statements.{Context, placed, in_loop, in_for, statements_below, statements_of}
use Rattle.st_rules.specs.Statements.{statements_of_arms, statements_of_case_arms}
use Rattle.st_rules.specs.Roots.{demand_of_typing, conditions_of, roots_of_step}
use Rattle.st_rules.specs.TargetRules.{is_fixed}
use Rattle.st_rules.specs.BodyRules.{wrong_statement}
use Rattle.st_rules.proofs.TypingLaws.{kind_of_declared}
use Rattle.st_link.specs.Soundness.{IsOf, HasKind, with_units, root, Agrees, Keeps, UnitsAgree, AreKnown}
use Rattle.st_link.specs.StatementSoundness.{BodyRight}
use Rattle.st_link.proofs.Alikes.{Succeeds, Gives}
use Rattle.st_link.proofs.OperatorLemmas.{in_range_gives, same_kinds}
use Rattle.st_link.proofs.KnownLemmas.{typing_known}
use Rattle.st_link.proofs.ValueLaw.{Premises, settled_known, value_alike, inside, asked_right, kind_asked}
use Rattle.st_link.proofs.AssignmentLaw.{exact_kind, assigned_succeeds, assignment_alike}
use Rattle.st_link.proofs.RunsAlike.{RunsAlike, both_then, both_as, both_give, both_fault, both_attempt, both_tick}
use Rattle.st_link.proofs.RunsAlike.{proceeds}
use Rattle.st_link.proofs.LoopLaw.{Leaves, LeavesStep, Whatever, looped_alike, guarded_alike, until_alike}
use Rattle.st_link.proofs.StatementParts.{statement_right, body_split, first_right, RootsRight, roots_right, first_root}
use Rattle.st_link.proofs.StatementParts.{control_right}

-- a condition that is a BOOL
truth_tested : (v : Datum) (b : Bool) → b ≡ true
    → Succeeds Whatever (if b then Ok (is_true v) else Err ill_typed)
truth_tested v true h = tt
truth_tested v false h = absurd (cc)

truth_succeeds : (v : Datum) → IsOf Boolean v → Succeeds Whatever (condition_of v)
truth_succeeds v of = truth_tested v (same_kind v.kind Boolean) (same_kinds v.kind Boolean of.kind)

-- a variable that exists
pub there_succeeds : (o : Option Datum) (k : Kind) → HasKind o k → Succeeds (IsOf k) (or_failure ill_typed o)
there_succeeds o k h = subst (λ (p : Option Datum). Succeeds (IsOf k) (or_failure ill_typed p)) (sym h.there) h.is_of

nonzero_alike : (z : ℤ) → RunsAlike {A = Unit {0}} (λ _. Unit {0}) (nonzero z) (nonzero z)
nonzero_alike (pos zero) = both_fault {A = Unit {0}} (λ _. Unit {0}) ZeroStep
nonzero_alike _ = both_give {A = Unit {0}} (λ _. Unit {0}) tt tt

module _ (env : Environment) (w : Scope) (u v : Units) (i j : StuckFaults) (I : Store → Type 0)
    (agrees : (s : Store) → I s → Agrees env w s) (kept : (s t : Store) → I s → Keeps s t → I t)
    (units : UnitsAgree env u v) (known : AreKnown env) where
  abbrev one : Scope
  one = with_units u i w

  abbrev two : Scope
  two = with_units v j w

  abbrev tree : Option Kind → Expr → Expr
  tree k e = resolved_expr env.text env.unit k e

  -- expressions
  pub premises : (s : Store) → I s → Premises env w s u v
  premises s is = record { agrees = agrees s is; units = units; known = known }

  -- an expression of the type that a place demands
  pub exact_alike : (k : Kind) (p : Purpose) (e : Expr) → wrong_expression env (exactly k p) e ≡ [] → (s : Store) → I s
      → RunsAlike (IsOf k) (value one s (tree (Some k) e)) (value two s (tree (Some k) e))
  exact_alike k p e h s is =
      let within = inside env (exactly k p) e h in
      let kind = exact_kind k (settled (Some k) (typing_of env e)) (asked_right env (exactly k p) e h)
      (settled_known (Some k) (typing_of env e) (typing_known env known (Some k) e within)) in
      record { ends = λ b. value_alike env w s u v i j (premises s is) (Some k) e within k kind b }

  test_alike : (e : Expr) → wrong_expression env condition e ≡ [] → (s : Store) → I s
      → RunsAlike Whatever (truth_of one (tree (Some Boolean) e) s) (truth_of two (tree (Some Boolean) e) s)
  unfolding truth_of
  test_alike e h s is =
      both_then (exact_alike Boolean purposes.Condition e h s is)
      (λ x of. both_attempt Whatever i j (condition_of x) (truth_succeeds x of))

  -- statements
  abbrev Ends : Run End → Run End → Type 0
  Ends m n = RunsAlike (Leaves I) m n

  abbrev Bodies : (Store → Run End) → (Store → Run End) → Type 0
  Bodies m n = (s : Store) → I s → Ends (m s) (n s)

  if_alike : (b : Bool) {m n m' n' : Run End} → Ends m m' → Ends n n' → Ends (if b then m else n) (if b then m' else n')
  if_alike true h k = h
  if_alike false h k = k

  behind_alike : (e : End) (next next' : Store → Run End) → Bodies next next' → Leaves I e
      → Ends (continue_with e next) (continue_with e next')
  behind_alike (goes_on s) next next' h is = h s is
  behind_alike (exits s) next next' h is = both_give (Leaves I) (exits s) is
  behind_alike (returns s) next next' h is = both_give (Leaves I) (returns s) is

  -- a control variable
  module _ (x : Identifier) (t : VariableType) (k : Kind) (named : type_of_name env x.name ≡ Some t)
      (free : is_fixed (section_of env x.name) ≡ false) (among : kind_among env.text.types t ≡ Some k) where
    abbrev here : Path
    here = path_in w.frame w.body x.name

    control_there : (s : Store) → I s → HasKind (get s here) k
    control_there s is = (agrees s is).stored k (root x.name named) free among

    runs_on_alike : (limit step : ℤ) (s : Store) → I s
        → RunsAlike Whatever (runs_on i here limit step s) (runs_on j here limit step s)
    unfolding runs_on
    runs_on_alike limit step s is =
        both_then (both_attempt (IsOf k) i j (or_failure ill_typed (get s here))
        (there_succeeds (get s here) k (control_there s is)))
        (λ n of. both_give Whatever _ tt)

    assigned_alike : (s : Store) → I s → (n : Datum) → IsOf k n
        → RunsAlike I (attempt i (assigned s here n)) (attempt j (assigned s here n))
    assigned_alike s is n of = both_as (λ t keeps. kept s t is keeps) (both_attempt (Keeps s) i j (assigned s here n)
        (assigned_succeeds s here n k (control_there s is) of))

    stored_succeeds : (s : Store) → I s → (r : Result Datum Fault) → Gives (IsOf k) r
        → Succeeds (LeavesStep I) (stored s here (unless_fault r))
    stored_succeeds s is (Ok n) of = proceeds (Keeps s) (LeavesStep I) (assigned s here n) (λ t. Ok (Some t))
        (assigned_succeeds s here n k (control_there s is) of) (λ t keeps. kept s t is keeps)
    stored_succeeds s is (Err e) of = tt

    step_on_alike : (step : ℤ) (s : Store) → I s → RunsAlike (LeavesStep I) (step_on i here step s) (step_on j here step s)
    unfolding step_on
    step_on_alike step s is =
        both_attempt (LeavesStep I) i j
        (proceed (or_failure ill_typed (get s here)) (λ n. stored s here (stepped_on step n)))
        (proceeds (IsOf k) (LeavesStep I) (or_failure ill_typed (get s here)) (λ n. stored s here (stepped_on step n))
        (there_succeeds (get s here) k (control_there s is))
        (λ n of. stored_succeeds s is (in_range n.kind (n.number +ℤ step))
        (subst (λ m. Gives (IsOf m) (in_range n.kind (n.number +ℤ step))) of.kind
        (in_range_gives n.kind (n.number +ℤ step)))))

    step_alike : (p : Purpose) (step : Option Expr) → RootsRight env (roots_of_step (exactly k p) step) → (s : Store)
        → I s
        → RunsAlike {A = ℤ} (λ _. Unit {0}) (step_of one s (option_map (tree (Some k)) step))
        (step_of two s (option_map (tree (Some k)) step))
    step_alike p None h s is = both_give {A = ℤ} (λ _. Unit {0}) (pos 1) tt
    step_alike p (Some e) h s is =
        both_then (exact_alike k p e (first_root env (exactly k p) e [] h).0 s is)
        (λ n of. both_give {A = ℤ} (λ _. Unit {0}) n.number tt)

    counting_alike : (p : Purpose) (start limit : Expr) (step : Option Expr) (body body' : Store → Run End)
        → RootsRight env (node (exactly k p) start ∷ node (exactly k p) limit ∷ roots_of_step (exactly k p) step)
        → Bodies body body' → (s : Store) → I s
        → Ends
        (counting one here (tree (Some k) start) (tree (Some k) limit) (option_map (tree (Some k)) step) body s)
        (counting two here (tree (Some k) start) (tree (Some k) limit) (option_map (tree (Some k)) step) body' s)
    counting_alike p start limit step body body' h bodies s is =
        let first = first_root env (exactly k p) start
        (node (exactly k p) limit ∷ roots_of_step (exactly k p) step) h in
        let second = first_root env (exactly k p) limit (roots_of_step (exactly k p) step) first.1 in
        both_then (exact_alike k p start first.0 s is)
        (λ n of. both_then (exact_alike k p limit second.0 s is)
        (λ m _. both_then (step_alike p step second.1 s is)
        (λ d _. both_then (nonzero_alike d)
        (λ _ _. both_then (assigned_alike s is n of)
        (λ t has. looped_alike I _ _ _ _
        (guarded_alike I _ _ _ _ (runs_on_alike m.number d) bodies)
        (step_on_alike d) t has)))))

  for_alike : (c : Context) (x : Identifier) (start limit : Expr) (step : Option Expr) (xs : Stmts)
      → wrong_statement env (placed c (FOR x start limit step xs)) ≡ [] → (body body' : Store → Run End)
      → Bodies body body' → (s : Store) → I s
      → Ends
      (counting one (path_in w.frame w.body x.name)
      (tree (kind_there env.text (variable_type env.unit x.name)) start)
      (tree (kind_there env.text (variable_type env.unit x.name)) limit)
      (option_map (tree (kind_there env.text (variable_type env.unit x.name))) step) body s)
      (counting two (path_in w.frame w.body x.name)
      (tree (kind_there env.text (variable_type env.unit x.name)) start)
      (tree (kind_there env.text (variable_type env.unit x.name)) limit)
      (option_map (tree (kind_there env.text (variable_type env.unit x.name))) step) body' s)
  for_alike c x start limit step xs h body body' bodies s is =
      let right = statement_right env c (FOR x start limit step xs) h in
      let control = control_right env known c x right.control in
      let k = control.kind in
      let p = purposes.Count x.place in
      let typing = ap (λ o. typing_of_type env.text o) control.named ∙ control.typed in
      let kind : kind_there env.text (variable_type env.unit x.name) ≡ Some k =
      kind_of_declared env.text (type_of_name env x.name) ∙ ap kind_of typing in
      let among : kind_among env.text.types control.declared ≡ Some k =
      kind_of_declared env.text (Some control.declared) ∙ ap kind_of control.typed in
      let roots = subst
      (λ (d : Demand). RootsRight env (node d start ∷ node d limit ∷ roots_of_step d step))
      (ap (demand_of_typing p) typing) (roots_right env (FOR x start limit step xs) right.nodes) in
      subst (λ (o : Option Kind). Ends
      (counting one (path_in w.frame w.body x.name) (tree o start) (tree o limit) (option_map (tree o) step) body s)
      (counting two (path_in w.frame w.body x.name) (tree o start) (tree o limit) (option_map (tree o) step) body' s))
      (sym kind)
      (counting_alike x control.declared k control.named control.free among p start limit step body body' roots bodies s
      is)

  -- the selector of a CASE
  selector_alike : (e : Expr) → wrong_expression env (asked None selecting purposes.Selector) e ≡ [] → (s : Store) → I s
      → RunsAlike {A = Datum} (λ _. Unit {0}) (value one s (tree None e)) (value two s (tree None e))
  selector_alike e h s is =
      let kind = kind_asked env known None selecting purposes.Selector e h in
      both_as {P = IsOf kind.0} (λ _ _. tt) (record {
        ends =
            λ b. value_alike env w s u v i j (premises s is) None e
            (inside env (asked None selecting purposes.Selector) e h) kind.0 kind.1 b;
      })

  module _ (calls : (c : Context) (x : Identifier) (arguments : List Argument) (s : Store) → I s
      → wrong_statement env (placed c (invoke x arguments)) ≡ []
      → RunsAlike (Leaves I) (exec (with_units u i w) (resolved_stmt env.text env.unit (invoke x arguments)) s)
      (exec (with_units v j w) (resolved_stmt env.text env.unit (invoke x arguments)) s)) where
    mutual
      pub exec_alike : (c : Context) (x : Stmt) → wrong_statement env (placed c x) ≡ []
          → BodyRight env (statements_below c x)
          → (s : Store) → I s
          → RunsAlike (Leaves I) (exec one (resolved_stmt env.text env.unit x) s)
          (exec two (resolved_stmt env.text env.unit x) s)
      exec_alike c empty h below s is = both_tick (both_give (Leaves I) (goes_on s) is)
      exec_alike c (assign x e) h below s is =
          both_as (λ r keeps. kept s (store_of r) is keeps)
          (record { ends = assignment_alike env w s u v i j (premises s is) c x e h })
      exec_alike c (invoke x arguments) h below s is = calls c x arguments s is h
      exec_alike c (IF arms otherwise) h below s is =
          let right = statement_right env c (IF arms otherwise) h in
          let parts = body_split env (statements_of_arms c arms) (statements_of c otherwise) below in
          both_tick (arms_alike c arms (roots_right env (IF arms otherwise) right.nodes) parts.0 _ _
          (exec_all_alike c otherwise parts.1) s is)
      exec_alike c (CASE e arms otherwise) h below s is =
          let right = statement_right env c (CASE e arms otherwise) h in
          let parts = body_split env (statements_of_case_arms c arms) (statements_of c otherwise) below in
          let selector = first_root env (asked None selecting purposes.Selector) e []
          (roots_right env (CASE e arms otherwise) right.nodes) in
          both_tick (both_then (selector_alike e selector.0 s is)
          (λ n _. case_alike c n.number (own_kind env.text env.unit e) arms parts.0 _ _
          (exec_all_alike c otherwise parts.1) s is))
      exec_alike c (FOR x start limit step body) h below s is =
          both_tick (for_alike c x start limit step body h _ _ (exec_all_alike (in_for x.name c) body below) s is)
      exec_alike c (WHILE e body) h below s is =
          let right = statement_right env c (WHILE e body) h in
          let test = first_root env condition e [] (roots_right env (WHILE e body) right.nodes) in
          both_tick (looped_alike I _ _ _ _
          (guarded_alike I _ _ _ _ (test_alike e test.0) (exec_all_alike (in_loop c) body below))
          (λ t has. both_give (LeavesStep I) (Some t) has) s is)
      exec_alike c (REPEAT body e) h below s is =
          let right = statement_right env c (REPEAT body e) h in
          let test = first_root env condition e [] (roots_right env (REPEAT body e) right.nodes) in
          both_tick (looped_alike I _ _ _ _
          (until_alike I _ _ _ _ (test_alike e test.0) (exec_all_alike (in_loop c) body below))
          (λ t has. both_give (LeavesStep I) (Some t) has) s is)
      exec_alike c (EXIT at) h below s is = both_tick (both_give (Leaves I) (exits s) is)
      exec_alike c RETURN h below s is = both_tick (both_give (Leaves I) (returns s) is)

      pub exec_all_alike : (c : Context) (xs : Stmts) → BodyRight env (statements_of c xs) → (s : Store) → I s
          → RunsAlike (Leaves I) (exec_all one (resolved_stmts env.text env.unit xs) s)
          (exec_all two (resolved_stmts env.text env.unit xs) s)
      exec_all_alike c no_stmts h s is = both_give (Leaves I) (goes_on s) is
      exec_all_alike c (stmt_then x xs) h s is =
          let right = first_right env c x xs h in
          both_then (exec_alike c x right.itself right.below s is)
          (λ e has. behind_alike e _ _ (exec_all_alike c xs right.rest) has)

      arms_alike : (c : Context) (arms : Arms) → RootsRight env (conditions_of arms)
          → BodyRight env (statements_of_arms c arms) → (otherwise otherwise' : Store → Run End)
          → Bodies otherwise otherwise' → (s : Store) → I s
          → Ends (exec_arms one (resolved_arms env.text env.unit arms) otherwise s)
          (exec_arms two (resolved_arms env.text env.unit arms) otherwise' s)
      arms_alike c no_arms roots below otherwise otherwise' h s is = h s is
      arms_alike c (arm_then e body arms) roots below otherwise otherwise' h s is =
          let first = first_root env condition e (conditions_of arms) roots in
          let parts = body_split env (statements_of c body) (statements_of_arms c arms) below in
          both_then (test_alike e first.0 s is)
          (λ go _. if_alike go (exec_all_alike c body parts.0 s is)
          (arms_alike c arms first.1 parts.1 otherwise otherwise' h s is))

      case_alike : (c : Context) (z : ℤ) (k : Option Kind) (arms : CaseArms)
          → BodyRight env (statements_of_case_arms c arms) → (otherwise otherwise' : Store → Run End)
          → Bodies otherwise otherwise' → (s : Store) → I s
          → Ends (exec_case one z (resolved_case_arms env.text env.unit k arms) otherwise s)
          (exec_case two z (resolved_case_arms env.text env.unit k arms) otherwise' s)
      case_alike c z k no_case_arms below otherwise otherwise' h s is = h s is
      case_alike c z k (case_arm_then labels body arms) below otherwise otherwise' h s is =
          let parts = body_split env (statements_of c body) (statements_of_case_arms c arms) below in
          if_alike (list_any (label_holds z) (map (resolved_label env.text k) labels))
          (exec_all_alike c body parts.0 s is) (case_alike c z k arms parts.1 otherwise otherwise' h s is)
