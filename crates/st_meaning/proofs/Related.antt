-- Two runs of one tree, whose calls and whose faults for failures that no well-typed text meets are related, are related. P
-- is a relation of runs, and Q is P before the tick that a statement takes.
use Rattle.std.proofs.Common.{ℕ, zero, ℤ, pos, Bool, true, false, if◌then◌else◌, List, [], ◌∷◌, Option, Some, None}
use Rattle.std.proofs.Common.{Result, Ok, Err}
use Rattle.std.specs.List.{list_any}
use Rattle.st_types.specs.declared.fault.Fault.{Fault}
use Rattle.st_types.specs.declared.fault.Fault.TheVariants.{Index, ZeroStep}
use Rattle.st_meaning.specs.Failures.{Failure, fails, valueless, ill_typed, StuckFaults, or_failure, failing}
use Rattle.st_types.specs.Values.{Datum}
use Rattle.st_types.specs.Paths.{Path}
use Rattle.st_types.specs.Expressions.{Expr, literal, read, call, parenthesis, unary, binary, Exprs, no_exprs}
use Rattle.st_types.specs.Expressions.{expr_then, Variable, variable, Selector, member, subscript, Selectors}
use Rattle.st_types.specs.Expressions.{no_selectors, selector_then}
use Rattle.st_types.specs.Statements.{Argument, given, copied, Stmt, empty, assign, invoke, IF, CASE, FOR, WHILE}
use Rattle.st_types.specs.Statements.{REPEAT, EXIT, RETURN, Stmts, no_stmts, stmt_then, Arms, no_arms, arm_then}
use Rattle.st_types.specs.Statements.{CaseArms, no_case_arms, case_arm_then}
use Rattle.st_meaning.specs.Stores.{Store, get, assigned}
use Rattle.st_meaning.specs.Ticks.{Run, ◌>>=◌, ◌>>◌, give, fault, attempt, proceed, tick}
use Rattle.st_meaning.specs.Operators.{value_of_literal, apply, apply_unary, condition_of}
use Rattle.st_meaning.specs.StandardFunctions.{Standard, standard_of, standard_value}
use Rattle.st_meaning.specs.StandardBlocks as standard
use Rattle.st_meaning.specs.StandardBlocks.{block_of, members_of, stepped}
use Rattle.st_meaning.specs.Runs.{store_of, bound_inputs, function_value, member_values, members_assigned, standard_call}
use Rattle.st_meaning.specs.Runs.{block_call, function_call, instance_call}
use Rattle.st_meaning.specs.Scopes.{Name, Frame, of_block, of_call, Body, Function, Block, Library, function_in, block_in}
use Rattle.st_meaning.specs.Scopes.{Units, Scope, seen, path_in, member_at, block_named}
use Rattle.st_meaning.specs.Evaluation.{known, value, values, place, selected, stepped_to, called, element_at, truth_of}
use Rattle.st_meaning.specs.Loops.{End, goes_on, exits, returns, continue_with, Iteration, over, turned, looped, guarded, tested_after}
use Rattle.st_meaning.specs.Loops.{until, runs_on, step_on, stored, stepped_on, nonzero}
use Rattle.st_meaning.specs.Execution.{label_holds, given_inputs, assigned_inputs, copied_outputs, ran_block, step_of}
use Rattle.st_meaning.specs.Execution.{exec, exec_all, exec_arms, exec_case}

-- the rules that P and Q have to be closed under
pub record IsClosed (P Q : (A : Type 0) → Run A → Run A → Type 0) : Type 1 where
  pub gives : {A : Type 0} (a : A) → P A (give a) (give a)
  pub faults : {A : Type 0} (e : Fault) → P A (fault e) (fault e)
  pub follows : {A B : Type 0} {m n : Run A} {f g : A → Run B} → P A m n → ((a : A) → P B (f a) (g a))
      → P B (m >>= f) (n >>= g)
  pub loops : (turn turn' : Store → Run Iteration) (step step' : Store → Run (Option Store))
      → ((s : Store) → P Iteration (turn s) (turn' s)) → ((s : Store) → P (Option Store) (step s) (step' s)) → (s : Store)
      → P End (looped turn step s) (looped turn' step' s)
  pub stops : {A : Type 0} (e : Fault) → Q A (fault e) (fault e)
  pub begins : {A : Type 0} (a : A) → Q A (give a) (give a)
  pub continues : {A B : Type 0} {m n : Run A} {f g : A → Run B} → Q A m n → ((a : A) → Q B (f a) (g a))
      → Q B (m >>= f) (n >>= g)
  pub ticks : {A : Type 0} {m n : Run A} → P A m n → Q A (tick >> m) (tick >> n)
  pub within : {A : Type 0} {m n : Run A} → Q A m n → P A m n

-- the faults for failures that no well-typed text meets are related
pub record StandRelated (P : (A : Type 0) → Run A → Run A → Type 0) (t u : StuckFaults) : Type 1 where
  pub lacks : {A : Type 0} → P A (fault t.missing) (fault u.missing)
  pub errs : {A : Type 0} → P A (fault t.wrong) (fault u.wrong)

-- the same faults are
pub stand_themselves : (P Q : (A : Type 0) → Run A → Run A → Type 0) → IsClosed P Q → (t : StuckFaults)
    → StandRelated P t t
stand_themselves P Q closed t = record { lacks = closed.faults t.missing; errs = closed.faults t.wrong }

pub stop_themselves : (P Q : (A : Type 0) → Run A → Run A → Type 0) → IsClosed P Q → (t : StuckFaults)
    → StandRelated Q t t
stop_themselves P Q closed t = record { lacks = closed.stops t.missing; errs = closed.stops t.wrong }

module _
    (P Q : (A : Type 0) → Run A → Run A → Type 0)
    (closed : IsClosed P Q)
    (w : Scope) (units : Units) (stuck_faults : StuckFaults)
    (functions : (f : Name) (vs : List Datum) → P Datum (w.units.functions f vs) (units.functions f vs))
    (blocks : (b : Name) (at : Path) (s : Store) → P Store (w.units.blocks b at s) (units.blocks b at s))
    (stands : StandRelated P w.stuck_faults stuck_faults)
  where
    -- the same place with the other units and the other faults
    abbrev other : Scope
    other = record {
      units = units;
      frame = w.frame;
      body = w.body;
      image = w.image;
      now = w.now;
      stuck_faults = stuck_faults;
    }

    p_give : {A : Type 0} (a : A) → P A (give a) (give a)
    p_give a = closed.gives a

    p_fault : {A : Type 0} (e : Fault) → P A (fault e) (fault e)
    p_fault e = closed.faults e

    p_then : {A B : Type 0} {m n : Run A} {f g : A → Run B} → P A m n → ((a : A) → P B (f a) (g a))
        → P B (m >>= f) (n >>= g)
    p_then h k = closed.follows h k

    p_attempt : {A : Type 0} (r : Result A Failure) → P A (attempt w.stuck_faults r) (attempt stuck_faults r)
    p_attempt (Ok a) = p_give a
    p_attempt (Err (fails f)) = p_fault f
    p_attempt (Err valueless) = stands.lacks
    p_attempt (Err ill_typed) = stands.errs

    p_bounded : (s : Store) (p : Path) (b : Bool)
        → P Path (if b then give p else fault Index) (if b then give p else fault Index)
    p_bounded s p true = p_give p
    p_bounded s p false = p_fault Index

    p_called : (o : Option Standard) (x : Name) (vs : List Datum) → P Datum (called w o x vs) (called other o x vs)
    p_called (Some f) x vs = p_attempt (standard_value f vs)
    p_called None x vs = functions x vs

    mutual
      value_p : (s : Store) (e : Expr) → P Datum (value w s e) (value other s e)
      value_p s (literal l) = p_attempt (value_of_literal l)
      value_p s (read v) = p_then (place_p s v) (λ p. p_attempt (or_failure valueless (known (seen w.image s p))))
      value_p s (call f es) = p_then (values_p s es) (λ vs. p_called (standard_of f.name) f.name vs)
      value_p s (parenthesis at e) = value_p s e
      value_p s (unary op at e) = p_then (value_p s e) (λ x. p_attempt (failing (apply_unary op x)))
      value_p s (binary op l r) = p_then (value_p s l) (λ x. p_then (value_p s r) (λ y. p_attempt (apply op x y)))

      values_p : (s : Store) (es : Exprs) → P (List Datum) (values w s es) (values other s es)
      values_p s no_exprs = p_give []
      values_p s (expr_then e es) = p_then (value_p s e) (λ v. p_then (values_p s es) (λ vs. p_give (v ∷ vs)))

      place_p : (s : Store) (v : Variable) → P Path (place w s v) (place other s v)
      place_p s (variable x xs) = selected_p s (path_in w.frame w.body x.name) xs

      selected_p : (s : Store) (p : Path) (xs : Selectors) → P Path (selected w s p xs) (selected other s p xs)
      selected_p s p no_selectors = p_give p
      selected_p s p (selector_then x xs) = p_then (stepped_p s p x) (λ q. selected_p s q xs)

      stepped_p : (s : Store) (p : Path) (x : Selector) → P Path (stepped_to w s p x) (stepped_to other s p x)
      stepped_p s p (member x) = p_give (member_at p x.name)
      stepped_p s p (subscript e) = p_then (value_p s e) (λ v. p_bounded s (element_at p v.number) _)

    test_p : (e : Expr) (s : Store) → P Bool (truth_of w e s) (truth_of other e s)
    unfolding truth_of
    test_p e s = p_then (value_p s e) (λ v. p_attempt (condition_of v))

    given_p : (s : Store) (arguments : List Argument)
        → P (List (Name × Datum)) (given_inputs w s arguments) (given_inputs other s arguments)
    given_p s [] = p_give []
    given_p s (given x e ∷ rest) = p_then (value_p s e) (λ v. p_then (given_p s rest) (λ vs. p_give ((x.name, v) ∷ vs)))
    given_p s (copied x v ∷ rest) = given_p s rest

    assigned_p : (at : Path) (vs : List (Name × Datum)) (s : Store)
        → P Store (assigned_inputs w.stuck_faults at vs s) (assigned_inputs stuck_faults at vs s)
    assigned_p at [] s = p_give s
    assigned_p at (e ∷ es) s = p_then (p_attempt (assigned s (member_at at e.0) e.1)) (λ t. assigned_p at es t)

    copied_p : (at : Path) (arguments : List Argument) (s : Store)
        → P Store (copied_outputs w at arguments s) (copied_outputs other at arguments s)
    copied_p at [] s = p_give s
    copied_p at (given x e ∷ rest) s = copied_p at rest s
    copied_p at (copied x v ∷ rest) s = p_then (p_attempt (or_failure ill_typed (get s (member_at at x.name))))
        (λ o. p_then (place_p s v) (λ p. p_then (p_attempt (assigned s p o)) (λ t. copied_p at rest t)))

    block_p : (at : Path) (o : Option Name) (s : Store) → P Store (ran_block w at o s) (ran_block other at o s)
    block_p at None s = stands.errs
    block_p at (Some b) s = blocks b at s

    step_p : (s : Store) (o : Option Expr) → P ℤ (step_of w s o) (step_of other s o)
    step_p s None = p_give (pos 1)
    step_p s (Some e) = p_then (value_p s e) (λ v. p_give v.number)

    nonzero_p : (z : ℤ) → P (Unit {0}) (nonzero z) (nonzero z)
    nonzero_p (pos zero) = p_fault ZeroStep
    nonzero_p _ = p_give tt

    p_if : {A : Type 0} {m n m' n' : Run A} (b : Bool) → P A m m' → P A n n'
        → P A (if b then m else n) (if b then m' else n')
    p_if true h k = h
    p_if false h k = k

    guarded_p : (condition condition' : Store → Run Bool) (body body' : Store → Run End)
        → ((s : Store) → P Bool (condition s) (condition' s)) → ((s : Store) → P End (body s) (body' s)) → (s : Store)
        → P Iteration (guarded condition body s) (guarded condition' body' s)
    unfolding guarded
    guarded_p condition condition' body body' h k s =
        p_then (h s) (λ go. p_if go (p_then (k s) (λ e. p_give (turned e))) (p_give (over (goes_on s))))

    asked_p : (condition condition' : Store → Run Bool) → ((s : Store) → P Bool (condition s) (condition' s))
        → (e : End) → P Iteration (tested_after condition e) (tested_after condition' e)
    asked_p condition condition' h (goes_on s) = p_then (h s) (λ stop. p_give _)
    asked_p condition condition' h (exits s) = p_give (over (goes_on s))
    asked_p condition condition' h (returns s) = p_give (over (returns s))

    until_p : (body body' : Store → Run End) (condition condition' : Store → Run Bool)
        → ((s : Store) → P End (body s) (body' s)) → ((s : Store) → P Bool (condition s) (condition' s)) → (s : Store)
        → P Iteration (until body condition s) (until body' condition' s)
    unfolding until
    until_p body body' condition condition' k h s = p_then (k s) (λ e. asked_p condition condition' h e)

    runs_on_p : (x : Path) (limit step : ℤ) (s : Store)
        → P Bool (runs_on w.stuck_faults x limit step s) (runs_on stuck_faults x limit step s)
    unfolding runs_on
    runs_on_p x limit step s = p_then (p_attempt (or_failure ill_typed (get s x))) (λ v. p_give _)

    step_on_p : (x : Path) (step : ℤ) (s : Store)
        → P (Option Store) (step_on w.stuck_faults x step s) (step_on stuck_faults x step s)
    unfolding step_on
    step_on_p x step s = p_attempt (proceed (or_failure ill_typed (get s x)) (λ v. stored s x (stepped_on step v)))

    behind_q : (e : End) (next next' : Store → Run End) → ((s : Store) → Q End (next s) (next' s))
        → Q End (continue_with e next) (continue_with e next')
    behind_q (goes_on s) next next' h = h s
    behind_q (exits s) next next' h = closed.begins (exits s)
    behind_q (returns s) next next' h = closed.begins (returns s)

    mutual
      exec_q : (x : Stmt) (s : Store) → Q End (exec w x s) (exec other x s)
      exec_q empty s = closed.ticks (p_give (goes_on s))
      exec_q (assign v e) s = closed.ticks (p_then (value_p s e)
          (λ x. p_then (place_p s v) (λ p. p_then (p_attempt (assigned s p x)) (λ t. p_give (goes_on t)))))
      exec_q (invoke x arguments) s =
          closed.ticks (p_then (given_p s arguments) (λ vs. p_then (assigned_p (path_in w.frame w.body x.name) vs s)
          (λ t. p_then (block_p (path_in w.frame w.body x.name) (block_named w.body.instances x.name) t)
          (λ u. p_then (copied_p (path_in w.frame w.body x.name) arguments u) (λ z. p_give (goes_on z))))))
      exec_q (IF arms otherwise) s = closed.ticks (arms_p arms (exec_all w otherwise) (exec_all other otherwise)
          (λ t. closed.within (exec_all_q otherwise t)) s)
      exec_q (CASE e arms otherwise) s = closed.ticks (p_then (value_p s e) (λ v. case_p v.number arms
          (exec_all w otherwise) (exec_all other otherwise) (λ t. closed.within (exec_all_q otherwise t)) s))
      exec_q (FOR x start limit step body) s =
          closed.ticks (p_then (value_p s start)
          (λ i. p_then (value_p s limit) (λ n. p_then (step_p s step) (λ d. p_then (nonzero_p d)
          (λ _. p_then (p_attempt (assigned s (path_in w.frame w.body x.name) i))
          (λ t. closed.loops _ _ _ _ (λ u. guarded_p _ _ _ _ (runs_on_p (path_in w.frame w.body x.name) n.number d)
          (λ z. closed.within (exec_all_q body z)) u) (step_on_p (path_in w.frame w.body x.name) d) t))))))
      exec_q (WHILE e body) s = closed.ticks
          (closed.loops _ _ _ _ (λ u. guarded_p _ _ _ _ (test_p e) (λ z. closed.within (exec_all_q body z)) u)
          (λ u. p_give (Some u)) s)
      exec_q (REPEAT body e) s = closed.ticks
          (closed.loops _ _ _ _ (λ u. until_p _ _ _ _ (λ z. closed.within (exec_all_q body z)) (test_p e) u)
          (λ u. p_give (Some u)) s)
      exec_q (EXIT at) s = closed.ticks (p_give (exits s))
      exec_q RETURN s = closed.ticks (p_give (returns s))

      pub exec_all_q : (xs : Stmts) (s : Store) → Q End (exec_all w xs s) (exec_all other xs s)
      exec_all_q no_stmts s = closed.begins (goes_on s)
      exec_all_q (stmt_then x xs) s =
          closed.continues (exec_q x s) (λ e. behind_q e (exec_all w xs) (exec_all other xs) (λ t. exec_all_q xs t))

      arms_p : (arms : Arms) (otherwise otherwise' : Store → Run End)
          → ((s : Store) → P End (otherwise s) (otherwise' s)) → (s : Store)
          → P End (exec_arms w arms otherwise s) (exec_arms other arms otherwise' s)
      arms_p no_arms otherwise otherwise' h s = h s
      arms_p (arm_then e body arms) otherwise otherwise' h s =
          p_then (test_p e s) (λ go. p_if go (closed.within (exec_all_q body s)) (arms_p arms otherwise otherwise' h s))

      case_p : (z : ℤ) (arms : CaseArms) (otherwise otherwise' : Store → Run End)
          → ((s : Store) → P End (otherwise s) (otherwise' s)) → (s : Store)
          → P End (exec_case w z arms otherwise s) (exec_case other z arms otherwise' s)
      case_p z no_case_arms otherwise otherwise' h s = h s
      case_p z (case_arm_then labels body arms) otherwise otherwise' h s = p_if (list_any (label_holds z) labels)
          (closed.within (exec_all_q body s)) (case_p z arms otherwise otherwise' h s)

module _
    (P Q : (A : Type 0) → Run A → Run A → Type 0)
    (closed : IsClosed P Q)
    (stuck_faults stand_ins' : StuckFaults) (library : Library) (image : Store) (now : ℕ) (units units' : Units)
    (functions : (f : Name) (vs : List Datum) → P Datum (units.functions f vs) (units'.functions f vs))
    (blocks : (b : Name) (at : Path) (s : Store) → P Store (units.blocks b at s) (units'.blocks b at s))
    (stands : StandRelated P stuck_faults stand_ins') (stands_q : StandRelated Q stuck_faults stand_ins')
  where
    q_attempt : {A : Type 0} (r : Result A Failure) → Q A (attempt stuck_faults r) (attempt stand_ins' r)
    q_attempt (Ok a) = closed.begins a
    q_attempt (Err (fails f)) = closed.stops f
    q_attempt (Err valueless) = stands_q.lacks
    q_attempt (Err ill_typed) = stands_q.errs

    body_q : (frame : Frame) (body : Body) (seen : Store) (s : Store) → Q End
        (exec_all (record { units = units; frame = frame; body = body; image = seen; now = now; stuck_faults = stuck_faults })
        body.statements s)
        (exec_all
        (record { units = units'; frame = frame; body = body; image = seen; now = now; stuck_faults = stand_ins' })
        body.statements s)
    body_q frame body seen s = exec_all_q P Q closed
        (record { units = units; frame = frame; body = body; image = seen; now = now; stuck_faults = stuck_faults }) units'
        stand_ins' functions blocks stands body.statements s

    function_q : (f : Function) (vs : List Datum)
        → Q Datum (function_value stuck_faults units now f vs) (function_value stand_ins' units' now f vs)
    function_q f vs = closed.continues (q_attempt (bound_inputs f.fresh f.inputs vs))
        (λ s. closed.continues (body_q of_call f.body [] s) (λ e. q_attempt _))

    block_call_q : (b : Block) (at : Path) (s : Store)
        → Q Store (block_call stuck_faults units image now b at s) (block_call stand_ins' units' image now b at s)
    block_call_q b at s = closed.continues (body_q (of_block at) b.body image s) (λ e. closed.begins (store_of e))

    standard_q : (k : standard.StandardBlock) (at : Path) (s : Store)
        → Q Store (standard_call stuck_faults k now at s) (standard_call stand_ins' k now at s)
    standard_q k at s = closed.continues (q_attempt (or_failure ill_typed (member_values s at (members_of k))))
        (λ vs. q_attempt (members_assigned s at (members_of k) (stepped k now vs)))

    pub functions_q : (f : Name) (vs : List Datum)
        → Q Datum (function_call stuck_faults library units now f vs) (function_call stand_ins' library units' now f vs)
    functions_q f vs = closed.continues (q_attempt (or_failure ill_typed (function_in library.functions f)))
        (λ g. function_q g vs)

    pub instances_q : (b : Name) (o : Option standard.StandardBlock) (at : Path) (s : Store)
        → Q Store (instance_call stuck_faults library image units now b o at s)
        (instance_call stand_ins' library image units' now b o at s)
    instances_q b (Some k) at s = standard_q k at s
    instances_q b None at s = closed.continues (q_attempt (or_failure ill_typed (block_in library.blocks b)))
        (λ c. block_call_q c at s)
