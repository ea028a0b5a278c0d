-- A property of each function that a body calls is a property of its calls.
use Rattle.std.proofs.Common.{sym, subst, List, [], ◌∷◌, ◌++◌, Option, Some, None}
use Rattle.std.specs.List.{flat_map}
use Rattle.std.proofs.lemmas.List.Concat.{flat_map-append}
use Rattle.st_types.specs.Expressions as named
use Rattle.st_types.specs.Expressions.{Expr, literal, read, parenthesis, Exprs, Variable, variable, member, subscript}
use Rattle.st_types.specs.Expressions.{Selectors, no_selectors, selector_then}
use Rattle.st_types.specs.Statements as text
use Rattle.st_types.specs.Statements.{Argument, Stmt, Stmts, Arms, CaseArms}
use Rattle.st_meaning.specs.Scopes.{Name}
use Rattle.st_rules.specs.Containment.{calls_in, calls_in_all, calls_in_variable, calls_in_selectors}
use Rattle.st_rules.specs.Containment.{calls_in_argument, calls_in_conditions, calls_in_step, calls_in_statement}
use Rattle.st_rules.specs.Statements.{Context, Placed, placed, in_loop, in_for, statements_below, statements_of}
use Rattle.st_rules.specs.Statements.{statements_of_arms, statements_of_case_arms}
use Rattle.st_link.proofs.Among.{Among, here, later, in_front, in_back}
use Rattle.config.specs.Spelled.{IsAny, ExprOf, ExprsOf, VariableOf, SelectorsOf, StepOf, ArgumentsOf, StmtOf}
use Rattle.config.specs.Spelled.{StmtsOf, ArmsOf, CaseArmsOf}

abbrev calls_at : Placed → List Name
calls_at p = calls_in_statement p.statement

module _ (P : Name → Type 0) where
  abbrev Each : List Name → Type 0
  Each xs = (f : Name) → Among f xs → P f

  mutual
    expr_of : (e : Expr) → ExprOf IsAny e → Each (calls_in e) → ExprOf P e
    expr_of (literal l) of each = of
    expr_of (read v) of each = variable_of v of each
    expr_of (named.call f es) of each =
        (each f.name here, exprs_of es of.1 (λ g a. each g (later a)))
    expr_of (parenthesis at e) of each = expr_of e of each
    expr_of (named.unary op at e) of each = expr_of e of each
    expr_of (named.binary op l r) of each = (
      expr_of l of.0 (λ g a. each g (in_front (calls_in r) a)),
      expr_of r of.1 (λ g a. each g (in_back (calls_in l) a)),
    )

    exprs_of : (es : Exprs) → ExprsOf IsAny es → Each (calls_in_all es) → ExprsOf P es
    exprs_of named.no_exprs of each = tt
    exprs_of (named.expr_then e es) of each = (
      expr_of e of.0 (λ g a. each g (in_front (calls_in_all es) a)),
      exprs_of es of.1 (λ g a. each g (in_back (calls_in e) a)),
    )

    variable_of : (v : Variable) → VariableOf IsAny v → Each (calls_in_variable v) → VariableOf P v
    variable_of (variable x xs) of each = selectors_of xs of each

    selectors_of : (xs : Selectors) → SelectorsOf IsAny xs → Each (calls_in_selectors xs) → SelectorsOf P xs
    selectors_of no_selectors of each = tt
    selectors_of (selector_then (member x) xs) of each = selectors_of xs of each
    selectors_of (selector_then (subscript e) xs) of each = (
      expr_of e of.0 (λ g a. each g (in_front (calls_in_selectors xs) a)),
      selectors_of xs of.1 (λ g a. each g (in_back (calls_in e) a)),
    )

  step_of : (o : Option Expr) → StepOf IsAny o → Each (calls_in_step o) → StepOf P o
  step_of None of each = tt
  step_of (Some e) of each = expr_of e of each

  arguments_of : (arguments : List Argument) → ArgumentsOf IsAny arguments → Each (flat_map calls_in_argument arguments)
      → ArgumentsOf P arguments
  arguments_of [] of each = tt
  arguments_of (text.given x e ∷ rest) of each = (
    expr_of e of.0 (λ g a. each g (in_front (flat_map calls_in_argument rest) a)),
    arguments_of rest of.1 (λ g a. each g (in_back (calls_in e) a)),
  )
  arguments_of (text.copied x v ∷ rest) of each = (
    variable_of v of.0 (λ g a. each g (in_front (flat_map calls_in_argument rest) a)),
    arguments_of rest of.1 (λ g a. each g (in_back (calls_in_variable v) a)),
  )

  -- statements
  abbrev EachIn : List Placed → Type 0
  EachIn ps = Each (flat_map calls_at ps)

  in_first : (ps qs : List Placed) → EachIn (ps ++ qs) → EachIn ps
  in_first ps qs each f a =
      each f (subst (λ xs. Among f xs) (sym (flat_map-append calls_at ps qs)) (in_front (flat_map calls_at qs) a))

  in_second : (ps qs : List Placed) → EachIn (ps ++ qs) → EachIn qs
  in_second ps qs each f a =
      each f (subst (λ xs. Among f xs) (sym (flat_map-append calls_at ps qs)) (in_back (flat_map calls_at ps) a))

  mutual
    stmt_of : (c : Context) (x : Stmt) → StmtOf IsAny x → Each (calls_in_statement x) → EachIn (statements_below c x)
        → StmtOf P x
    stmt_of c text.empty of own below = tt
    stmt_of c (text.assign v e) of own below = (
      variable_of v of.0 (λ g a. own g (in_front (calls_in e) a)),
      expr_of e of.1 (λ g a. own g (in_back (calls_in_variable v) a)),
    )
    stmt_of c (text.invoke x arguments) of own below = arguments_of arguments of own
    stmt_of c (text.IF arms otherwise) of own below = (
      arms_of c arms of.0 own (in_first (statements_of_arms c arms) (statements_of c otherwise) below),
      stmts_of c otherwise of.1 (in_second (statements_of_arms c arms) (statements_of c otherwise) below),
    )
    stmt_of c (text.CASE e arms otherwise) of own below = (
      expr_of e of.0 own,
      cases_of c arms of.1 (in_first (statements_of_case_arms c arms) (statements_of c otherwise) below),
      stmts_of c otherwise of.2 (in_second (statements_of_case_arms c arms) (statements_of c otherwise) below),
    )
    stmt_of c (text.FOR x start limit step body) of own below = (
      expr_of start of.0 (λ g a. own g (in_front (calls_in_step step) (in_front (calls_in limit) a))),
      expr_of limit of.1 (λ g a. own g (in_front (calls_in_step step) (in_back (calls_in start) a))),
      step_of step of.2 (λ g a. own g (in_back (calls_in start ++ calls_in limit) a)),
      stmts_of (in_for x.name c) body of.3 below,
    )
    stmt_of c (text.WHILE e body) of own below = (expr_of e of.0 own, stmts_of (in_loop c) body of.1 below)
    stmt_of c (text.REPEAT body e) of own below = (stmts_of (in_loop c) body of.0 below, expr_of e of.1 own)
    stmt_of c (text.EXIT at) of own below = tt
    stmt_of c text.RETURN of own below = tt

    pub stmts_of : (c : Context) (xs : Stmts) → StmtsOf IsAny xs
        → ((f : Name) → Among f (flat_map (λ (p : Placed). calls_in_statement p.statement) (statements_of c xs)) → P f)
        → StmtsOf P xs
    stmts_of c text.no_stmts of each = tt
    stmts_of c (text.stmt_then x xs) of each =
        let below = statements_below c x in
        let first = in_first (placed c x ∷ below) (statements_of c xs) each in (
          stmt_of c x of.0 (λ g a. first g (in_front (flat_map calls_at below) a))
              (λ g a. first g (in_back (calls_in_statement x) a)),
          stmts_of c xs of.1 (in_second (placed c x ∷ below) (statements_of c xs) each),
        )

    arms_of : (c : Context) (arms : Arms) → ArmsOf IsAny arms → Each (calls_in_conditions arms)
        → EachIn (statements_of_arms c arms) → ArmsOf P arms
    arms_of c text.no_arms of own below = tt
    arms_of c (text.arm_then e body arms) of own below = (
      expr_of e of.0 (λ g a. own g (in_front (calls_in_conditions arms) a)),
      stmts_of c body of.1 (in_first (statements_of c body) (statements_of_arms c arms) below),
      arms_of c arms of.2 (λ g a. own g (in_back (calls_in e) a))
          (in_second (statements_of c body) (statements_of_arms c arms) below),
    )

    cases_of : (c : Context) (arms : CaseArms) → CaseArmsOf IsAny arms → EachIn (statements_of_case_arms c arms)
        → CaseArmsOf P arms
    cases_of c text.no_case_arms of below = tt
    cases_of c (text.case_arm_then labels body arms) of below = (
      of.0,
      stmts_of c body of.1 (in_first (statements_of c body) (statements_of_case_arms c arms) below),
      cases_of c arms of.2 (in_second (statements_of c body) (statements_of_case_arms c arms) below),
    )
