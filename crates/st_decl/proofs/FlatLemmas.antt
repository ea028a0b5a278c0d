-- Lists of statements with and without the loops that they are in.
use Rattle.std.proofs.Common.{◌≡◌, refl, sym, ap, ◌∙◌, List, [], ◌∷◌, ◌++◌, map}
use Rattle.std.specs.Prelude.{Vec, Result, Ok, Err, IfOk}
use Rattle.std.specs.declared.alloc.Global.{Global}
use Rattle.std.specs.List.{flat_map}
use Rattle.std.proofs.lemmas.List.{map-append, append_assoc}
use Rattle.st_types.specs.declared.expression.Expr as code_expr
use Rattle.st_types.specs.declared.statement.Stmt as code_stmt
use Rattle.st_types.specs.declared.statement.Arm as code_arm
use Rattle.st_types.specs.declared.statement.CaseArm as code_case_arm
use Rattle.st_types.specs.StatementViews.{stmt_view, stmts_view, arm_view, case_arm_view}
use Rattle.st_types.specs.Statements.{arms_of, case_arms_of}
use Rattle.st_types.proofs.Bridge.{choose_view, select_view}
use Rattle.st_types.specs.Statements.{Stmt, empty, assign, invoke, IF, CASE, FOR, WHILE, REPEAT, EXIT, RETURN, Stmts}
use Rattle.st_types.specs.Statements.{no_stmts, stmt_then, Arms, no_arms, arm_then, CaseArms, no_case_arms}
use Rattle.st_types.specs.Statements.{case_arm_then, stmts_of}
use Rattle.st_types.specs.Units.{OrganisationUnit}
use Rattle.st_rules.specs.Statements.{Context, Placed, in_for, in_loop, outside, statements_below, statements_of}
use Rattle.st_rules.specs.Statements.{statements_of_arms, statements_of_case_arms, statements_in}
use Rattle.st_rules.specs.Containment.{calls_in_statement, calls_of}
use Rattle.st_decl.specs.Flattened.{all_below, all_in, all_in_arms, all_in_case_arms}

abbrev bare : List Placed → List Stmt
bare = map (λ p. p.statement)

both : (ps qs : List Placed) (xs ys : List Stmt) → bare ps ≡ xs → bare qs ≡ ys → bare (ps ++ qs) ≡ xs ++ ys
both ps qs xs ys h k = map-append (λ p. p.statement) ps qs ∙ ap (λ zs. zs ++ bare qs) h ∙ ap (λ zs. xs ++ zs) k

mutual
  bare_below : (c : Context) (x : Stmt) → bare (statements_below c x) ≡ all_below x
  bare_below c (IF arms otherwise) = both (statements_of_arms c arms) (statements_of c otherwise) (all_in_arms arms)
      (all_in otherwise) (bare_arms c arms) (bare_all c otherwise)
  bare_below c (CASE e arms otherwise) = both (statements_of_case_arms c arms) (statements_of c otherwise)
      (all_in_case_arms arms) (all_in otherwise) (bare_case_arms c arms) (bare_all c otherwise)
  bare_below c (FOR x start limit step body) = bare_all (in_for x.name c) body
  bare_below c (WHILE e body) = bare_all (in_loop c) body
  bare_below c (REPEAT body e) = bare_all (in_loop c) body
  bare_below c empty = refl
  bare_below c (assign v e) = refl
  bare_below c (invoke x arguments) = refl
  bare_below c (EXIT at) = refl
  bare_below c RETURN = refl

  bare_all : (c : Context) (xs : Stmts) → bare (statements_of c xs) ≡ all_in xs
  bare_all c no_stmts = refl
  bare_all c (stmt_then x xs) = ap (λ ys. x ∷ ys)
      (both (statements_below c x) (statements_of c xs) (all_below x) (all_in xs) (bare_below c x) (bare_all c xs))

  bare_arms : (c : Context) (arms : Arms) → bare (statements_of_arms c arms) ≡ all_in_arms arms
  bare_arms c no_arms = refl
  bare_arms c (arm_then e body arms) = both (statements_of c body) (statements_of_arms c arms) (all_in body)
      (all_in_arms arms) (bare_all c body) (bare_arms c arms)

  bare_case_arms : (c : Context) (arms : CaseArms) → bare (statements_of_case_arms c arms) ≡ all_in_case_arms arms
  bare_case_arms c no_case_arms = refl
  bare_case_arms c (case_arm_then labels body arms) = both (statements_of c body) (statements_of_case_arms c arms)
      (all_in body) (all_in_case_arms arms) (bare_all c body) (bare_case_arms c arms)

over_bare : {X : Type 0} (f : Stmt → List X) (ps : List Placed)
    → flat_map f (bare ps) ≡ flat_map (λ p. f p.statement) ps
over_bare f [] = refl
over_bare f (p ∷ ps) = ap (λ ys. f p.statement ++ ys) (over_bare f ps)

pub calls_by_statements : (u : OrganisationUnit)
    → calls_of u ≡ flat_map calls_in_statement (all_in (stmts_of u.body))
calls_by_statements u = sym (over_bare calls_in_statement (statements_in u))
    ∙ ap (flat_map calls_in_statement) (bare_all outside (stmts_of u.body))

-- the statements inside an IF and a CASE, by their parts
pub if_below : (x : code_stmt.Stmt) (arms : Vec code_arm.Arm Global) (otherwise : Vec code_stmt.Stmt Global)
    → x ≡ code_stmt.If arms otherwise → all_below (stmt_view x)
    ≡ all_in_arms (arms_of (map arm_view arms.items)) ++ all_in (stmts_view otherwise.items)
if_below x arms otherwise is = ap (λ y. all_below (stmt_view y)) is ∙ ap all_below (choose_view arms otherwise)

pub case_below : (x : code_stmt.Stmt) (selector : code_expr.Expr) (arms : Vec code_case_arm.CaseArm Global)
    (otherwise : Vec code_stmt.Stmt Global) → x ≡ code_stmt.Case selector arms otherwise → all_below (stmt_view x)
    ≡ all_in_case_arms (case_arms_of (map case_arm_view arms.items)) ++ all_in (stmts_view otherwise.items)
case_below x selector arms otherwise is =
    ap (λ y. all_below (stmt_view y)) is ∙ ap all_below (select_view selector arms otherwise)

-- the list after two pushes
pub joined : {A E X : Type 0} (r : Result A E) (start mid all ys zs both : List X) → mid ≡ start ++ ys → both ≡ ys ++ zs
    → IfOk r (λ d. all ≡ mid ++ zs) → IfOk r (λ d. all ≡ start ++ both)
joined (Ok d) start mid all ys zs both h k more =
    more ∙ ap (λ xs. xs ++ zs) h ∙ append_assoc start ys zs ∙ ap (λ xs. start ++ xs) (sym k)
joined (Err e) start mid all ys zs both h k more = tt
