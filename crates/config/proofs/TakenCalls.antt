-- A unit calls the same functions if its literals have their types.
use Rattle.std.proofs.Common.{◌≡◌, refl, sym, ap, ap₂, ◌∙◌, List, []}
use Rattle.std.proofs.Common.{◌∷◌, ◌++◌, map, Option, Some, None, option_map}
use Rattle.std.specs.List.{flat_map}
use Rattle.std.proofs.lemmas.Grind.{flat_map-append}
use Rattle.st_types.specs.declared.kind.Kind.{Kind}
use Rattle.st_types.specs.Expressions as named
use Rattle.st_types.specs.Expressions.{Expr, literal, read, parenthesis, Exprs, Variable, variable, Selector}
use Rattle.st_types.specs.Expressions.{Selectors, no_selectors, selector_then, member, subscript}
use Rattle.st_types.specs.Statements as text
use Rattle.st_types.specs.Statements.{Argument, Stmt, Stmts, Arms, CaseArms, stmts_of}
use Rattle.st_types.specs.Units.{OrganisationUnit}
use Rattle.st_types.specs.declared.literal.Literal.TheVariants as literals
use Rattle.st_meaning.specs.Enumerations.{Member, number_of_member}
use Rattle.st_meaning.specs.NameTypes.{Declared, variable_type}
use Rattle.st_meaning.specs.Resolution.{argument_kinds, first_kind, member_read, operand_kind, other_kinds, own_kind}
use Rattle.st_meaning.specs.Resolution.{place_of_variable, resolved_expr, resolved_exprs, resolved_selector}
use Rattle.st_meaning.specs.Resolution.{resolved_selectors, resolved_variable}
use Rattle.st_meaning.specs.ResolvedUnits.{kind_there, resolved, resolved_argument, resolved_arms, resolved_case_arms}
use Rattle.st_meaning.specs.ResolvedUnits.{resolved_stmt, resolved_stmts}
use Rattle.st_meaning.specs.Scopes.{Name}
use Rattle.st_rules.specs.Containment.{calls_in, calls_in_all}
use Rattle.st_rules.specs.Containment.{calls_in_argument, calls_in_conditions, calls_in_selector}
use Rattle.st_rules.specs.Containment.{calls_in_selectors, calls_in_statement}
use Rattle.st_rules.specs.Containment.{calls_in_step, calls_in_variable, calls_of}
use Rattle.st_decl.specs.Flattened.{all_below, all_in, all_in_arms, all_in_case_arms}
use Rattle.st_decl.proofs.FlatLemmas.{calls_by_statements}
use Rattle.st_link.proofs.TakenBodies.{statements_taken}

module _ (d : Declared) (u : OrganisationUnit) where
  mutual
    expr_same : (k : Option Kind) (e : Expr) → calls_in (resolved_expr d u k e) ≡ calls_in e
    expr_same k (literal l) = refl
    expr_same k (read (variable x no_selectors)) = by_member (member_read d u (variable x no_selectors))
      where
        by_member : (o : Option Member) → calls_in (elim o [
          | Some m ↦ literal (literals.Number (number_of_member (place_of_variable (variable x no_selectors)) m))
          | None ↦ read (resolved_variable d u (variable x no_selectors))
        ]) ≡ []
        by_member None = refl
        by_member (Some m) = refl
    expr_same k (read (variable x (selector_then y ys))) = selectors_same (selector_then y ys)
    expr_same k (named.call f es) = ap (λ xs. f.name ∷ xs) (exprs_same (argument_kinds d u f.name es) es)
    expr_same k (parenthesis at e) = expr_same k e
    expr_same k (named.unary op at e) = expr_same k e
    expr_same k (named.binary op l r) = ap₂ (λ xs ys. xs ++ ys) (expr_same (operand_kind d u k op l r) l)
        (expr_same (operand_kind d u k op l r) r)

    exprs_same : (ks : List (Option Kind)) (es : Exprs) → calls_in_all (resolved_exprs d u ks es) ≡ calls_in_all es
    exprs_same ks named.no_exprs = refl
    exprs_same ks (named.expr_then e es) =
        ap₂ (λ xs ys. xs ++ ys) (expr_same (first_kind ks) e) (exprs_same (other_kinds ks) es)

    selectors_same : (xs : Selectors) → calls_in_selectors (resolved_selectors d u xs) ≡ calls_in_selectors xs
    selectors_same no_selectors = refl
    selectors_same (selector_then x xs) = ap₂ (λ ys zs. ys ++ zs) (selector_same x) (selectors_same xs)

    selector_same : (x : Selector) → calls_in_selector (resolved_selector d u x) ≡ calls_in_selector x
    selector_same (member x) = refl
    selector_same (subscript e) = expr_same None e

  variable_same : (v : Variable) → calls_in_variable (resolved_variable d u v) ≡ calls_in_variable v
  variable_same (variable x xs) = selectors_same xs

  step_same : (k : Option Kind) (o : Option Expr)
      → calls_in_step (option_map (resolved_expr d u k) o) ≡ calls_in_step o
  step_same k None = refl
  step_same k (Some e) = expr_same k e

  argument_same : (x : Name) (y : Argument) → calls_in_argument (resolved_argument d u x y) ≡ calls_in_argument y
  argument_same x (text.given y e) = expr_same _ e
  argument_same x (text.copied y v) = variable_same v

  arguments_same : (x : Name) (ys : List Argument) → flat_map calls_in_argument (map (resolved_argument d u x) ys)
      ≡ flat_map calls_in_argument ys
  arguments_same x [] = refl
  arguments_same x (y ∷ ys) = ap₂ (λ xs zs. xs ++ zs) (argument_same x y) (arguments_same x ys)

  conditions_same : (arms : Arms) → calls_in_conditions (resolved_arms d u arms) ≡ calls_in_conditions arms
  conditions_same text.no_arms = refl
  conditions_same (text.arm_then e body arms) = ap₂ (λ xs ys. xs ++ ys) (expr_same _ e) (conditions_same arms)

  own_same : (x : Stmt) → calls_in_statement (resolved_stmt d u x) ≡ calls_in_statement x
  own_same text.empty = refl
  own_same (text.assign v e) = ap₂ (λ xs ys. xs ++ ys) (variable_same v) (expr_same _ e)
  own_same (text.invoke x arguments) = arguments_same x.name arguments
  own_same (text.IF arms otherwise) = conditions_same arms
  own_same (text.CASE e arms otherwise) = expr_same _ e
  own_same (text.FOR x start limit step body) =
      let k = kind_there d (variable_type u x.name) in
      ap₂ (λ xs ys. xs ++ ys) (ap₂ (λ xs ys. xs ++ ys) (expr_same k start) (expr_same k limit)) (step_same k step)
  own_same (text.WHILE e body) = expr_same _ e
  own_same (text.REPEAT body e) = expr_same _ e
  own_same (text.EXIT at) = refl
  own_same text.RETURN = refl

  abbrev calls : List Stmt → List Name
  calls xs = flat_map calls_in_statement xs

  together : (xs xs' ys ys' : List Stmt) → calls xs ≡ calls xs' → calls ys ≡ calls ys'
      → calls (xs ++ ys) ≡ calls (xs' ++ ys')
  together xs xs' ys ys' g h =
      flat_map-append calls_in_statement xs ys ∙ ap₂ (λ vs ws. vs ++ ws) g h
      ∙ sym (flat_map-append calls_in_statement xs' ys')

  mutual
    below_same : (x : Stmt) → calls (all_below (resolved_stmt d u x)) ≡ calls (all_below x)
    below_same (text.IF arms otherwise) = together (all_in_arms (resolved_arms d u arms))
        (all_in_arms arms) (all_in (resolved_stmts d u otherwise)) (all_in otherwise) (arms_same arms)
        (stmts_same otherwise)
    below_same (text.CASE e arms otherwise) = together
        (all_in_case_arms (resolved_case_arms d u (own_kind d u e) arms)) (all_in_case_arms arms)
        (all_in (resolved_stmts d u otherwise)) (all_in otherwise) (cases_same (own_kind d u e) arms)
        (stmts_same otherwise)
    below_same (text.FOR x start limit step body) = stmts_same body
    below_same (text.WHILE e body) = stmts_same body
    below_same (text.REPEAT body e) = stmts_same body
    below_same text.empty = refl
    below_same (text.assign v e) = refl
    below_same (text.invoke x arguments) = refl
    below_same (text.EXIT at) = refl
    below_same text.RETURN = refl

    stmts_same : (xs : Stmts) → calls (all_in (resolved_stmts d u xs)) ≡ calls (all_in xs)
    stmts_same text.no_stmts = refl
    stmts_same (text.stmt_then x xs) =
        together (resolved_stmt d u x ∷ all_below (resolved_stmt d u x)) (x ∷ all_below x)
        (all_in (resolved_stmts d u xs)) (all_in xs)
        (ap₂ (λ vs ws. vs ++ ws) (own_same x) (below_same x)) (stmts_same xs)

    arms_same : (arms : Arms) → calls (all_in_arms (resolved_arms d u arms)) ≡ calls (all_in_arms arms)
    arms_same text.no_arms = refl
    arms_same (text.arm_then e body arms) = together (all_in (resolved_stmts d u body)) (all_in body)
        (all_in_arms (resolved_arms d u arms)) (all_in_arms arms) (stmts_same body) (arms_same arms)

    cases_same : (k : Option Kind) (arms : CaseArms)
        → calls (all_in_case_arms (resolved_case_arms d u k arms)) ≡ calls (all_in_case_arms arms)
    cases_same k text.no_case_arms = refl
    cases_same k (text.case_arm_then labels body arms) = together (all_in (resolved_stmts d u body)) (all_in body)
        (all_in_case_arms (resolved_case_arms d u k arms)) (all_in_case_arms arms) (stmts_same body)
        (cases_same k arms)

  pub calls_taken : calls_of (resolved d u) ≡ calls_of u
  calls_taken =
      calls_by_statements (resolved d u)
      ∙ ap (λ xs. flat_map calls_in_statement (all_in xs)) (statements_taken d u u.body)
      ∙ stmts_same (stmts_of u.body) ∙ sym (calls_by_statements u)
