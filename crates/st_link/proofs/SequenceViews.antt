-- The chains of the definitions, linked element by element.
use Rattle.std.proofs.Common.{◌≡◌, refl, ap, ◌∙◌, List, [], ◌∷◌, Option, Some, None}
use Rattle.std.specs.Prelude.{option_map, option_and_then}
use Rattle.st_types.specs.declared.statement.Label.{Label}
use Rattle.st_types.specs.Expressions as trees
use Rattle.st_types.specs.Statements as texts
use Rattle.layout.specs.Shapes.{Parts}
use Rattle.slot_trees.specs.SlotTrees.{SlotExpr, SlotStmts, expr_then, stmt_then, arm_then, case_arm_then}
use Rattle.slot_trees.specs.Linking.{linked, linked_all}
use Rattle.slot_trees.specs.LinkedStatements.{linked_argument, linked_arguments, linked_arms, linked_case_arms}
use Rattle.slot_trees.specs.LinkedStatements.{linked_stmt, linked_stmts}
use Rattle.slot_trees.specs.Tables.{Table}
use Rattle.slot_trees.specs.Chains.{Arm, CaseArm, exprs_of, stmts_of, arms_of, case_arms_of}
use Rattle.st_link.specs.Arms.{linked_arm, linked_case_arm}
use Rattle.st_link.proofs.Sequences.{traversed}

-- one element in front of a chain
chained : {B S : Type 0} (link : B → S → S) (chain : List B → S) (o : Option B) (rest : Option (List B)) (r : Option S)
    → r ≡ option_map chain rest → ((y : B) (ys : List B) → chain (y ∷ ys) ≡ link y (chain ys))
    → option_and_then (λ y. option_map (link y) r) o
    ≡ option_map chain (option_and_then (λ y. option_map (λ ys. y ∷ ys) rest) o)
chained link chain None rest r is more = refl
chained link chain (Some y) None r is more = ap (option_map (link y)) is
chained link chain (Some y) (Some ys) r is more = ap (option_map (link y)) is ∙ ap Some (turned (more y ys))
  where
    turned : {A : Type 0} {a b : A} → a ≡ b → b ≡ a
    turned h = cc

pub exprs_linked : (t : Table) (es : List trees.Expr)
    → linked_all t (trees.exprs_of es) ≡ option_map exprs_of (traversed (linked t) es)
exprs_linked t [] = refl
exprs_linked t (e ∷ es) =
    chained expr_then exprs_of (linked t e) (traversed (linked t) es) (linked_all t (trees.exprs_of es))
    (exprs_linked t es) (λ y ys. refl)

pub stmts_linked : (t : Table) (xs : List texts.Stmt)
    → linked_stmts t (texts.stmts_of xs) ≡ option_map stmts_of (traversed (linked_stmt t) xs)
stmts_linked t [] = refl
stmts_linked t (x ∷ xs) =
    chained stmt_then stmts_of (linked_stmt t x) (traversed (linked_stmt t) xs) (linked_stmts t (texts.stmts_of xs))
    (stmts_linked t xs) (λ y ys. refl)

-- two parts of an arm, one after the other or both at once
paired : {A B C : Type 0} (more : A → B → Option C) (a : Option A) (b : Option B)
    → option_and_then (λ x. option_and_then (λ y. more x y) b) a
    ≡ option_and_then (λ (p : A × B). more p.0 p.1) (option_and_then (λ x. option_map (λ y. (x, y)) b) a)
paired more None b = refl
paired more (Some x) None = refl
paired more (Some x) (Some y) = refl

labelled : {A B C : Type 0} (more : A → B → Option C) (x : A) (b : Option B)
    → option_and_then (λ y. more x y) b ≡ option_and_then (λ (p : A × B). more p.0 p.1) (option_map (λ y. (x, y)) b)
labelled more x None = refl
labelled more x (Some y) = refl

pub arms_linked : (t : Table) (arms : List texts.Arm)
    → linked_arms t (texts.arms_of arms) ≡ option_map arms_of (traversed (linked_arm t) arms)
arms_linked t [] = refl
arms_linked t (a ∷ arms) =
    paired (λ x b. option_map (arm_then x b) (linked_arms t (texts.arms_of arms))) (linked t a.0) (linked_stmts t a.1)
    ∙ chained (λ p. arm_then p.0 p.1) arms_of (linked_arm t a) (traversed (linked_arm t) arms)
    (linked_arms t (texts.arms_of arms)) (arms_linked t arms) (λ y ys. refl)

pub case_arms_linked : (t : Table) (arms : List texts.CaseArm)
    → linked_case_arms t (texts.case_arms_of arms) ≡ option_map case_arms_of (traversed (linked_case_arm t) arms)
case_arms_linked t [] = refl
case_arms_linked t (a ∷ arms) =
    labelled (λ labels b. option_map (case_arm_then labels b) (linked_case_arms t (texts.case_arms_of arms))) a.0
    (linked_stmts t a.1)
    ∙ chained (λ p. case_arm_then p.0 p.1) case_arms_of (linked_case_arm t a) (traversed (linked_case_arm t) arms)
    (linked_case_arms t (texts.case_arms_of arms)) (case_arms_linked t arms) (λ y ys. refl)

pub arguments_linked : (t : Table) (ps : Parts) (arguments : List texts.Argument)
    → linked_arguments t ps arguments ≡ traversed (linked_argument t ps) arguments
arguments_linked t ps [] = refl
arguments_linked t ps (a ∷ arguments) =
    ap (λ o. option_and_then (λ x. option_map (λ xs. x ∷ xs) o) (linked_argument t ps a))
    (arguments_linked t ps arguments)
