-- Statements, by the resolutions of their parts.
use Rattle.std.proofs.Common.{◌≡◌, ◌∙◌, ap, List, map, Option, Some, None}
use Rattle.std.specs.Prelude.{option_map}
use Rattle.st_types.specs.declared.identifier.Identifier.{Identifier}
use Rattle.st_types.specs.declared.kind.Kind.{Kind}
use Rattle.st_types.specs.declared.kind.Kind.TheVariants.{Bool as Boolean}
use Rattle.st_types.specs.declared.statement.Label.{Label}
use Rattle.st_types.specs.Expressions.{Expr}
use Rattle.st_types.specs.Statements.{Stmt, Arm, CaseArm, Stmts, IF, CASE, FOR, WHILE, REPEAT, stmts_of, arms_of}
use Rattle.st_types.specs.Statements.{case_arms_of}
use Rattle.st_types.specs.Units.{OrganisationUnit}
use Rattle.st_meaning.specs.NameTypes.{Declared, variable_type}
use Rattle.st_meaning.specs.Resolution.{own_kind, resolved_expr}
use Rattle.st_meaning.specs.ResolvedUnits.{kind_there, resolved_label, resolved_stmt, resolved_stmts, resolved_arms}
use Rattle.st_meaning.specs.ResolvedUnits.{resolved_case_arms}
use Rattle.st_resolved.specs.Arms.{resolved_arm, resolved_case_arm}
use Rattle.st_resolved.proofs.ListLemmas.{stmts_resolved, arms_resolved, case_arms_resolved}

abbrev arm : Expr → Stmts → Arm
arm e xs = (e, xs)

abbrev case_arm : List Label → Stmts → CaseArm
case_arm labels xs = (labels, xs)

module _ (text : Declared) (u : OrganisationUnit) (xs ys : List Stmt) (each : ys ≡ map (resolved_stmt text u) xs) where
  body_resolved : stmts_of ys ≡ resolved_stmts text u (stmts_of xs)
  body_resolved = ap stmts_of each ∙ stmts_resolved text u xs

  pub arm_resolved : (e e' : Expr) → e' ≡ resolved_expr text u (Some Boolean) e
      → arm e' (stmts_of ys) ≡ resolved_arm text u (arm e (stmts_of xs))
  arm_resolved e e' is = ap (λ x. arm x (stmts_of ys)) is ∙ ap (arm (resolved_expr text u (Some Boolean) e)) body_resolved

  pub case_arm_resolved : (k : Option Kind) (ls ls' : List Label) → ls' ≡ map (resolved_label text k) ls
      → case_arm ls' (stmts_of ys) ≡ resolved_case_arm text u k (case_arm ls (stmts_of xs))
  case_arm_resolved k ls ls' is =
      ap (λ x. case_arm x (stmts_of ys)) is ∙ ap (case_arm (map (resolved_label text k) ls)) body_resolved

  pub if_resolved : (arms arms' : List Arm) → arms' ≡ map (resolved_arm text u) arms
      → IF (arms_of arms') (stmts_of ys) ≡ resolved_stmt text u (IF (arms_of arms) (stmts_of xs))
  if_resolved arms arms' is =
      ap (λ x. IF x (stmts_of ys)) (ap arms_of is ∙ arms_resolved text u arms)
      ∙ ap (IF (resolved_arms text u (arms_of arms))) body_resolved

  pub case_resolved : (e e' : Expr) (k : Option Kind) (arms arms' : List CaseArm) → k ≡ own_kind text u e
      → e' ≡ resolved_expr text u None e → arms' ≡ map (resolved_case_arm text u k) arms
      → CASE e' (case_arms_of arms') (stmts_of ys) ≡ resolved_stmt text u (CASE e (case_arms_of arms) (stmts_of xs))
  case_resolved e e' k arms arms' kind is each_arm =
      ap (λ x. CASE x (case_arms_of arms') (stmts_of ys)) is
      ∙ ap (λ x. CASE (resolved_expr text u None e) x (stmts_of ys)) (ap case_arms_of each_arm
      ∙ case_arms_resolved text u k arms ∙ ap (λ l. resolved_case_arms text u l (case_arms_of arms)) kind)
      ∙ ap (CASE (resolved_expr text u None e) (resolved_case_arms text u (own_kind text u e) (case_arms_of arms)))
      body_resolved

  pub for_resolved : (x x' : Identifier) (k : Option Kind) (s s' l l' : Expr) (by by' : Option Expr) → x' ≡ x
      → k ≡ kind_there text (variable_type u x.name) → s' ≡ resolved_expr text u k s → l' ≡ resolved_expr text u k l
      → by' ≡ option_map (resolved_expr text u k) by
      → FOR x' s' l' by' (stmts_of ys) ≡ resolved_stmt text u (FOR x s l by (stmts_of xs))
  for_resolved x x' k s s' l l' by by' same kind start limit step =
      let m = kind_there text (variable_type u x.name) in
      ap (λ y. FOR y s' l' by' (stmts_of ys)) same
      ∙ ap (λ e. FOR x e l' by' (stmts_of ys)) (start ∙ ap (λ n. resolved_expr text u n s) kind)
      ∙ ap (λ e. FOR x (resolved_expr text u m s) e by' (stmts_of ys)) (limit ∙ ap (λ n. resolved_expr text u n l) kind)
      ∙ ap (λ o. FOR x (resolved_expr text u m s) (resolved_expr text u m l) o (stmts_of ys))
      (step ∙ ap (λ n. option_map (resolved_expr text u n) by) kind)
      ∙ ap (FOR x (resolved_expr text u m s) (resolved_expr text u m l) (option_map (resolved_expr text u m) by))
      body_resolved

  pub while_resolved : (e e' : Expr) → e' ≡ resolved_expr text u (Some Boolean) e
      → WHILE e' (stmts_of ys) ≡ resolved_stmt text u (WHILE e (stmts_of xs))
  while_resolved e e' is =
      ap (λ x. WHILE x (stmts_of ys)) is ∙ ap (WHILE (resolved_expr text u (Some Boolean) e)) body_resolved

  pub repeat_resolved : (e e' : Expr) → e' ≡ resolved_expr text u (Some Boolean) e
      → REPEAT (stmts_of ys) e' ≡ resolved_stmt text u (REPEAT (stmts_of xs) e)
  repeat_resolved e e' is =
      ap (REPEAT (stmts_of ys)) is ∙ ap (λ b. REPEAT b (resolved_expr text u (Some Boolean) e)) body_resolved
