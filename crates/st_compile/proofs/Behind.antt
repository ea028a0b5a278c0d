-- A list of trees has at least the instructions of one of them and of those after it.
use Rattle.std.proofs.Common.{◌≡◌, ℕ, zero, suc, ◌+◌, ◌<◌, ◌≤◌, List, [], ◌∷◌, length, drop, get_or, map, sym, subst}
use Rattle.std.proofs.Common.{ap, ◌∙◌, arith, refl}
use Rattle.st_types.specs.declared.statement.Label.{Label}
use Rattle.slot_trees.specs.declared.expression.SlotExpr as code_expr
use Rattle.slot_trees.specs.declared.expression.Subscript as code_subscript
use Rattle.slot_trees.specs.declared.statement.SlotStmt as code_stmt
use Rattle.slot_trees.specs.declared.statement.SlotArgument as code_argument
use Rattle.slot_trees.specs.declared.statement.SlotArgument.TheVariants.{Given, Copied}
use Rattle.slot_trees.specs.declared.statement.SlotArm as code_arm
use Rattle.slot_trees.specs.declared.statement.SlotCaseArm as code_case_arm
use Rattle.slot_trees.specs.Chains.{exprs_of, subscripts_of, stmts_of, arms_of, case_arms_of, Subscript}
use Rattle.slot_trees.specs.ExpressionViews.{slot_expr_view, place_view, subscript_view}
use Rattle.slot_trees.specs.StatementViews.{slot_argument_view, slot_stmt_view, slot_stmts_view, slot_arm_view}
use Rattle.slot_trees.specs.StatementViews.{slot_case_arm_view}
use Rattle.machine_code.specs.Codes.{given_members}
use Rattle.st_compile.specs.Lengths.{UnitLengths, label_length, labels_length, expr_length, exprs_length}
use Rattle.st_compile.specs.Lengths.{place_length}
use Rattle.st_compile.specs.Lengths.{subscripts_length, inputs_length, outputs_length, stmt_length, stmts_length}
use Rattle.st_compile.specs.Lengths.{arms_length, case_length, led_length}
use Rattle.st_compile.proofs.Elements.{subscript_seen}

pub labels_behind : (ls : List Label) (k j : ℕ) (l : Label) → k < length ls → j ≡ k + 1 → l ≡ get_or ls k l
    → label_length l + labels_length (drop j ls) ≤ labels_length ls
labels_behind [] k j l lt e is = absurd (omega arith)
labels_behind (x ∷ xs) zero j l lt e is =
    let s = ap label_length is in
    let d : j ≡ 1 = omega arith in
    rw d (omega arith)
labels_behind (x ∷ xs) (suc k) j l lt e is =
    let d : j ≡ suc (k + 1) = omega arith in
    let h = labels_behind xs k (k + 1) l (omega arith) refl is in
    rw d (omega arith)

pub members_behind : (xs : List code_argument.SlotArgument) (k j : ℕ) (a : code_argument.SlotArgument) → k < length xs
    → j ≡ k + 1 → a ≡ get_or xs k a
    → length (given_members (slot_argument_view a ∷ [])) + length (given_members (map slot_argument_view (drop j xs)))
    ≤ length (given_members (map slot_argument_view xs))
members_behind [] k j a lt e is = absurd (omega arith)
members_behind (Given o f ∷ xs) zero j a lt e is =
    let d : j ≡ 1 = omega arith in
    let s = ap (λ y. length (given_members (slot_argument_view y ∷ []))) is in
    rw d (omega arith)
members_behind (Copied o f ∷ xs) zero j a lt e is =
    let d : j ≡ 1 = omega arith in
    let s = ap (λ y. length (given_members (slot_argument_view y ∷ []))) is in
    rw d (omega arith)
members_behind (Given o f ∷ xs) (suc k) j a lt e is =
    let d : j ≡ suc (k + 1) = omega arith in
    let h = members_behind xs k (k + 1) a (omega arith) refl is in
    rw d (omega arith)
members_behind (Copied o f ∷ xs) (suc k) j a lt e is =
    let d : j ≡ suc (k + 1) = omega arith in
    let h = members_behind xs k (k + 1) a (omega arith) refl is in
    rw d (omega arith)

module _ (units : UnitLengths) where
  pub exprs_behind : (es : List code_expr.SlotExpr) (k j : ℕ) (e : code_expr.SlotExpr) → k < length es → j ≡ k + 1
      → e ≡ get_or es k e
      → expr_length units (slot_expr_view e) + exprs_length units (exprs_of (map slot_expr_view (drop j es)))
      ≤ exprs_length units (exprs_of (map slot_expr_view es))
  exprs_behind [] k j e lt n is = absurd (omega arith)
  exprs_behind (x ∷ xs) zero j e lt n is =
      let s = ap (λ y. expr_length units (slot_expr_view y)) is in
      let d : j ≡ 1 = omega arith in
      rw d (omega arith)
  exprs_behind (x ∷ xs) (suc k) j e lt n is =
      let d : j ≡ suc (k + 1) = omega arith in
      let h = exprs_behind xs k (k + 1) e (omega arith) refl is in
      rw d (omega arith)

  pub subscripts_behind : (ss : List code_subscript.Subscript) (k j : ℕ) (s : code_subscript.Subscript) → k < length
      ss
      → j ≡ k + 1 → s ≡ get_or ss k s
      → 1 + expr_length units (slot_expr_view s.index)
      + subscripts_length units (subscripts_of (map subscript_view (drop j ss)))
      ≤ subscripts_length units (subscripts_of (map subscript_view ss))
  subscripts_behind [] k j s lt n is = absurd (omega arith)
  subscripts_behind (x ∷ xs) zero j s lt n is =
      let e = ap (λ (y : code_subscript.Subscript). expr_length units (slot_expr_view y.index)) is in
      let v = ap (λ (y : Subscript). expr_length units y.index) (subscript_seen x) in
      let d : j ≡ 1 = omega arith in
      rw d (omega arith)
  subscripts_behind (x ∷ xs) (suc k) j s lt n is =
      let d : j ≡ suc (k + 1) = omega arith in
      let h = subscripts_behind xs k (k + 1) s (omega arith) refl is in
      rw d (omega arith)

  pub inputs_behind : (xs : List code_argument.SlotArgument) (k j : ℕ) (a : code_argument.SlotArgument)
      → k < length xs → j ≡ k + 1 → a ≡ get_or xs k a
      → inputs_length units (slot_argument_view a ∷ []) + inputs_length units (map slot_argument_view (drop j xs))
      ≤ inputs_length units (map slot_argument_view xs)
  inputs_behind [] k j a lt n is = absurd (omega arith)
  inputs_behind (Given o f ∷ xs) zero j a lt n is =
      let s = ap (λ y. inputs_length units (slot_argument_view y ∷ [])) is in
      let d : j ≡ 1 = omega arith in
      rw d (omega arith)
  inputs_behind (Copied o f ∷ xs) zero j a lt n is =
      let s = ap (λ y. inputs_length units (slot_argument_view y ∷ [])) is in
      let d : j ≡ 1 = omega arith in
      rw d (omega arith)
  inputs_behind (Given o f ∷ xs) (suc k) j a lt n is =
      let d : j ≡ suc (k + 1) = omega arith in
      let h = inputs_behind xs k (k + 1) a (omega arith) refl is in
      rw d (omega arith)
  inputs_behind (Copied o f ∷ xs) (suc k) j a lt n is =
      let d : j ≡ suc (k + 1) = omega arith in
      let h = inputs_behind xs k (k + 1) a (omega arith) refl is in
      rw d (omega arith)

  pub outputs_behind : (xs : List code_argument.SlotArgument) (k j : ℕ) (a : code_argument.SlotArgument)
      → k < length xs → j ≡ k + 1 → a ≡ get_or xs k a
      → outputs_length units (slot_argument_view a ∷ []) + outputs_length units (map slot_argument_view (drop j xs))
      ≤ outputs_length units (map slot_argument_view xs)
  outputs_behind [] k j a lt n is = absurd (omega arith)
  outputs_behind (Given o f ∷ xs) zero j a lt n is =
      let s = ap (λ y. outputs_length units (slot_argument_view y ∷ [])) is in
      let d : j ≡ 1 = omega arith in
      rw d (omega arith)
  outputs_behind (Copied o f ∷ xs) zero j a lt n is =
      let s = ap (λ y. outputs_length units (slot_argument_view y ∷ [])) is in
      let d : j ≡ 1 = omega arith in
      rw d (omega arith)
  outputs_behind (Given o f ∷ xs) (suc k) j a lt n is =
      let d : j ≡ suc (k + 1) = omega arith in
      let h = outputs_behind xs k (k + 1) a (omega arith) refl is in
      rw d (omega arith)
  outputs_behind (Copied o f ∷ xs) (suc k) j a lt n is =
      let d : j ≡ suc (k + 1) = omega arith in
      let h = outputs_behind xs k (k + 1) a (omega arith) refl is in
      rw d (omega arith)

  pub stmts_behind : (xs : List code_stmt.SlotStmt) (k j : ℕ) (x : code_stmt.SlotStmt) → k < length xs → j ≡ k + 1
      → x ≡ get_or xs k x
      → stmt_length units (slot_stmt_view x) + stmts_length units (stmts_of (map slot_stmt_view (drop j xs)))
      ≤ stmts_length units (stmts_of (map slot_stmt_view xs))
  stmts_behind [] k j y lt n is = absurd (omega arith)
  stmts_behind (x ∷ xs) zero j y lt n is =
      let s = ap (λ z. stmt_length units (slot_stmt_view z)) is in
      let d : j ≡ 1 = omega arith in
      rw d (omega arith)
  stmts_behind (x ∷ xs) (suc k) j y lt n is =
      let d : j ≡ suc (k + 1) = omega arith in
      let h = stmts_behind xs k (k + 1) y (omega arith) refl is in
      rw d (omega arith)

  pub arms_behind : (xs : List code_arm.SlotArm) (k j : ℕ) (a : code_arm.SlotArm) → k < length xs → j ≡ k + 1
      → a ≡ get_or xs k a
      → 2 + expr_length units (slot_expr_view a.condition) + stmts_length units (slot_stmts_view a.body.items)
      + arms_length units (arms_of (map slot_arm_view (drop j xs)))
      ≤ arms_length units (arms_of (map slot_arm_view xs))
  arms_behind [] k j a lt n is = absurd (omega arith)
  arms_behind (x ∷ xs) zero j a lt n is =
      let s = ap (λ (y : code_arm.SlotArm). expr_length units (slot_expr_view y.condition)) is in
      let t = ap (λ (y : code_arm.SlotArm). stmts_length units (slot_stmts_view y.body.items)) is in
      let d : j ≡ 1 = omega arith in
      rw d (omega arith)
  arms_behind (x ∷ xs) (suc k) j a lt n is =
      let d : j ≡ suc (k + 1) = omega arith in
      let h = arms_behind xs k (k + 1) a (omega arith) refl is in
      rw d (omega arith)

  pub case_behind : (xs : List code_case_arm.SlotCaseArm) (k j : ℕ) (a : code_case_arm.SlotCaseArm) → k < length xs
      → j ≡ k + 1 → a ≡ get_or xs k a
      → 3 + labels_length a.labels.items + stmts_length units (slot_stmts_view a.body.items)
      + case_length units (case_arms_of (map slot_case_arm_view (drop j xs)))
      ≤ case_length units (case_arms_of (map slot_case_arm_view xs))
  case_behind [] k j a lt n is = absurd (omega arith)
  case_behind (x ∷ xs) zero j a lt n is =
      let s = ap (λ (y : code_case_arm.SlotCaseArm). labels_length y.labels.items) is in
      let t = ap (λ (y : code_case_arm.SlotCaseArm). stmts_length units (slot_stmts_view y.body.items)) is in
      let d : j ≡ 1 = omega arith in
      rw d (omega arith)
  case_behind (x ∷ xs) (suc k) j a lt n is =
      let d : j ≡ suc (k + 1) = omega arith in
      let h = case_behind xs k (k + 1) a (omega arith) refl is in
      rw d (omega arith)

  -- of the arms after one of them
  pub arms_left : (xs : List code_arm.SlotArm) (k j : ℕ) → k < length xs → j ≡ k + 1
      → 2 + arms_length units (arms_of (map slot_arm_view (drop j xs)))
      ≤ arms_length units (arms_of (map slot_arm_view xs))
  arms_left [] k j lt n = absurd (omega arith)
  arms_left (x ∷ xs) zero j lt n = let d : j ≡ 1 = omega arith in rw d (omega arith)
  arms_left (x ∷ xs) (suc k) j lt n =
      let d : j ≡ suc (k + 1) = omega arith in
      let h = arms_left xs k (k + 1) (omega arith) refl in
      rw d (omega arith)

  pub case_left : (xs : List code_case_arm.SlotCaseArm) (k j : ℕ) → k < length xs → j ≡ k + 1
      → 3 + case_length units (case_arms_of (map slot_case_arm_view (drop j xs)))
      ≤ case_length units (case_arms_of (map slot_case_arm_view xs))
  case_left [] k j lt n = absurd (omega arith)
  case_left (x ∷ xs) zero j lt n = let d : j ≡ 1 = omega arith in rw d (omega arith)
  case_left (x ∷ xs) (suc k) j lt n =
      let d : j ≡ suc (k + 1) = omega arith in
      let h = case_left xs k (k + 1) (omega arith) refl in
      rw d (omega arith)

  -- a place to which subscripts lead has two instructions more than they have
  pub led_more : (xs : List code_subscript.Subscript) → 0 < length xs
      → led_length units (subscripts_of (map subscript_view xs))
      ≡ 2 + subscripts_length units (subscripts_of (map subscript_view xs))
  led_more [] lt = absurd (omega arith)
  led_more (x ∷ xs) lt = omega arith
