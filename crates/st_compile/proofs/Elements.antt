-- A property of a list is a property of its elements.
use Rattle.std.proofs.Common.{◌≡◌, ℕ, zero, suc, ◌+◌, ◌<◌, ◌≤◌, List, [], ◌∷◌, length, get_or, map, sym, subst, ap}
use Rattle.std.proofs.Common.{◌∙◌}
use Rattle.std.proofs.Common.{arith}
use Rattle.st_types.specs.declared.statement.Label.{Label}
use Rattle.slot_trees.specs.declared.expression.SlotExpr as code_expr
use Rattle.slot_trees.specs.declared.expression.Subscript as code_subscript
use Rattle.slot_trees.specs.declared.statement.SlotStmt as code_stmt
use Rattle.slot_trees.specs.declared.statement.SlotArgument as code_argument
use Rattle.slot_trees.specs.declared.statement.SlotArgument.TheVariants.{Given, Copied}
use Rattle.slot_trees.specs.declared.statement.SlotArm as code_arm
use Rattle.slot_trees.specs.declared.statement.SlotCaseArm as code_case_arm
use Rattle.slot_trees.specs.Chains.{exprs_of, subscripts_of, stmts_of, arms_of, case_arms_of, Subscript}
use Rattle.slot_trees.specs.ExpressionViews.{slot_expr_view, place_view, subscript_view}
use Rattle.slot_trees.specs.StatementViews.{slot_argument_view, slot_stmt_view, slot_stmts_view, slot_arm_view}
use Rattle.slot_trees.specs.StatementViews.{slot_case_arm_view}
use Rattle.machine_code.specs.Codes.{given_members}
use Rattle.machine_code.specs.Fitting.{UnitCall, AllBelow}
use Rattle.machine_code.specs.UnitFrames.{UnitFrame}
use Rattle.st_compile.specs.Emitting.{InputsLinked, OutputsLinked}
use Rattle.st_compile.specs.Linked.{IsLabel, AreLabels, IsSubscript, ExprLinked, ExprsLinked, PlaceLinked}
use Rattle.st_compile.specs.Linked.{SubscriptsLinked, StmtLinked, StmtsLinked, ArmsLinked, CaseArmsLinked}
use Rattle.st_compile.proofs.Sizes.{expr_size, exprs_size, subscripts_size, argument_size, arguments_size}
use Rattle.st_compile.proofs.Sizes.{stmt_size, stmts_size, arms_size, case_size}

pub label_at : (ls : List Label) (k : ℕ) (l : Label) → k < length ls → l ≡ get_or ls k l → AreLabels ls → IsLabel l
label_at [] k l lt e h = absurd (omega arith)
label_at (x ∷ xs) zero l lt e h = subst IsLabel (sym e) h.0
label_at (x ∷ xs) (suc k) l lt e h = label_at xs k l (omega arith) e h.1

pub below_at : (n : ℕ) (os : List ℕ) (k d : ℕ) → k < length os → AllBelow n os → get_or os k d < n
below_at n [] k d lt h = absurd (omega arith)
below_at n (x ∷ xs) zero d lt h = h.0
below_at n (x ∷ xs) (suc k) d lt h = below_at n xs k d (omega arith) h.1

pub below_more : (m n : ℕ) (os : List ℕ) → m ≤ n → AllBelow m os → AllBelow n os
below_more m n [] le h = tt
below_more m n (x ∷ xs) le h = (omega (arith, h.0), below_more m n xs le h.1)

pub member_below : (n : ℕ) (xs : List code_argument.SlotArgument) (k o : ℕ) (a : code_argument.SlotArgument)
    (e : code_expr.SlotExpr) → k < length xs → a ≡ get_or xs k a → a ≡ Given o e
    → AllBelow n (given_members (map slot_argument_view xs)) → o < n
member_below n [] k o a e lt is of h = absurd (omega arith)
member_below n (Given p f ∷ xs) zero o a e lt is of h =
    let same : Given p f ≡ Given o e = sym is ∙ of in
    let s : p ≡ o = cc in
    let below = h.0 in omega arith
member_below n (Copied p f ∷ xs) zero o a e lt is of h =
    let same : Copied p f ≡ Given o e = sym is ∙ of in absurd (cc)
member_below n (Given p f ∷ xs) (suc k) o a e lt is of h = member_below n xs k o a e (omega arith) is of h.1
member_below n (Copied p f ∷ xs) (suc k) o a e lt is of h = member_below n xs k o a e (omega arith) is of h

-- a subscript by its fields
pub subscript_seen : (s : code_subscript.Subscript) → subscript_view s
    ≡ (let r : Subscript = record {
      index = slot_expr_view s.index;
      lower = s.lower;
      count = s.count;
      stride =
          s.stride;
    } in r)
subscript_seen s = search code_subscript.the_lemmas

pub expr_smaller : (es : List code_expr.SlotExpr) (k : ℕ) (e : code_expr.SlotExpr) → k < length es
    → e ≡ get_or es k e → expr_size (slot_expr_view e) < exprs_size (exprs_of (map slot_expr_view es))
expr_smaller [] k e lt is = absurd (omega arith)
expr_smaller (x ∷ xs) zero e lt is = let s = ap (λ y. expr_size (slot_expr_view y)) is in omega arith
expr_smaller (x ∷ xs) (suc k) e lt is = let h = expr_smaller xs k e (omega arith) is in omega arith

pub index_smaller : (ss : List code_subscript.Subscript) (k : ℕ) (s : code_subscript.Subscript) → k < length ss
    → s ≡ get_or ss k s → expr_size (slot_expr_view s.index) < subscripts_size (subscripts_of (map subscript_view ss))
index_smaller [] k s lt is = absurd (omega arith)
index_smaller (x ∷ xs) zero s lt is =
    let e = ap (λ (y : code_subscript.Subscript). expr_size (slot_expr_view y.index)) is in
    let v = ap (λ (y : Subscript). expr_size y.index) (subscript_seen x) in omega arith
index_smaller (x ∷ xs) (suc k) s lt is = let h = index_smaller xs k s (omega arith) is in omega arith

pub argument_smaller : (xs : List code_argument.SlotArgument) (k : ℕ) (a : code_argument.SlotArgument) → k < length xs
    → a ≡ get_or xs k a
    → argument_size (slot_argument_view a) < arguments_size (map slot_argument_view xs)
argument_smaller [] k a lt is = absurd (omega arith)
argument_smaller (x ∷ xs) zero a lt is = let s = ap (λ y. argument_size (slot_argument_view y)) is in omega arith
argument_smaller (x ∷ xs) (suc k) a lt is = let h = argument_smaller xs k a (omega arith) is in omega arith

pub stmt_smaller : (xs : List code_stmt.SlotStmt) (k : ℕ) (x : code_stmt.SlotStmt) → k < length xs
    → x ≡ get_or xs k x → stmt_size (slot_stmt_view x) < stmts_size (stmts_of (map slot_stmt_view xs))
stmt_smaller [] k y lt is = absurd (omega arith)
stmt_smaller (x ∷ xs) zero y lt is = let s = ap (λ z. stmt_size (slot_stmt_view z)) is in omega arith
stmt_smaller (x ∷ xs) (suc k) y lt is = let h = stmt_smaller xs k y (omega arith) is in omega arith

pub condition_smaller : (xs : List code_arm.SlotArm) (k : ℕ) (a : code_arm.SlotArm) → k < length xs
    → a ≡ get_or xs k a → expr_size (slot_expr_view a.condition) < arms_size (arms_of (map slot_arm_view xs))
condition_smaller [] k a lt is = absurd (omega arith)
condition_smaller (x ∷ xs) zero a lt is =
    let s = ap (λ (y : code_arm.SlotArm). expr_size (slot_expr_view y.condition)) is in omega arith
condition_smaller (x ∷ xs) (suc k) a lt is = let h = condition_smaller xs k a (omega arith) is in omega arith

pub body_smaller : (xs : List code_arm.SlotArm) (k : ℕ) (a : code_arm.SlotArm) → k < length xs
    → a ≡ get_or xs k a → stmts_size (slot_stmts_view a.body.items) < arms_size (arms_of (map slot_arm_view xs))
body_smaller [] k a lt is = absurd (omega arith)
body_smaller (x ∷ xs) zero a lt is =
    let s = ap (λ (y : code_arm.SlotArm). stmts_size (slot_stmts_view y.body.items)) is in omega arith
body_smaller (x ∷ xs) (suc k) a lt is = let h = body_smaller xs k a (omega arith) is in omega arith

pub case_smaller : (xs : List code_case_arm.SlotCaseArm) (k : ℕ) (a : code_case_arm.SlotCaseArm) → k < length xs
    → a ≡ get_or xs k a
    → stmts_size (slot_stmts_view a.body.items) < case_size (case_arms_of (map slot_case_arm_view xs))
case_smaller [] k a lt is = absurd (omega arith)
case_smaller (x ∷ xs) zero a lt is =
    let s = ap (λ (y : code_case_arm.SlotCaseArm). stmts_size (slot_stmts_view y.body.items)) is in omega arith
case_smaller (x ∷ xs) (suc k) a lt is = let h = case_smaller xs k a (omega arith) is in omega arith

module _ (C : UnitCall → Type 0) (s : UnitFrame) where
  pub expr_at : (es : List code_expr.SlotExpr) (k : ℕ) (e : code_expr.SlotExpr) → k < length es
      → e ≡ get_or es k e → ExprsLinked C s (exprs_of (map slot_expr_view es)) → ExprLinked C s (slot_expr_view e)
  expr_at [] k e lt is h = absurd (omega arith)
  expr_at (x ∷ xs) zero e lt is h = subst (λ y. ExprLinked C s (slot_expr_view y)) (sym is) h.0
  expr_at (x ∷ xs) (suc k) e lt is h = expr_at xs k e (omega arith) is h.1

  pub subscript_at : (ss : List code_subscript.Subscript) (k : ℕ) (x : code_subscript.Subscript) → k < length ss
      → x ≡ get_or ss k x → SubscriptsLinked C s (subscripts_of (map subscript_view ss))
      → IsSubscript x.lower x.count x.stride × ExprLinked C s (slot_expr_view x.index)
  subscript_at [] k e lt is h = absurd (omega arith)
  subscript_at (x ∷ xs) zero e lt is h =
      let P : Subscript → Type 0 = λ y. IsSubscript y.lower y.count y.stride × ExprLinked C s y.index in
      subst (λ (y : code_subscript.Subscript). IsSubscript y.lower y.count y.stride × ExprLinked C s (slot_expr_view
      y.index))
      (sym is) (subst P (subscript_seen x) (h.0, h.1))
  subscript_at (x ∷ xs) (suc k) e lt is h = subscript_at xs k e (omega arith) is h.2

  -- the demands on an argument that is given, and on one that is copied
  abbrev pub InputLinked : ℕ → code_argument.SlotArgument → Type 0
  InputLinked at (Given o e) = (at + o < s.size) × ExprLinked C s (slot_expr_view e)
  InputLinked at (Copied o p) = Unit {0}

  abbrev pub OutputLinked : ℕ → code_argument.SlotArgument → Type 0
  OutputLinked at (Given o e) = Unit {0}
  OutputLinked at (Copied o p) = (at + o < s.size) × PlaceLinked C s (place_view p)

  pub input_at : (xs : List code_argument.SlotArgument) (k at : ℕ) (a b : code_argument.SlotArgument) → k < length xs
      → a ≡ get_or xs k a → a ≡ b → InputsLinked C s at (map slot_argument_view xs) → InputLinked at b
  input_at [] k at a b lt is of h = absurd (omega arith)
  input_at (Given p f ∷ xs) zero at a b lt is of h = subst (λ y. InputLinked at y) (sym is ∙ of) (h.0, h.1)
  input_at (Copied p f ∷ xs) zero at a b lt is of h = subst (λ y. InputLinked at y) (sym is ∙ of) tt
  input_at (Given p f ∷ xs) (suc k) at a b lt is of h = input_at xs k at a b (omega arith) is of h.2
  input_at (Copied p f ∷ xs) (suc k) at a b lt is of h = input_at xs k at a b (omega arith) is of h

  pub output_at : (xs : List code_argument.SlotArgument) (k at : ℕ) (a b : code_argument.SlotArgument) → k < length xs
      → a ≡ get_or xs k a → a ≡ b → OutputsLinked C s at (map slot_argument_view xs) → OutputLinked at b
  output_at [] k at a b lt is of h = absurd (omega arith)
  output_at (Given p f ∷ xs) zero at a b lt is of h = subst (λ y. OutputLinked at y) (sym is ∙ of) tt
  output_at (Copied p f ∷ xs) zero at a b lt is of h = subst (λ y. OutputLinked at y) (sym is ∙ of) (h.0, h.1)
  output_at (Given p f ∷ xs) (suc k) at a b lt is of h = output_at xs k at a b (omega arith) is of h
  output_at (Copied p f ∷ xs) (suc k) at a b lt is of h = output_at xs k at a b (omega arith) is of h.2

  pub stmt_at : (xs : List code_stmt.SlotStmt) (k : ℕ) (x : code_stmt.SlotStmt) → k < length xs
      → x ≡ get_or xs k x → StmtsLinked C s (stmts_of (map slot_stmt_view xs)) → StmtLinked C s (slot_stmt_view x)
  stmt_at [] k y lt is h = absurd (omega arith)
  stmt_at (x ∷ xs) zero y lt is h = subst (λ z. StmtLinked C s (slot_stmt_view z)) (sym is) h.0
  stmt_at (x ∷ xs) (suc k) y lt is h = stmt_at xs k y (omega arith) is h.1

  pub arm_at : (xs : List code_arm.SlotArm) (k : ℕ) (a : code_arm.SlotArm) → k < length xs
      → a ≡ get_or xs k a → ArmsLinked C s (arms_of (map slot_arm_view xs))
      → ExprLinked C s (slot_expr_view a.condition) × StmtsLinked C s (slot_stmts_view a.body.items)
  arm_at [] k a lt is h = absurd (omega arith)
  arm_at (x ∷ xs) zero a lt is h =
      subst (λ (y : code_arm.SlotArm). ExprLinked C s (slot_expr_view y.condition)
      × StmtsLinked C s (slot_stmts_view y.body.items)) (sym is) (h.0, h.1)
  arm_at (x ∷ xs) (suc k) a lt is h = arm_at xs k a (omega arith) is h.2

  pub case_at : (xs : List code_case_arm.SlotCaseArm) (k : ℕ) (a : code_case_arm.SlotCaseArm) → k < length xs
      → a ≡ get_or xs k a → CaseArmsLinked C s (case_arms_of (map slot_case_arm_view xs))
      → AreLabels a.labels.items × StmtsLinked C s (slot_stmts_view a.body.items)
  case_at [] k a lt is h = absurd (omega arith)
  case_at (x ∷ xs) zero a lt is h =
      subst (λ (y : code_case_arm.SlotCaseArm). AreLabels y.labels.items
      × StmtsLinked C s (slot_stmts_view y.body.items)) (sym is) (h.0, h.1)
  case_at (x ∷ xs) (suc k) a lt is h = case_at xs k a (omega arith) is h.2
