-- Facts about the grammar of statements.
use Rattle.std.proofs.Common.{ℕ, ◌<◌, ◌≤◌, max, List, [], ◌∷◌, length, Option, arith}
use Rattle.st_types.specs.declared.literal.Number.{Number as NumberLeaf}
use Rattle.st_lex.specs.declared.mark.Mark.TheVariants as m
use Rattle.st_types.specs.declared.statement.Label.{Label}
use Rattle.st_types.specs.Expressions.{Expr}
use Rattle.st_types.specs.Statements.{Argument, Stmt, Arm, CaseArm, stmts_of, arms_of, case_arms_of}
use Rattle.st_types.specs.Statements as s
use Rattle.st_types.specs.Depths.{depth_of, depth_of_argument, deepest_argument, depth_of_stmt, deepest_stmt}
use Rattle.st_types.specs.Depths.{deepest_arm, deepest_case_arm}
use Rattle.st_parse.specs.Tokens.{Tokens, Is, mark, IsNumber, plain, negative}
use Rattle.st_parse.specs.Statements.{IsArgument, given, copied, IsMoreArguments, no_more_arguments, next_argument}
use Rattle.st_parse.specs.Statements.{IsArguments, no_argument, argument, IsLabel, single, range, named}
use Rattle.st_parse.specs.Statements.{IsMoreLabels, no_more_labels, next_label, IsLabels, labels, IsStep, no_step}
use Rattle.st_parse.specs.Statements.{step, IsStmt, empty, assign, invoke, choose, select, count, repeat_while}
use Rattle.st_parse.specs.Statements.{repeat_until, exit, leave, IsStmts, no_stmt, stmt, IsElse, no_else}
use Rattle.st_parse.specs.Statements.{otherwise, IsArm, arm, IsMoreArms, no_more_arms, elsif, IsCaseArm, case_arm}
use Rattle.st_parse.specs.Statements.{IsCaseArms, no_case_arm, next_case_arm}
use Rattle.st_parse.specs.Laws.{Grammar}
use Rattle.st_parse.proofs.Sound.{Seq, Made, made}
use Rattle.st_parse.proofs.SoundLists.{Each}
use Rattle.st_parse.proofs.ExpressionFacts.{is_less, expr_less, variable_less}

pub number_less : {ts us : Tokens} {n : NumberLeaf} → IsNumber ts n us → length us < length ts
number_less (plain p) = is_less p
number_less (negative at k p q eq) = let a = is_less p in let b = is_less q in omega arith

pub argument_less : {ts us : Tokens} {a : Argument} → IsArgument ts a us → length us < length ts
argument_less (given x v n o i eq) = let a = is_less n in let b = is_less o.1 in let c = expr_less i in omega arith
argument_less (copied x v n o i eq) = let a = is_less n in let b = is_less o.1 in let c = variable_less i in omega arith

pub more_arguments_less : {ts us : Tokens} {xs : List Argument} → IsMoreArguments ts xs us → length us ≤ length ts
more_arguments_less no_more_arguments = omega arith
more_arguments_less (next_argument c i r) = let a = is_less c.1 in let b = argument_less i in
    let d = more_arguments_less r in omega arith

pub arguments_less : {ts us : Tokens} {xs : List Argument} → IsArguments ts xs us → length us ≤ length ts
arguments_less no_argument = omega arith
arguments_less (argument i r) = let a = argument_less i in let b = more_arguments_less r in omega arith

pub label_less : {ts us : Tokens} {l : Label} → IsLabel ts l us → length us < length ts
label_less (single n i eq) = number_less i
label_less (named v i eq) = is_less i
label_less (range a b i o j eq) = let a' = number_less i in let b' = is_less o.1 in let c' = number_less j in
    omega arith

pub more_labels_less : {ts us : Tokens} {xs : List Label} → IsMoreLabels ts xs us → length us ≤ length ts
more_labels_less no_more_labels = omega arith
more_labels_less (next_label c i r) = let a = is_less c.1 in let b = label_less i in let d = more_labels_less r in
    omega arith

pub labels_less : {ts us : Tokens} {xs : List Label} → IsLabels ts xs us → length us < length ts
labels_less (labels i r) = let a = label_less i in let b = more_labels_less r in omega arith

pub step_less : {ts us : Tokens} {o : Option Expr} → IsStep ts o us → length us ≤ length ts
step_less no_step = omega arith
step_less (step x p i eq) = let a = is_less p.1 in let b = expr_less i in omega arith

mutual
  pub stmt_less : {ts us : Tokens} {x : Stmt} → IsStmt ts x us → length us ≤ length ts
  stmt_less (empty q) = omega arith
  stmt_less (assign v value i o j q) = let a = variable_less i in let b = is_less o.1 in let c = expr_less j in
      omega arith
  stmt_less (invoke f xs n o i c q) = let a = is_less n in let b = is_less o.1 in let c' = arguments_less i in
      let d = is_less c.1 in omega arith
  stmt_less (choose arm' arms other o a b c d q) = let f = is_less o.1 in let a' = arm_less a in
      let b' = more_arms_less b in let c' = else_less c in let d' = is_less d.1 in omega arith
  stmt_less (select selector arms other o i p a b c q) = let f = is_less o.1 in let g = expr_less i in
      let h = is_less p.1 in let a' = case_arms_less a in let b' = else_less b in let c' = is_less c.1 in omega arith
  stmt_less (count control start limit by body o n p i t j st d b f q) =
      let a = is_less o.1 in let a' = is_less n in let b' = is_less p.1 in let c' = expr_less i in
      let d' = is_less t.1 in let f' = expr_less j in let g' = step_less st in let h' = is_less d.1 in
      let i' = stmts_less b in let j' = is_less f.1 in omega arith
  stmt_less (repeat_while condition body o i d b f q) = let a = is_less o.1 in let b' = expr_less i in
      let c' = is_less d.1 in let d' = stmts_less b in let f' = is_less f.1 in omega arith
  stmt_less (repeat_until body condition o b u i f q) = let a = is_less o.1 in let b' = stmts_less b in
      let c' = is_less u.1 in let d' = expr_less i in let f' = is_less f.1 in omega arith
  stmt_less (exit at o q) = let a = is_less o in omega arith
  stmt_less (leave o q) = let a = is_less o.1 in omega arith

  pub stmts_less : {ts us : Tokens} {xs : List Stmt} → IsStmts ts xs us → length us ≤ length ts
  stmts_less no_stmt = omega arith
  stmts_less (stmt i p r) = let a = stmt_less i in let b = is_less p.1 in let c = stmts_less r in omega arith

  pub else_less : {ts us : Tokens} {xs : List Stmt} → IsElse ts xs us → length us ≤ length ts
  else_less no_else = omega arith
  else_less (otherwise p i) = let a = is_less p.1 in let b = stmts_less i in omega arith

  pub arm_less : {ts us : Tokens} {a : Arm} → IsArm ts a us → length us < length ts
  arm_less (arm condition body i t b q) = let a = expr_less i in let b' = is_less t.1 in let c = stmts_less b in
      omega arith

  pub more_arms_less : {ts us : Tokens} {xs : List Arm} → IsMoreArms ts xs us → length us ≤ length ts
  more_arms_less no_more_arms = omega arith
  more_arms_less (elsif p a r) = let p' = is_less p.1 in let a' = arm_less a in let r' = more_arms_less r in omega arith

  pub case_arm_less : {ts us : Tokens} {a : CaseArm} → IsCaseArm ts a us → length us < length ts
  case_arm_less (case_arm ls body i c b q) = let a = labels_less i in let b' = is_less c.1 in let c' = stmts_less b in
      omega arith

  pub case_arms_less : {ts us : Tokens} {xs : List CaseArm} → IsCaseArms ts xs us → length us ≤ length ts
  case_arms_less no_case_arm = omega arith
  case_arms_less (next_case_arm a r) = let a' = case_arm_less a in let r' = case_arms_less r in omega arith

-- a statement with its semicolon
abbrev pub IsLine : Grammar Stmt
IsLine = Seq IsStmt (λ x. Seq (Is (mark m.Semicolon)) (λ at. Made x))

pub line_less : (ts : Tokens) (x : Stmt) (us : Tokens) → IsLine ts x us → length us < length ts
line_less ts x us (y, vs, i, (at, ws, o, made eq)) = let a = stmt_less i in let b = is_less o in omega arith

pub line_then : (ts : Tokens) (x : Stmt) (us : Tokens) (xs : List Stmt) (vs : Tokens) → IsLine ts x us
    → IsStmts us xs vs → IsStmts ts (x ∷ xs) vs
line_then ts x us xs vs (y, zs, i, (at, ws, o, made eq)) r = stmt (rw eq i) (at, o) r

-- ---- depths

pub each_stmt : (n : ℕ) (xs : List Stmt) → Each (λ x. depth_of_stmt x ≤ n) xs → deepest_stmt (stmts_of xs) ≤ n
each_stmt n [] all = omega arith
each_stmt n (x ∷ xs) all = let a = all.0 in let b = each_stmt n xs all.1 in omega arith

pub each_argument : (n : ℕ) (xs : List Argument) → Each (λ x. depth_of_argument x ≤ n) xs → deepest_argument xs ≤ n
each_argument n [] all = omega arith
each_argument n (x ∷ xs) all = let a = all.0 in let b = each_argument n xs all.1 in omega arith

pub each_arm : (n : ℕ) (xs : List Arm) → Each (λ a. max (depth_of a.0) (deepest_stmt a.1) ≤ n) xs
    → deepest_arm (arms_of xs) ≤ n
each_arm n [] all = omega arith
each_arm n (x ∷ xs) all = let a = all.0 in let b = each_arm n xs all.1 in omega arith

pub each_case_arm : (n : ℕ) (xs : List CaseArm) → Each (λ a. deepest_stmt a.1 ≤ n) xs
    → deepest_case_arm (case_arms_of xs) ≤ n
each_case_arm n [] all = omega arith
each_case_arm n (x ∷ xs) all = let a = all.0 in let b = each_case_arm n xs all.1 in omega arith

pub stmt_some : (x : Stmt) → 1 ≤ depth_of_stmt x
stmt_some s.empty = omega arith
stmt_some (s.assign v x) = omega arith
stmt_some (s.invoke f xs) = omega arith
stmt_some (s.IF arms xs) = omega arith
stmt_some (s.CASE x arms xs) = omega arith
stmt_some (s.FOR x a b c xs) = omega arith
stmt_some (s.WHILE x xs) = omega arith
stmt_some (s.REPEAT xs x) = omega arith
stmt_some (s.EXIT at) = omega arith
stmt_some s.RETURN = omega arith
