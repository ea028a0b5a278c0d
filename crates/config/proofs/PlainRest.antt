-- The tokens after an expression, an initial value or statements are as plain as all tokens are.
use Rattle.std.proofs.Common.{◌≡◌, ℕ, true, List, Option}
use Rattle.std.specs.List.{list_all}
use Rattle.st_types.specs.declared.literal.Literal.{Literal}
use Rattle.st_types.specs.declared.literal.Number.{Number as NumberLeaf}
use Rattle.st_lex.specs.declared.token.Token.{Token}
use Rattle.st_types.specs.declared.statement.Label.{Label}
use Rattle.st_types.specs.Expressions.{Expr, Variable, Selector}
use Rattle.st_types.specs.Initials.{Initial, Element, Member}
use Rattle.st_types.specs.Statements.{Argument, Stmt, Arm, CaseArm}
use Rattle.st_parse.specs.Tokens.{Tokens, Is, is, IsNumber, plain, negative}
use Rattle.st_parse.specs.Expressions as e
use Rattle.st_parse.specs.Expressions.{IsExpr, IsVariable, selected, IsSelectors, no_selector, selector}
use Rattle.st_parse.specs.Expressions.{IsSelector, member, subscript, IsExprs, IsMoreExprs}
use Rattle.st_parse.specs.Initials as i
use Rattle.st_parse.specs.Initials.{IsConstant, IsInitial, IsElements, elements, IsMoreElements, no_more_elements}
use Rattle.st_parse.specs.Initials.{next_element, IsElement, single, repeated, defaults, IsMembers, members}
use Rattle.st_parse.specs.Initials.{IsMoreMembers, no_more_members, next_member, IsMember}
use Rattle.st_parse.specs.Statements as s
use Rattle.st_parse.specs.Statements.{IsArgument, given, copied, IsMoreArguments, IsArguments, IsLabel, range}
use Rattle.st_parse.specs.Statements.{named, IsMoreLabels, no_more_labels, next_label, IsLabels, labels, IsStep}
use Rattle.st_parse.specs.Statements.{no_step, step, IsStmt, empty, assign, invoke, choose, select, count}
use Rattle.st_parse.specs.Statements.{repeat_while, repeat_until, exit, leave, IsStmts, no_stmt, stmt, IsElse}
use Rattle.st_parse.specs.Statements.{no_else, otherwise, IsArm, arm, IsMoreArms, no_more_arms, elsif, IsCaseArm}
use Rattle.st_parse.specs.Statements.{case_arm, IsCaseArms, no_case_arm, next_case_arm}
use Rattle.config.proofs.PlainTokens.{is_plain_token}
use Rattle.std.proofs.lemmas.Bool.{and_parts}

abbrev pub ArePlain : Tokens → Type 0
ArePlain ts = list_all is_plain_token ts ≡ true

pub token_rest : {A : Type 0} {of : Token → Option A} {ts us : Tokens} {x : A} → Is of ts x us → ArePlain ts
    → ArePlain us
token_rest (is {t = t} {us = us} q) h = (and_parts (is_plain_token t) (list_all is_plain_token us) h).1

mutual
  pub expr_rest : {k : ℕ} {ts us : Tokens} {x : Expr} → IsExpr k ts x us → ArePlain ts → ArePlain us
  expr_rest (e.literal l i q) h = token_rest i h
  expr_rest (e.variable v i q) h = variable_rest i h
  expr_rest (e.call f es n o s c q) h = token_rest c.1 (arguments_rest s (token_rest o.1 (token_rest n h)))
  expr_rest (e.parenthesis at inner o s c q) h = token_rest c.1 (expr_rest s (token_rest o h))
  expr_rest (e.negative at n l s i q) h = token_rest i (token_rest s h)
  expr_rest (e.negated at inner l s p i q) h = expr_rest i (token_rest s h)
  expr_rest (e.inverted at inner l s i q) h = expr_rest i (token_rest s h)
  expr_rest (e.binary op a b l s o t q) h = expr_rest t (token_rest o (expr_rest s h))

  pub variable_rest : {ts us : Tokens} {v : Variable} → IsVariable ts v us → ArePlain ts → ArePlain us
  variable_rest (selected x xs n s q) h = selectors_rest s (token_rest n h)

  pub selectors_rest : {ts us : Tokens} {xs : List Selector} → IsSelectors ts xs us → ArePlain ts → ArePlain us
  selectors_rest no_selector h = h
  selectors_rest (selector s rest) h = selectors_rest rest (selector_rest s h)

  pub selector_rest : {ts us : Tokens} {s : Selector} → IsSelector ts s us → ArePlain ts → ArePlain us
  selector_rest (member x d n q) h = token_rest n (token_rest d.1 h)
  selector_rest (subscript x o i c q) h = token_rest c.1 (expr_rest i (token_rest o.1 h))

  pub arguments_rest : {ts us : Tokens} {xs : List Expr} → IsExprs ts xs us → ArePlain ts → ArePlain us
  arguments_rest e.no_argument h = h
  arguments_rest (e.argument i rest) h = more_arguments_rest rest (expr_rest i h)

  pub more_arguments_rest : {ts us : Tokens} {xs : List Expr} → IsMoreExprs ts xs us → ArePlain ts → ArePlain us
  more_arguments_rest e.no_more_arguments h = h
  more_arguments_rest (e.next_argument c i rest) h = more_arguments_rest rest (expr_rest i (token_rest c.1 h))

pub number_rest : {ts us : Tokens} {n : NumberLeaf} → IsNumber ts n us → ArePlain ts → ArePlain us
number_rest (plain p) h = token_rest p h
number_rest (negative at k p q eq) h = token_rest q (token_rest p h)

-- initial values
constant_rest : {ts us : Tokens} {l : Literal} → IsConstant ts l us → ArePlain ts → ArePlain us
constant_rest (i.literal p) h = token_rest p h
constant_rest (i.negative at n m p q) h = token_rest p (token_rest m h)

mutual
  pub initial_rest : {ts us : Tokens} {x : Initial} → IsInitial ts x us → ArePlain ts → ArePlain us
  initial_rest (i.constant l p q) h = constant_rest p h
  initial_rest (i.list at xs o p c q) h = token_rest c.1 (elements_rest p (token_rest o h))
  initial_rest (i.structure at xs o p c q) h = token_rest c.1 (members_rest p (token_rest o h))

  pub elements_rest : {ts us : Tokens} {xs : List Element} → IsElements ts xs us → ArePlain ts → ArePlain us
  elements_rest (elements p q) h = more_elements_rest q (element_rest p h)

  pub more_elements_rest : {ts us : Tokens} {xs : List Element} → IsMoreElements ts xs us → ArePlain ts → ArePlain us
  more_elements_rest no_more_elements h = h
  more_elements_rest (next_element c p q) h = more_elements_rest q (element_rest p (token_rest c.1 h))

  pub element_rest : {ts us : Tokens} {x : Element} → IsElement ts x us → ArePlain ts → ArePlain us
  element_rest (single v p q) h = initial_rest p h
  element_rest (repeated n v p o s c q) h = token_rest c.1 (initial_rest s (token_rest o.1 (token_rest p h)))
  element_rest (defaults n p o c q) h = token_rest c.1 (token_rest o.1 (token_rest p h))

  pub members_rest : {ts us : Tokens} {xs : List Member} → IsMembers ts xs us → ArePlain ts → ArePlain us
  members_rest (members p q) h = more_members_rest q (member_rest p h)

  pub more_members_rest : {ts us : Tokens} {xs : List Member} → IsMoreMembers ts xs us → ArePlain ts → ArePlain us
  more_members_rest no_more_members h = h
  more_members_rest (next_member c p q) h = more_members_rest q (member_rest p (token_rest c.1 h))

  pub member_rest : {ts us : Tokens} {x : Member} → IsMember ts x us → ArePlain ts → ArePlain us
  member_rest (i.member x v n o s q) h = initial_rest s (token_rest o.1 (token_rest n h))

-- statements
pub argument_rest : {ts us : Tokens} {a : Argument} → IsArgument ts a us → ArePlain ts → ArePlain us
argument_rest (given x v n o i eq) h = expr_rest i (token_rest o.1 (token_rest n h))
argument_rest (copied x v n o i eq) h = variable_rest i (token_rest o.1 (token_rest n h))

more_call_rest : {ts us : Tokens} {xs : List Argument} → IsMoreArguments ts xs us → ArePlain ts → ArePlain us
more_call_rest s.no_more_arguments h = h
more_call_rest (s.next_argument c i r) h = more_call_rest r (argument_rest i (token_rest c.1 h))

call_rest : {ts us : Tokens} {xs : List Argument} → IsArguments ts xs us → ArePlain ts → ArePlain us
call_rest s.no_argument h = h
call_rest (s.argument i r) h = more_call_rest r (argument_rest i h)

pub label_rest : {ts us : Tokens} {l : Label} → IsLabel ts l us → ArePlain ts → ArePlain us
label_rest (s.single n i eq) h = number_rest i h
label_rest (named v i eq) h = token_rest i h
label_rest (range a b i o j eq) h = number_rest j (token_rest o.1 (number_rest i h))

more_labels_rest : {ts us : Tokens} {xs : List Label} → IsMoreLabels ts xs us → ArePlain ts → ArePlain us
more_labels_rest no_more_labels h = h
more_labels_rest (next_label c i r) h = more_labels_rest r (label_rest i (token_rest c.1 h))

pub labels_rest : {ts us : Tokens} {xs : List Label} → IsLabels ts xs us → ArePlain ts → ArePlain us
labels_rest (labels i r) h = more_labels_rest r (label_rest i h)

pub step_rest : {ts us : Tokens} {o : Option Expr} → IsStep ts o us → ArePlain ts → ArePlain us
step_rest no_step h = h
step_rest (step x p i eq) h = expr_rest i (token_rest p.1 h)

mutual
  pub stmt_rest : {ts us : Tokens} {x : Stmt} → IsStmt ts x us → ArePlain ts → ArePlain us
  stmt_rest (empty q) h = h
  stmt_rest (assign v value i o j q) h = expr_rest j (token_rest o.1 (variable_rest i h))
  stmt_rest (invoke f xs n o i c q) h = token_rest c.1 (call_rest i (token_rest o.1 (token_rest n h)))
  stmt_rest (choose arm' arms other o a b c d q) h =
      token_rest d.1 (else_rest c (more_arms_rest b (arm_rest a (token_rest o.1 h))))
  stmt_rest (select from arms other o i p a b c q) h =
      token_rest c.1 (else_rest b (case_arms_rest a (token_rest p.1 (expr_rest i (token_rest o.1 h)))))
  stmt_rest (count control start limit by body o n p i t j st d b f q) h =
      let a = expr_rest j (token_rest t.1 (expr_rest i (token_rest p.1 (token_rest n (token_rest o.1 h))))) in
      token_rest f.1 (stmts_rest b (token_rest d.1 (step_rest st a)))
  stmt_rest (repeat_while condition body o i d b f q) h =
      token_rest f.1 (stmts_rest b (token_rest d.1 (expr_rest i (token_rest o.1 h))))
  stmt_rest (repeat_until body condition o b u i f q) h =
      token_rest f.1 (expr_rest i (token_rest u.1 (stmts_rest b (token_rest o.1 h))))
  stmt_rest (exit at o q) h = token_rest o h
  stmt_rest (leave o q) h = token_rest o.1 h

  pub stmts_rest : {ts us : Tokens} {xs : List Stmt} → IsStmts ts xs us → ArePlain ts → ArePlain us
  stmts_rest no_stmt h = h
  stmts_rest (stmt i p r) h = stmts_rest r (token_rest p.1 (stmt_rest i h))

  pub else_rest : {ts us : Tokens} {xs : List Stmt} → IsElse ts xs us → ArePlain ts → ArePlain us
  else_rest no_else h = h
  else_rest (otherwise p i) h = stmts_rest i (token_rest p.1 h)

  pub arm_rest : {ts us : Tokens} {a : Arm} → IsArm ts a us → ArePlain ts → ArePlain us
  arm_rest (arm condition body i t b q) h = stmts_rest b (token_rest t.1 (expr_rest i h))

  pub more_arms_rest : {ts us : Tokens} {xs : List Arm} → IsMoreArms ts xs us → ArePlain ts → ArePlain us
  more_arms_rest no_more_arms h = h
  more_arms_rest (elsif p a r) h = more_arms_rest r (arm_rest a (token_rest p.1 h))

  pub case_arm_rest : {ts us : Tokens} {a : CaseArm} → IsCaseArm ts a us → ArePlain ts → ArePlain us
  case_arm_rest (case_arm ls body i c b q) h = stmts_rest b (token_rest c.1 (labels_rest i h))

  pub case_arms_rest : {ts us : Tokens} {xs : List CaseArm} → IsCaseArms ts xs us → ArePlain ts → ArePlain us
  case_arms_rest no_case_arm h = h
  case_arms_rest (next_case_arm a r) h = case_arms_rest r (case_arm_rest a h)
