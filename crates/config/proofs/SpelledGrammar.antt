-- From plain tokens the grammar makes bodies whose literals are as it gives them.
use Rattle.std.proofs.Common.{◌≡◌, refl, sym, ap, subst, ℕ, pos, ◌^◌, ◌<◌, true, ◌&&◌, List, [], ◌∷◌, Option, Some}
use Rattle.std.proofs.Common.{None, arith}
use Rattle.std.specs.Prelude.{nat_lt}
use Rattle.std.specs.List.{list_all}
use Rattle.std.proofs.lemmas.Bool.{ltb-true, and_parts}
use Rattle.std.proofs.lemmas.Int.{ints}
use Rattle.st_types.specs.declared.kind.Kind.TheVariants.{Time}
use Rattle.st_types.specs.declared.literal.Literal.{Literal}
use Rattle.st_types.specs.declared.literal.Literal.TheVariants as literals
use Rattle.st_types.specs.declared.literal.Number.{Number as NumberLeaf}
use Rattle.st_types.specs.Kinds.{holds}
use Rattle.st_lex.specs.declared.token.Token.{Token}
use Rattle.st_lex.specs.declared.token.TokenKind.{TokenKind}
use Rattle.st_lex.specs.declared.token.TokenKind.TheVariants as kinds
use Rattle.st_types.specs.declared.statement.Label.{Label}
use Rattle.st_types.specs.declared.statement.Label.TheVariants as labels_of
use Rattle.st_types.specs.Expressions as named
use Rattle.st_types.specs.Expressions.{Expr, Variable, Selector, Selectors, exprs_of, selectors_of, selector_then}
use Rattle.st_types.specs.Statements.{Argument, Stmt, Arm, CaseArm, Arms, arm_then, CaseArms, case_arm_then}
use Rattle.st_types.specs.Statements.{stmts_of, arms_of, case_arms_of}
use Rattle.st_types.specs.Units.{OrganisationUnit}
use Rattle.st_types.specs.Sources.{LibraryElement, Source}
use Rattle.st_meaning.specs.NameTypes.{units_in}
use Rattle.st_parse.specs.Tokens.{Tokens, Is, is, IsNumber, plain, negative, literal_in, literal, whole_in, whole}
use Rattle.st_parse.specs.Tokens.{unsigned}
use Rattle.st_parse.specs.Expressions as e
use Rattle.st_parse.specs.Expressions.{IsExpr, IsVariable, selected, IsSelectors, no_selector, selector}
use Rattle.st_parse.specs.Expressions.{IsSelector, member, subscript, IsExprs, IsMoreExprs}
use Rattle.st_parse.specs.Statements as s
use Rattle.st_parse.specs.Statements.{IsArgument, given, copied, IsMoreArguments, IsArguments, IsLabel, range}
use Rattle.st_parse.specs.Statements.{IsMoreLabels, no_more_labels, next_label, IsLabels, labels, IsStep}
use Rattle.st_parse.specs.Statements.{no_step, step, IsStmt, empty, assign, invoke, choose, select, count}
use Rattle.st_parse.specs.Statements.{repeat_while, repeat_until, exit, leave, IsStmts, no_stmt, stmt, IsElse}
use Rattle.st_parse.specs.Statements.{no_else, otherwise, IsArm, arm, IsMoreArms, no_more_arms, elsif, IsCaseArm}
use Rattle.st_parse.specs.Statements.{case_arm, IsCaseArms, no_case_arm, next_case_arm}
use Rattle.st_parse.specs.Lists.{Many, no_more, one_more}
use Rattle.st_parse.specs.Units as u
use Rattle.st_parse.specs.Units.{IsUnit, IsFunctionSection, IsDeclaration}
use Rattle.st_parse.specs.Sources as r
use Rattle.st_parse.specs.Sources.{IsLibraryElement, IsSource}
use Rattle.st_link.proofs.RangeLemmas.{in_held}
use Rattle.config.specs.Texts.{IsTextOf}
use Rattle.config.specs.PlainDeclarations.{is_plain_number, is_plain_block}
use Rattle.config.proofs.PlainTokens.{is_plain_kind, is_plain_token, tokens_plain}
use Rattle.config.proofs.PlainRest.{ArePlain, token_rest, number_rest, expr_rest, variable_rest}
use Rattle.config.proofs.PlainRest.{argument_rest, label_rest, labels_rest, step_rest, stmt_rest, stmts_rest}
use Rattle.config.proofs.PlainRest.{arm_rest, more_arms_rest, case_arm_rest, case_arms_rest}
use Rattle.config.proofs.PlainGrammar.{many_plain, name_plain, number_plain, block_plain, declaration_plain}
use Rattle.config.proofs.PlainGrammar.{function_section_plain, variable_block_plain, program_block_plain}
use Rattle.config.proofs.PlainGrammar.{element_plain}
use Rattle.config.specs.Spelled.{IsAny, IsSpelledLiteral, IsSpelledLabel, AreSpelledLabels, AreSpelled, ExprOf}
use Rattle.config.specs.Spelled.{ExprsOf, VariableOf, SelectorsOf, StepOf, ArgumentsOf, StmtOf, StmtsOf, ArmsOf}
use Rattle.config.specs.Spelled.{CaseArmsOf}
use Rattle.config.proofs.SpelledArrays.{number_keyword}
use Rattle.st_types.proofs.OptionLemmas.{some_is}

-- literals
time_holds : (d : ℕ) → nat_lt d (2 ^ 63) ≡ true → holds Time (pos d) ≡ true
time_holds d h =
    let small : d < 2 ^ 63 = ltb-true d (2 ^ 63) h in
    in_held Time (pos d) (record { lower = omega (arith, ints); upper = omega (arith, ints, small) })

literal_spelled_in : (k : TokenKind) (at : ℕ) (l : Literal) → literal_in at k ≡ Some l → is_plain_kind k ≡ true
    → IsSpelledLiteral l
literal_spelled_in (kinds.Number w) at l q h = subst IsSpelledLiteral (some_is q) tt
literal_spelled_in (kinds.Truth b) at l q h = subst IsSpelledLiteral (some_is q) tt
literal_spelled_in (kinds.Duration d) at l q h = subst IsSpelledLiteral (some_is q) (time_holds d h)
literal_spelled_in (kinds.Enumerated t x) at l q h = subst IsSpelledLiteral (some_is q) tt
literal_spelled_in (kinds.Name x) at l q h = absurd (cc)
literal_spelled_in (kinds.Elementary k) at l q h = absurd (cc)
literal_spelled_in (kinds.Keyword k) at l q h = absurd (cc)
literal_spelled_in (kinds.Mark k) at l q h = absurd (cc)
literal_spelled_in (kinds.Address k) at l q h = absurd (cc)

literal_spelled : {ts us : Tokens} {l : Literal} → Is literal ts l us → ArePlain ts → IsSpelledLiteral l
literal_spelled {l = l} (is {t = t} {us = us} q) h =
    literal_spelled_in t.kind t.start l q (and_parts (is_plain_kind t.kind) (list_all is_plain_token us) h).0

abbrev Any : Expr → Type 0
Any = ExprOf IsAny

-- expressions
mutual
  expr_spelled : {k : ℕ} {ts us : Tokens} {x : Expr} → IsExpr k ts x us → ArePlain ts → ExprOf IsAny x
  expr_spelled (e.literal l i q) h = subst Any (sym q) (literal_spelled i h)
  expr_spelled (e.variable v i q) h = subst Any (sym q) (variable_spelled i h)
  expr_spelled (e.call f es n o i c q) h =
      subst Any (sym q) (tt, arguments_spelled i (token_rest o.1 (token_rest n h)))
  expr_spelled (e.parenthesis at inner o i c q) h = subst Any (sym q) (expr_spelled i (token_rest o h))
  expr_spelled (e.negative at n l m i q) h = subst Any (sym q) tt
  expr_spelled (e.negated at inner l m p i q) h = subst Any (sym q) (expr_spelled i (token_rest m h))
  expr_spelled (e.inverted at inner l m i q) h = subst Any (sym q) (expr_spelled i (token_rest m h))
  expr_spelled (e.binary op a b l i o j q) h =
      subst Any (sym q) (expr_spelled i h, expr_spelled j (token_rest o (expr_rest i h)))

  variable_spelled : {ts us : Tokens} {v : Variable} → IsVariable ts v us → ArePlain ts → VariableOf IsAny v
  variable_spelled (selected x xs n i q) h =
      subst (VariableOf IsAny) (sym q) (selectors_spelled i (token_rest n h))

  selectors_spelled : {ts us : Tokens} {xs : List Selector} → IsSelectors ts xs us → ArePlain ts
      → SelectorsOf IsAny (selectors_of xs)
  selectors_spelled no_selector h = tt
  selectors_spelled (selector {xs = xs} i rest) h = selector_spelled (selectors_of xs) i h (λ g. selectors_spelled rest g)

  selector_spelled : {ts us : Tokens} {x : Selector} (rest : Selectors) → IsSelector ts x us → ArePlain ts
      → (ArePlain us → SelectorsOf IsAny rest) → SelectorsOf IsAny (selector_then x rest)
  selector_spelled rest (member x d n q) h more =
      subst (λ x. SelectorsOf IsAny (selector_then x rest)) (sym q) (more (token_rest n (token_rest d.1 h)))
  selector_spelled rest (subscript x o i c q) h more =
      let inside = token_rest o.1 h in
      subst (λ x. SelectorsOf IsAny (selector_then x rest)) (sym q)
      (expr_spelled i inside, more (token_rest c.1 (expr_rest i inside)))

  arguments_spelled : {ts us : Tokens} {xs : List Expr} → IsExprs ts xs us → ArePlain ts → ExprsOf IsAny (exprs_of xs)
  arguments_spelled e.no_argument h = tt
  arguments_spelled (e.argument i rest) h = (expr_spelled i h, more_arguments_spelled rest (expr_rest i h))

  more_arguments_spelled : {ts us : Tokens} {xs : List Expr} → IsMoreExprs ts xs us → ArePlain ts
      → ExprsOf IsAny (exprs_of xs)
  more_arguments_spelled e.no_more_arguments h = tt
  more_arguments_spelled (e.next_argument c i rest) h =
      let behind = token_rest c.1 h in
      (expr_spelled i behind, more_arguments_spelled rest (expr_rest i behind))

-- the arguments of calls of blocks
argument_spelled : {ts us : Tokens} {a : Argument} (rest : List Argument) → IsArgument ts a us → ArePlain ts
    → ArgumentsOf IsAny rest → ArgumentsOf IsAny (a ∷ rest)
argument_spelled rest (given x v n o i q) h more =
    subst (λ a. ArgumentsOf IsAny (a ∷ rest)) (sym q) (expr_spelled i (token_rest o.1 (token_rest n h)), more)
argument_spelled rest (copied x v n o i q) h more =
    subst (λ a. ArgumentsOf IsAny (a ∷ rest)) (sym q) (variable_spelled i (token_rest o.1 (token_rest n h)), more)

more_call_spelled : {ts us : Tokens} {xs : List Argument} → IsMoreArguments ts xs us → ArePlain ts
    → ArgumentsOf IsAny xs
more_call_spelled s.no_more_arguments h = tt
more_call_spelled (s.next_argument {xs = xs} c i r) h =
    argument_spelled xs i (token_rest c.1 h) (more_call_spelled r (argument_rest i (token_rest c.1 h)))

call_spelled : {ts us : Tokens} {xs : List Argument} → IsArguments ts xs us → ArePlain ts → ArgumentsOf IsAny xs
call_spelled s.no_argument h = tt
call_spelled (s.argument {xs = xs} i r) h = argument_spelled xs i h (more_call_spelled r (argument_rest i h))

-- labels
label_spelled : {ts us : Tokens} {l : Label} → IsLabel ts l us → ArePlain ts → IsSpelledLabel l
label_spelled (s.single n i q) h = subst IsSpelledLabel (sym q) (number_keyword n (number_plain i h).0)
label_spelled (s.named v i q) h = subst IsSpelledLabel (sym q) tt
label_spelled (range a b i o j q) h =
    let first = number_plain i h in
    subst IsSpelledLabel (sym q)
    (number_keyword a first.0, number_keyword b (number_plain j (token_rest o.1 first.1)).0)

more_labels_spelled : {ts us : Tokens} {xs : List Label} → IsMoreLabels ts xs us → ArePlain ts → AreSpelledLabels xs
more_labels_spelled no_more_labels h = tt
more_labels_spelled (next_label c i r) h =
    let behind = token_rest c.1 h in
    (label_spelled i behind, more_labels_spelled r (label_rest i behind))

labels_spelled : {ts us : Tokens} {xs : List Label} → IsLabels ts xs us → ArePlain ts → AreSpelledLabels xs
labels_spelled (labels i r) h = (label_spelled i h, more_labels_spelled r (label_rest i h))

step_spelled : {ts us : Tokens} {o : Option Expr} → IsStep ts o us → ArePlain ts → StepOf IsAny o
step_spelled no_step h = tt
step_spelled (step x p i q) h = subst (StepOf IsAny) (sym q) (expr_spelled i (token_rest p.1 h))

-- statements
mutual
  stmt_spelled : {ts us : Tokens} {x : Stmt} → IsStmt ts x us → ArePlain ts → StmtOf IsAny x
  stmt_spelled (empty q) h = subst (StmtOf IsAny) (sym q) tt
  stmt_spelled (assign v value i o j q) h =
      subst (StmtOf IsAny) (sym q) (variable_spelled i h, expr_spelled j (token_rest o.1 (variable_rest i h)))
  stmt_spelled (invoke f xs n o i c q) h =
      subst (StmtOf IsAny) (sym q) (call_spelled i (token_rest o.1 (token_rest n h)))
  stmt_spelled (choose {x = x} arm' arms other o a b c d q) h =
      let first = token_rest o.1 h in
      let more = arm_rest a first in
      subst (StmtOf IsAny) (sym q)
      (arm_spelled (arms_of arms) a first (more_arms_spelled b more), else_spelled c (more_arms_rest b more))
  stmt_spelled (select from arms other o i p a b c q) h =
      let first = token_rest o.1 h in
      let behind = token_rest p.1 (expr_rest i first) in
      subst (StmtOf IsAny) (sym q)
      (expr_spelled i first, case_arms_spelled a behind, else_spelled b (case_arms_rest a behind))
  stmt_spelled (count control start limit by body o n p i t j st d b f q) h =
      let first = token_rest p.1 (token_rest n (token_rest o.1 h)) in
      let second = token_rest t.1 (expr_rest i first) in
      let third = expr_rest j second in
      subst (StmtOf IsAny) (sym q) (
        expr_spelled i first,
        expr_spelled j second,
        step_spelled st third,
        stmts_spelled b (token_rest d.1 (step_rest st third)),
      )
  stmt_spelled (repeat_while condition body o i d b f q) h =
      let first = token_rest o.1 h in
      subst (StmtOf IsAny) (sym q) (expr_spelled i first, stmts_spelled b (token_rest d.1 (expr_rest i first)))
  stmt_spelled (repeat_until body condition o b t i f q) h =
      let first = token_rest o.1 h in
      subst (StmtOf IsAny) (sym q) (stmts_spelled b first, expr_spelled i (token_rest t.1 (stmts_rest b first)))
  stmt_spelled (exit at o q) h = subst (StmtOf IsAny) (sym q) tt
  stmt_spelled (leave o q) h = subst (StmtOf IsAny) (sym q) tt

  stmts_spelled : {ts us : Tokens} {xs : List Stmt} → IsStmts ts xs us → ArePlain ts → StmtsOf IsAny (stmts_of xs)
  stmts_spelled no_stmt h = tt
  stmts_spelled (stmt i p r) h = (stmt_spelled i h, stmts_spelled r (token_rest p.1 (stmt_rest i h)))

  else_spelled : {ts us : Tokens} {xs : List Stmt} → IsElse ts xs us → ArePlain ts → StmtsOf IsAny (stmts_of xs)
  else_spelled no_else h = tt
  else_spelled (otherwise p i) h = stmts_spelled i (token_rest p.1 h)

  arm_spelled : {ts us : Tokens} {a : Arm} (rest : Arms) → IsArm ts a us → ArePlain ts → ArmsOf IsAny rest
      → ArmsOf IsAny (arm_then a.0 a.1 rest)
  arm_spelled rest (arm condition body i t b q) h more =
      subst (λ (a : Arm). ArmsOf IsAny (arm_then a.0 a.1 rest)) (sym q)
      (expr_spelled i h, stmts_spelled b (token_rest t.1 (expr_rest i h)), more)

  more_arms_spelled : {ts us : Tokens} {xs : List Arm} → IsMoreArms ts xs us → ArePlain ts
      → ArmsOf IsAny (arms_of xs)
  more_arms_spelled no_more_arms h = tt
  more_arms_spelled (elsif {xs = xs} p a r) h =
      let first = token_rest p.1 h in
      arm_spelled (arms_of xs) a first (more_arms_spelled r (arm_rest a first))

  case_arm_spelled : {ts us : Tokens} {a : CaseArm} (rest : CaseArms) → IsCaseArm ts a us → ArePlain ts
      → CaseArmsOf IsAny rest → CaseArmsOf IsAny (case_arm_then a.0 a.1 rest)
  case_arm_spelled rest (case_arm ls body i c b q) h more =
      subst (λ (a : CaseArm). CaseArmsOf IsAny (case_arm_then a.0 a.1 rest)) (sym q)
      (labels_spelled i h, stmts_spelled b (token_rest c.1 (labels_rest i h)), more)

  case_arms_spelled : {ts us : Tokens} {xs : List CaseArm} → IsCaseArms ts xs us → ArePlain ts
      → CaseArmsOf IsAny (case_arms_of xs)
  case_arms_spelled no_case_arm h = tt
  case_arms_spelled (next_case_arm {xs = xs} a r) h =
      case_arm_spelled (case_arms_of xs) a h (case_arms_spelled r (case_arm_rest a h))

-- units
unit_spelled : {ts us : Tokens} {x : OrganisationUnit} → IsUnit ts x us → ArePlain ts
    → StmtsOf IsAny (stmts_of x.body)
unit_spelled (u.function x result bs body k n c t m i f q) h =
    let a = name_plain _ x _ n (token_rest k.1 h) in
    let b = many_plain is_plain_block (block_plain IsFunctionSection IsDeclaration function_section_plain
    declaration_plain) m (token_rest t (token_rest c.1 a.1)) in
    subst (λ (x : OrganisationUnit). StmtsOf IsAny (stmts_of x.body)) (sym q) (stmts_spelled i b.1)
unit_spelled (u.function_block x bs body k n m i f q) h =
    let a = name_plain _ x _ n (token_rest k.1 h) in
    let b = many_plain is_plain_block variable_block_plain m a.1 in
    subst (λ (x : OrganisationUnit). StmtsOf IsAny (stmts_of x.body)) (sym q) (stmts_spelled i b.1)
unit_spelled (u.program x bs body k n m i f q) h =
    let a = name_plain _ x _ n (token_rest k.1 h) in
    let b = many_plain is_plain_block program_block_plain m a.1 in
    subst (λ (x : OrganisationUnit). StmtsOf IsAny (stmts_of x.body)) (sym q) (stmts_spelled i b.1)

-- texts
element_spelled : {ts us : Tokens} {x : LibraryElement} (rest : Source) → IsLibraryElement ts x us → ArePlain ts
    → AreSpelled (units_in rest) → AreSpelled (units_in (x ∷ rest))
element_spelled rest (r.types xs i q) h more = subst (λ x. AreSpelled (units_in (x ∷ rest))) (sym q) more
element_spelled rest (r.unit v i q) h more =
    subst (λ x. AreSpelled (units_in (x ∷ rest))) (sym q) (unit_spelled i h, more)
element_spelled rest (r.configuration c i q) h more = subst (λ x. AreSpelled (units_in (x ∷ rest))) (sym q) more

source_spelled : {ts us : Tokens} {source : Source} → Many IsLibraryElement ts source us → ArePlain ts
    → AreSpelled (units_in source)
source_spelled no_more h = tt
source_spelled (one_more {ts} {us} {vs} {x} {xs} i rest) h =
    element_spelled xs i h (source_spelled rest (element_plain ts x us i h).1)

pub units_spelled : (text : List ℕ) (source : Source) → IsTextOf text source → AreSpelled (units_in source)
units_spelled text source h = source_spelled h.parsed (tokens_plain h.spelled.spells)
