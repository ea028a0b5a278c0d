-- Parts that are read as the arms of a CASE are arms, and the tokens before a refusal begin some.
use Rattle.std.proofs.Common.{◌≡◌, ℕ, ◌+◌, ◌-◌, ◌<◌, ◌≤◌, List, [], ◌∷◌, ◌++◌, length, Option, Some, None, refl, sym}
use Rattle.std.proofs.Common.{ap, subst, ◌∙◌, arith, append_assoc}
use Rattle.st_types.specs.declared.identifier.Identifier.{Identifier}
use Rattle.st_types.specs.declared.literal.Number.{Number as NumberLeaf}
use Rattle.st_lex.specs.declared.token.Token.{Token}
use Rattle.st_lex.specs.declared.token.TokenKind.{TokenKind}
use Rattle.st_lex.specs.declared.token.TokenKind.TheVariants.{Name}
use Rattle.st_lex.specs.declared.mark.Mark.TheVariants as m
use Rattle.st_types.specs.declared.statement.Label.{Label}
use Rattle.st_types.specs.declared.statement.Label.TheVariants as label_forms
use Rattle.st_types.specs.Statements.{Stmt, CaseArm, stmts_of, case_arms_of}
use Rattle.st_types.specs.Depths.{depth_of_stmt, deepest_stmt, deepest_case_arm}
use Rattle.st_parse.specs.Tokens.{Tokens, Is, is, Passes, mark, name, name_in, is_mark, IsNumber, value, value_at}
use Rattle.st_parse.specs.Tokens.{value_in, is_name, is_value}
use Rattle.st_parse.specs.Parsers.{Parser, one, several, turns, after_comma}
use Rattle.st_parse.specs.StatementReading.{range_of, label_at, ends_label, starts_label, starts_part}
use Rattle.st_parse.specs.StatementReading.{number_label_at, named_label_at, label_of, head_of, head_at, Arms}
use Rattle.st_parse.specs.StatementReading.{first_arm, all_arms, with_arm, with_stmt, next_arm_of, label_part}
use Rattle.st_parse.specs.StatementReading.{named_line_part, named_part, line_part, part_at, some_arms_at}
use Rattle.st_parse.specs.StatementReading.{case_arms_at}
use Rattle.st_parse.specs.Laws.{Grammar}
use Rattle.st_parse.specs.Statements.{IsLabel, single, range, named, IsMoreLabels, no_more_labels, next_label}
use Rattle.st_parse.specs.Statements.{IsLabels, labels, IsStmts, no_stmt, arm, case_arm, IsCaseArms, no_case_arm}
use Rattle.st_parse.specs.Statements.{next_case_arm}
use Rattle.st_parse.proofs.Sound.{Tells, Any, Seq, Made, made}
use Rattle.st_parse.proofs.SoundReadings.{Sound, sound_then, sound_pure, sound_as, sound_if, sound_mark}
use Rattle.st_parse.proofs.SoundReadings.{sound_name, sound_number, token_of, sound_one}
use Rattle.st_parse.proofs.SoundLists.{sound_more, each_push, Each}
use Rattle.st_parse.proofs.ExpressionFacts.{is_less}
use Rattle.st_parse.proofs.StatementFacts.{IsLine, line_less, line_then, label_less, each_stmt, each_case_arm}
use Rattle.st_parse.proofs.StatementFacts.{labels_less}
use Rattle.st_types.specs.declared.literal.EnumeratedValue.{EnumeratedValue}
use Rattle.st_types.specs.Expressions as e
use Rattle.st_parse.proofs.SoundTurns.{told_turns}
use Rattle.std.proofs.lemmas.List.{append-nil}
use Rattle.st_parse.proofs.SoundSimple.{LowStmt, LineAfter, sound_named_line, line_begins}

-- ---- labels

abbrev AfterNumber : NumberLeaf → Grammar Label
AfterNumber n us l vs = (ts : Tokens) → IsNumber ts n us → IsLabel ts l vs

is_range : (n : NumberLeaf) (us : Tokens) (l : Label) (vs : Tokens)
    → Seq (Is (mark m.Range)) (λ at. Seq IsNumber (λ k. Made (label_forms.Range n k))) us l vs → AfterNumber n us l vs
is_range n us l vs (at, ws, o, (k, zs, i, made eq)) ts j = range n k j (at, o) i eq

is_single_label : (n : NumberLeaf) (us : Tokens) (l : Label) (vs : Tokens) → Made (label_forms.Single n) us l vs
    → AfterNumber n us l vs
is_single_label n us l vs (made eq) ts j = single n j eq

sound_range_of : {C : Type 0} (n : NumberLeaf) → Sound C (λ e. range_of n) (AfterNumber n) Any
unfolding range_of
sound_range_of n = sound_as (is_range n) (λ x us d. d) (sound_then (sound_mark m.Range)
    (λ at. sound_then sound_number (λ k. sound_pure (label_forms.Range n k) Any (λ c us. tt))))

sound_number_label : {C : Type 0} → Sound C (λ e. number_label_at) IsLabel Any
unfolding number_label_at
sound_number_label = sound_as (λ ts l us p. p.3 ts p.2) (λ x us d. d)
    (sound_then sound_number (λ n. sound_if (is_mark m.Range) (sound_range_of n)
    (sound_as (is_single_label n) (λ x us d. d) (sound_pure (label_forms.Single n) Any (λ c us. tt)))))

is_named_label : (ts : Tokens) (l : Label) (us : Tokens)
    → Seq (Is value) (λ v. Made (label_forms.Enumerated v)) ts l us → IsLabel ts l us
is_named_label ts l us (v, vs, o, made eq) = named v o eq

sound_named_label : {C : Type 0} → Sound C (λ e. named_label_at) IsLabel Any
unfolding named_label_at
sound_named_label = sound_as is_named_label (λ x us d. d)
    (sound_then (sound_one value (token_of (Name [])) (value_at 0 None []) refl)
    (λ v. sound_pure (label_forms.Enumerated v) Any (λ c us. tt)))

sound_label : {C : Type 0} → Sound C (λ e. label_at) IsLabel Any
unfolding label_at
sound_label = sound_if is_value sound_named_label sound_number_label

-- ---- the labels of an arm

-- labels with their colon, and those after a first one
abbrev Head : Grammar (List Label)
Head ts ls us = (vs : Tokens) × IsLabels ts ls vs × Passes (mark m.Colon) vs us

abbrev HeadAfter : Label → Grammar (List Label)
HeadAfter l ts ls us =
    (xs : List Label) × (vs : Tokens) × IsMoreLabels ts xs vs × Passes (mark m.Colon) vs us × (ls ≡ (l ∷ []) ++ xs)

abbrev MoreLabels : Label → Grammar (List Label)
MoreLabels l ts ys us = (xs : List Label) × IsMoreLabels ts xs us × (ys ≡ (l ∷ []) ++ xs)

sound_more_labels : {C : Type 0} (l : Label)
    → Sound C (λ e. several (is_mark m.Comma) (after_comma label_at) (l ∷ [])) (MoreLabels l) Any
sound_more_labels l = sound_as (λ ts x us r. r) (λ x us d. tt) (sound_more (λ e. label_at) IsLabel IsMoreLabels
    IsLabels (λ l. Unit {0}) (λ ts. no_more_labels) (λ ts us x vs xs ws c o r. next_label c o r)
    (λ ts x us o. label_less o) (λ ts x us xs vs o r. labels o r) l (λ c. tt) sound_label)

is_head_after : (l : Label) (ts : Tokens) (ls : List Label) (us : Tokens)
    → Seq (MoreLabels l) (λ ls. Seq (Is (mark m.Colon)) (λ at. Made ls)) ts ls us → HeadAfter l ts ls us
is_head_after l ts ls us (ys, vs, (xs, r, same), (at, ws, o, made eq)) = (xs, vs, r, (at, o), eq ∙ same)

sound_head_of : {C : Type 0} (l : Label) → Sound C (λ e. head_of l) (HeadAfter l) Any
unfolding head_of
sound_head_of l = sound_as (is_head_after l) (λ x us d. d) (sound_then (sound_more_labels l)
    (λ ls. sound_then (sound_mark m.Colon) (λ at. sound_pure ls Any (λ c us. tt))))

head_is : {ts us vs : Tokens} {l : Label} {ls : List Label} → IsLabel ts l us → HeadAfter l us ls vs → Head ts ls vs
head_is {ts = ts} i (xs, ws, r, c, same) =
    (ws, subst (λ (ys : List Label). IsLabels ts ys ws) (sym same) (labels i r), c)

sound_head : {C : Type 0} → Sound C (λ e. head_at) Head Any
unfolding head_at
sound_head = sound_as (λ ts ls us p. head_is p.2 p.3) (λ x us d. d) (sound_then sound_label (λ l. sound_head_of l))

head_less : {ts us : Tokens} {ls : List Label} → Head ts ls us → length us < length ts
head_less (vs, i, c) = let a = labels_less i in let b = is_less c.1 in omega arith

-- ---- arms, part by part

-- one more arm, or one more statement of the last
data Part (a : Arms) : Tokens → Arms → Tokens → Type 0 where
  headed : {ts us : Tokens} {a' : Arms} (ls : List Label) → Head ts ls us → a' ≡ with_arm a ls → Part a ts a' us
  stated : {ts us : Tokens} {a' : Arms} (x : Stmt) → IsLine ts x us → a' ≡ with_stmt a x → Part a ts a' us

part_less : (a : Arms) (ts : Tokens) (a' : Arms) (us : Tokens) → Part a ts a' us → length us < length ts
part_less a ts a' us (headed ls h eq) = head_less h
part_less a ts a' us (stated x i eq) = line_less ts x us i

-- the completion of the arms so far: statements of the last, and other arms
abbrev Completes : Arms → Tokens → List CaseArm → Tokens → Type 0
Completes a ts arms us = (xs : List Stmt) × (others : List CaseArm) × (vs : Tokens) × IsStmts ts xs vs
    × IsCaseArms vs others us × (arms ≡ a.before ++ (a.labels, stmts_of (a.body ++ xs)) ∷ others)

-- a completion of the arms after these tokens completes those before them
abbrev Parts : Arms → Grammar Arms
Parts a ts a' us = (arms : List CaseArm) (vs : Tokens) → Completes a' us arms vs → Completes a ts arms vs

completes_stated : (a : Arms) (ts : Tokens) (x : Stmt) (us : Tokens) (arms : List CaseArm) (vs : Tokens) → IsLine ts x us
    → Completes (with_stmt a x) us arms vs → Completes a ts arms vs
completes_stated a ts x us arms vs i (xs, others, ws, b, r, same) = (
  x ∷ xs,
  others,
  ws,
  line_then ts x us xs ws i b,
  r,
  same ∙ ap (λ (ys : List Stmt). a.before ++ (a.labels, stmts_of ys) ∷ others) (append_assoc a.body (x ∷ []) xs),
)

completes_headed : (a : Arms) (ts : Tokens) (ls : List Label) (us : Tokens) (arms : List CaseArm) (vs : Tokens)
    → Head ts ls us → Completes (with_arm a ls) us arms vs → Completes a ts arms vs
completes_headed a ts ls us arms vs (ks, i, c) (xs, others, ws, b, r, same) = (
  [],
  (ls, stmts_of xs) ∷ others,
  ts,
  no_stmt,
  next_case_arm (case_arm ls xs i c b refl) r,
  same ∙ (append_assoc a.before ((a.labels, stmts_of a.body) ∷ []) ((ls, stmts_of xs) ∷ others)
      ∙ ap (λ (ys : List Stmt). a.before ++ (a.labels, stmts_of ys) ∷ (ls, stmts_of xs) ∷ others)
      (sym (append-nil a.body))),
)

completes_part : (a : Arms) (ts : Tokens) (a' : Arms) (us : Tokens) (arms : List CaseArm) (vs : Tokens)
    → Part a ts a' us → Completes a' us arms vs → Completes a ts arms vs
completes_part a ts a' us arms vs (headed ls h eq) e =
    completes_headed a ts ls us arms vs h (subst (λ (z : Arms). Completes z us arms vs) eq e)
completes_part a ts a' us arms vs (stated x i eq) e =
    completes_stated a ts x us arms vs i (subst (λ (z : Arms). Completes z us arms vs) eq e)

-- the arms of a first head and those that followed it
arms_are : (ts : Tokens) (ls : List Label) (us : Tokens) (a : Arms) (vs : Tokens) → Head ts ls us
    → Parts (first_arm ls) us a vs → IsCaseArms ts (all_arms a) vs
arms_are ts ls us a vs h parts =
    let none : all_arms a ≡ a.before ++ (a.labels, stmts_of (a.body ++ [])) ∷ [] =
    ap (λ (ys : List Stmt). a.before ++ (a.labels, stmts_of ys) ∷ []) (sym (append-nil a.body)) in
    let e = parts (all_arms a) vs ([], [], vs, no_stmt, no_case_arm, none) in
    subst (λ (ys : List CaseArm). IsCaseArms ts ys vs) (sym e.5)
    (next_case_arm (case_arm ls e.0 h.1 h.2 e.3 refl) e.4)

abbrev LowArms : ℕ → Arms → Tokens → Type 0
LowArms below a us = Each (λ y. deepest_stmt y.1 ≤ below) a.before × Each (λ x. depth_of_stmt x ≤ below) a.body

all_low : (below : ℕ) (a : Arms) (us : Tokens) → LowArms below a us → Each (λ y. deepest_stmt y.1 ≤ below) (all_arms a)
all_low below a us low = each_push (λ (y : CaseArm). deepest_stmt y.1 ≤ below) a.before (a.labels, stmts_of a.body)
    low.0 (each_stmt below a.body low.1)

-- ---- after the first name of a part

abbrev PartAfterLabel : Arms → Label → Grammar Arms
PartAfterLabel a l us a' vs = (ls : List Label) × HeadAfter l us ls vs × (a' ≡ with_arm a ls)

abbrev PartAfterName : Arms → Identifier → Grammar Arms
PartAfterName a x us a' vs = (ts : Tokens) → Is name ts x us → Part a ts a' vs

abbrev valued : Option Identifier → Option EnumeratedValue
valued None = None
valued (Some x) = Some (value_at x.place None x.name)

name_value : (t : Token) (x : Identifier) → name t ≡ Some x → value t ≡ Some (value_at x.place None x.name)
name_value t x eq = by_kind_of t.start t.kind x eq
  where
    by_kind_of : (at : ℕ) (k : TokenKind) (x : Identifier) → name_in at k ≡ Some x
        → value_in at k ≡ Some (value_at x.place None x.name)
    by_kind_of at (Name n) x eq = ap valued eq
    by_kind_of at _ x eq = absurd cc

pub name_label : {ts us : Tokens} {x : Identifier} → Is name ts x us → IsLabel ts (label_of x) us
name_label {x = x} (is {t} eq) = named (value_at x.place None x.name) (is (name_value t x eq)) refl

made_arm : (a : Arms) (l : Label) (us : Tokens) (a' : Arms) (vs : Tokens)
    → Seq (HeadAfter l) (λ ls. Made (with_arm a ls)) us a' vs → PartAfterLabel a l us a' vs
made_arm a l us a' vs (ls, ws, h, made eq) = (ls, h, eq)

sound_next_arm_of : {C : Type 0} (below : ℕ) (a : Arms) (l : Label) → (C → LowArms below a [])
    → Sound C (λ e. next_arm_of a l) (PartAfterLabel a l) (LowArms below)
unfolding next_arm_of
sound_next_arm_of below a l low = sound_as (made_arm a l) (λ x us d. d) (sound_then (sound_head_of l)
    (λ ls. sound_pure (with_arm a ls) (LowArms below) (λ c us. (all_low below a [] (low c.0), tt))))

labelled : (a : Arms) (ts : Tokens) (a' : Arms) (us : Tokens) → Seq IsLabel (λ l. PartAfterLabel a l) ts a' us
    → Part a ts a' us
labelled a ts a' us (l, vs, i, (ls, h, eq)) = headed ls (head_is i h) eq

sound_label_part : {C : Type 0} (below : ℕ) (a : Arms) → (C → LowArms below a [])
    → Sound C (λ e. label_part a) (Part a) (LowArms below)
unfolding label_part
sound_label_part below a low = sound_as (labelled a) (λ x us d. d)
    (sound_then sound_label (λ l. sound_next_arm_of below a l (λ c. low c.0)))

made_stmt : (a : Arms) (x : Identifier) (us : Tokens) (a' : Arms) (vs : Tokens)
    → Seq (LineAfter x) (λ y. Made (with_stmt a y)) us a' vs → PartAfterName a x us a' vs
made_stmt a x us a' vs (y, ws, i, made eq) ts n = stated y (i ts n) eq

with_low : (below : ℕ) (a : Arms) (x : Stmt) (us vs : Tokens) → LowArms below a us → depth_of_stmt x ≤ below
    → LowArms below (with_stmt a x) vs
with_low below a x us vs low l = (low.0, each_push (λ (y : Stmt). depth_of_stmt y ≤ below) a.body x low.1 l)

sound_named_line_part : {C : Type 0} (below : ℕ) (a : Arms) (x : Identifier) → (C → LowArms below a [])
    → Sound C (λ n. named_line_part (below + n) a x) (PartAfterName a x) (LowArms below)
unfolding named_line_part
sound_named_line_part below a x low = sound_as (made_stmt a x) (λ x us d. d) (sound_then (sound_named_line below x)
    (λ y. sound_pure (with_stmt a y) (LowArms below) (λ c us. with_low below a y [] us (low c.0) c.1.1)))

arm_after_name : (a : Arms) (x : Identifier) (us : Tokens) (a' : Arms) (vs : Tokens)
    → PartAfterLabel a (label_of x) us a' vs → PartAfterName a x us a' vs
arm_after_name a x us a' vs (ls, h, eq) ts n = headed ls (head_is (name_label n) h) eq

sound_named_part : {C : Type 0} (below : ℕ) (a : Arms) → (C → LowArms below a [])
    → Sound C (λ n. named_part (below + n) a) (Part a) (LowArms below)
unfolding named_part
sound_named_part below a low = sound_as (λ ts a' us p. p.3 ts p.2) (λ x us d. d) (sound_then sound_name (λ x.
    sound_if ends_label (sound_as (arm_after_name a x) (λ x us d. d)
    (sound_next_arm_of below a (label_of x) (λ c. low c.0))) (sound_named_line_part below a x (λ c. low c.0))))

-- ---- all parts

module _ (below : ℕ) (line : ℕ → Parser Stmt) (tells : Tells line IsLine (LowStmt below)) where
  lined : (a : Arms) (ts : Tokens) (a' : Arms) (us : Tokens) → Seq IsLine (λ x. Made (with_stmt a x)) ts a' us
      → Part a ts a' us
  lined a ts a' us (x, vs, i, made eq) = stated x i eq

  sound_line_part : {C : Type 0} (a : Arms) → (C → LowArms below a [])
      → Sound C (λ n. line_part (below + n) (line n) a) (Part a) (LowArms below)
  unfolding line_part
  sound_line_part a low = sound_as (lined a) (λ x us d. d) (sound_then (record { begins = line_begins; tells = λ c. tells })
      (λ x. sound_pure (with_stmt a x) (LowArms below) (λ c us. with_low below a x [] us (low c.0) c.1.1)))

  sound_part : {C : Type 0} (a : Arms) → (C → LowArms below a [])
      → Sound C (λ n. part_at (below + n) (line n) a) (Part a) (LowArms below)
  unfolding part_at
  sound_part a low = sound_if is_name (sound_named_part below a low)
      (sound_if starts_label (sound_label_part below a low) (sound_line_part a low))

  sound_parts : {C : Type 0} (a : Arms) → (C → LowArms below a [])
      → Sound C (λ n. turns starts_part (part_at (below + n) (line n)) a) (Parts a) (LowArms below)
  sound_parts a low = sound_as (λ ts x us r. r) (λ x us d. d.0) (record {
    begins = record { more = []; tree = a; whole = λ after. λ arms vs e. e };
    tells = λ c ts. told_turns starts_part (λ n a. part_at (below + n) (line n) a) Parts Part (LowArms below)
        (λ s us. λ arms vs e. e) (λ s ts s' us x vs o r. λ arms ws e. completes_part s ts s' us arms ws o (r arms ws e))
        part_less (λ s us i hit. (sound_part s (λ u. i)).tells i us) a ts (low c);
  })

  is_arms : (ts : Tokens) (arms : List CaseArm) (us : Tokens)
      → Seq Head (λ ls. Seq (Parts (first_arm ls)) (λ a. Made (all_arms a))) ts arms us → IsCaseArms ts arms us
  is_arms ts arms us (ls, vs, h, (a, ws, p, made eq)) =
      subst (λ (ys : List CaseArm). IsCaseArms ts ys ws) (sym eq) (arms_are ts ls vs a ws h p)

  abbrev LowCaseArms : List CaseArm → Tokens → Type 0
  LowCaseArms arms us = deepest_case_arm (case_arms_of arms) ≤ below

  sound_some_arms : {C : Type 0} → Sound C (λ n. some_arms_at (below + n) (line n)) IsCaseArms LowCaseArms
  unfolding some_arms_at
  sound_some_arms = sound_as is_arms (λ x us d. d) (sound_then sound_head (λ ls.
      sound_then (sound_parts (first_arm ls) (λ c. (tt, tt))) (λ a.
      sound_pure (all_arms a) LowCaseArms (λ c us. each_case_arm below (all_arms a) (all_low below a [] c.1.1)))))

  no_arms : (ts : Tokens) (arms : List CaseArm) (us : Tokens) → Made [] ts arms us → IsCaseArms ts arms us
  no_arms ts arms us (made eq) = subst (λ (ys : List CaseArm). IsCaseArms ts ys ts) (sym eq) no_case_arm

  pub sound_case_arms : {C : Type 0} → Sound C (λ n. case_arms_at (below + n) (line n)) IsCaseArms
      (λ xs us. deepest_case_arm (case_arms_of xs) ≤ below)
  unfolding case_arms_at
  sound_case_arms = sound_if starts_label sound_some_arms
      (sound_as no_arms (λ x us d. d) (sound_pure [] LowCaseArms (λ c us. omega arith)))
