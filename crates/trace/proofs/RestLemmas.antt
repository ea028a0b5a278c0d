-- The rest of a trace.
use Rattle.std.proofs.Common.{◌≡◌, ◌∙◌, ap, sym, refl, subst, ℕ, suc, ◌+◌, ◌<◌, ◌≤◌, List, [], ◌∷◌, ◌++◌, length, Option, Some}
use Rattle.std.proofs.Common.{inl, inr, append_assoc, arith, slice_get, length-append, append-nil, map, option_map}
use Rattle.std.specs.Prelude.{codes}
use Rattle.std.specs.List.{fold}
use Rattle.std.specs.Fmt.{decimal}
use Rattle.std.proofs.lemmas.List.{append_cancel_left, length-map}
use Rattle.std.proofs.lemmas.Option.{slice_get_cases, slice_get-map}
use Rattle.st_types.specs.declared.limits.TheConstants.{MAX_LOG_ROOM}
use Rattle.st_meaning.specs.declared.outcome.Outcome.{Outcome}
use Rattle.st_meaning.specs.Stores.{Store}
use Rattle.st_types.specs.declared.entry.Entry.{Entry}
use Rattle.st_types.specs.declared.entry.Entry.TheVariants.{Row, Done}
use Rattle.st_types.specs.declared.entry.Activation.{Activation}
use Rattle.st_types.specs.Rows.{Latch}
use Rattle.st_meaning.specs.Plans as plans
use Rattle.st_meaning.specs.Plans.{schedules_of, program_at}
use Rattle.st_meaning.specs.Due.{Waits}
use Rattle.st_meaning.proofs.DueLemmas.{Waits-same, Waits-there}
use Rattle.st_meaning.proofs.LogLemmas.{past_of-add}
use Rattle.st_meaning.specs.Logs.{Log, Past, with_entry, beginning, past_of, IsLegalFrom, MayFollow, done_follows}
use Rattle.st_meaning.specs.Logs.{IsLegal, outcomes_from, outcomes_of, outcome_at}
use Rattle.plan.specs.declared.task.ProgramInstance.{ProgramInstance}
use Rattle.plan.specs.declared.plan.Plan.{Plan}
use Rattle.plan.specs.PlanViews.{plan_view}
use Rattle.serial_core.specs.Steps.{State, grown, past_in}
use Rattle.serial_core.proofs.OutcomeLemmas.{outcomes_of-add}
use Rattle.trace.proofs.TraceLemmas.{outcomes_long}
use Rattle.trace.specs.Rests.{Grows, IsNoRest, IsRest, outcome_in, rows_in, with_log}
use Rattle.trace.specs.Texts.{done_line, end_line, entry_line, instance_text, line, log_text, outcome_text}

-- ---- heads of lists

pub head_is : (a b : ℕ) (xs ys : List ℕ) → a ∷ xs ≡ b ∷ ys → a ≡ b
head_is a b xs ys e = cc

latch_is : (a b : Latch) (xs ys : List Latch) → a ∷ xs ≡ b ∷ ys → (a ≡ b) × (xs ≡ ys)
latch_is a b xs ys e = (cc, cc)

-- ---- the rows of a log

pub rows_after : (plan : plans.Plan) (past : Past) (log : Log)
    → (fold (with_entry plan) past log).rows ≡ past.rows ++ rows_in log
rows_after plan past [] = sym (append-nil past.rows)
rows_after plan past (Row row ∷ log) =
    rows_after plan (with_entry plan past (Row row)) log ∙ append_assoc past.rows (row ∷ []) (rows_in log)
rows_after plan past (Done a ∷ log) = rows_after plan (with_entry plan past (Done a)) log

pub rows_made : (plan : plans.Plan) (start : Store) (log : Log) → (past_of plan start log).rows ≡ rows_in log
rows_made plan start log = rows_after plan (beginning start) log

-- ---- a log with one entry more

pub log_text-add : (plan : Plan) (log : Log) (os : List (Option Outcome)) (e : Entry) (o : Option Outcome)
    → length os ≡ length log → log_text plan (log ++ e ∷ []) (os ++ o ∷ []) ≡ log_text plan log os ++ entry_line plan e o
log_text-add plan [] [] e o len = append-nil (entry_line plan e o)
log_text-add plan [] (p ∷ os) e o len = absurd (omega (arith, len))
log_text-add plan (x ∷ log) [] e o len = absurd (omega (arith, len))
log_text-add plan (x ∷ log) (p ∷ os) e o len =
    ap (λ t. entry_line plan x p ++ t) (log_text-add plan log os e o (omega (arith, len)))
    ∙ sym (append_assoc (entry_line plan x p) (log_text plan log os) (entry_line plan e o))

-- ---- the next entry

-- the program of an activation that waits
abbrev pub ProgramAt : Plan → ℕ → Type 0
ProgramAt plan p = (q : ProgramInstance) × (slice_get plan.programs.items p ≡ Some q)

-- the rest of a trace after this entry
after_entry : (old : State) (rows : List Latch) (rest : List ℕ) (e : Entry) (more : Log) (behind : List Latch)
    → IsLegalFrom (plan_view old.plan) old.before (with_entry (plan_view old.plan) (past_in old) e) more
    → length old.log + suc (length more) ≤ MAX_LOG_ROOM
    → rows ≡ (with_entry (plan_view old.plan) (past_in old) e).rows ++ (rows_in more ++ behind)
    → rest ≡ log_text old.plan more (outcomes_from (plan_view old.plan) (with_entry (plan_view old.plan) (past_in old) e) more)
    ++ end_line (length old.log + suc (length more)) → IsRest (grown old e) rows rest more
after_entry old rows rest e more behind legal few rows_are spelled =
    let now : with_entry (plan_view old.plan) (past_in old) e ≡ past_in (grown old e) =
    sym (past_of-add (plan_view old.plan) old.start old.log e) in
    let len : length old.log + suc (length more) ≡ length (old.log ++ e ∷ []) + length more =
    omega (arith, length-append old.log (e ∷ [])) in record {
      legal = subst (λ (p : Past). IsLegalFrom (plan_view old.plan) old.before p more) now legal;
      few = subst (λ (n : ℕ). n ≤ MAX_LOG_ROOM) len few;
      behind = behind;
      rows_are = rows_are ∙ ap (λ (p : Past). p.rows ++ (rows_in more ++ behind)) now;
      spelled = spelled
          ∙ ap (λ (p : Past). log_text old.plan more (outcomes_from (plan_view old.plan) p more)
          ++ end_line (length old.log + suc (length more))) now
          ∙ ap (λ (n : ℕ). log_text old.plan more (outcomes_from (plan_view old.plan) (past_in (grown old e)) more)
          ++ end_line n) len;
    }

-- the entry that a trace goes on with is the one in its text
same_entry : (old : State) (rows : List Latch) (rest : List ℕ) (e f : Entry) (more : Log) → e ≡ f
    → IsRest old rows (entry_line old.plan f (outcome_in old f) ++ rest) (e ∷ more) → IsRest (grown old f) rows rest more
same_entry old rows rest e f more is left =
    let o = outcome_in old f in
    let past = with_entry (plan_view old.plan) (past_in old) f in
    let legal : IsLegalFrom (plan_view old.plan) old.before past more =
    subst (λ (x : Entry). IsLegalFrom (plan_view old.plan) old.before (with_entry (plan_view old.plan) (past_in old) x) more)
    is left.legal.1 in
    let spelled : entry_line old.plan f o ++ rest ≡ (entry_line old.plan f o
    ++ log_text old.plan more (outcomes_from (plan_view old.plan) past more))
    ++ end_line (length old.log + suc (length more)) =
    left.spelled ∙ ap (λ (x : Entry). (entry_line old.plan x (outcome_in old x)
    ++ log_text old.plan more (outcomes_from (plan_view old.plan) (with_entry (plan_view old.plan) (past_in old) x) more))
    ++ end_line (length old.log + suc (length more))) is in
    let rows_are : rows ≡ past.rows ++ (rows_in more ++ left.behind) =
    left.rows_are ∙ ap (λ (x : Entry). (past_in old).rows ++ (rows_in (x ∷ more) ++ left.behind)) is
    ∙ split f in
    after_entry old rows rest f more left.behind legal left.few rows_are
    (append_cancel_left (entry_line old.plan f o) rest
    (log_text old.plan more (outcomes_from (plan_view old.plan) past more) ++ end_line (length old.log + suc (length more)))
    (spelled ∙ append_assoc (entry_line old.plan f o)
    (log_text old.plan more (outcomes_from (plan_view old.plan) past more))
    (end_line (length old.log + suc (length more)))))
  where
    split : (x : Entry) → (past_in old).rows ++ (rows_in (x ∷ more) ++ left.behind)
        ≡ (with_entry (plan_view old.plan) (past_in old) x).rows ++ (rows_in more ++ left.behind)
    split (Row row) = sym (append_assoc (past_in old).rows (row ∷ []) (rows_in more ++ left.behind))
    split (Done a) = refl

-- no line of an entry is the last line
no_end : (plan : Plan) (e : Entry) (o : Option Outcome) (rest : List ℕ) (n : ℕ) → entry_line plan e o ++ rest ≡ end_line n
    → ⊥
no_end plan (Row row) o rest n h = let bad = head_is 114 101 _ _ h in absurd (omega arith)
no_end plan (Done a) o rest n h = let bad = head_is 100 101 _ _ h in absurd (omega arith)

no_row : (plan : Plan) (a : Activation) (row : Latch) (o u : Option Outcome) (rest more : List ℕ)
    → entry_line plan (Done a) o ++ rest ≡ entry_line plan (Row row) u ++ more → ⊥
no_row plan a row o u rest more h = let bad = head_is 100 114 _ _ h in absurd (omega arith)

-- the parts of the line of an execution
pub done_parts : (p : Option ProgramInstance) (row : ℕ) (o : Option Outcome) (rest : List ℕ)
    → done_line p row o ++ rest ≡ codes "done " ++ ((instance_text p ++ codes " ")
    ++ (((decimal row ++ 32 ∷ []) ++ line (outcome_text o)) ++ rest))
done_parts p row o rest =
    parts (codes "done ") (instance_text p) (32 ∷ []) (decimal row) (outcome_text o) (10 ∷ []) rest
  where
    parts : (d i s n w l more : List ℕ) → ((d ++ i) ++ ((((s ++ n) ++ s) ++ w) ++ l)) ++ more
        ≡ d ++ ((i ++ s) ++ (((n ++ s) ++ (w ++ l)) ++ more))
    parts d i s n w l more = simp append_assoc

pub waited : (plan : plans.Plan) (before : Option ℕ) (past : Past) (a : Activation) → MayFollow plan before past (Done a)
    → Waits (schedules_of plan) past.history a
waited plan before past a (done_follows _ w) = w

pub program_there : (plan : Plan) (past : Past) (a : Activation) → Waits (schedules_of (plan_view plan)) past.history a
    → ProgramAt plan a.program
program_there plan past a w =
    let there = (Waits-there (schedules_of (plan_view plan)) past.history a w).0 in
    elim (slice_get_cases plan.programs.items a.program).1 [
      | inl (q, small, found, at) ↦ (q, found)
      | inr (behind, none) ↦ absurd (omega (arith, simp length-map at there))
    ]

owner_at : (plan : Plan) (k : ℕ) (p : ProgramInstance) → slice_get plan.programs.items k ≡ Some p
    → slice_get (map (λ (x : ProgramInstance). x.owner) plan.programs.items) k ≡ Some p.owner
owner_at plan k p at =
    slice_get-map (λ (x : ProgramInstance). x.owner) plan.programs.items k
    ∙ ap (option_map (λ (x : ProgramInstance). x.owner)) at

-- a line `done RES/INST ..` gives its program
pub same_program : (plan : Plan) (i j : ℕ) (p q : ProgramInstance) (more rest : List ℕ)
    → slice_get plan.programs.items i ≡ Some p → slice_get plan.programs.items j ≡ Some q
    → (instance_text (Some p) ++ codes " ") ++ more ≡ (instance_text (Some q) ++ codes " ") ++ rest → i ≡ j
same_program plan i j p q more rest a b e =
    plan.sound.instances i j p.owner q.owner more rest (owner_at plan i p a) (owner_at plan j q b) e

-- two executions with the same line
same_activation : (plan : Plan) (past : Past) (a b : Activation) (o u : Option Outcome) (rest more : List ℕ)
    → Waits (schedules_of (plan_view plan)) past.history a
    → Waits (schedules_of (plan_view plan)) past.history b
    → entry_line plan (Done a) o ++ rest ≡ entry_line plan (Done b) u ++ more → a ≡ b
same_activation plan past a b o u rest more wa wb h =
    let (p, pa) = program_there plan past a wa in
    let (q, qb) = program_there plan past b wb in
    let at : done_line (Some p) a.row o ++ rest ≡ done_line (Some q) b.row u ++ more =
    ap (λ x. done_line x a.row o ++ rest) (sym pa) ∙ h ∙ ap (λ x. done_line x b.row u ++ more) qb in
    let told = append_cancel_left (codes "done ") _ _ (sym (done_parts (Some p) a.row o rest) ∙ at
    ∙ done_parts (Some q) b.row u more) in
    let program : a.program ≡ b.program = same_program plan a.program b.program p q _ _ pa qb told in
    let row : a.row ≡ b.row = Waits-same (schedules_of (plan_view plan)) past.history b.program a.row b.row
    (subst (λ (n : ℕ). Waits (schedules_of (plan_view plan)) past.history record { program = n; row = a.row }) program wa)
    wb in
    both a b program row
  where
    both : (x y : Activation) → x.program ≡ y.program → x.row ≡ y.row → x ≡ y
    both x y programs rows =
        ap (λ n. record { program = n; row = x.row }) programs ∙ ap (λ k. record { program = y.program; row = k }) rows

-- the text after the line of an entry
abbrev pub rest_text : State → Entry → Log → List ℕ
rest_text old e more =
    log_text old.plan more (outcomes_from (plan_view old.plan) (with_entry (plan_view old.plan) (past_in old) e) more)
    ++ end_line (length old.log + suc (length more))

pub first_line : (old : State) (rows : List Latch) (text : List ℕ) (e : Entry) (more : Log)
    → IsRest old rows text (e ∷ more) → text ≡ entry_line old.plan e (outcome_in old e) ++ rest_text old e more
first_line old rows text e more left = left.spelled ∙ append_assoc (entry_line old.plan e (outcome_in old e))
    (log_text old.plan more (outcomes_from (plan_view old.plan) (with_entry (plan_view old.plan) (past_in old) e) more))
    (end_line (length old.log + suc (length more)))

next_of : (old : State) (rows : List Latch) (text rest : List ℕ) (e : Entry) (behind : List Latch)
    → MayFollow (plan_view old.plan) old.before (past_in old) e
    → rows ≡ (past_in old).rows ++ (rows_in (e ∷ []) ++ behind)
    → text ≡ entry_line old.plan e (outcome_in old e) ++ rest → (more : Log) → IsRest old rows text more
    → (left : Log) × (more ≡ e ∷ left) × IsRest (grown old e) rows rest left
next_of old rows text rest e behind may rows_are spelled [] left =
    absurd (no_end old.plan e (outcome_in old e) rest (length old.log + 0) (sym spelled ∙ left.spelled))
next_of old rows text rest (Row row) behind may rows_are spelled (Row r ∷ more) left =
    let next = latch_is r row _ _ (append_cancel_left (past_in old).rows _ _ (sym left.rows_are ∙ rows_are)) in (
      more,
      ap (λ (x : Latch). Row x ∷ more) next.0,
      same_entry old rows rest (Row r) (Row row) more (ap Row next.0)
          (subst (λ (t : List ℕ). IsRest old rows t (Row r ∷ more)) spelled left),
    )
next_of old rows text rest (Row row) behind may rows_are spelled (Done a ∷ more) left =
    absurd (no_row old.plan a row (outcome_in old (Done a)) (outcome_in old (Row row)) (rest_text old (Done a) more)
    rest (sym (first_line old rows text (Done a) more left) ∙ spelled))
next_of old rows text rest (Done a) behind may rows_are spelled (Row r ∷ more) left =
    absurd (no_row old.plan a r (outcome_in old (Done a)) (outcome_in old (Row r)) rest
    (rest_text old (Row r) more) (sym spelled ∙ first_line old rows text (Row r) more left))
next_of old rows text rest (Done a) behind may rows_are spelled (Done b ∷ more) left =
    let same = same_activation old.plan (past_in old) b a (outcome_in old (Done b)) (outcome_in old (Done a))
    (rest_text old (Done b) more) rest
    (waited (plan_view old.plan) old.before (past_in old) b left.legal.0)
    (waited (plan_view old.plan) old.before (past_in old) a may)
    (sym (first_line old rows text (Done b) more left) ∙ spelled) in (
      more,
      ap (λ (x : Activation). Done x ∷ more) same,
      same_entry old rows rest (Done b) (Done a) more (ap Done same)
          (subst (λ (t : List ℕ). IsRest old rows t (Done b ∷ more)) spelled left),
    )

-- the rest of a trace after an entry that was read
pub next_rest : (old new : State) (rows : List Latch) (text rest : List ℕ)
    → Grows old rows text rest new → (more : Log) → IsRest old rows text more → (left : Log) × IsRest new rows rest left
next_rest old new rows text rest g more left =
    let next = next_of old rows text rest g.entry g.behind g.legal.0 g.rows_are g.spelled more left in
    (next.0, subst (λ (s : State). IsRest s rows rest next.0) (sym g.grown_by) next.2)

-- ---- a text is the rest of one trace

first_rows : (e : Entry) (more : Log) (behind : List Latch)
    → rows_in (e ∷ more) ++ behind ≡ rows_in (e ∷ []) ++ (rows_in more ++ behind)
first_rows (Row row) more behind = refl
first_rows (Done a) more behind = refl

tail_is : (e f : Entry) (xs ys : Log) → e ∷ xs ≡ f ∷ ys → xs ≡ ys
tail_is e f xs ys is = cc

pub one_rest : (life : State) (rows : List Latch) (text : List ℕ)
    → (xs ys : Log) → IsRest life rows text xs → IsRest life rows text ys → xs ≡ ys
one_rest life rows text [] [] one other = refl
one_rest life rows text [] (e ∷ ys) one other =
    absurd (no_end life.plan e (outcome_in life e) (rest_text life e ys) (length life.log + 0)
    (sym (first_line life rows text e ys other) ∙ one.spelled))
one_rest life rows text (e ∷ xs) ys one other =
    let rest = rest_text life e xs in
    let behind = rows_in xs ++ one.behind in
    let rows_are : rows ≡ (past_in life).rows ++ (rows_in (e ∷ []) ++ behind) =
    one.rows_are ∙ ap (λ rs. (past_in life).rows ++ rs) (first_rows e xs one.behind) in
    let spelled = first_line life rows text e xs one in
    let (here, same, left) = next_of life rows text rest e behind one.legal.0 rows_are spelled (e ∷ xs) one in
    let (there, is, right) = next_of life rows text rest e behind one.legal.0 rows_are spelled ys other in
    let xs_are : xs ≡ here = tail_is e e xs here same in
    let left_is : IsRest (grown life e) rows rest xs =
    subst (λ (l : Log). IsRest (grown life e) rows rest l) (sym xs_are) left in
    ap (λ (l : Log). e ∷ l) (one_rest (grown life e) rows rest xs there left_is right) ∙ sym is

-- ---- how far a trace was run again

pub record IsFar (old now : State) (rows : List Latch) (text rest : List ℕ) : Type 0 where
  pub same : now ≡ with_log old now.log
  pub left : List Latch
  pub rows_are : rows ≡ (past_in now).rows ++ left
  pub spelled : text ≡ log_text old.plan now.log (outcomes_of (plan_view old.plan) old.start now.log) ++ rest
  pub only : (more : Log) → IsRest old rows text more
      → (after : Log) × IsRest now rows rest after

-- ---- the whole log

-- nothing was read yet
pub far_begun : (life : State) (rows : List Latch) (text : List ℕ) → life.log ≡ [] → IsFar life life rows text text
far_begun life rows text empty = record {
  same = refl;
  left = rows;
  rows_are = ap (λ (l : Log). (past_of (plan_view life.plan) life.start l).rows ++ rows) (sym empty);
  spelled = ap (λ (l : Log). log_text life.plan l (outcomes_of (plan_view life.plan) life.start l) ++ text) (sym empty);
  only = λ more rest. (more, rest);
}

-- one entry more was read
pub far_more : (old now new : State) (rows : List Latch) (text mid rest : List ℕ) → IsFar old now rows text mid
    → Grows now rows mid rest new → IsFar old new rows text rest
far_more old now new rows text mid rest far g =
    let e = g.entry in
    let log : new.log ≡ now.log ++ e ∷ [] = ap (λ (s : State). s.log) g.grown_by in
    let plan_is : now.plan ≡ old.plan = ap (λ (s : State). s.plan) far.same in
    let start_is : now.start ≡ old.start = ap (λ (s : State). s.start) far.same in
    let outcomes = outcomes_of (plan_view old.plan) old.start now.log in
    let o = outcome_in now e in
    let own : o ≡ outcome_at (plan_view old.plan) (past_of (plan_view old.plan) old.start now.log) e =
    ap (λ (s : State). outcome_at (plan_view s.plan) (past_of (plan_view s.plan) s.start now.log) e) far.same in
    let more : outcomes ++ o ∷ [] ≡ outcomes_of (plan_view old.plan) old.start (now.log ++ e ∷ []) =
    ap (λ x. outcomes ++ x ∷ []) own ∙ sym (outcomes_of-add (plan_view old.plan) old.start now.log e) in
    let line : mid ≡ entry_line old.plan e o ++ rest =
    g.spelled ∙ ap (λ (p : Plan). entry_line p e o ++ rest) plan_is in
    let text_is : log_text old.plan now.log outcomes ++ mid
    ≡ log_text old.plan new.log (outcomes_of (plan_view old.plan) old.start new.log) ++ rest =
    ap (λ t. log_text old.plan now.log outcomes ++ t) line
    ∙ sym (append_assoc (log_text old.plan now.log outcomes) (entry_line old.plan e o) rest)
    ∙ ap (λ t. t ++ rest) (sym (log_text-add old.plan now.log outcomes e o
    (outcomes_long (plan_view old.plan) (beginning old.start) now.log)))
    ∙ ap (λ os. log_text old.plan (now.log ++ e ∷ []) os ++ rest) more
    ∙ ap (λ (l : Log). log_text old.plan l (outcomes_of (plan_view old.plan) old.start l) ++ rest) (sym log) in
    let rows_new : (past_in now).rows ++ (rows_in (e ∷ []) ++ g.behind) ≡ (past_in new).rows ++ g.behind =
    sym (append_assoc (past_in now).rows (rows_in (e ∷ [])) g.behind)
    ∙ ap (λ xs. xs ++ g.behind) (sym (rows_after (plan_view now.plan) (past_in now) (e ∷ []))
    ∙ ap (λ (p : Past). p.rows) (sym (past_of-add (plan_view now.plan) now.start now.log e)))
    ∙ ap (λ (s : State). (past_in s).rows ++ g.behind) (sym g.grown_by) in record {
      same = g.grown_by ∙ ap (λ (s : State). grown s e) far.same
          ∙ ap (λ (l : Log). with_log old l) (sym log);
      left = g.behind;
      rows_are = g.rows_are ∙ rows_new;
      spelled = far.spelled ∙ text_is;
      only = λ all left.
          let (after, mid_rest) = far.only all left in
          next_rest now new rows mid rest g after mid_rest;
    }

-- the last line was read
pub far_end : (old now : State) (rows : List Latch) (text rest : List ℕ) → old.log ≡ [] → old.room ≡ MAX_LOG_ROOM
    → length now.log ≤ now.room → IsLegal (plan_view now.plan) now.start now.before now.log
    → IsFar old now rows text rest → rest ≡ end_line (length now.log)
    → (now ≡ with_log old now.log) × IsRest old rows text now.log
far_end old now rows text rest empty room few legal far is =
    let begun : past_in old ≡ beginning old.start =
    ap (λ (l : Log). past_of (plan_view old.plan) old.start l) empty in
    let rows_now : (past_in now).rows ≡ rows_in now.log = rows_made (plan_view now.plan) now.start now.log in
    let legal_old : IsLegalFrom (plan_view old.plan) old.before (beginning old.start) now.log =
    subst (λ (s : State). IsLegalFrom (plan_view s.plan) s.before (beginning s.start) now.log) far.same legal in
    let none : length old.log ≡ 0 = ap (λ (l : Log). length l) empty in
    let room_now : now.room ≡ old.room = ap (λ (s : State). s.room) far.same in
    let count : length now.log ≡ length old.log + length now.log = omega (arith, none) in (
      far.same,
      record {
        legal = subst (λ (p : Past). IsLegalFrom (plan_view old.plan) old.before p now.log) (sym begun) legal_old;
        few = omega (arith, none, few, room_now, room);
        behind = far.left;
        rows_are = far.rows_are ∙ ap (λ xs. xs ++ far.left) rows_now
            ∙ ap (λ (p : Past). p.rows ++ (rows_in now.log ++ far.left)) (sym begun);
        spelled = far.spelled
            ∙ ap (λ t. log_text old.plan now.log (outcomes_of (plan_view old.plan) old.start now.log) ++ t)
            (is ∙ ap end_line count)
            ∙ ap (λ (p : Past). log_text old.plan now.log (outcomes_from (plan_view old.plan) p now.log)
            ++ end_line (length old.log + length now.log)) (sym begun);
      },
    )

-- the rest isn't a last line
pub far_no_end : (old now : State) (rows : List Latch) (text rest : List ℕ)
    → IsFar old now rows text rest → ((more : Log) → IsRest now rows rest more → more ≡ [])
    → (rest ≡ end_line (length now.log) → ⊥) → IsNoRest old rows text
far_no_end old now rows text rest far ends differs more left =
    let (after, mid) = far.only more left in
    let none = ends after mid in
    let last = subst (λ (l : Log). IsRest now rows rest l) none mid in
    let count : length now.log + 0 ≡ length now.log = omega arith in
    differs (last.spelled ∙ ap end_line count)

pub far_refused : (old now : State) (rows : List Latch) (text rest : List ℕ)
    → IsFar old now rows text rest → IsNoRest now rows rest
    → IsNoRest old rows text
far_refused old now rows text rest far none more left =
    let (after, mid) = far.only more left in
    none after mid

-- the line of an entry has at least a byte
pub entry_shortens : (plan : Plan) (e : Entry) (o : Option Outcome) (text rest : List ℕ)
    → text ≡ entry_line plan e o ++ rest → length rest < length text
entry_shortens plan (Row row) o text rest is =
    omega (arith, ap length is, length-append (entry_line plan (Row row) o) rest, length-append (codes "row ") (decimal row.moment ++ 10 ∷ []))
entry_shortens plan (Done a) o text rest is =
    omega (arith, ap length is, length-append (entry_line plan (Done a) o) rest)
