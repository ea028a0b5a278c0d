-- A trace, by its head and its log.
use Rattle.std.proofs.Common.{◌≡◌, ◌∙◌, ap, sym, refl, subst, ℕ, ◌+◌, List, ◌++◌, length, Some, None}
use Rattle.std.proofs.Common.{append_assoc, arith, Option, IfSome, IfOk, IfErr, Result, Ok, Err, []}
use Rattle.st_types.specs.Values.{Datum}
use Rattle.st_types.specs.Rows.{Latch}
use Rattle.st_meaning.specs.Restarts.{Start}
use Rattle.st_meaning.specs.Logs.{Log, beginning, outcomes_from}
use Rattle.plan.specs.declared.plan.Plan.{Plan}
use Rattle.plan.specs.PlanViews.{plan_view}
use Rattle.serial_core.specs.Steps.{State}
use Rattle.durable_core.specs.declared.starting.StartMode.{StartMode}
use Rattle.trace.specs.Reads.{BeginsWith}
use Rattle.commit_lock.specs.Replays.{AreFindings, IsTrace}
use Rattle.trace.specs.Rests.{IsRest, with_log}
use Rattle.commit_lock.specs.Starts.{IsBegunBy, head_of}
use Rattle.trace.specs.Texts.{end_line, head_text, log_text}
use Rattle.trace.proofs.ReadLemmas.{none_some}
use Rattle.trace.proofs.RestLemmas.{one_rest}
use Rattle.commit_lock.proofs.StartLemmas.{life_of}
use Rattle.std.proofs.lemmas.Option.{some_pair_parts}

-- the start of a life
abbrev pub start_of : State → Start
start_of life = record { store = life.start; moment = life.before }

abbrev lines_of : Plan → Start → Log → List ℕ
lines_of plan start log =
    log_text plan log (outcomes_from (plan_view plan) (beginning start.store) log) ++ end_line (length log)

split : (plan : Plan) (rows : List Latch) (text : List ℕ) (mode : StartMode) (start : Start) (log : Log)
    → IsTrace plan rows text mode start log → text ≡ head_text plan mode start ++ lines_of plan start log
split plan rows text mode start log t = t.spelled ∙ append_assoc (head_text plan mode start)
    (log_text plan log (outcomes_from (plan_view plan) (beginning start.store) log)) (end_line (length log))

-- a text without the head of a trace isn't one
pub no_head : (plan : Plan) (rows : List Latch) (text : List ℕ) → BeginsWith (IsBegunBy plan) head_of text None
    → (mode : StartMode) (start : Start) (log : Log) → IsTrace plan rows text mode start log → ⊥
no_head plan rows text begins mode start log t =
    none_some ((mode, life_of plan start), lines_of plan start log)
    (begins.1 (mode, life_of plan start) (lines_of plan start log) (refl, t.started, t.early)
    (split plan rows text mode start log t))

begun_rest : (plan : Plan) (rows : List Latch) (text : List ℕ) (mode : StartMode) (start : Start) (log : Log)
    → IsTrace plan rows text mode start log → IsRest (life_of plan start) rows (lines_of plan start log) log
begun_rest plan rows text mode start log t =
    let count : length log ≡ 0 + length log = omega arith in record {
      legal = t.legal;
      few = omega (arith, t.few);
      behind = t.behind;
      rows_are = t.rows_are;
      spelled = ap (λ (n : ℕ). log_text plan log (outcomes_from (plan_view plan) (beginning start.store) log)
          ++ end_line n) count;
    }

-- the rest of a trace comes after its head
pub trace_rest : (plan : Plan) (rows : List Latch) (text rest : List ℕ) (m : StartMode) (life : State)
    → BeginsWith (IsBegunBy plan) head_of text (Some ((m, life), rest)) → (mode : StartMode) (start : Start) (log : Log)
    → IsTrace plan rows text mode start log → IsRest life rows rest log
trace_rest plan rows text rest m life begins mode start log t =
    let parts = some_pair_parts (m, life) (mode, life_of plan start) rest (lines_of plan start log)
    (begins.1 (mode, life_of plan start) (lines_of plan start log) (refl, t.started, t.early)
    (split plan rows text mode start log t)) in
    let life_is : life ≡ life_of plan start = ap (λ (p : StartMode × State). p.1) parts.0 in
    subst (λ (s : State). IsRest s rows rest log) (sym life_is)
    (subst (λ (x : List ℕ). IsRest (life_of plan start) rows x log) (sym parts.1)
    (begun_rest plan rows text mode start log t))

-- a head and the rest after it are a trace
pub rest_trace : (plan : Plan) (rows : List Latch) (text rest : List ℕ) (mode : StartMode) (life : State) (log : Log)
    → IsBegunBy plan (mode, life) → text ≡ head_of (mode, life) ++ rest → IsRest life rows rest log
    → IsTrace plan rows text mode (start_of life) log
rest_trace plan rows text rest mode life log may whole left =
    let start = start_of life in
    let r = subst (λ (s : State). IsRest s rows rest log) may.0 left in
    let plan_is : life.plan ≡ plan = ap (λ (s : State). s.plan) may.0 in
    let count : 0 + length log ≡ length log = omega arith in record {
      started = may.1;
      early = may.2;
      few = omega (arith, r.few);
      legal = r.legal;
      behind = r.behind;
      rows_are = r.rows_are;
      spelled = whole ∙ ap (λ (p : Plan). head_text p mode start ++ rest) plan_is
          ∙ ap (λ (x : List ℕ). head_text plan mode start ++ x) (r.spelled
          ∙ ap (λ (n : ℕ). log_text plan log (outcomes_from (plan_view plan) (beginning start.store) log)
          ++ end_line n) count)
          ∙ sym (append_assoc (head_text plan mode start)
          (log_text plan log (outcomes_from (plan_view plan) (beginning start.store) log)) (end_line (length log)));
    }

-- The findings on the log that was run again apply to each life whose trace the text is.
pub found_only : (plan : Plan) (rows : List Latch) (text rest : List ℕ) (m : StartMode) (life : State) (log : Log)
    (n done faults overruns : ℕ) (values : List Datum)
    → BeginsWith (IsBegunBy plan) head_of text (Some ((m, life), rest)) → IsRest life rows rest log
    → AreFindings plan (start_of life) log n done faults overruns values
    → (mode : StartMode) (start : Start) (other : Log) → IsTrace plan rows text mode start other
    → AreFindings plan start other n done faults overruns values
found_only plan rows text rest m life log n done faults overruns values begins left findings mode start other t =
    let parts = some_pair_parts (m, life) (mode, life_of plan start) rest (lines_of plan start other)
    (begins.1 (mode, life_of plan start) (lines_of plan start other) (refl, t.started, t.early)
    (split plan rows text mode start other t)) in
    let life_is : life ≡ life_of plan start = ap (λ (p : StartMode × State). p.1) parts.0 in
    let same : log ≡ other = one_rest life rows rest log other left
    (trace_rest plan rows text rest m life begins mode start other t) in
    subst (λ (l : Log). AreFindings plan start l n done faults overruns values) same
    (subst (λ (s : State). AreFindings plan (start_of s) log n done faults overruns values) life_is findings)

-- findings on a life with another log
pub found : (plan : Plan) (life now : State) (rows done faults overruns : ℕ) (values : List Datum)
    → life.plan ≡ plan → now ≡ with_log life now.log
    → AreFindings now.plan (start_of now) now.log rows done faults overruns values
    → AreFindings plan (start_of life) now.log rows done faults overruns values
found plan life now rows done faults overruns values plan_is same findings =
    subst (λ (p : Plan). AreFindings p (start_of life) now.log rows done faults overruns values) plan_is
    (subst (λ (s : State). AreFindings s.plan (start_of s) now.log rows done faults overruns values) same findings)

-- the refusal of a text is the refusal of the reader's bytes
pub read_refused : {A E : Type 0} (Q S : E → Type 0) (P : List ℕ → Type 0) (known : Option (List ℕ))
    (before items text : List ℕ) (r : Result A E) → before ≡ [] → IfSome known (λ xs. items ≡ before ++ xs)
    → text ≡ items → IfErr r (λ e. Q e → P text) → IfErr r (λ e. Q e → S e → IfSome known P)
read_refused Q S P known before items text (Ok a) empty read same refused = tt
read_refused Q S P None before items text (Err e) empty read same refused = λ q s. tt
read_refused Q S P (Some xs) before items text (Err e) empty read same refused = λ q s.
    subst P (same ∙ read ∙ ap (λ ys. ys ++ xs) empty) (refused q)

-- and so are its findings
pub read_told : {A E : Type 0} (P : A → List ℕ → Type 0) (known : Option (List ℕ)) (before items text : List ℕ)
    (r : Result A E) → before ≡ [] → IfSome known (λ xs. items ≡ before ++ xs) → text ≡ items
    → IfOk r (λ a. P a text) → IfOk r (λ a. IfSome known (P a))
read_told P known before items text (Err e) empty read same told = tt
read_told P None before items text (Ok a) empty read same told = tt
read_told P (Some xs) before items text (Ok a) empty read same told =
    subst (P a) (same ∙ read ∙ ap (λ ys. ys ++ xs) empty) told
