-- The parts of a trace.
use Rattle.std.proofs.Common.{◌≡◌, ◌∙◌, ap, sym, subst, ℕ, zero, suc, ◌+◌, ◌<◌, Bool, true, false, List, [], ◌∷◌, ◌++◌}
use Rattle.std.proofs.Common.{length, drop, Option, refl, arith, append_assoc, slice_get, if◌then◌else◌}
use Rattle.std.specs.Prelude.{option_and_then}
use Rattle.st_types.specs.Values.{Datum}
use Rattle.st_types.specs.Paths.{Path}
use Rattle.st_meaning.specs.declared.outcome.Outcome.{Outcome}
use Rattle.st_meaning.specs.Stores.{Store}
use Rattle.st_meaning.specs.declared.plan.PlanVariable.{PlanVariable}
use Rattle.st_types.specs.declared.entry.Entry.{Entry}
use Rattle.st_meaning.specs.Layouts.{Enumerations}
use Rattle.st_meaning.specs.Restarts.{kept}
use Rattle.st_meaning.specs.Plans as plans
use Rattle.st_meaning.specs.Logs.{Log, Past, with_entry, outcomes_from}
use Rattle.plan.specs.declared.plan.Plan.{Plan}
use Rattle.plan.specs.PlanViews.{plan_view}
use Rattle.serial_core.specs.Steps.{store_in}
use Rattle.serial_core.specs.Retained.{retained_paths, retained_values, paired}
use Rattle.core_engine.proofs.RetainedLemmas.{kept_paired, goes_by_itself}
use Rattle.st_meaning.specs.Logs.{outcomes_of}
use Rattle.durable_core.specs.declared.starting.StartMode.{StartMode}
use Rattle.durable_core.specs.Cores.{CoreView}
use Rattle.trace.specs.Puts.{Puts}
use Rattle.trace.specs.Texts.{begin_text, end_line, entry_text, keep_line, keep_text, kept_text, log_text}
use Rattle.trace.specs.Texts.{trace_of}
use Rattle.trace.proofs.PutLemmas.{puts_both}

-- ---- the log

pub outcomes_long : (plan : plans.Plan) (past : Past) (log : Log) → length (outcomes_from plan past log) ≡ length log
outcomes_long plan past [] = refl
outcomes_long plan past (x ∷ log) = ap suc (outcomes_long plan (with_entry plan past x) log)

log_at : (plan : Plan) (log : List Entry) (os : List (Option Outcome)) (i : ℕ) → i < length log
    → length os ≡ length log
    → log_text plan (drop i log) (drop i os) ≡ entry_text plan (slice_get log i)
    (option_and_then (λ o. o) (slice_get os i)) ++ log_text plan (drop (i + 1) log) (drop (i + 1) os)
log_at plan [] os i l e = absurd (omega arith)
log_at plan (x ∷ log) [] i l e = absurd (omega (arith, e))
log_at plan (x ∷ log) (o ∷ os) zero l e = refl
log_at plan (x ∷ log) (o ∷ os) (suc i) l e =
    let q : suc i + 1 ≡ suc (i + 1) = omega arith in
    rw q (log_at plan log os i (omega arith) (omega (arith, e)))

-- one entry more
pub log_more : (plan : Plan) (log : List Entry) (os : List (Option Outcome)) (i : ℕ) (entry : Option Entry)
    (outcome : Option Outcome) (before all : List ℕ) → i < length log → length os ≡ length log
    → entry ≡ slice_get log i → outcome ≡ option_and_then (λ o. o) (slice_get os i)
    → before ++ log_text plan (drop i log) (drop i os) ≡ all
    → (before ++ entry_text plan entry outcome) ++ log_text plan (drop (i + 1) log) (drop (i + 1) os) ≡ all
log_more plan log os i entry outcome before all l e is how so_far =
    append_assoc before (entry_text plan entry outcome) (log_text plan (drop (i + 1) log) (drop (i + 1) os))
    ∙ ap (λ z. before ++ z)
    (ap (λ x. entry_text plan x outcome ++ log_text plan (drop (i + 1) log) (drop (i + 1) os)) is
    ∙ ap (λ o. entry_text plan (slice_get log i) o ++ log_text plan (drop (i + 1) log) (drop (i + 1) os)) how
    ∙ sym (log_at plan log os i l e))
    ∙ so_far

-- ---- the initial values of the retained variables

none_kept : (types : Enumerations) (ps : List Path) → keep_text types (paired ps []) ≡ []
none_kept types [] = refl
none_kept types (p ∷ ps) = refl

kept_first : (types : Enumerations) (v : PlanVariable) (d : Datum) (r : Bool) (ps : List Path) (ws : List Datum)
    (more : List ℕ) → keep_text types (paired ps ws) ≡ more
    → keep_text types (paired (if r then v.path ∷ ps else ps) (if r then d ∷ ws else ws))
    ≡ (if r then keep_line types v.path d else []) ++ more
kept_first types v d true ps ws more rest = ap (λ (t : List ℕ). keep_line types v.path d ++ t) rest
kept_first types v d false ps ws more rest = rest

keep_paired : (types : Enumerations) (vs : List PlanVariable) (ds : List Datum)
    → keep_text types (paired (retained_paths vs) (retained_values vs ds)) ≡ kept_text types vs ds
keep_paired types [] ds = refl
keep_paired types (v ∷ vs) [] = none_kept types (retained_paths (v ∷ vs))
keep_paired types (v ∷ vs) (d ∷ ds) = kept_first types v d v.retained (retained_paths vs) (retained_values vs ds)
    (kept_text types vs ds) (keep_paired types vs ds)

pub kept_is : (plan : Plan) (start : Store) (ds : List Datum) → start ≡ store_in plan ds
    → length ds ≡ length plan.variables.items
    → keep_text (plan_view plan).enumerations (kept (plan_view plan) start)
    ≡ kept_text (plan_view plan).enumerations plan.variables.items ds
kept_is plan start ds is len =
    let types = (plan_view plan).enumerations in
    ap (λ (s : Store). keep_text types (kept (plan_view plan) s)) is
    ∙ ap (keep_text types) (kept_paired _ plan.variables.items plan.inputs.items ds len
    (goes_by_itself plan.variables.items plan.sound.different))
    ∙ keep_paired types plan.variables.items ds

-- ---- the whole

-- the parts one after another are the trace of the core
pub trace_puts : {D : Type 0} (core : CoreView D) (o a b c n : Option (List ℕ)) (wa wb wc wn : Bool) (plan : Plan)
    (mode : StartMode) (moment : Option ℕ) (types : Enumerations) (vs : List PlanVariable) (ds : List Datum) (len : ℕ)
    → plan ≡ core.state.plan → mode ≡ core.mode → moment ≡ core.state.before → types ≡ (plan_view plan).enumerations
    → vs ≡ plan.variables.items
    → core.state.start ≡ store_in core.state.plan ds → length ds ≡ length core.state.plan.variables.items
    → len ≡ length core.state.log
    → Puts o true a wa (begin_text plan.budget mode moment) → Puts a wa b wb (kept_text types vs ds)
    → Puts b wb c wc (log_text core.state.plan core.state.log
    (outcomes_of (plan_view core.state.plan) core.state.start core.state.log))
    → Puts c wc n wn (end_line len) → Puts o true n wn (trace_of core)
trace_puts core o a b c n wa wb wc wn plan mode moment types vs ds len pe me te ne ve se le ce begin kept_lines logged
    ended =
    let first = begin_text core.state.plan.budget core.mode core.state.before in
    let second =
    keep_text (plan_view core.state.plan).enumerations (kept (plan_view core.state.plan) core.state.start) in
    let third = log_text core.state.plan core.state.log
    (outcomes_of (plan_view core.state.plan) core.state.start core.state.log) in
    let begin_is : begin_text plan.budget mode moment ≡ first =
    ap (λ (p : Plan). begin_text p.budget mode moment) pe
    ∙ ap (λ (m : StartMode). begin_text core.state.plan.budget m moment) me
    ∙ ap (λ (t : Option ℕ). begin_text core.state.plan.budget core.mode t) te in
    let lines_are : kept_text types vs ds ≡ second =
    ap (λ (ts : Enumerations). kept_text ts vs ds) (ne ∙ ap (λ (p : Plan). (plan_view p).enumerations) pe)
    ∙ ap (λ (xs : List PlanVariable). kept_text (plan_view core.state.plan).enumerations xs ds)
    (ve ∙ ap (λ (p : Plan). p.variables.items) pe)
    ∙ sym (kept_is core.state.plan core.state.start ds se le) in
    puts_both o c n true wc wn ((first ++ second) ++ third) (end_line (length core.state.log))
    (puts_both o b c true wb wc (first ++ second) third
    (puts_both o a b true wa wb first second
    (subst (λ (x : List ℕ). Puts o true a wa x) begin_is begin)
    (subst (λ (x : List ℕ). Puts a wa b wb x) lines_are kept_lines)) logged)
    (subst (λ (k : ℕ). Puts c wc n wn (end_line k)) ce ended)
