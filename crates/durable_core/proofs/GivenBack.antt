-- A warm restart from a file that survives.
use Rattle.std.proofs.Common.{◌≡◌, ℕ, Bool, true, false, not, if◌then◌else◌, List, [], ◌∷◌, map, Option, Some, refl}
use Rattle.std.proofs.Common.{sym}
use Rattle.std.proofs.Common.{ap, ◌∙◌}
use Rattle.std.specs.Prelude.{filter, bytes_eq}
use Rattle.std.specs.List.{AllByRecursion, IsDistinct}
use Rattle.std.proofs.lemmas.Bool.{and_parts, or_parts, not-true}
use Rattle.st_types.specs.declared.kind.Kind.{Kind}
use Rattle.st_types.specs.Values.{Datum}
use Rattle.st_types.specs.Paths.{Path}
use Rattle.st_meaning.specs.Scopes.{Name, contains_name}
use Rattle.st_meaning.specs.Stores.{Store, get, shape_of, all_held}
use Rattle.st_meaning.specs.declared.plan.PlanVariable.{PlanVariable}
use Rattle.st_types.specs.declared.entry.Entry.{Entry}
use Rattle.st_meaning.specs.Layouts.{path_text}
use Rattle.st_meaning.specs.Plans.{initial_store, is_retained}
use Rattle.st_meaning.specs.Logs.{past_of, after, last_moment}
use Rattle.st_meaning.specs.Restarts.{lines_with, kept, kept_of, warm_start}
use Rattle.st_meaning.proofs.RestartLemmas.{initials, GoesByItself, goes_by_itself, given_back, after_same}
use Rattle.retain_records.specs.Records.{Content}
use Rattle.retain_store.specs.Recovered.{Recovered, TooLong, Refused, Nothing, Found}
use Rattle.plan.specs.declared.plan.Plan.{Plan}
use Rattle.plan.specs.PlanViews.{plan_view}
use Rattle.serial_core.specs.Retained.{retained_paths, retained_kinds, paired}
use Rattle.durable_core.specs.Recorded.{recorded}
use Rattle.retain_records.specs.ContentLines.{kept_in}
use Rattle.durable_core.specs.Restart.{record_of, Holds, Survives, warm}
use Rattle.durable_core.proofs.RecordedLemmas.{recorded_kinds, typed_recorded}
use Rattle.durable_core.proofs.RecordLemmas.{lines_told}
use Rattle.layout.specs.Names.{are_different}

-- ---- paths with different spellings

none_is : (x : Name) (ys : List Name) → contains_name ys x ≡ false → AllByRecursion (λ y. bytes_eq x y ≡ false) ys
none_is x [] h = tt
none_is x (y ∷ ys) h = let p = or_parts (bytes_eq x y) (contains_name ys x) h in (p.0, none_is x ys p.1)

apart_is : (xs : List Name) → are_different xs ≡ true → IsDistinct bytes_eq xs
unfolding IsDistinct
apart_is [] d = tt
apart_is (x ∷ xs) d =
    let p = and_parts (not (contains_name xs x)) (are_different xs) d in
    (none_is x xs (not-true (contains_name xs x) p.0), apart_is xs p.1)

pub apart : (plan : Plan) → IsDistinct bytes_eq (map (λ v. path_text v.path) plan.variables.items)
apart plan = apart_is (map (λ v. path_text v.path) plan.variables.items) plan.sound.different

-- ---- the values that are kept, in the order of the retained variables

-- the retained variables with values of their types
record InOrder (vs : List PlanVariable) (es : Store) : Type 0 where
  pub named : es ≡ paired (retained_paths vs) (map (λ e. e.1) es)
  pub typed : map (λ d. d.kind) (map (λ e. e.1) es) ≡ retained_kinds vs

order_first : (v : PlanVariable) (d : Datum) (vs : List PlanVariable) (es : Store) (r : Bool)
    → d.kind ≡ v.initial.kind → InOrder vs es
    → ((if r then (v.path, d) ∷ es else es) ≡ paired (if r then v.path ∷ retained_paths vs else retained_paths vs)
    (map (λ e. e.1) (if r then (v.path, d) ∷ es else es)))
    × (map (λ d. d.kind) (map (λ e. e.1) (if r then (v.path, d) ∷ es else es))
    ≡ (if r then v.initial.kind ∷ retained_kinds vs else retained_kinds vs))
order_first v d vs es true kind rest = (
  ap (λ (t : Store). (v.path, d) ∷ t) rest.named,
  ap (λ k. k ∷ map (λ d. d.kind) (map (λ e. e.1) es)) kind ∙ ap (λ ks. v.initial.kind ∷ ks) rest.typed,
)
order_first v d vs es false kind rest = (rest.named, rest.typed)

in_order : (keep : Path → Bool) (vs : List PlanVariable) (s : Store) → GoesByItself keep vs
    → shape_of s ≡ shape_of (initials vs) → InOrder vs (filter (λ e. keep e.0) s)
in_order keep [] [] goes same = record { named = refl; typed = refl }
in_order keep [] (e ∷ s) goes same = absurd (cc)
in_order keep (v ∷ vs) [] goes same = absurd (cc)
in_order keep (v ∷ vs) (e ∷ s) goes same =
    let heads : ◌≡◌ {A = Path × Kind} (e.0, e.1.kind) (v.path, v.initial.kind) = cc in
    let path : e.0 ≡ v.path = ap (λ x. x.0) heads in
    let kind : e.1.kind ≡ v.initial.kind = ap (λ x. x.1) heads in
    let others : shape_of s ≡ shape_of (initials vs) = cc in
    let goes_first : keep e.0 ≡ v.retained = ap keep path ∙ goes.0 in
    let es = filter (λ d. keep d.0) s in
    let first = order_first v e.1 vs es v.retained kind (in_order keep vs s goes.1 others) in
    let one : filter (λ d. keep d.0) (e ∷ s) ≡ (if v.retained then (v.path, e.1) ∷ es else es) =
    rw goes_first (ap (λ p. if v.retained then (p, e.1) ∷ es else es) path) in
    record {
      named = one ∙ first.0 ∙ ap (λ t. paired (retained_paths (v ∷ vs)) (map (λ e. e.1) t)) (sym one);
      typed = ap (λ t. map (λ d. d.kind) (map (λ e. e.1) t)) one ∙ first.1;
    }

pub told_again : (plan : Plan) (s : Store) (moment : Option ℕ)
    → shape_of s ≡ shape_of (initial_store (plan_view plan))
    → kept_in (record_of plan s moment) ≡ kept_of (plan_view plan) s moment
told_again plan s moment same =
    let vs = plan.variables.items in
    let types = (plan_view plan).enumerations in
    let ds = map (λ e. e.1) (kept (plan_view plan) s) in
    let o = in_order (is_retained (plan_view plan)) vs s (goes_by_itself vs (apart plan)) same in
    ap (λ ls. record { lines = ls; moment = moment })
    (lines_told types vs (map recorded ds) plan.sound.spelled (recorded_kinds (retained_kinds vs) ds o.typed)
    ∙ ap (λ ws. lines_with types (paired (retained_paths vs) ws)) (typed_recorded (retained_kinds vs) ds o.typed)
    ∙ ap (lines_with types) (sym o.named))

-- ---- restarts

values_of : (plan : Plan) (start : Store) (before : Option ℕ) (front : List Entry) (file : Recovered) (p : Path)
    → shape_of start ≡ shape_of (initial_store (plan_view plan)) → all_held start ≡ true
    → Holds plan start before front file
    → get (warm plan file).store p ≡ (if is_retained (plan_view plan) p then
    get (after (plan_view plan) start front) p else get (initial_store (plan_view plan)) p)
values_of plan start before front TooLong p same held h = absurd h
values_of plan start before front Refused p same held h = absurd h
values_of plan start before front Nothing p same held h =
    let begins : start ≡ initial_store (plan_view plan) = ap (λ x. x.store) h.1 in
    let left : after (plan_view plan) start front ≡ initial_store (plan_view plan) =
    ap (after (plan_view plan) start) h.0 ∙ begins in
    either (is_retained (plan_view plan) p) (get (initial_store (plan_view plan)) p)
    ∙ ap (λ s. if is_retained (plan_view plan) p then get s p else get (initial_store (plan_view plan)) p) (sym left)
  where
    either : (b : Bool) (x : Option Datum) → x ≡ (if b then x else x)
    either true x = refl
    either false x = refl
values_of plan start before front (Found generation content) p same held h =
    let left = after_same (plan_view plan) start front in
    let moment = last_moment before (past_of (plan_view plan) start front).rows in
    let shape : shape_of (after (plan_view plan) start front) ≡ shape_of (initial_store (plan_view plan)) =
    left.shape ∙ same in
    let begins : Content → Option Datum = λ c. get (warm_start (plan_view plan) (Some (kept_in c))).store p in
    ap begins h
    ∙ ap (λ r. get (warm_start (plan_view plan) (Some r)).store p)
    (told_again plan (after (plan_view plan) start front) moment shape)
    ∙ given_back (plan_view plan) (after (plan_view plan) start front) moment p (apart plan) shape (left.held held)

pub values_again : (plan : Plan) (start : Store) (before : Option ℕ) (log : List Entry) (acked : ℕ) (file : Recovered)
    (p : Path) → shape_of start ≡ shape_of (initial_store (plan_view plan)) → all_held start ≡ true
    → (s : Survives plan start before log acked file)
    → get (warm plan file).store p ≡ (if is_retained (plan_view plan) p then
    get (after (plan_view plan) start s.front) p else get (initial_store (plan_view plan)) p)
values_again plan start before log acked file p same held s =
    values_of plan start before s.front file p same held s.holds

moment_of : (plan : Plan) (start : Store) (before : Option ℕ) (front : List Entry) (file : Recovered)
    → Holds plan start before front file
    → (warm plan file).moment ≡ last_moment before (past_of (plan_view plan) start front).rows
moment_of plan start before front TooLong h = absurd h
moment_of plan start before front Refused h = absurd h
moment_of plan start before front Nothing h =
    ap (λ x. x.moment) (sym h.1)
    ∙ ap (λ f. last_moment before (past_of (plan_view plan) start f).rows) (sym h.0)
moment_of plan start before front (Found generation content) h = ap (λ c. c.moment) h

pub moment_again : (plan : Plan) (start : Store) (before : Option ℕ) (log : List Entry) (acked : ℕ) (file : Recovered)
    (s : Survives plan start before log acked file)
    → (warm plan file).moment ≡ last_moment before (past_of (plan_view plan) start s.front).rows
moment_again plan start before log acked file s = moment_of plan start before s.front file s.holds
