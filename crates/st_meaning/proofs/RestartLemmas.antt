-- The result of a warm start from a record.
use Rattle.std.proofs.Common.{◌≡◌, Bool, true, false, ◌&&◌, ◌||◌, if◌then◌else◌, inl, inr, List, [], ◌∷◌, ◌++◌, map}
use Rattle.std.proofs.Common.{ℕ, Option, Some, None, refl, sym, ap, ◌∙◌, append_assoc}
use Rattle.std.specs.Prelude.{filter, fold, bytes_eq}
use Rattle.std.specs.List.{list_any, find, AllByRecursion, IsDistinct}
use Rattle.std.proofs.lemmas.Bool.{cases_Bool, and_parts, and_from}
use Rattle.std.proofs.lemmas.Slice.Eq.{bytes_eq-Decides}
use Rattle.st_types.specs.declared.kind.Kind.{Kind}
use Rattle.st_types.specs.Kinds.{holds}
use Rattle.st_types.specs.Values.{Datum}
use Rattle.st_types.specs.Paths.{Path, same_path}
use Rattle.st_meaning.specs.Stores.{Store, get, shape_of, all_held}
use Rattle.st_meaning.proofs.Shapes.{Same, same_refl}
use Rattle.st_types.specs.Comparisons.{same_path_is, same_path_itself, same_bytes_itself}
use Rattle.st_meaning.proofs.RunLemmas.{store_after_same}
use Rattle.st_types.specs.declared.entry.Entry.{Entry}
use Rattle.st_types.specs.declared.entry.Entry.TheVariants.{Row, Done}
use Rattle.st_meaning.specs.declared.plan.PlanVariable.{PlanVariable}
use Rattle.st_meaning.specs.Layouts.{Enumerations, path_text, type_text}
use Rattle.st_types.specs.Rows.{Latch}
use Rattle.st_meaning.specs.Plans.{Plan, ProgramInstance, initial_store, is_retained, image_of, after_run, program_at}
use Rattle.st_meaning.specs.Logs.{Log, Past, row_at, with_entry, beginning, after}
use Rattle.st_meaning.specs.Restarts.{Kept, KeptLine, lines_with, kept_of, is_line_of, restored_value, restarted, warm_start}

same_then : {s t u : Store} → Same s t → Same t u → Same s u
same_then h k = record { shape = k.shape ∙ h.shape; held = λ x. k.held (h.held x) }

-- ---- a start has the plan's variables

-- the value in a line is one that the variable's type holds
held_at : (types : Enumerations) (v : PlanVariable) (l : KeptLine) (found : Option KeptLine) (b : Bool) → is_line_of types v l ≡ b
    → holds v.initial.kind (restored_value v found).number ≡ true
    → holds v.initial.kind (restored_value v (if b then Some l else found)).number ≡ true
held_at types v l found true is rest =
    (and_parts (bytes_eq (path_text v.path) l.path && bytes_eq (type_text types v.initial.kind) l.spelling)
    (holds v.initial.kind l.number) is).1
held_at types v l found false is rest = rest

held_in : (types : Enumerations) (v : PlanVariable) (lines : List KeptLine) → holds v.initial.kind v.initial.number ≡ true
    → holds v.initial.kind (restored_value v (find (is_line_of types v) lines)).number ≡ true
held_in types v [] held = held
held_in types v (l ∷ lines) held =
    held_at types v l (find (is_line_of types v) lines) (is_line_of types v l) refl (held_in types v lines held)

value_typed : (v : PlanVariable) (found : Option KeptLine) → (restored_value v found).kind ≡ v.initial.kind
value_typed v None = refl
value_typed v (Some l) = refl

pub restarted_typed : (types : Enumerations) (v : PlanVariable) (lines : List KeptLine) (r : Bool)
    → (if r then restored_value v (find (is_line_of types v) lines) else v.initial).kind ≡ v.initial.kind
restarted_typed types v lines true = value_typed v (find (is_line_of types v) lines)
restarted_typed types v lines false = refl

pub restarted_held : (types : Enumerations) (v : PlanVariable) (lines : List KeptLine) (r : Bool) → holds v.initial.kind v.initial.number ≡ true
    → holds v.initial.kind (if r then restored_value v (find (is_line_of types v) lines) else v.initial).number ≡ true
restarted_held types v lines true held = held_in types v lines held
restarted_held types v lines false held = held

abbrev pub initials : List PlanVariable → Store
initials vs = map (λ v. (v.path, v.initial)) vs

-- the variables with the values that these lines give them
abbrev pub restarts : Enumerations → List KeptLine → List PlanVariable → Store
restarts types lines vs = map (λ v. (v.path, restarted types lines v)) vs

restarts_same : (types : Enumerations) (lines : List KeptLine) (vs : List PlanVariable) → Same (initials vs) (restarts types lines vs)
restarts_same types lines [] = same_refl []
restarts_same types lines (v ∷ vs) =
    let rest = restarts_same types lines vs in
    let kind = restarted_typed types v lines v.retained in
    record {
      shape = rw (kind, rest.shape) refl;
      held = λ h.
          let p = and_parts (holds v.initial.kind v.initial.number) (all_held (initials vs)) h in
          rw kind (and_from (holds v.initial.kind (restarted types lines v).number) (all_held (restarts types lines vs))
          (restarted_held types v lines v.retained p.0) (rest.held p.1));
    }

pub start_same : (plan : Plan) (r : Option Kept) → Same (initial_store plan) (warm_start plan r).store
start_same plan None = same_refl (initial_store plan)
start_same plan (Some r) = restarts_same plan.enumerations r.lines plan.variables

-- ---- a line among others

-- none of the variables is written so
abbrev pub IsUnlike : List ℕ → Store → Type 0
IsUnlike text s = AllByRecursion (λ e. bytes_eq text (path_text e.0) ≡ false) s

-- the sought line is not among the first lines
found_behind : (types : Enumerations) (v : PlanVariable) (s es : Store) → IsUnlike (path_text v.path) s
    → find (is_line_of types v) (lines_with types (s ++ es)) ≡ find (is_line_of types v) (lines_with types es)
found_behind types v [] es h = refl
found_behind types v (e ∷ s) es h = rw h.0 (found_behind types v s es h.1)

-- the sought line is the first one
found_here : (types : Enumerations) (v : PlanVariable) (d : Datum) (es : Store) → d.kind ≡ v.initial.kind → holds d.kind d.number ≡ true
    → restored_value v (find (is_line_of types v) (lines_with types ((v.path, d) ∷ es))) ≡ d
found_here types v d es kinds held =
    let holding : holds v.initial.kind d.number ≡ true = ap (λ k. holds k d.number) (sym kinds) ∙ held in
    let spelled : bytes_eq (type_text types v.initial.kind) (type_text types d.kind) ≡ true =
    ap (λ k. bytes_eq (type_text types v.initial.kind) (type_text types k)) kinds
    ∙ same_bytes_itself (type_text types v.initial.kind) in
    let own : ◌≡◌ {A = Datum} record { kind = v.initial.kind; number = d.number } d =
    ap (λ k. record { kind = k; number = d.number }) (sym kinds) in
    rw (same_bytes_itself (path_text v.path), spelled, holding) own

-- a variable that is written apart from those of the first lines takes the value of its own line, if it is retained
pub taken : (types : Enumerations) (v : PlanVariable) (d : Datum) (before rest : Store) (lines : List KeptLine) (r : Bool) → v.retained ≡ r
    → IsUnlike (path_text v.path) before → d.kind ≡ v.initial.kind → holds d.kind d.number ≡ true
    → lines ≡ lines_with types (before ++ (if r then (v.path, d) ∷ rest else rest))
    → restarted types lines v ≡ (if r then d else v.initial)
taken types v d before rest lines true is apart kinds held all =
    rw is (ap (λ ls. restored_value v (find (is_line_of types v) ls)) all
    ∙ ap (restored_value v) (found_behind types v before ((v.path, d) ∷ rest) apart) ∙ found_here types v d rest kinds held)
taken types v d before rest lines false is apart kinds held all = rw is refl

-- ---- values that were kept are given back

abbrev texts : List PlanVariable → List (List ℕ)
texts vs = map (λ v. path_text v.path) vs

-- the declaration of a path's own variable decides whether it is kept
abbrev pub GoesByItself : (Path → Bool) → List PlanVariable → Type 0
GoesByItself keep vs = AllByRecursion (λ v. keep v.path ≡ v.retained) vs

abbrev is_kept_of : List PlanVariable → Path → Bool
is_kept_of vs p = list_any (λ u. same_path p u.path && u.retained) vs

unlike : (p q : Path) → bytes_eq (path_text p) (path_text q) ≡ false → same_path q p ≡ false
unlike p q apart = elim (cases_Bool (same_path q p)) [
  | inl same ↦
      let one : q ≡ p = same_path_is q p same in
      let t : bytes_eq (path_text p) (path_text q) ≡ true =
      ap (λ x. bytes_eq (path_text p) (path_text x)) one ∙ same_bytes_itself (path_text p) in
      let f : true ≡ false = sym t ∙ apart in absurd (cc)
  | inr f ↦ f
]

turned : (p q : Path) → same_path q p ≡ false → same_path p q ≡ false
turned p q apart = elim (cases_Bool (same_path p q)) [
  | inl same ↦
      let one : p ≡ q = same_path_is p q same in
      let t : same_path q p ≡ true = ap (same_path q) one ∙ same_path_itself q in absurd (cc)
  | inr f ↦ f
]

pub kept_behind : (p q : Path) (r rest : Bool) → same_path p q ≡ false → ((same_path p q && r) || rest) ≡ rest
kept_behind p q r rest apart = rw apart refl

pub kept_here : (p : Path) (r rest : Bool) → rest ≡ false → ((same_path p p && r) || rest) ≡ r
kept_here p true rest none = rw (same_path_itself p) refl
kept_here p false rest none = rw (same_path_itself p, none) refl

none_kept : (u : PlanVariable) (vs : List PlanVariable)
    → AllByRecursion (λ x. bytes_eq (path_text u.path) x ≡ false) (texts vs) → is_kept_of vs u.path ≡ false
none_kept u [] apart = refl
none_kept u (v ∷ vs) apart =
    kept_behind u.path v.path v.retained (is_kept_of vs u.path)
    (turned u.path v.path (unlike u.path v.path apart.0)) ∙ none_kept u vs apart.1

goes_more : (u : PlanVariable) (vs ws : List PlanVariable)
    → AllByRecursion (λ x. bytes_eq (path_text u.path) x ≡ false) (texts ws) → GoesByItself (is_kept_of vs) ws
    → GoesByItself (is_kept_of (u ∷ vs)) ws
goes_more u vs [] apart goes = tt
goes_more u vs (w ∷ ws) apart goes = (
  kept_behind w.path u.path u.retained (is_kept_of vs w.path) (unlike u.path w.path apart.0) ∙ goes.0,
  goes_more u vs ws apart.1 goes.1,
)

pub goes_by_itself : (vs : List PlanVariable) → IsDistinct bytes_eq (texts vs) → GoesByItself (is_kept_of vs) vs
unfolding IsDistinct
goes_by_itself [] once = tt
goes_by_itself (v ∷ vs) once = (
  kept_here v.path v.retained (is_kept_of vs v.path) (none_kept v vs once.0),
  goes_more v vs vs once.0 (goes_by_itself vs once.1),
)

abbrev pub AreUnlike : List PlanVariable → Store → Type 0
AreUnlike vs s = AllByRecursion (λ v. IsUnlike (path_text v.path) s) vs

pub all_unlike : (vs : List PlanVariable) → AreUnlike vs []
all_unlike [] = tt
all_unlike (v ∷ vs) = (tt, all_unlike vs)

unlike_more : (text : List ℕ) (s : Store) (e : Path × Datum) → IsUnlike text s → bytes_eq text (path_text e.0) ≡ false
    → IsUnlike text (s ++ e ∷ [])
unlike_more text [] e h apart = (apart, tt)
unlike_more text (d ∷ s) e h apart = (h.0, unlike_more text s e h.1 apart)

text_turned : (x y : List ℕ) → bytes_eq x y ≡ false → bytes_eq y x ≡ false
text_turned x y apart = elim (cases_Bool (bytes_eq y x)) [
  | inl same ↦
      let one : y ≡ x = (bytes_eq-Decides y x).0 same in
      let t : bytes_eq x y ≡ true = ap (bytes_eq x) one ∙ same_bytes_itself x in absurd (cc)
  | inr f ↦ f
]

-- one variable more is before, written apart from those that come
pub unlike_next : (v : PlanVariable) (d : Datum) (s : Store) (vs : List PlanVariable)
    → AllByRecursion (λ x. bytes_eq (path_text v.path) x ≡ false) (texts vs) → AreUnlike vs s
    → AreUnlike vs (s ++ (v.path, d) ∷ [])
unlike_next v d s [] apart h = tt
unlike_next v d s (w ∷ vs) apart h = (
  unlike_more (path_text w.path) s (v.path, d) h.0 (text_turned (path_text v.path) (path_text w.path) apart.0),
  unlike_next v d s vs apart.1 h.1,
)

-- the first variable, and then the rest
got_first : (keep : Path → Bool) (p : Path) (v : PlanVariable) (d x : Datum) (rest kept_rest first_rest : Option Datum)
    (r b : Bool) → keep v.path ≡ r → x ≡ (if r then d else v.initial) → same_path p v.path ≡ b
    → rest ≡ (if keep p then kept_rest else first_rest)
    → (if b then Some x else rest)
    ≡ (if keep p then (if b then Some d else kept_rest) else (if b then Some v.initial else first_rest))
got_first keep p v d x rest kept_rest first_rest true true goes is same more =
    let k : keep p ≡ true = ap keep (same_path_is p v.path same) ∙ goes in rw (k, is) refl
got_first keep p v d x rest kept_rest first_rest false true goes is same more =
    let k : keep p ≡ false = ap keep (same_path_is p v.path same) ∙ goes in rw (k, is) refl
got_first keep p v d x rest kept_rest first_rest r false goes is same more = more

filter_first : (types : Enumerations) (keep : Path → Bool) (v : PlanVariable) (d : Datum) (before s : Store) (lines : List KeptLine) (r : Bool)
    → keep v.path ≡ r → lines ≡ lines_with types (before ++ filter (λ e. keep e.0) ((v.path, d) ∷ s))
    → lines ≡ lines_with types (before ++ (if r then (v.path, d) ∷ filter (λ e. keep e.0) s else filter (λ e. keep e.0) s))
filter_first types keep v d before s lines r goes all = all ∙ rw goes refl

-- the same lines, with the first variable among those before
before_next : (types : Enumerations) (keep : Path → Bool) (v : PlanVariable) (d : Datum) (before s : Store) (vs : List PlanVariable)
    (lines : List KeptLine) (r : Bool) → AreUnlike vs before
    → AllByRecursion (λ x. bytes_eq (path_text v.path) x ≡ false) (texts vs)
    → lines ≡ lines_with types (before ++ (if r then (v.path, d) ∷ filter (λ e. keep e.0) s else filter (λ e. keep e.0) s))
    → (next : Store) × AreUnlike vs next × (lines ≡ lines_with types (next ++ filter (λ e. keep e.0) s))
before_next types keep v d before s vs lines true h apart all = (
  before ++ (v.path, d) ∷ [],
  unlike_next v d before vs apart h,
  all ∙ ap (lines_with types) (sym (append_assoc before ((v.path, d) ∷ []) (filter (λ e. keep e.0) s))),
)
before_next types keep v d before s vs lines false h apart all = (before, h, all)

gives_back : (types : Enumerations) (keep : Path → Bool) (p : Path) (lines : List KeptLine) (before : Store) (vs : List PlanVariable)
    (s : Store) → GoesByItself keep vs → IsDistinct bytes_eq (texts vs) → AreUnlike vs before
    → shape_of s ≡ shape_of (initials vs) → all_held s ≡ true
    → lines ≡ lines_with types (before ++ filter (λ e. keep e.0) s)
    → get (restarts types lines vs) p ≡ (if keep p then get s p else get (initials vs) p)
unfolding IsDistinct
gives_back types keep p lines before [] [] goes once h same held all = nothing (keep p)
  where
    nothing : (b : Bool) → ◌≡◌ {A = Option Datum} None (if b then None else None)
    nothing true = refl
    nothing false = refl
gives_back types keep p lines before [] (e ∷ s) goes once h same held all = absurd (cc)
gives_back types keep p lines before (v ∷ vs) [] goes once h same held all = absurd (cc)
gives_back types keep p lines before (v ∷ vs) (e ∷ s) goes once h same held all =
    let heads : ◌≡◌ {A = Path × Kind} (e.0, e.1.kind) (v.path, v.initial.kind) = cc in
    let path : e.0 ≡ v.path = ap (λ x. x.0) heads in
    let kind : e.1.kind ≡ v.initial.kind = ap (λ x. x.1) heads in
    let others : shape_of s ≡ shape_of (initials vs) = cc in
    let holding = and_parts (holds e.1.kind e.1.number) (all_held s) held in
    let named : lines ≡ lines_with types (before ++ filter (λ x. keep x.0) ((v.path, e.1) ∷ s)) =
    all ∙ ap (λ q. lines_with types (before ++ filter (λ x. keep x.0) ((q, e.1) ∷ s))) path in
    let first = filter_first types keep v e.1 before s lines v.retained goes.0 named in
    let is = taken types v e.1 before (filter (λ x. keep x.0) s) lines v.retained refl h.0 kind holding.0 first in
    let next = before_next types keep v e.1 before s vs lines v.retained h.1 once.0 first in
    let more = gives_back types keep p lines next.0 vs s goes.1 once.1 next.1 others holding.1 next.2 in
    got_first keep p v e.1 (restarted types lines v) (get (restarts types lines vs) p) (get s p) (get (initials vs) p) v.retained
    (same_path p v.path) goes.0 is refl more
    ∙ ap (λ q. if keep p then (if same_path p q then Some e.1 else get s p)
    else (if same_path p v.path then Some v.initial else get (initials vs) p)) (sym path)

-- ---- logs

run_same : (plan : Plan) (o : Option ProgramInstance) (s : Store) (row : Latch) → Same s (after_run plan o s row)
run_same plan None s row = same_refl s
run_same plan (Some p) s row = store_after_same p.code plan.budget s (image_of plan.inputs row.image) row.moment

entry_same : (plan : Plan) (past : Past) (e : Entry) → Same past.store (with_entry plan past e).store
entry_same plan past (Row row) = same_refl past.store
entry_same plan past (Done a) = run_same plan (program_at plan a.program) past.store (row_at past.rows a.row)

log_same : (plan : Plan) (past : Past) (log : Log) → Same past.store (fold (with_entry plan) past log).store
log_same plan past [] = same_refl past.store
log_same plan past (e ∷ log) = same_then (entry_same plan past e) (log_same plan (with_entry plan past e) log)

-- a log neither adds nor takes away a variable, and each keeps its type
pub after_same : (plan : Plan) (start : Store) (log : Log) → Same start (after plan start log)
after_same plan start log = log_same plan (beginning start) log

-- ---- restarts

pub given_back : (plan : Plan) (s : Store) (moment : Option ℕ) (p : Path)
    → IsDistinct bytes_eq (map (λ v. path_text v.path) plan.variables)
    → shape_of s ≡ shape_of (initial_store plan) → all_held s ≡ true
    → get (warm_start plan (Some (kept_of plan s moment))).store p
    ≡ (if is_retained plan p then get s p else get (initial_store plan) p)
given_back plan s moment p once same held =
    gives_back plan.enumerations (is_retained plan) p (kept_of plan s moment).lines [] plan.variables s
    (goes_by_itself plan.variables once) once (all_unlike plan.variables) same held refl

pub given_back_after : (plan : Plan) (r : Option Kept) (log : Log) (moment : Option ℕ) (p : Path)
    → IsDistinct bytes_eq (map (λ v. path_text v.path) plan.variables) → all_held (initial_store plan) ≡ true
    → get (warm_start plan (Some (kept_of plan (after plan (warm_start plan r).store log) moment))).store p
    ≡ (if is_retained plan p then get (after plan (warm_start plan r).store log) p else get (initial_store plan) p)
given_back_after plan r log moment p once held =
    let all = same_then (start_same plan r) (after_same plan (warm_start plan r).store log) in
    given_back plan (after plan (warm_start plan r).store log) moment p once all.shape (all.held held)
