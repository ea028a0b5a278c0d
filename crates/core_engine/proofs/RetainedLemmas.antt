-- Retained variables: the values kept of a store, and those after a restart from them.
use Rattle.std.proofs.Common.{◌≡◌, ℕ, zero, suc, Bool, true, false, not, ◌&&◌, if◌then◌else◌, inl, inr, List, []}
use Rattle.std.proofs.Common.{◌∷◌, ◌++◌, length, map, Some, slice_get, refl, sym, ap, subst, ◌∙◌, arith}
use Rattle.std.proofs.Common.{append_assoc}
use Rattle.std.specs.Prelude.{filter, bytes_eq}
use Rattle.std.proofs.lemmas.Bool.{and_parts, or_parts, not-true, cases_Bool}
use Rattle.std.proofs.lemmas.Slice.Eq.{bytes_eq-Decides}
use Rattle.std.specs.List.{list_any, AllByRecursion}
use Rattle.st_types.specs.declared.kind.Kind.{Kind}
use Rattle.st_types.specs.Values.{Datum, IsHeld}
use Rattle.st_types.specs.Paths.{Path, same_path}
use Rattle.st_meaning.specs.declared.plan.PlanVariable.{PlanVariable}
use Rattle.st_meaning.specs.declared.plan.PlanInput.{PlanInput}
use Rattle.st_meaning.specs.Stores.{Store}
use Rattle.st_meaning.specs.Slots.{variables_with}
use Rattle.st_meaning.specs.Layouts.{Enumerations, layout_of, path_text}
use Rattle.st_meaning.specs.Restarts.{KeptLine, lines_with, restarted}
use Rattle.st_meaning.proofs.RestartLemmas.{restarts, taken, AreUnlike, all_unlike, unlike_next, kept_behind, kept_here}
use Rattle.st_meaning.specs.Scopes.{Name, contains_name}
use Rattle.st_types.specs.Comparisons.{same_path_is}
use Rattle.core_values.specs.Restored.{head_or, tail_of, restored}
use Rattle.core_engine.specs.Retained.{retained_paths, retained_kinds, retained_values, paired}
use Rattle.core_engine.proofs.PlanSlots.{no_variables}
use Rattle.layout.specs.Names.{are_different}

abbrev initials : List PlanVariable → List Datum
initials vs = map (λ v. v.initial) vs

abbrev kinds : List PlanVariable → List Kind
kinds vs = map (λ v. v.initial.kind) vs

-- for each variable, its own declaration decides whether it is kept
abbrev pub GoesByItself : (Path → Bool) → List PlanVariable → Type 0
GoesByItself keep vs = (k : ℕ) (v : PlanVariable) → slice_get vs k ≡ Some v → keep v.path ≡ v.retained

kept_first : (keep : Path → Bool) (v : PlanVariable) (d : Datum) (r : Bool) (s : Store) (ps : List Path)
    (ws : List Datum) → keep v.path ≡ r → filter (λ e. keep e.0) s ≡ paired ps ws
    → filter (λ e. keep e.0) ((v.path, d) ∷ s) ≡ paired (if r then v.path ∷ ps else ps) (if r then d ∷ ws else ws)
kept_first keep v d true s ps ws is rest = rw is (ap (λ (t : Store). (v.path, d) ∷ t) rest)
kept_first keep v d false s ps ws is rest = rw is rest

-- the values kept of the variables, by their order
pub kept_paired : (keep : Path → Bool) (vs : List PlanVariable) (ins : List PlanInput) (ds : List Datum)
    → length ds ≡ length vs → GoesByItself keep vs
    → filter (λ e. keep e.0) (variables_with (layout_of vs ins) ds) ≡ paired (retained_paths vs) (retained_values vs ds)
kept_paired keep [] ins ds e goes = ap (filter (λ e. keep e.0)) (no_variables ins ds)
kept_paired keep (v ∷ vs) ins [] e goes = absurd (omega arith)
kept_paired keep (v ∷ vs) ins (d ∷ ds) e goes =
    kept_first keep v d v.retained (variables_with (layout_of vs ins) ds) (retained_paths vs) (retained_values vs ds)
    (goes 0 v refl) (kept_paired keep vs ins ds (omega arith) (λ k u. goes (suc k) u))

values_first : (v : PlanVariable) (d : Datum) (r : Bool) (ps : List Path) (ws : List Datum)
    → map (λ e. e.1) (paired ps ws) ≡ ws
    → map (λ e. e.1) (paired (if r then v.path ∷ ps else ps) (if r then d ∷ ws else ws)) ≡ (if r then d ∷ ws else ws)
values_first v d true ps ws rest = ap (λ (t : List Datum). d ∷ t) rest
values_first v d false ps ws rest = rest

-- the values that are kept
pub values_paired : (vs : List PlanVariable) (ds : List Datum)
    → map (λ e. e.1) (paired (retained_paths vs) (retained_values vs ds)) ≡ retained_values vs ds
values_paired [] ds = refl
values_paired (v ∷ vs) [] = none (retained_paths (v ∷ vs))
  where
    none : (ps : List Path) → map (λ e. e.1) (paired ps []) ≡ []
    none [] = refl
    none (p ∷ ps) = refl
values_paired (v ∷ vs) (d ∷ ds) =
    values_first v d v.retained (retained_paths vs) (retained_values vs ds) (values_paired vs ds)

kinds_first : (v : PlanVariable) (d : Datum) (r : Bool) (ws : List Datum) (ks : List Kind) → d.kind ≡ v.initial.kind
    → map (λ d. d.kind) ws ≡ ks → map (λ d. d.kind) (if r then d ∷ ws else ws) ≡ (if r then v.initial.kind ∷ ks else ks)
kinds_first v d true ws ks is rest = rw (is, rest) refl
kinds_first v d false ws ks is rest = rest

pub cons_head : {a b : Kind} {xs ys : List Kind} → a ∷ xs ≡ b ∷ ys → a ≡ b
cons_head h = cc

pub cons_tail : {a b : Kind} {xs ys : List Kind} → a ∷ xs ≡ b ∷ ys → xs ≡ ys
cons_tail h = cc

-- their types
pub kinds_kept : (vs : List PlanVariable) (ds : List Datum) → map (λ d. d.kind) ds ≡ kinds vs
    → map (λ d. d.kind) (retained_values vs ds) ≡ retained_kinds vs
kinds_kept [] ds e = refl
kinds_kept (v ∷ vs) [] e = absurd (omega (arith, ap length e))
kinds_kept (v ∷ vs) (d ∷ ds) e = kinds_first v d v.retained (retained_values vs ds) (retained_kinds vs) (cons_head e)
    (kinds_kept vs ds (cons_tail e))

-- ---- paths that are spelled differently

abbrev texts : List PlanVariable → List Name
texts vs = map (λ v. path_text v.path) vs

-- texts that differ are not equal
differ : (x y : Name) → bytes_eq x y ≡ false → x ≡ y → ⊥
differ x y h e = let t : bytes_eq x y ≡ true = (bytes_eq-Decides x y).1 e in let f : true ≡ false = sym t ∙ h in cc

unlike : (p q : Path) → (path_text p ≡ path_text q → ⊥) → same_path p q ≡ false
unlike p q ne = elim (cases_Bool (same_path p q)) [
  | inl t ↦ absurd (ne (ap path_text (same_path_is p q t)))
  | inr f ↦ f
]

-- ---- a path's own declaration decides whether it is kept

abbrev is_kept_of : List PlanVariable → Path → Bool
is_kept_of vs p = list_any (λ u. same_path p u.path && u.retained) vs

none_alike : (v : PlanVariable) (vs : List PlanVariable) → contains_name (texts vs) (path_text v.path) ≡ false
    → is_kept_of vs v.path ≡ false
none_alike v [] h = refl
none_alike v (u ∷ vs) h =
    let p = or_parts (bytes_eq (path_text v.path) (path_text u.path)) (contains_name (texts vs) (path_text v.path)) h in
    kept_behind v.path u.path u.retained (is_kept_of vs v.path)
    (unlike v.path u.path (differ (path_text v.path) (path_text u.path) p.0)) ∙ none_alike v vs p.1

apart_at : (u : PlanVariable) (vs : List PlanVariable) (k : ℕ) (v : PlanVariable)
    → contains_name (texts vs) (path_text u.path) ≡ false → slice_get vs k ≡ Some v
    → bytes_eq (path_text u.path) (path_text v.path) ≡ false
apart_at u [] k v h at = absurd (cc)
apart_at u (w ∷ vs) zero v h at =
    let p = or_parts (bytes_eq (path_text u.path) (path_text w.path)) (contains_name (texts vs) (path_text u.path)) h in
    let is : w ≡ v = cc in subst (λ x. bytes_eq (path_text u.path) (path_text x.path) ≡ false) is p.0
apart_at u (w ∷ vs) (suc k) v h at =
    let p = or_parts (bytes_eq (path_text u.path) (path_text w.path)) (contains_name (texts vs) (path_text u.path)) h in
    apart_at u vs k v p.1 at

pub goes_by_itself : (vs : List PlanVariable) → are_different (texts vs) ≡ true → GoesByItself (is_kept_of vs) vs
goes_by_itself [] d k v at = absurd (cc)
goes_by_itself (u ∷ vs) d zero v at =
    let p = and_parts (not (contains_name (texts vs) (path_text u.path))) (are_different (texts vs)) d in
    let is : u ≡ v = cc in
    subst (λ x. is_kept_of (u ∷ vs) x.path ≡ x.retained) is (kept_here u.path u.retained (is_kept_of vs u.path)
    (none_alike u vs (not-true (contains_name (texts vs) (path_text u.path)) p.0)))
goes_by_itself (u ∷ vs) d (suc k) v at =
    let p = and_parts (not (contains_name (texts vs) (path_text u.path))) (are_different (texts vs)) d in
    kept_behind v.path u.path u.retained (is_kept_of vs v.path)
    (unlike v.path u.path (λ same. differ (path_text u.path) (path_text v.path)
    (apart_at u vs k v (not-true (contains_name (texts vs) (path_text u.path)) p.0) at) (sym same)))
    ∙ goes_by_itself vs p.1 k v at

-- ---- a restart

none_before : (u : PlanVariable) (vs : List PlanVariable) → contains_name (texts vs) (path_text u.path) ≡ false
    → AllByRecursion (λ x. bytes_eq (path_text u.path) x ≡ false) (texts vs)
none_before u [] h = tt
none_before u (v ∷ vs) h =
    let p = or_parts (bytes_eq (path_text u.path) (path_text v.path)) (contains_name (texts vs) (path_text u.path)) h in
    (p.0, none_before u vs p.1)

-- the values that these lines give the variables, if the lines of the variables come after others
abbrev RestartsTo : Enumerations → List PlanVariable → List PlanInput → Type 0
RestartsTo types vs ins = (s : Store) (lines : List KeptLine) (ws : List Datum) → AreUnlike vs s
    → are_different (texts vs) ≡ true → map (λ d. d.kind) ws ≡ retained_kinds vs → AllByRecursion IsHeld ws
    → lines ≡ lines_with types (s ++ paired (retained_paths vs) ws)
    → restarts types lines vs ≡ variables_with (layout_of vs ins) (restored vs ws)

restart_first : (types : Enumerations) (v : PlanVariable) (vs : List PlanVariable) (ins : List PlanInput) (s : Store)
    (lines : List KeptLine) (ws : List Datum) (r : Bool) → v.retained ≡ r → RestartsTo types vs ins → AreUnlike (v ∷ vs) s
    → are_different (texts (v ∷ vs)) ≡ true
    → map (λ d. d.kind) ws ≡ (if r then v.initial.kind ∷ retained_kinds vs else retained_kinds vs)
    → AllByRecursion IsHeld ws
    → lines ≡ lines_with types (s ++ paired (if r then v.path ∷ retained_paths vs else retained_paths vs) ws)
    → (v.path, restarted types lines v) ∷ restarts types lines vs ≡ variables_with (layout_of (v ∷ vs) ins)
    (if r then head_or v.initial ws ∷ restored vs (tail_of ws) else v.initial ∷ restored vs ws)
restart_first types v vs ins s lines [] true is again apart d e held all = absurd (omega (arith, ap length e))
restart_first types v vs ins s lines (w ∷ ws) true is again apart d e held all =
    let p = and_parts (not (contains_name (texts vs) (path_text v.path))) (are_different (texts vs)) d in
    let none = none_before v vs (not-true (contains_name (texts vs) (path_text v.path)) p.0) in
    let first : restarted types lines v ≡ w =
    taken types v w s (paired (retained_paths vs) ws) lines true is apart.0 (cons_head e) held.0 all in
    let rest = again (s ++ (v.path, w) ∷ []) lines ws (unlike_next v w s vs none apart.1) p.1 (cons_tail e) held.1
    (all ∙ ap (lines_with types) (sym (append_assoc s ((v.path, w) ∷ []) (paired (retained_paths vs) ws)))) in
    ap (λ x. (v.path, x) ∷ restarts types lines vs) first ∙ ap (λ t. (v.path, w) ∷ t) rest
restart_first types v vs ins s lines ws false is again apart d e held all =
    let p = and_parts (not (contains_name (texts vs) (path_text v.path))) (are_different (texts vs)) d in
    let rest = again s lines ws apart.1 p.1 e held all in
    rw is (ap (λ t. (v.path, v.initial) ∷ t) rest)

restarts_to : (types : Enumerations) (vs : List PlanVariable) (ins : List PlanInput) → RestartsTo types vs ins
restarts_to types [] ins s lines ws apart d e held all = sym (no_variables ins [])
restarts_to types (v ∷ vs) ins s lines ws apart d e held all =
    restart_first types v vs ins s lines ws v.retained refl (restarts_to types vs ins) apart d e held all

pub restart_is : (types : Enumerations) (vs : List PlanVariable) (ins : List PlanInput) (ws : List Datum)
    → are_different (texts vs) ≡ true
    → map (λ d. d.kind) ws ≡ retained_kinds vs → AllByRecursion IsHeld ws
    → restarts types (lines_with types (paired (retained_paths vs) ws)) vs ≡ variables_with (layout_of vs ins) (restored vs ws)
restart_is types vs ins ws d e held = restarts_to types vs ins [] _ ws (all_unlike vs) d e held refl

-- the values that were restored are those that are kept
back_first : (v : PlanVariable) (vs : List PlanVariable) (ws : List Datum) (r : Bool)
    → ((us : List Datum) → map (λ d. d.kind) us ≡ retained_kinds vs → retained_values vs (restored vs us) ≡ us)
    → map (λ d. d.kind) ws ≡ (if r then v.initial.kind ∷ retained_kinds vs else retained_kinds vs)
    → (if r then head_or v.initial ws ∷ retained_values vs (restored vs (tail_of ws))
    else retained_values vs (restored vs ws)) ≡ ws
back_first v vs [] true again e = absurd (omega (arith, ap length e))
back_first v vs (w ∷ ws) true again e = ap (λ (t : List Datum). w ∷ t) (again ws (cons_tail e))
back_first v vs ws false again e = again ws e

restored_first : (v : PlanVariable) (vs : List PlanVariable) (ws : List Datum) (r : Bool) → v.retained ≡ r
    → retained_values (v ∷ vs) (restored (v ∷ vs) ws) ≡ (if r then
    head_or v.initial ws ∷ retained_values vs (restored vs (tail_of ws)) else retained_values vs (restored vs ws))
restored_first v vs ws true is = rw is refl
restored_first v vs ws false is = rw is refl

pub restored_back : (vs : List PlanVariable) (ws : List Datum) → map (λ d. d.kind) ws ≡ retained_kinds vs
    → retained_values vs (restored vs ws) ≡ ws
restored_back [] [] e = refl
restored_back [] (w ∷ ws) e = absurd (omega (arith, ap length e))
restored_back (v ∷ vs) ws e = restored_first v vs ws v.retained refl
    ∙ back_first v vs ws v.retained (restored_back vs) e

kinds_restored : (v : PlanVariable) (vs : List PlanVariable) (ws : List Datum) (r : Bool)
    → ((us : List Datum) → map (λ d. d.kind) us ≡ retained_kinds vs → map (λ d. d.kind) (restored vs us) ≡ kinds vs)
    → map (λ d. d.kind) ws ≡ (if r then v.initial.kind ∷ retained_kinds vs else retained_kinds vs)
    → map (λ d. d.kind) (if r then head_or v.initial ws ∷ restored vs (tail_of ws) else v.initial ∷ restored vs ws)
    ≡ v.initial.kind ∷ kinds vs
kinds_restored v vs [] true again e = absurd (omega (arith, ap length e))
kinds_restored v vs (w ∷ ws) true again e = rw (cons_head e, again ws (cons_tail e)) refl
kinds_restored v vs ws false again e = ap (λ (t : List Kind). v.initial.kind ∷ t) (again ws e)

-- each restored value is of its variable's type
pub restored_typed : (vs : List PlanVariable) (ws : List Datum) → map (λ d. d.kind) ws ≡ retained_kinds vs
    → map (λ d. d.kind) (restored vs ws) ≡ kinds vs
restored_typed [] ws e = refl
restored_typed (v ∷ vs) ws e = kinds_restored v vs ws v.retained (restored_typed vs) e

-- one value more, which is held
pub held_more : (ws : List Datum) (d : Datum) → AllByRecursion IsHeld ws → IsHeld d
    → AllByRecursion IsHeld (ws ++ d ∷ [])
held_more [] d h k = (k, tt)
held_more (w ∷ ws) d h k = (h.0, held_more ws d h.1 k)
