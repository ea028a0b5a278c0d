-- The record of a plan's variables.
use Rattle.std.proofs.Common.{◌≡◌, ℕ, ◌+◌, ◌<◌, ◌≤◌, Bool, ◌&&◌, true, false, not, if◌then◌else◌, List, [], ◌∷◌, ◌++◌, length}
use Rattle.std.proofs.Common.{map, Option, Some, None, refl, sym, ap, subst, ◌∙◌, arith, length-append}
use Rattle.std.specs.Prelude.{ℤ, IfSome, bytes_eq, codes, ◌==◌, nat_le, slice_get}
use Rattle.std.specs.List.{list_all, flat_map, AllByRecursion, IsDistinct}
use Rattle.std.proofs.lemmas.List.{length-map}
use Rattle.std.proofs.lemmas.Bool.{and_parts, eqb-true, leb-true, or_parts, not-true}
use Rattle.st_types.specs.declared.limits.TheConstants.{MOMENT_LIMIT}
use Rattle.st_types.specs.declared.kind.Kind.{Kind}
use Rattle.st_types.specs.declared.kind.Kind.TheVariants.{Sint, Int, Dint, Lint, Usint, Uint, Udint, Ulint, Byte, Word}
use Rattle.st_types.specs.declared.kind.Kind.TheVariants.{Dword, Lword, Time, Bool as Boolean, Enumerated}
use Rattle.st_types.specs.Kinds.{holds, width_of}
use Rattle.st_types.specs.Values.{Datum, IsHeld}
use Rattle.st_meaning.specs.declared.plan.PlanVariable.{PlanVariable}
use Rattle.st_meaning.specs.Scopes.{Name, contains_name}
use Rattle.st_meaning.specs.Layouts.{Enumerations, path_text, enumeration_text, type_text, line_of, layout_text}
use Rattle.st_meaning.specs.Layouts.{values_length, record_length}
use Rattle.st_rules.specs.declared.limits.TheConstants.{MAX_NAMES}
use Rattle.st_types.specs.UpperNames.{is_upper_name}
use Rattle.plan.specs.Sound.{is_spelled, has_names, has_spelling, has_line}
use Rattle.plan.specs.PlanViews.{plan_view}
use Rattle.st_meaning.specs.Restarts.{line_with, lines_with}
use Rattle.plan.specs.declared.plan.Plan.{Plan}
use Rattle.retain_records.specs.Records.{Content, Line, line_text, text_of, is_path_text, is_visible, by_keyword}
use Rattle.retain_records.specs.Records.{by_names, IsLine, IsLayoutText, SpellsKind, is_byte_place, IsRecordable}
use Rattle.retain_records.specs.Records.{value_bytes, record_bytes}
use Rattle.retain_records.specs.Reading.{line_at}
use Rattle.retain_records.specs.LineLaws.{line_again, value_length}
use Rattle.retain_records.specs.RecordLaws.{body_length}
use Rattle.serial_core.specs.Retained.{retained_kinds, retained_paths, paired, kept_from}
use Rattle.durable_core.specs.Recorded.{all_renumbered, recorded, recorded_kind}
use Rattle.durable_core.specs.Restart.{layout_text_of}
use Rattle.retain_records.proofs.LayoutLemmas.{words_again}
use Rattle.retain_records.specs.ContentLines.{line_then, lines_in, kept_in}
use Rattle.durable_core.proofs.RecordedLemmas.{numbered, place_recorded, typed, typed_back}
use Rattle.durable_core.proofs.RecordedLemmas.{typed_held, typed_kinds, width_recorded}
use Rattle.core_engine.proofs.RetainedLemmas.{cons_head, cons_tail}
use Rattle.std.proofs.lemmas.Option.{same_Some}
use Rattle.layout.specs.Names.{are_different}

-- the types of the retained variables as a record knows them
abbrev pub known_kinds : List PlanVariable → List Kind
known_kinds vs = map recorded_kind (retained_kinds vs)

-- the line of a variable
abbrev pub line_for : Enumerations → PlanVariable → Line
line_for types v = record {
  path = path_text v.path;
  spelling = type_text types v.initial.kind;
  kind = recorded_kind v.initial.kind;
}

abbrev lines_for : Enumerations → List PlanVariable → List Line
lines_for types [] = []
lines_for types (v ∷ vs) = if v.retained then line_for types v ∷ lines_for types vs else lines_for types vs

text_first : (types : Enumerations) (v : PlanVariable) (r : Bool) (ls : List Line) (t : List ℕ) → text_of ls ≡ t
    → text_of (if r then line_for types v ∷ ls else ls) ≡ (if r then line_of types v ++ t else t)
text_first types v true ls t e = ap (λ (x : List ℕ). line_of types v ++ x) e
text_first types v false ls t e = e

text_is : (types : Enumerations) (vs : List PlanVariable) → text_of (lines_for types vs) ≡ layout_text types vs
text_is types [] = refl
text_is types (v ∷ vs) =
    text_first types v v.retained (lines_for types vs) (layout_text types vs) (text_is types vs)

kinds_first : (types : Enumerations) (v : PlanVariable) (r : Bool) (ls : List Line) (ks : List Kind)
    → map (λ l. l.kind) ls ≡ map recorded_kind ks
    → map (λ l. l.kind) (if r then line_for types v ∷ ls else ls)
    ≡ map recorded_kind (if r then v.initial.kind ∷ ks else ks)
kinds_first types v true ls ks e = ap (λ (x : List Kind). recorded_kind v.initial.kind ∷ x) e
kinds_first types v false ls ks e = e

kinds_are : (types : Enumerations) (vs : List PlanVariable) → map (λ l. l.kind) (lines_for types vs) ≡ known_kinds vs
kinds_are types [] = refl
kinds_are types (v ∷ vs) =
    kinds_first types v v.retained (lines_for types vs) (retained_kinds vs) (kinds_are types vs)

path_spelled : (x : Name) → is_spelled x ≡ true → is_path_text x ≡ true
path_spelled [] e = e
path_spelled (b ∷ bs) e = (and_parts _ (list_all is_visible (b ∷ bs)) e).1

-- the conditions on the names of an enumerated type
pub record HasNames (names : List Name) (n : ℕ) : Type 0 where
  pub count : length names ≡ n
  pub some : 1 ≤ n
  pub few : n ≤ MAX_NAMES
  pub each : list_all is_upper_name names ≡ true

pub names_there : (names : List Name) (n : ℕ) → has_names (Some names) n ≡ true → HasNames names n
names_there names n e =
    let a = and_parts ((length names == n) && nat_le 1 n && nat_le n MAX_NAMES) (list_all is_upper_name names) e in
    let b = and_parts ((length names == n) && nat_le 1 n) (nat_le n MAX_NAMES) a.0 in
    let c = and_parts (length names == n) (nat_le 1 n) b.0 in
    record { count = eqb-true (length names) n c.0; some = leb-true 1 n c.1; few = leb-true n MAX_NAMES b.1; each = a.1 }

names_spell : (o : Option (List Name)) (n : ℕ) → has_names o n ≡ true → SpellsKind (enumeration_text o) (Enumerated n 0)
names_spell None n e = absurd cc
names_spell (Some names) n e =
    let h = names_there names n e in
    by_names n refl (record {
      names = names;
      spelled = refl;
      each = h.each;
      some = omega (arith, h.count, h.some);
      most = omega (arith, h.count, h.few);
      count = h.count;
    })

-- a type with a spelling is spelled as a record spells it
pub type_spells : (types : Enumerations) (k : Kind) → has_spelling types k ≡ true
    → SpellsKind (type_text types k) (recorded_kind k)
type_spells types (Enumerated n number) e = names_spell (slice_get types number) n e
type_spells types Sint e = by_keyword refl refl
type_spells types Int e = by_keyword refl refl
type_spells types Dint e = by_keyword refl refl
type_spells types Lint e = by_keyword refl refl
type_spells types Usint e = by_keyword refl refl
type_spells types Uint e = by_keyword refl refl
type_spells types Udint e = by_keyword refl refl
type_spells types Ulint e = by_keyword refl refl
type_spells types Byte e = by_keyword refl refl
type_spells types Word e = by_keyword refl refl
type_spells types Dword e = by_keyword refl refl
type_spells types Lword e = by_keyword refl refl
type_spells types Time e = by_keyword refl refl
type_spells types Boolean e = by_keyword refl refl

pub line_spelled : (types : Enumerations) (v : PlanVariable) → has_line types v ≡ true → IsLine (line_for types v)
line_spelled types v e =
    let p = and_parts (is_spelled (path_text v.path)) (has_spelling types v.initial.kind) e in
    record { path = path_spelled (path_text v.path) p.0; spells = type_spells types v.initial.kind p.1 }

spelled_first : (types : Enumerations) (v : PlanVariable) (r : Bool) (ls : List Line) → IsLine (line_for types v)
    → AllByRecursion IsLine ls
    → AllByRecursion IsLine (if r then line_for types v ∷ ls else ls)
spelled_first types v true ls h rest = (h, rest)
spelled_first types v false ls h rest = rest

spelled_are : (types : Enumerations) (vs : List PlanVariable) → list_all (has_line types) vs ≡ true
    → AllByRecursion IsLine (lines_for types vs)
spelled_are types [] e = tt
spelled_are types (v ∷ vs) e =
    let p = and_parts (has_line types v) (list_all (has_line types) vs) e in
    spelled_first types v v.retained (lines_for types vs) (line_spelled types v p.0) (spelled_are types vs p.1)

-- each path occurs once
abbrev texts : List PlanVariable → List Name
texts vs = map (λ v. path_text v.path) vs

abbrev IsNone : Name → List Name → Type 0
IsNone x ys = AllByRecursion (λ y. bytes_eq x y ≡ false) ys

none_first : (types : Enumerations) (x : Name) (v : PlanVariable) (r : Bool) (ls : List Line)
    → bytes_eq x (path_text v.path) ≡ false → IsNone x (map (λ l. l.path) ls)
    → IsNone x (map (λ l. l.path) (if r then line_for types v ∷ ls else ls))
none_first types x v true ls h rest = (h, rest)
none_first types x v false ls h rest = rest

none_is : (types : Enumerations) (x : Name) (vs : List PlanVariable) → contains_name (texts vs) x ≡ false
    → IsNone x (map (λ l. l.path) (lines_for types vs))
none_is types x [] h = tt
none_is types x (v ∷ vs) h =
    let p = or_parts (bytes_eq x (path_text v.path)) (contains_name (texts vs) x) h in
    none_first types x v v.retained (lines_for types vs) p.0 (none_is types x vs p.1)

once_first : (types : Enumerations) (v : PlanVariable) (r : Bool) (ls : List Line)
    → IsNone (path_text v.path) (map (λ l. l.path) ls) → IsDistinct bytes_eq (map (λ l. l.path) ls)
    → IsDistinct bytes_eq (map (λ l. l.path) (if r then line_for types v ∷ ls else ls))
unfolding IsDistinct
once_first types v true ls h rest = (h, rest)
once_first types v false ls h rest = rest

once_are : (types : Enumerations) (vs : List PlanVariable) → are_different (texts vs) ≡ true
    → IsDistinct bytes_eq (map (λ l. l.path) (lines_for types vs))
unfolding IsDistinct
once_are types [] d = tt
once_are types (v ∷ vs) d =
    let p = and_parts (not (contains_name (texts vs) (path_text v.path))) (are_different (texts vs)) d in
    once_first types v v.retained (lines_for types vs)
    (none_is types (path_text v.path) vs (not-true (contains_name (texts vs) (path_text v.path)) p.0))
    (once_are types vs p.1)

-- the layout text of a plan is a valid one of a record
pub layout_is : (types : Enumerations) (vs : List PlanVariable) (ks : List Kind) → list_all (has_line types) vs ≡ true
    → are_different (texts vs) ≡ true → ks ≡ known_kinds vs → IsLayoutText (layout_text types vs) ks
layout_is types vs ks spelled d is = record {
  lines = lines_for types vs;
  sound = spelled_are types vs spelled;
  once = once_are types vs d;
  spelled = sym (text_is types vs);
  typed = is ∙ sym (kinds_are types vs);
}

-- ---- one layout text has one list of types

some_lines : (l m : Line) (s t : List ℕ) → ◌≡◌ {A = Option (Line × List ℕ)} (Some (l, s)) (Some (m, t))
    → (l ≡ m) × (s ≡ t)
some_lines l m s t e = let same = same_Some (l, s) (m, t) e in
    (ap (λ (p : Line × List ℕ). p.0) same, ap (λ (p : Line × List ℕ). p.1) same)

no_line : (l : Line) (rest : List ℕ) → IsLine l → [] ≡ line_text l ++ rest → ⊥
no_line l rest h e = absurd (omega (
  arith,
  ap length e,
  length-append (line_text l) rest,
  length-append (l.path ++ codes " " ++ l.spelling) (10 ∷ []),
))

lines_once : (ls ms : List Line) → AllByRecursion IsLine ls
    → AllByRecursion IsLine ms → text_of ls ≡ text_of ms
    → map (λ l. l.kind) ls ≡ map (λ l. l.kind) ms
lines_once [] [] h k e = refl
lines_once [] (m ∷ ms) h k e = absurd (no_line m (text_of ms) k.0 e)
lines_once (l ∷ ls) [] h k e = absurd (no_line l (text_of ls) h.0 (sym e))
lines_once (l ∷ ls) (m ∷ ms) h k e =
    let same = some_lines l m (text_of ls) (text_of ms)
    (sym (line_again l (text_of ls) h.0) ∙ ap line_at e ∙ line_again m (text_of ms) k.0) in
    let kind : l.kind ≡ m.kind = ap (λ (x : Line). x.kind) same.0 in
    rw (kind, lines_once ls ms h.1 k.1 same.1) refl

pub kinds_told : (types : Enumerations) (vs : List PlanVariable) (text : List ℕ) (ks : List Kind)
    → list_all (has_line types) vs ≡ true → text ≡ layout_text types vs → IsLayoutText text ks
    → ks ≡ known_kinds vs
kinds_told types vs text ks spelled is layout =
    layout.typed ∙ lines_once layout.lines (lines_for types vs) layout.sound (spelled_are types vs spelled)
    (sym layout.spelled ∙ is ∙ sym (text_is types vs)) ∙ kinds_are types vs

-- ---- the lines of a record

told_first : (types : Enumerations) (v : PlanVariable) (r : Bool) (vs : List PlanVariable) (ws : List Datum)
    → IsLine (line_for types v)
    → ((us : List Datum) → map (λ d. d.kind) us ≡ known_kinds vs
    → lines_in (layout_text types vs) us ≡ lines_with types (paired (retained_paths vs) (typed (retained_kinds vs) us)))
    → map (λ d. d.kind) ws ≡ map recorded_kind (if r then v.initial.kind ∷ retained_kinds vs else retained_kinds vs)
    → lines_in (if r then line_of types v ++ layout_text types vs else layout_text types vs) ws
    ≡ lines_with types (paired (if r then v.path ∷ retained_paths vs else retained_paths vs)
    (typed (if r then v.initial.kind ∷ retained_kinds vs else retained_kinds vs) ws))
told_first types v true vs [] sound again e = absurd (omega (arith, ap length e))
told_first types v true vs (w ∷ ws) sound again e =
    ap (λ o. line_then o w (λ behind. lines_in behind ws)) (words_again (line_for types v) (layout_text types vs) sound)
    ∙ ap (λ ls. line_with types (v.path, record { kind = v.initial.kind; number = w.number }) ∷ ls)
    (again ws (cons_tail e))
told_first types v false vs ws sound again e = again ws e

-- the layout text of a plan gives its retained variables, whatever values follow it
pub lines_told : (types : Enumerations) (vs : List PlanVariable) (ws : List Datum)
    → list_all (has_line types) vs ≡ true → map (λ d. d.kind) ws ≡ known_kinds vs
    → lines_in (layout_text types vs) ws ≡ lines_with types (paired (retained_paths vs) (typed (retained_kinds vs) ws))
lines_told types [] [] spelled e = refl
lines_told types [] (w ∷ ws) spelled e = absurd (omega (arith, ap length e))
lines_told types (v ∷ vs) ws spelled e =
    let p = and_parts (has_line types v) (list_all (has_line types) vs) spelled in
    told_first types v v.retained vs ws (line_spelled types v p.0) (λ us. lines_told types vs us p.1) e

-- a warm start from a record of the plan's layout text takes its values in order
pub told_in_order : (plan : Plan) (content : Content) → content.layout ≡ layout_text_of plan
    → map (λ d. d.kind) content.values ≡ known_kinds plan.variables.items
    → kept_in content ≡ kept_from plan (typed (retained_kinds plan.variables.items) content.values) content.moment
told_in_order plan content layout kinds =
    ap (λ ls. record { lines = ls; moment = content.moment })
    (ap (λ text. lines_in text content.values) layout
    ∙ lines_told (plan_view plan).enumerations plan.variables.items content.values plan.sound.spelled kinds)

-- ---- how long a record is

length_first : (v : PlanVariable) (r : Bool) (ws : List Datum) (ks : List Kind) (n : ℕ)
    → ((us : List Datum) → map (λ d. d.kind) us ≡ map recorded_kind ks → length (flat_map value_bytes us) ≡ n)
    → map (λ d. d.kind) ws ≡ map recorded_kind (if r then v.initial.kind ∷ ks else ks)
    → length (flat_map value_bytes ws) ≡ (if r then width_of v.initial.kind + n else n)
length_first v true [] ks n again e = absurd (omega (arith, ap length e))
length_first v true (w ∷ ws) ks n again e =
    let kind : w.kind ≡ recorded_kind v.initial.kind = cons_head e in
    let rest = again ws (cons_tail e) in
    length-append (value_bytes w) (flat_map value_bytes ws)
    ∙ ap (λ k. k + length (flat_map value_bytes ws))
    (value_length w ∙ ap width_of kind ∙ width_recorded v.initial.kind)
    ∙ ap (λ k. width_of v.initial.kind + k) rest
length_first v false ws ks n again e = again ws e

values_long : (vs : List PlanVariable) (ws : List Datum) → map (λ d. d.kind) ws ≡ known_kinds vs
    → length (flat_map value_bytes ws) ≡ values_length vs
values_long [] [] e = refl
values_long [] (w ∷ ws) e = absurd (omega (arith, ap length e))
values_long (v ∷ vs) ws e = length_first v v.retained ws (retained_kinds vs) (values_length vs) (values_long vs) e

pub record_long : (types : Enumerations) (vs : List PlanVariable) (ws : List Datum) (moment : Option ℕ) (text : List ℕ)
    → text ≡ layout_text types vs → map (λ d. d.kind) ws ≡ known_kinds vs
    → length (record_bytes (record { moment = moment; layout = text; values = ws })) ≡ record_length types vs
record_long types vs ws moment text is e = body_length moment text (flat_map value_bytes ws)
    ∙ omega (arith, values_long vs ws e, ap length is)

-- ---- each place of an enumerated value is one byte

names_few : (o : Option (List Name)) (n : ℕ) → has_names o n ≡ true → n ≤ 256
names_few None n e = absurd cc
names_few (Some names) n e = (names_there names n e).few

place_of : (types : Enumerations) (k : Kind) (z : ℤ) → has_spelling types k ≡ true → holds (recorded_kind k) z ≡ true
    → is_byte_place (record { kind = recorded_kind k; number = z }) ≡ true
place_of types (Enumerated n number) z e held = place_recorded n z (names_few (slice_get types number) n e) held
place_of types Sint z e held = refl
place_of types Int z e held = refl
place_of types Dint z e held = refl
place_of types Lint z e held = refl
place_of types Usint z e held = refl
place_of types Uint z e held = refl
place_of types Udint z e held = refl
place_of types Ulint z e held = refl
place_of types Byte z e held = refl
place_of types Word z e held = refl
place_of types Dword z e held = refl
place_of types Lword z e held = refl
place_of types Time z e held = refl
place_of types Boolean z e held = refl

placed_first : (types : Enumerations) (v : PlanVariable) (r : Bool) (ws : List Datum) (ks : List Kind)
    → has_spelling types v.initial.kind ≡ true
    → ((us : List Datum) → map (λ d. d.kind) us ≡ map recorded_kind ks → AllByRecursion IsHeld us
    → AllByRecursion (λ d. is_byte_place d ≡ true) us)
    → map (λ d. d.kind) ws ≡ map recorded_kind (if r then v.initial.kind ∷ ks else ks) → AllByRecursion IsHeld ws
    → AllByRecursion (λ d. is_byte_place d ≡ true) ws
placed_first types v true [] ks spelled again e held = tt
placed_first types v true (w ∷ ws) ks spelled again e held =
    let kind : w.kind ≡ recorded_kind v.initial.kind = cons_head e in (
      ap (λ k. is_byte_place (record { kind = k; number = w.number })) kind
          ∙ place_of types v.initial.kind w.number spelled (ap (λ k. holds k w.number) (sym kind) ∙ held.0),
      again ws (cons_tail e) held.1,
    )
placed_first types v false ws ks spelled again e held = again ws e held

places_are : (types : Enumerations) (vs : List PlanVariable) (ws : List Datum) → list_all (has_line types) vs ≡ true
    → map (λ d. d.kind) ws ≡ known_kinds vs → AllByRecursion IsHeld ws
    → AllByRecursion (λ d. is_byte_place d ≡ true) ws
places_are types [] [] spelled e held = tt
places_are types [] (w ∷ ws) spelled e held = absurd (omega (arith, ap length e))
places_are types (v ∷ vs) ws spelled e held =
    let p = and_parts (has_line types v) (list_all (has_line types) vs) spelled in
    let q = and_parts (is_spelled (path_text v.path)) (has_spelling types v.initial.kind) p.0 in
    placed_first types v v.retained ws (retained_kinds vs) q.1 (λ us. places_are types vs us p.1) e held

pub record_sound : (types : Enumerations) (vs : List PlanVariable) (ws : List Datum) (moment : Option ℕ) (text : List ℕ)
    → list_all (has_line types) vs ≡ true → are_different (texts vs) ≡ true → text ≡ layout_text types vs
    → IfSome moment (λ t. t < MOMENT_LIMIT) → map (λ d. d.kind) ws ≡ known_kinds vs → AllByRecursion IsHeld ws
    → IsRecordable (record { moment = moment; layout = text; values = ws })
record_sound types vs ws moment text spelled d is early e held = record {
  moment = early;
  layout = subst (λ (t : List ℕ). IsLayoutText t (map (λ w. w.kind) ws)) (sym is)
      (layout_is types vs (map (λ w. w.kind) ws) spelled d e);
  values = held;
  places = places_are types vs ws spelled e held;
}

-- ---- the values that a warm start takes from a record

-- the values are those of the record, and have the plan's types
pub record AreTaken (plan : Plan) (content : Content) (values : List Datum) : Type 0 where
  pub are : values ≡ typed (retained_kinds plan.variables.items) content.values
  pub kinds : map (λ d. d.kind) values ≡ retained_kinds plan.variables.items
  pub held : AllByRecursion IsHeld values
  pub back : map recorded values ≡ content.values

-- the types of a record of the plan's layout text
pub types_known : (plan : Plan) (content : Content) → content.layout ≡ layout_text_of plan → IsRecordable content
    → map (λ d. d.kind) content.values ≡ known_kinds plan.variables.items
types_known plan content layout sound = kinds_told (plan_view plan).enumerations plan.variables.items content.layout
    (map (λ d. d.kind) content.values) plan.sound.spelled layout sound.layout

pub long_known : (plan : Plan) (content : Content) (own : List Datum)
    → map (λ d. d.kind) content.values ≡ known_kinds plan.variables.items
    → map (λ d. d.kind) own ≡ retained_kinds plan.variables.items → length content.values ≡ length own
long_known plan content own known same = sym (length-map content.values (λ d. d.kind)) ∙ ap length known
    ∙ length-map (retained_kinds plan.variables.items) recorded_kind ∙ ap length (sym same)
    ∙ length-map own (λ d. d.kind)

-- the plan's own values that take the numbers of a record
pub taken : (plan : Plan) (content : Content) (own values : List Datum)
    → map (λ d. d.kind) content.values ≡ known_kinds plan.variables.items → IsRecordable content
    → map (λ d. d.kind) own ≡ retained_kinds plan.variables.items → values ≡ all_renumbered own content.values
    → AreTaken plan content values
taken plan content own values known sound same is =
    let ks = retained_kinds plan.variables.items in
    let are : values ≡ typed ks content.values = is ∙ numbered ks own content.values same known sound.values in
    record {
      are = are;
      kinds = ap (map (λ d. d.kind)) are ∙ typed_kinds ks content.values known;
      held = subst (λ (ws : List Datum). AllByRecursion IsHeld ws) (sym are)
          (typed_held ks content.values known sound.values);
      back = ap (map recorded) are ∙ typed_back ks content.values known;
    }
