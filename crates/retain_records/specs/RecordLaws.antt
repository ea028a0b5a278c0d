-- A body that is decoded is the record that it spells, and a record is decoded: a content has one spelling, and a
-- spelling has one content.
use Rattle.std.proofs.Common.{◌≡◌, ℕ, ◌+◌, ◌^◌, ◌<◌, ◌≤◌, true, false, cond, not, List, [], ◌∷◌, ◌++◌, length, map}
use Rattle.std.proofs.Common.{take, drop, Option, Some, None, refl, sym, ap, subst, ◌∙◌, append_assoc, arith, inl, inr}
use Rattle.std.specs.Prelude.{◌==◌, ◌&&◌, IfSome, bytes_eq, nat_le}
use Rattle.std.specs.List.{list_any, flat_map, AllByRecursion, IsDistinct}
use Rattle.std.specs.Int.{w32, w64, to_be_bytes}
use Rattle.std.proofs.lemmas.Bool.{and_parts, and_from, leb-true, le-leb, not-true, not_from_false, eqb-true, eqb-false}
use Rattle.std.proofs.lemmas.Bool.{ne_eqb, or_parts, or_from, cases_Bool}
use Rattle.std.proofs.lemmas.List.{take_at, drop_at, take-append-drop, length-append, length-take}
use Rattle.st_types.specs.declared.limits.TheConstants.{MAX_RECORD_BODY, MOMENT_LIMIT}
use Rattle.st_types.specs.declared.kind.Kind.{Kind}
use Rattle.st_types.specs.Values.{IsHeld}
use Rattle.retain_records.specs.Records.{Content, line_text, text_of, IsLine, is_byte_place, IsLayoutText, moment_code}
use Rattle.retain_records.specs.Records.{value_bytes, record_bytes, IsRecord}
use Rattle.retain_records.specs.Splits.{◌>>=◌}
use Rattle.retain_records.specs.Reading.{number_at, RecordedVariable, variables_in, are_distinct, moment_of, Parts}
use Rattle.retain_records.specs.Reading.{parts_at, decoded}
use Rattle.retain_records.specs.FieldLaws.{IsBytes, IsBytes-drop, wide32, wide64, number_takes, number_again}
use Rattle.retain_records.specs.SplitLaws.{bind_some, when_kept}
use Rattle.retain_records.specs.LineLaws.{line_of, IsSoundVariable, texts, values_bytes, paths_of, variables_take}
use Rattle.retain_records.specs.LineLaws.{variables_again}
use Rattle.std.proofs.lemmas.Option.{same_Some, cond_some}

-- ---- paths that differ

none_is : (x : List ℕ) (xs : List (List ℕ)) → list_any (bytes_eq x) xs ≡ false
    → AllByRecursion (λ y. bytes_eq x y ≡ false) xs
none_is x [] h = tt
none_is x (y ∷ ys) h = let p = or_parts (bytes_eq x y) (list_any (bytes_eq x) ys) h in (p.0, none_is x ys p.1)

is_none : (x : List ℕ) (xs : List (List ℕ)) → AllByRecursion (λ y. bytes_eq x y ≡ false) xs
    → list_any (bytes_eq x) xs ≡ false
is_none x [] h = refl
is_none x (y ∷ ys) h = or_from (bytes_eq x y) (list_any (bytes_eq x) ys) h.0 (is_none x ys h.1)

pub distinct_is : (xs : List (List ℕ)) → are_distinct xs ≡ true → IsDistinct bytes_eq xs
unfolding IsDistinct
distinct_is [] h = tt
distinct_is (x ∷ xs) h = let p = and_parts (not (list_any (bytes_eq x) xs)) (are_distinct xs) h in
    (none_is x xs (not-true (list_any (bytes_eq x) xs) p.0), distinct_is xs p.1)

pub is_distinct : (xs : List (List ℕ)) → IsDistinct bytes_eq xs → are_distinct xs ≡ true
unfolding IsDistinct
is_distinct [] h = refl
is_distinct (x ∷ xs) h = and_from (not (list_any (bytes_eq x) xs)) (are_distinct xs)
    (not_from_false (list_any (bytes_eq x) xs) (is_none x xs h.0)) (is_distinct xs h.1)

-- ---- the fields before the values

abbrev pub IsMoment : Option ℕ → Type 0
IsMoment moment = IfSome moment (λ t. t < MOMENT_LIMIT)

moment_takes : (n : ℕ) → n ≤ MOMENT_LIMIT → (moment_code (moment_of n) ≡ n) × IsMoment (moment_of n)
moment_takes n low = elim (cases_Bool (n == 0)) [
  | inl is ↦ let e : n ≡ 0 = eqb-true n 0 is in rw e (refl, tt)
  | inr not_is ↦ let some : 0 < n = let ne : n ≡ 0 → ⊥ = eqb-false n 0 not_is in omega arith in
      rw not_is (omega arith, omega arith)
]

moment_again : (moment : Option ℕ) → moment_of (moment_code moment) ≡ moment
moment_again None = refl
moment_again (Some t) = let other : ((t + 1) == 0) ≡ false = ne_eqb (t + 1) 0 (λ e. omega (arith, e)) in
    rw other (ap (λ (n : ℕ). Some n) (omega arith))

moment_low : (moment : Option ℕ) → IsMoment moment → moment_code moment ≤ MOMENT_LIMIT
moment_low None h = omega arith
moment_low (Some t) h = omega (arith, h)

-- the bytes of a record whose values have these bytes
abbrev pub body_of : Option ℕ → List ℕ → List ℕ → List ℕ
body_of moment layout rest = to_be_bytes w64 (moment_code moment) ++ to_be_bytes w32 (length layout) ++ layout ++ rest

body_parts : (moment : Option ℕ) (layout rest : List ℕ) → body_of moment layout rest
    ≡ to_be_bytes w64 (moment_code moment) ++ (to_be_bytes w32 (length layout) ++ (layout ++ rest))
body_parts moment layout rest = simp append_assoc

parts_made : (body : List ℕ) (code : ℕ) (after : List ℕ) (size : ℕ) (rest : List ℕ) (p : Parts) → IsBytes body
    → number_at w64 body ≡ Some (code, after) → number_at w32 after ≡ Some (size, rest)
    → (nat_le code MOMENT_LIMIT && nat_le size (length rest)) ≡ true
    → record { moment = moment_of code; layout = take size rest; rest = drop size rest } ≡ p
    → (body ≡ body_of p.moment p.layout p.rest) × IsBytes p.rest × IsMoment p.moment
parts_made body code after size rest p fits first second tests is =
    let t = and_parts (nat_le code MOMENT_LIMIT) (nat_le size (length rest)) tests in
    let m = moment_takes code (leb-true code MOMENT_LIMIT t.0) in
    let f = number_takes w64 (2 ^ 64) wide64 body (code, after) fits first in
    let s = number_takes w32 (2 ^ 32) wide32 after (size, rest) f.0.rest_fits second in
    let long : size ≤ length rest = leb-true size (length rest) t.1 in
    let len : length (take size rest) ≡ size = omega (arith, length-take size rest) in
    let whole : body ≡ to_be_bytes w64 code ++ (to_be_bytes w32 size ++ rest) = f.0.parts
    ∙ ap (λ (x : List ℕ). to_be_bytes w64 code ++ x) s.0.parts in
    let spelled : body_of (moment_of code) (take size rest) (drop size rest) ≡ to_be_bytes w64 code
    ++ (to_be_bytes w32 size ++ rest) = body_parts (moment_of code) (take size rest) (drop size rest)
    ∙ rw (m.0, len, take-append-drop size rest) refl in
    subst (λ (q : Parts). (body ≡ body_of q.moment q.layout q.rest) × IsBytes q.rest × IsMoment q.moment) is
    (whole ∙ sym spelled, IsBytes-drop size rest s.0.rest_fits, m.1)

pub parts_take : (body : List ℕ) (p : Parts) → IsBytes body → parts_at body ≡ Some p
    → (body ≡ body_of p.moment p.layout p.rest) × IsBytes p.rest × IsMoment p.moment
unfolding parts_at
parts_take body p fits e =
    let a = bind_some (number_at w64 body)
    (λ code. number_at w32 code.1 >>= λ size. cond (nat_le code.0 MOMENT_LIMIT && nat_le size.0 (length size.1))
    (Some (record { moment = moment_of code.0; layout = take size.0 size.1; rest = drop size.0 size.1 })) None) p e
    in
    let b = bind_some (number_at w32 a.0.1) (λ size. cond (nat_le a.0.0 MOMENT_LIMIT && nat_le size.0 (length size.1))
    (Some (record { moment = moment_of a.0.0; layout = take size.0 size.1; rest = drop size.0 size.1 })) None) p a.2
    in
    let g = cond_some (nat_le a.0.0 MOMENT_LIMIT && nat_le b.0.0 (length b.0.1))
    (record { moment = moment_of a.0.0; layout = take b.0.0 b.0.1; rest = drop b.0.0 b.0.1 }) p b.2 in
    parts_made body a.0.0 a.0.1 b.0.0 b.0.1 p fits a.1 b.1 g.0 g.1

pub body_length : (moment : Option ℕ) (layout rest : List ℕ)
    → length (body_of moment layout rest) ≡ 12 + (length layout + length rest)
body_length moment layout rest = ap length (body_parts moment layout rest) ∙ omega (arith, length-append layout rest)

-- the length of a layout text fits into its field
pub layout_below : (c : Content) → length (record_bytes c) ≤ MAX_RECORD_BODY → length c.layout < 2 ^ 32
layout_below c short = omega (arith, body_length c.moment c.layout (flat_map value_bytes c.values))

pub parts_again : (moment : Option ℕ) (layout rest : List ℕ) → IsMoment moment → length layout < 2 ^ 32
    → parts_at (body_of moment layout rest) ≡ Some (record { moment = moment; layout = layout; rest = rest })
unfolding parts_at
parts_again moment layout rest low short =
    let code = moment_low moment low in
    let small : moment_code moment < 2 ^ 64 = omega arith in
    let early : nat_le (moment_code moment) MOMENT_LIMIT ≡ true = le-leb (moment_code moment) MOMENT_LIMIT code in
    let long : nat_le (length layout) (length (layout ++ rest)) ≡ true =
    le-leb (length layout) (length (layout ++ rest)) (omega (arith, length-append layout rest)) in
    ap parts_at (body_parts moment layout rest) ∙ rw (
      number_again w64 (2 ^ 64) wide64 (moment_code moment) (to_be_bytes w32 (length layout) ++ (layout ++ rest))
          small,
      number_again w32 (2 ^ 32) wide32 (length layout) (layout ++ rest) short,
      early,
      long,
      take_at layout rest (length layout) refl,
      drop_at layout rest (length layout) refl,
      moment_again moment,
    ) refl

-- ---- lists of variables

texts_are : (vs : List RecordedVariable) → texts vs ≡ text_of (map line_of vs)
texts_are [] = refl
texts_are (v ∷ vs) = ap (λ (x : List ℕ). line_text (line_of v) ++ x) (texts_are vs)

values_are : (vs : List RecordedVariable) → values_bytes vs ≡ flat_map value_bytes (map (λ v. v.value) vs)
values_are [] = refl
values_are (v ∷ vs) = ap (λ (x : List ℕ). value_bytes v.value ++ x) (values_are vs)

lines_paths : (vs : List RecordedVariable) → map (λ l. l.path) (map line_of vs) ≡ paths_of vs
lines_paths [] = refl
lines_paths (v ∷ vs) = ap (λ (x : List (List ℕ)). v.path ∷ x) (lines_paths vs)

lines_kinds : (vs : List RecordedVariable)
    → map (λ d. d.kind) (map (λ v. v.value) vs) ≡ map (λ l. l.kind) (map line_of vs)
lines_kinds [] = refl
lines_kinds (v ∷ vs) = ap (λ (x : List Kind). v.value.kind ∷ x) (lines_kinds vs)

lines_sound : (vs : List RecordedVariable) → AllByRecursion IsSoundVariable vs
    → AllByRecursion IsLine (map line_of vs)
lines_sound [] h = tt
lines_sound (v ∷ vs) h = (h.0.line, lines_sound vs h.1)

values_held : (vs : List RecordedVariable) → AllByRecursion IsSoundVariable vs
    → AllByRecursion IsHeld (map (λ v. v.value) vs)
values_held [] h = tt
values_held (v ∷ vs) h = (h.0.value, values_held vs h.1)

values_placed : (vs : List RecordedVariable) → AllByRecursion IsSoundVariable vs
    → AllByRecursion (λ d. is_byte_place d ≡ true) (map (λ v. v.value) vs)
values_placed [] h = tt
values_placed (v ∷ vs) h = (h.0.place, values_placed vs h.1)

pub layout_of : (text : List ℕ) (vs : List RecordedVariable) → text ≡ texts vs → AllByRecursion IsSoundVariable vs
    → are_distinct (paths_of vs) ≡ true → IsLayoutText text (map (λ d. d.kind) (map (λ v. v.value) vs))
layout_of text vs is all once = record {
  lines = map line_of vs;
  sound = lines_sound vs all;
  once = rw (lines_paths vs) (distinct_is (paths_of vs) once);
  spelled = is ∙ texts_are vs;
  typed = lines_kinds vs;
}

-- ---- records

record_made : (body : List ℕ) (p : Parts) (vs : List RecordedVariable) (c : Content) → length body ≤ MAX_RECORD_BODY
    → IsBytes body → parts_at body ≡ Some p → variables_in (length p.layout) p.layout p.rest ≡ Some vs
    → are_distinct (paths_of vs) ≡ true
    → record { moment = p.moment; layout = p.layout; values = map (λ v. v.value) vs } ≡ c → IsRecord body c
record_made body p vs c short fits first second once is =
    let f = parts_take body p fits first in
    let r = variables_take (length p.layout) p.layout p.rest vs f.1 second in
    let spelled : body ≡ body_of p.moment p.layout (flat_map value_bytes (map (λ v. v.value) vs)) = f.0
    ∙ ap (λ (x : List ℕ). body_of p.moment p.layout x) (r.1 ∙ values_are vs) in
    subst (λ (d : Content). IsRecord body d) is (record {
      short = short;
      sound = record {
        moment = f.2;
        layout = layout_of p.layout vs r.0 r.2 once;
        values = values_held vs r.2;
        places
            = values_placed vs r.2;
      };
      spelled = spelled;
    })

-- a decoded body is a record of this content
pub of_decoded : (body : List ℕ) (c : Content) → IsBytes body → decoded body ≡ Some c → IsRecord body c
unfolding decoded
of_decoded body c fits e =
    let s = when_kept (nat_le (length body) MAX_RECORD_BODY) (parts_at body >>= λ parts. variables_in
    (length parts.layout) parts.layout parts.rest >>= λ all. cond (are_distinct (map (λ v. v.path) all))
    (Some (record { moment = parts.moment; layout = parts.layout; values = map (λ v. v.value) all })) None) c e in
    let a = bind_some (parts_at body) (λ parts. variables_in (length parts.layout) parts.layout parts.rest >>=
    λ all. cond (are_distinct (map (λ v. v.path) all))
    (Some (record { moment = parts.moment; layout = parts.layout; values = map (λ v. v.value) all })) None) c s.1 in
    let b = bind_some (variables_in (length a.0.layout) a.0.layout a.0.rest)
    (λ all. cond (are_distinct (map (λ v. v.path) all))
    (Some (record { moment = a.0.moment; layout = a.0.layout; values = map (λ v. v.value) all })) None) c a.2 in
    let g = cond_some (are_distinct (paths_of b.0))
    (record { moment = a.0.moment; layout = a.0.layout; values = map (λ v. v.value) b.0 }) c b.2 in
    record_made body a.0 b.0 c (leb-true (length body) MAX_RECORD_BODY s.0) fits a.1 b.1 g.0 g.1

-- a record is decoded, to its content
pub decoded_of : (body : List ℕ) (c : Content) → IsRecord body c → decoded body ≡ Some c
unfolding decoded
decoded_of body c h =
    let layout = h.sound.layout in
    let same : body ≡ body_of c.moment c.layout (flat_map value_bytes c.values) = h.spelled in
    let short : nat_le (length body) MAX_RECORD_BODY ≡ true = le-leb (length body) MAX_RECORD_BODY h.short in
    let long : length c.layout < 2 ^ 32 = layout_below c (omega (arith, h.short, ap length h.spelled)) in
    let first : parts_at body
    ≡ Some (record { moment = c.moment; layout = c.layout; rest = flat_map value_bytes c.values }) =
    ap parts_at same ∙ parts_again c.moment c.layout (flat_map value_bytes c.values) h.sound.moment long in
    let all = variables_again layout.lines c.values (length c.layout) layout.typed layout.sound h.sound.values
    h.sound.places
    (omega (arith, ap length layout.spelled)) in
    let second : variables_in (length c.layout) c.layout (flat_map value_bytes c.values) ≡ Some all.vs =
    ap (λ (t : List ℕ). variables_in (length c.layout) t (flat_map value_bytes c.values)) layout.spelled
    ∙ all.read in
    let once : are_distinct (paths_of all.vs) ≡ true =
    rw all.paths (is_distinct (map (λ l. l.path) layout.lines) layout.once) in
    rw (short, first, second, once, all.found) refl

-- a value has one spelling, and a spelling has one value
pub one_spelling : (a b : List ℕ) (c : Content) → IsRecord a c → IsRecord b c → a ≡ b
one_spelling a b c h k = h.spelled ∙ sym k.spelled

pub one_content : (body : List ℕ) (c d : Content) → IsRecord body c → IsRecord body d → c ≡ d
one_content body c d h k = same_Some c d (sym (decoded_of body c h) ∙ decoded_of body d k)
