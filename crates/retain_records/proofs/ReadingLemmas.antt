-- The invariant of a loop over the lines and their values.
use Rattle.std.proofs.Common.{◌≡◌, ℕ, zero, suc, ◌+◌, ◌-◌, ◌*◌, ◌<◌, ◌≤◌, Bool, true, false, List, [], ◌∷◌, ◌++◌}
use Rattle.std.proofs.lemmas.Bool.{and_parts}
use Rattle.std.proofs.Common.{length, map, drop, Option, Some, None, refl, sym, ap, ◌∙◌, arith, append_assoc, lit≤}
use Rattle.std.specs.Prelude.{◌==◌}
use Rattle.std.specs.List.{list_all}
use Rattle.std.proofs.lemmas.Bool.{eqb-true, eqb-false}
use Rattle.std.proofs.lemmas.List.{length-append, append-nil, map_push, length_push, drop_at, drop-drop}
use Rattle.retain_records.specs.declared.sizes.TheConstants.{MAX_LAYOUT_BYTES, MAX_LINES}
use Rattle.st_types.specs.declared.kind.Kind.{Kind}
use Rattle.st_types.specs.declared.kind.Kind.TheVariants.{Sint, Int, Dint, Lint, Usint, Uint, Udint, Ulint, Byte, Word}
use Rattle.st_types.specs.declared.kind.Kind.TheVariants.{Dword, Lword, Time, Bool as Boolean, Enumerated}
use Rattle.st_types.specs.Kinds.{row_of}
use Rattle.st_types.specs.Values.{Datum}
use Rattle.retain_records.specs.Records.{Line, line_text, is_path_text, has_keyword, IsLine, SpellsKind, by_keyword}
use Rattle.st_types.specs.UpperNames.{is_upper_name, joined}
use Rattle.retain_records.specs.Records.{by_names}
use Rattle.retain_records.specs.Splits.{◌>>=◌, split_at}
use Rattle.retain_records.specs.Reading.{line_at, value_at, RecordedVariable, variable_at, variables_in}
use Rattle.retain_records.specs.Reading.{path_from, first_word, AreVariables}
use Rattle.retain_records.specs.SplitLaws.{bind_some, split_again}
use Rattle.retain_records.specs.LineLaws.{line_parts, line_takes, path_has_no_space, recorded_variable}
use Rattle.std.proofs.lemmas.Option.{same_Some}

-- variables before, and those that are read
abbrev pub with_front : List RecordedVariable → Option (List RecordedVariable) → Option (List RecordedVariable)
with_front front o = o >>= λ vs. Some (front ++ vs)

-- some lines and values are read, and the rest is left
pub record Reads (text bytes left rest starts : List ℕ) (values : List Datum) : Type 0 where
  pub most : ℕ
  pub done : List RecordedVariable
  pub enough : length left ≤ most
  pub so_far : with_front done (variables_in most left rest) ≡ variables_in (length text) text bytes
  pub found : values ≡ map (λ v. v.value) done
  pub paths : map (path_from text) starts ≡ map (λ v. v.path) done
  pub offset : left ≡ drop (length text - length left) text
  pub lines : 6 * length starts + length left ≤ length text
  pub counted : length values ≡ length starts

keyword_long : (k : Kind) → has_keyword k ≡ true → 3 ≤ length (row_of k).keyword
keyword_long Sint named = lit≤ tt
keyword_long Int named = lit≤ tt
keyword_long Dint named = lit≤ tt
keyword_long Lint named = lit≤ tt
keyword_long Usint named = lit≤ tt
keyword_long Uint named = lit≤ tt
keyword_long Udint named = lit≤ tt
keyword_long Ulint named = lit≤ tt
keyword_long Byte named = lit≤ tt
keyword_long Word named = lit≤ tt
keyword_long Dword named = lit≤ tt
keyword_long Lword named = lit≤ tt
keyword_long Time named = lit≤ tt
keyword_long Boolean named = lit≤ tt
keyword_long (Enumerated names number) named = absurd cc

path_long : (path : List ℕ) → is_path_text path ≡ true → 1 ≤ length path
path_long [] h = absurd cc
path_long (b ∷ bytes) h = omega arith

joined_long : (names : List (List ℕ)) → list_all is_upper_name names ≡ true → 0 < length names
    → 1 ≤ length (joined names)
joined_long [] each some = absurd (omega (arith, some))
joined_long ([] ∷ names) each some = let bad : false
    ≡ true = (and_parts false (list_all is_upper_name names) each).0 in absurd cc
joined_long ((b ∷ x) ∷ []) each some = omega arith
joined_long ((b ∷ x) ∷ y ∷ ys) each some = omega arith

spelling_long : (word : List ℕ) (k : Kind) → SpellsKind word k → 3 ≤ length word
spelling_long word k (by_keyword named is) = omega (arith, keyword_long k named, ap length is)
spelling_long word k (by_names n is e) = omega (
  arith,
  ap length e.spelled,
  joined_long e.names e.each e.some,
  length-append (40 ∷ joined e.names) (41 ∷ []),
)

-- a line has at least six bytes
pub line_long : (l : Line) (rest : List ℕ) → IsLine l → 6 + length rest ≤ length (line_text l ++ rest)
line_long l rest sound = omega (
  arith,
  spelling_long l.spelling l.kind sound.spells,
  path_long l.path sound.path,
  ap length (line_parts l rest),
  length-append l.path (32 ∷ (l.spelling ++ 10 ∷ rest)),
  length-append l.spelling (10 ∷ rest),
)

-- the line of a variable that is read
pub variable_line : (text bytes : List ℕ) (p : RecordedVariable × List ℕ × List ℕ) → variable_at text bytes ≡ Some p
    → (l : Line) × (text ≡ line_text l ++ p.1) × IsLine l × (p.0.path ≡ l.path)
unfolding variable_at
variable_line text bytes p e =
    let a = bind_some (line_at text) (λ line. value_at line.0.kind bytes >>=
    λ value. Some (recorded_variable line.0 value.0, line.1, value.1)) p e in
    let b = bind_some (value_at a.0.0.kind bytes)
    (λ value. Some (recorded_variable a.0.0 value.0, a.0.1, value.1)) p a.2 in
    let l = line_takes text a.0 a.1 in
    let is : (recorded_variable a.0.0 b.0.0, a.0.1, b.0.1) ≡ p =
    same_Some (recorded_variable a.0.0 b.0.0, a.0.1, b.0.1) p b.2 in (
      a.0.0,
      l.0 ∙ ap (λ (q : RecordedVariable × List ℕ × List ℕ). line_text a.0.0 ++ q.1) is,
      l.1,
      sym (ap (λ (q : RecordedVariable × List ℕ × List ℕ). q.0.path) is),
    )

-- the path where a line begins
path_there : (text left behind : List ℕ) (start : ℕ) (l : Line) → left ≡ drop start text → left ≡ line_text l ++ behind
    → IsLine l → path_from text start ≡ l.path
path_there text left behind start l offset is sound =
    let line : drop start text ≡ l.path ++ 32 ∷ (l.spelling ++ 10 ∷ behind) = sym offset ∙ is
    ∙ line_parts l behind in
    ap (λ (t : List ℕ). first_word (split_at 32 t)) line
    ∙ ap first_word (split_again 32 l.path (l.spelling ++ 10 ∷ behind) (path_has_no_space l.path sound.path))

with_nothing : (o : Option (List RecordedVariable)) → with_front [] o ≡ o
with_nothing None = refl
with_nothing (Some vs) = refl

regroup : (front : List RecordedVariable) (v : RecordedVariable) (o : Option (List RecordedVariable))
    → with_front front (o >>= λ vs. Some (v ∷ vs)) ≡ with_front (front ++ v ∷ []) o
regroup front v None = refl
regroup front v (Some vs) = ap (λ (ws : List RecordedVariable). Some ws) (sym (append_assoc front (v ∷ []) vs))

-- one more variable
more_so_far : (most : ℕ) (left rest : List ℕ) (done : List RecordedVariable) (total : Option (List RecordedVariable))
    (p : RecordedVariable × List ℕ × List ℕ) → 0 < length left → length left ≤ most → variable_at left rest ≡ Some p
    → with_front done (variables_in most left rest) ≡ total
    → (m : ℕ) × (most ≡ suc m) × (with_front (done ++ p.0 ∷ []) (variables_in m p.1 p.2) ≡ total)
unfolding variables_in
more_so_far zero left rest done total p some enough e so_far = absurd (omega arith)
more_so_far (suc most) [] rest done total p some enough e so_far = absurd (omega arith)
more_so_far (suc most) (c ∷ left) rest done total p some enough e so_far =
    let step : with_front done (variable_at (c ∷ left) rest >>=
    λ first. variables_in most first.1 first.2 >>= λ others. Some (first.0 ∷ others)) ≡ with_front
    (done ++ p.0 ∷ []) (variables_in most p.1 p.2) = rw e (regroup done p.0 (variables_in most p.1 p.2)) in
    (most, refl, sym step ∙ so_far)

-- no variable there
none_so_far : (most : ℕ) (left rest : List ℕ) (done : List RecordedVariable) (total : Option (List RecordedVariable))
    → 0 < length left → variable_at left rest ≡ None → with_front done (variables_in most left rest) ≡ total
    → total ≡ None
unfolding variables_in
none_so_far most [] rest done total some none so_far = absurd (omega arith)
none_so_far zero (c ∷ left) rest done total some none so_far = sym so_far
none_so_far (suc most) (c ∷ left) rest done total some none so_far =
    let step : with_front done (variable_at (c ∷ left) rest >>=
    λ first. variables_in most first.1 first.2 >>= λ others. Some (first.0 ∷ others)) ≡ None = rw none refl in
    sym so_far ∙ step

all_so_far : (most : ℕ) (left : List ℕ) (done : List RecordedVariable) (total : Option (List RecordedVariable))
    → length left ≡ 0 → with_front done (variables_in most left []) ≡ total → total ≡ Some done
unfolding variables_in
all_so_far most [] done total end so_far = sym so_far ∙ ap (λ (vs : List RecordedVariable). Some vs) (append-nil done)
all_so_far most (c ∷ left) done total end so_far = absurd (omega arith)

over_so_far : (most : ℕ) (left rest : List ℕ) (done : List RecordedVariable) (total : Option (List RecordedVariable))
    → length left ≡ 0 → 0 < length rest → with_front done (variables_in most left rest) ≡ total → total ≡ None
unfolding variables_in
over_so_far most [] [] done total end some so_far = absurd (omega arith)
over_so_far most [] (b ∷ rest) done total end some so_far = sym so_far
over_so_far most (c ∷ left) rest done total end some so_far = absurd (omega arith)

pub reads_none : (text bytes : List ℕ) → Reads text bytes text bytes [] []
reads_none text bytes = record {
  most = length text;
  done = [];
  enough = omega arith;
  so_far = with_nothing (variables_in (length text) text bytes);
  found = refl;
  paths = refl;
  offset = let none : length text - length text ≡ 0 = omega arith in rw none refl;
  lines = omega arith;
  counted = refl;
}

offset_behind : (text left behind : List ℕ) (start : ℕ) (l : Line) → left ≡ drop start text
    → left ≡ line_text l ++ behind → length left ≤ length text → start ≡ length text - length left
    → behind ≡ drop (length text - length behind) text
offset_behind text left behind start l offset is within at =
    let sizes : length left ≡ length (line_text l) + length behind = ap length is
    ∙ length-append (line_text l) behind in
    let far : length text - length behind ≡ start + length (line_text l) = omega arith in
    let inner : drop (length (line_text l)) left ≡ behind = ap (drop (length (line_text l))) is
    ∙ drop_at (line_text l) behind (length (line_text l)) refl in
    sym inner ∙ ap (drop (length (line_text l))) offset ∙ drop-drop (length (line_text l)) start text
    ∙ ap (λ (n : ℕ). drop n text) (sym far)

pub reads_more :
    (text bytes left rest starts : List ℕ) (values : List Datum) (p : RecordedVariable × List ℕ × List ℕ) (start : ℕ)
    → Reads text bytes left rest starts values → variable_at left rest ≡ Some p → start ≡ length text - length left
    → Reads text bytes p.1 p.2 (starts ++ start ∷ []) (values ++ p.0.value ∷ []) × (length p.1 < length left)
reads_more text bytes left rest starts values p start r e is =
    let l = variable_line left rest p e in
    let long : 6 + length p.1 ≤ length left = let at : 6 + length p.1 ≤ length (line_text l.0 ++ p.1) =
    line_long l.0 p.1 l.2 in omega (arith, at, ap length l.1) in
    let s = more_so_far r.most left rest r.done (variables_in (length text) text bytes) p (omega arith) r.enough e
    r.so_far in
    let there : left ≡ drop start text = r.offset ∙ ap (λ (n : ℕ). drop n text) (sym is) in (
      record {
        most = s.0;
        done = r.done ++ p.0 ∷ [];
        enough = omega (arith, s.1, r.enough);
        so_far = s.2;
        found = ap (λ (ds : List Datum). ds ++ p.0.value ∷ []) r.found ∙ sym (map_push (λ v. v.value) r.done p.0);
        paths = map_push (path_from text) starts start
            ∙ ap (λ (ps : List (List ℕ)). ps ++ path_from text start ∷ []) r.paths
            ∙ ap (λ (q : List ℕ). map (λ v. v.path) r.done ++ q ∷ [])
            (path_there text left p.1 start l.0 there l.1 l.2 ∙ sym l.3) ∙ sym (map_push (λ v. v.path) r.done p.0);
        offset = offset_behind text left p.1 start l.0 there l.1 (omega (arith, r.lines)) is;
        lines = omega (arith, r.lines, length_push starts start);
        counted = omega (arith, r.counted, length_push starts start, length_push values p.0.value);
      },
      omega arith,
    )

-- there is room for one more
pub reads_room : (text bytes left rest starts : List ℕ) (values : List Datum) (p : RecordedVariable × List ℕ × List ℕ)
    → Reads text bytes left rest starts values → variable_at left rest ≡ Some p → length text ≤ MAX_LAYOUT_BYTES
    → (length starts < MAX_LINES) × (length values < MAX_LINES)
reads_room text bytes left rest starts values p r e short =
    let l = variable_line left rest p e in
    let long : 6 + length p.1 ≤ length left = let at : 6 + length p.1 ≤ length (line_text l.0 ++ p.1) =
    line_long l.0 p.1 l.2 in omega (arith, at, ap length l.1) in
    (omega (arith, r.lines), omega (arith, r.lines, r.counted))

pub reads_stop : (text bytes left rest starts : List ℕ) (values : List Datum) → Reads text bytes left rest starts values
    → 0 < length left → variable_at left rest ≡ None → variables_in (length text) text bytes ≡ None
reads_stop text bytes left rest starts values r some none =
    none_so_far r.most left rest r.done (variables_in (length text) text bytes) some none r.so_far

pub reads_all : (text bytes left rest starts : List ℕ) (values : List Datum) → Reads text bytes left rest starts values
    → length left ≡ 0 → length rest ≡ 0 → AreVariables text bytes starts values
reads_all text bytes left [] starts values r end none = record {
  vs = r.done;
  read = all_so_far r.most left r.done (variables_in (length text) text bytes) end r.so_far;
  paths = r.paths;
  found = r.found;
}
reads_all text bytes left (b ∷ rest) starts values r end none = absurd (omega arith)

pub reads_over : (text bytes left rest starts : List ℕ) (values : List Datum) → Reads text bytes left rest starts values
    → length left ≡ 0 → 0 < length rest → variables_in (length text) text bytes ≡ None
reads_over text bytes left rest starts values r end some =
    over_so_far r.most left rest r.done (variables_in (length text) text bytes) end some r.so_far

-- the result of a test of a list's length
pub some_left : {X : Type 0} (xs : List X) (b : Bool) → b ≡ (length xs == 0) → b ≡ false → 0 < length xs
some_left xs b is none = let ne : length xs ≡ 0 → ⊥ = eqb-false (length xs) 0 (sym is ∙ none) in omega arith

pub none_left : {X : Type 0} (xs : List X) (b : Bool) → b ≡ (length xs == 0) → b ≡ true → length xs ≡ 0
none_left xs b is all = eqb-true (length xs) 0 (sym is ∙ all)
