-- The content that a body spells, as far as it is read.
use Rattle.std.proofs.Common.{◌≡◌, ℕ, ◌*◌, ◌<◌, ◌≤◌, Bool, true, false, cond, List, [], ◌∷◌, length, map, Option, Some}
use Rattle.std.proofs.Common.{None, refl, sym, ap, ◌∙◌, arith}
use Rattle.std.specs.Prelude.{nat_le}
use Rattle.std.specs.List.{flat_map, AllByRecursion}
use Rattle.std.proofs.lemmas.Bool.{le-leb, lt-leb}
use Rattle.std.proofs.lemmas.List.{length-map}
use Rattle.retain_records.specs.declared.sizes.TheConstants.{MAX_LAYOUT_BYTES, MAX_LINES}
use Rattle.st_types.specs.declared.limits.TheConstants.{MAX_RECORD_BODY}
use Rattle.st_types.specs.Values.{Datum}
use Rattle.retain_records.specs.Records.{Content, Line, text_of, IsLine, value_bytes, record_bytes, IsRecordable}
use Rattle.retain_records.specs.Reading.{Parts, parts_at, variables_in, are_distinct, path_from, AreVariables, decoded}
use Rattle.retain_records.specs.FieldLaws.{IsBytes}
use Rattle.retain_records.specs.RecordLaws.{parts_take, body_length}
use Rattle.retain_records.proofs.ReadingLemmas.{line_long}

pub decoded_long : (body : List ℕ) → MAX_RECORD_BODY < length body → decoded body ≡ None
unfolding decoded
decoded_long body long = let test : nat_le (length body) MAX_RECORD_BODY ≡ false =
    lt-leb (length body) MAX_RECORD_BODY long in rw test refl

pub decoded_no_parts : (body : List ℕ) → parts_at body ≡ None → decoded body ≡ None
unfolding decoded
decoded_no_parts body none = rw none (neither (nat_le (length body) MAX_RECORD_BODY))
  where
    neither : (b : Bool) → cond {A = Option Content} b None None ≡ None
    neither true = refl
    neither false = refl

pub decoded_no_variables : (body : List ℕ) (p : Parts) → length body ≤ MAX_RECORD_BODY → parts_at body ≡ Some p
    → variables_in (length p.layout) p.layout p.rest ≡ None → decoded body ≡ None
unfolding decoded
decoded_no_variables body p short parts none = let test : nat_le (length body) MAX_RECORD_BODY ≡ true =
    le-leb (length body) MAX_RECORD_BODY short in rw (test, parts, none) refl

pub decoded_by_paths : (body : List ℕ) (p : Parts) (starts : List ℕ) (values : List Datum) (once : Bool)
    → length body ≤ MAX_RECORD_BODY → parts_at body ≡ Some p → AreVariables p.layout p.rest starts values
    → are_distinct (map (path_from p.layout) starts) ≡ once
    → decoded body ≡ cond once (Some (record { moment = p.moment; layout = p.layout; values = values })) None
unfolding decoded
decoded_by_paths body p starts values once short parts read paths =
    let test : nat_le (length body) MAX_RECORD_BODY ≡ true = le-leb (length body) MAX_RECORD_BODY short in
    let same : are_distinct (map (λ v. v.path) read.vs) ≡ once = ap are_distinct (sym read.paths) ∙ paths in
    rw (test, parts, read.read, same, ← read.found) refl

pub layout_short : (body : List ℕ) (p : Parts) → IsBytes body → parts_at body ≡ Some p → length body ≤ MAX_RECORD_BODY
    → length p.layout ≤ MAX_LAYOUT_BYTES
layout_short body p fits parts short = let t = parts_take body p fits parts in
    omega (arith, ap length t.0, body_length p.moment p.layout p.rest)

-- ---- as many values as lines, of at least six bytes each

lines_long : (lines : List Line) → AllByRecursion IsLine lines
    → 6 * length lines ≤ length (text_of lines)
lines_long [] sound = omega arith
lines_long (l ∷ lines) sound = omega (arith, line_long l (text_of lines) sound.0, lines_long lines sound.1)

pub values_few : (c : Content) → IsRecordable c → length (record_bytes c) ≤ MAX_RECORD_BODY
    → length c.values ≤ MAX_LINES
values_few c sound short =
    let same : length c.values ≡ length sound.layout.lines = sym (length-map c.values (λ d. d.kind))
    ∙ ap length sound.layout.typed ∙ length-map sound.layout.lines (λ l. l.kind) in
    let text : length c.layout ≡ length (text_of sound.layout.lines) = ap length sound.layout.spelled in
    omega (
      arith,
      body_length c.moment c.layout (flat_map value_bytes c.values),
      lines_long sound.layout.lines sound.layout.sound,
    )
