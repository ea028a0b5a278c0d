-- A plant, record by record.
use Rattle.std.proofs.Common.{◌≡◌, ◌∙◌, sym, refl, ap, subst, ℕ, ◌+◌, ◌<◌, List, [], ◌∷◌, ◌++◌, append_assoc, length}
use Rattle.std.proofs.Common.{map, get_or, All, true, false, Option, Some, None, Ok, inr, arith}
use Rattle.std.proofs.lemmas.List.{get_or_at, length-append, length-map, map-append}
use Rattle.std.proofs.lemmas.List.Elements.{All-nil}
use Rattle.st_types.specs.declared.limits.TheConstants.{MAX_ROWS}
use Rattle.csv.specs.Records.{Row, fields_of}
use Rattle.csv.specs.Reading.{default_config}
use Rattle.csv.specs.declared.reader.Reader.{Reader}
use Rattle.csv.specs.declared.reader.Trim.TheVariants as trim
use Rattle.st_meaning.specs.declared.plan.PlanInput.{PlanInput}
use Rattle.st_types.specs.Rows.{Latch}
use Rattle.image.specs.Plants.{AreRowsOf, Fields, IsHeader, IsNotLater, IsPlant, IsRowOf, spelled}
use Rattle.image.specs.Faults.{HasNoHeader, HasNoRise, HasTooManyRows, HasWrongField, IsNoRow}
use Rattle.image.specs.Records.{OfRecords}
use Rattle.image.proofs.ReadLemmas.{IsPlain, HasRead, Steps, IsReading, plain_more, read_more, begins, ended}

-- a reader that was just made
pub opened_plain : {R : Type 0} (a made : Reader R) (left : ℕ) → a ≡ made → made.trim ≡ trim.None
    → made.has_headers ≡ false → made.headers ≡ None → made.config ≡ default_config → made.flexible ≡ true → 0 < left
    → IsPlain a left
opened_plain a made left is t h n c f l =
    record { trims = rw is t; ready = rw is (inr (inr (h, n))); turns = l; config = rw is c; flexible = rw is f }

-- no record at all
pub no_header : {R : Type 0} (rem : R → Option (List ℕ)) (known : Option (List ℕ)) (inputs : List PlanInput)
    (a b : Reader R) (n left : ℕ) → IsPlain a n → HasRead rem known [] a → Steps rem a b left None
    → OfRecords known (HasNoHeader inputs)
no_header rem known inputs a b n left plain has s = ended rem known [] a b n left (HasNoHeader inputs) plain s has tt

-- a first record that isn't a header
pub wrong_header : {R : Type 0} (rem : R → Option (List ℕ)) (known : Option (List ℕ)) (inputs : List PlanInput)
    (a b : Reader R) (n left : ℕ) (x : Row) → IsPlain a n → HasRead rem known [] a → Steps rem a b left (Some (Ok x))
    → (IsHeader inputs (fields_of x) → ⊥) → OfRecords known (HasNoHeader inputs)
wrong_header rem known inputs a b n left x plain has s wrong = begins rem known (fields_of x ∷ []) b
    (HasNoHeader inputs) (read_more rem known [] a b n left x plain s has) (λ rest. wrong)

-- after the header
pub first_reading : {R : Type 0} (rem : R → Option (List ℕ)) (known : Option (List ℕ)) (inputs : List PlanInput)
    (rows : List Latch) (a b : Reader R) (n left : ℕ) (x : Row) → rows ≡ [] → IsPlain a n → HasRead rem known [] a
    → Steps rem a b left (Some (Ok x)) → IsHeader inputs (fields_of x) → IsReading rem known inputs rows b left
first_reading rem known inputs rows a b n left x none plain has s names = record {
  plain = plain_more rem a b n left x plain s;
  header = fields_of x;
  names = names;
  has = rw none (read_more rem known [] a b n left x plain s has);
  rows_are =
      rw none (record { each = All-nil (IsRowOf inputs); rising = λ k less. absurd (omega arith); few = omega arith });
}

-- the records that were read, with one more after the rows
read_row : {R : Type 0} (rem : R → Option (List ℕ)) (known : Option (List ℕ)) (inputs : List PlanInput)
    (rows : List Latch) (a b : Reader R) (n left : ℕ) (x : Row) (P : List Fields → Type 0)
    → IsReading rem known inputs rows a n
    → Steps rem a b left (Some (Ok x))
    → ((header : Fields) (rest : List Fields) → P (header ∷ (map spelled rows ++ fields_of x ∷ rest)))
    → OfRecords known P
read_row rem known inputs rows a b n left x P reading s holds =
    begins rem known ((reading.header ∷ map spelled rows) ++ fields_of x ∷ []) b P
    (read_more rem known (reading.header ∷ map spelled rows) a b n left x reading.plain s reading.has)
    (λ rest. subst P (sym (append_assoc (reading.header ∷ map spelled rows) (fields_of x ∷ []) rest))
    (holds reading.header rest))

pub wrong_field : {R : Type 0} (rem : R → Option (List ℕ)) (known : Option (List ℕ)) (inputs : List PlanInput)
    (rows : List Latch) (a b : Reader R) (n left : ℕ) (x : Row) → IsReading rem known inputs rows a n
    → Steps rem a b left (Some (Ok x)) → IsNoRow inputs (fields_of x) → OfRecords known (HasWrongField inputs)
wrong_field rem known inputs rows a b n left x reading s wrong =
    read_row rem known inputs rows a b n left x (HasWrongField inputs) reading s (λ header rest. (
      length (map spelled rows),
      fields_of x,
      omega (arith, length-append (map spelled rows) (fields_of x ∷ rest)),
      get_or_at (map spelled rows) (fields_of x) rest (fields_of x) (length (map spelled rows)) refl,
      wrong,
    ))

last_is : (P : Latch → Type 0) (rows before : List Latch) (last : Latch) → rows ≡ before ++ last ∷ [] → All P rows
    → P last
last_is P rows before last e all =
    let long : length (before ++ last ∷ []) ≡ length before + 1 = length-append before (last ∷ []) in
    let at : get_or (before ++ last ∷ []) (length before) last ≡ last =
    get_or_at before last [] last (length before) refl in
    let all_there : All P (before ++ last ∷ []) = rw e at all in
    subst P at (all_there (length before) last (omega arith))

pub no_rise : {R : Type 0} (rem : R → Option (List ℕ)) (known : Option (List ℕ)) (inputs : List PlanInput)
    (rows : List Latch) (a b : Reader R) (n left : ℕ) (x : Row) → IsReading rem known inputs rows a n
    → Steps rem a b left (Some (Ok x)) → (row : Latch) → IsRowOf inputs row → fields_of x ≡ spelled row
    → IsNotLater rows row.moment → OfRecords known (HasNoRise inputs)
no_rise rem known inputs rows a b n left x reading s row fits is late =
    let (before, last, parts, not_later) = late in
    read_row rem known inputs rows a b n left x (HasNoRise inputs) reading s (λ header rest. record {
      before = map spelled before;
      first = last;
      second = row;
      behind = rest;
      place =
          ap (λ rs. map spelled rs ++ fields_of x ∷ rest) parts
          ∙ (ap (λ fs. fs ++ fields_of x ∷ rest) (map-append spelled before (last ∷ []))
          ∙ (append_assoc (map spelled before) (spelled last ∷ []) (fields_of x ∷ rest)
          ∙ ap (λ f. map spelled before ++ (spelled last ∷ f ∷ rest)) is));
      first_is = last_is (IsRowOf inputs) rows before last parts reading.rows_are.each;
      second_is = fits;
      not_later = not_later;
    })

pub too_many : {R : Type 0} (rem : R → Option (List ℕ)) (known : Option (List ℕ)) (inputs : List PlanInput)
    (rows : List Latch) (a b : Reader R) (n left : ℕ) (x : Row) → IsReading rem known inputs rows a n
    → Steps rem a b left (Some (Ok x)) → length rows ≡ MAX_ROWS → OfRecords known HasTooManyRows
too_many rem known inputs rows a b n left x reading s full =
    read_row rem known inputs rows a b n left x HasTooManyRows reading s (λ header rest.
    let long = length-append (map spelled rows) (fields_of x ∷ rest) in
    let same = length-map rows spelled in
    omega arith)

pub next_reading : {R : Type 0} (rem : R → Option (List ℕ)) (known : Option (List ℕ)) (inputs : List PlanInput)
    (rows more : List Latch) (a b : Reader R) (n left : ℕ) (x : Row) → IsReading rem known inputs rows a n
    → Steps rem a b left (Some (Ok x)) → (row : Latch) × (more ≡ rows ++ row ∷ []) × (fields_of x ≡ spelled row)
    → AreRowsOf inputs more → IsReading rem known inputs more b left
next_reading rem known inputs rows more a b n left x reading s added are =
    let (row, items, is) = added in
    let same : (reading.header ∷ map spelled rows) ++ fields_of x ∷ [] ≡ reading.header ∷ map spelled more =
    ap (λ f. (reading.header ∷ map spelled rows) ++ f ∷ []) is
    ∙ (ap (λ fs. reading.header ∷ fs) (sym (map-append spelled rows (row ∷ [])))
    ∙ ap (λ rs. reading.header ∷ map spelled rs) (sym items)) in
    record {
      plain = plain_more rem a b n left x reading.plain s;
      header = reading.header;
      names = reading.names;
      has = subst (λ read. HasRead rem known read b) same
          (read_more rem known (reading.header ∷ map spelled rows) a b n left x reading.plain s reading.has);
      rows_are = are;
    }

pub whole_plant : {R : Type 0} (rem : R → Option (List ℕ)) (known : Option (List ℕ)) (inputs : List PlanInput)
    (rows : List Latch) (a b : Reader R) (n left : ℕ) → IsReading rem known inputs rows a n → Steps rem a b left None
    → OfRecords known (IsPlant inputs rows)
whole_plant rem known inputs rows a b n left reading s =
    ended rem known (reading.header ∷ map spelled rows) a b n left (IsPlant inputs rows) reading.plain s reading.has
    (record { header = reading.header; names = reading.names; spelling = refl; rows_are = reading.rows_are })
