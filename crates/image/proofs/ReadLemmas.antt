-- A reader of records between two records.
use Rattle.std.proofs.Common.{◌≡◌, ◌∙◌, sym, refl, ap, ℕ, ◌<◌, List, [], ◌∷◌, ◌++◌, true, false, Option, map, Some}
use Rattle.std.proofs.Common.{None, Result, Ok, Err, option_map, inl}
use Rattle.csv.specs.Records.{Row, fields_of}
use Rattle.csv.specs.Reading.{Reached, Ready, RowStep, HeaderRowStep, HeaderNext, FailStep, FlexibleStep, ExplainsRead}
use Rattle.csv.specs.Reading.{default_config, error_kind, source_of, stops_reader, strip_bom}
use Rattle.csv.specs.declared.error.Error.{Error}
use Rattle.csv.specs.declared.error.ErrorKind.{ErrorKind}
use Rattle.csv.specs.declared.error.ErrorKind.TheVariants as kind
use Rattle.csv.specs.declared.reader.Reader.{Reader}
use Rattle.csv.specs.declared.reader.Trim.TheVariants as trim
use Rattle.csv.specs.declared.parser.State.TheVariants as st
use Rattle.csv.proofs.ReadFacts.{rows-more, rows-end}
use Rattle.st_meaning.specs.declared.plan.PlanInput.{PlanInput}
use Rattle.st_types.specs.Rows.{Latch}
use Rattle.image.specs.Plants.{AreRowsOf, Fields, IsHeader, spelled}
use Rattle.image.specs.Records.{OfRecords}
use Rattle.image.proofs.RecordsLemmas.{read_begins, read_all}

-- the reader reads plain records, takes none for a header of its own, and lets records have any length
pub record IsPlain {R : Type 0} (a : Reader R) (left : ℕ) : Type 0 where
  pub trims : a.trim ≡ trim.None
  pub ready : Ready a
  pub turns : 0 < left
  pub config : a.config ≡ default_config
  pub flexible : a.flexible ≡ true

-- it has handed out these records of the bytes, if those are known
pub HasRead : {R : Type 0} → (R → Option (List ℕ)) → Option (List ℕ) → List Fields → Reader R → Type 0
HasRead rem known read a = (text : List ℕ) → known ≡ Some text → (ys : List ℕ) × (source_of rem a ≡ Some ys)
    × Reached default_config st.StartRecord (strip_bom text) read a.state ys

-- what `next` reports of a step
abbrev pub Steps : {R : Type 0} → (R → Option (List ℕ)) → Reader R → Reader R → ℕ → Option (Result Row Error) → Type 0
Steps rem a b left r = (Ready a → RowStep rem a b left r) × (HeaderNext a → HeaderRowStep rem a b left r)
    × FailStep a b left r × FlexibleStep a b r

pub plain_more : {R : Type 0} (rem : R → Option (List ℕ)) (a b : Reader R) (n left : ℕ) (x : Row) → IsPlain a n
    → Steps rem a b left (Some (Ok x)) → IsPlain b left
plain_more rem a b n left x plain s =
    let row = s.0 plain.ready in
    record {
      trims = row.0.3 ∙ plain.trims;
      ready = inl row.1;
      turns = row.2;
      config = row.0.2 ∙ plain.config;
      flexible = s.3 ∙ plain.flexible;
    }

pub read_more : {R : Type 0} (rem : R → Option (List ℕ)) (known : Option (List ℕ)) (read : List Fields) (a b : Reader R)
    (n left : ℕ) (x : Row) → IsPlain a n → Steps rem a b left (Some (Ok x))
    → HasRead rem known read a → HasRead rem known (read ++ fields_of x ∷ []) b
unfolding HasRead
read_more rem known read a b n left x plain s has = λ text is.
    let (ys, at, reached) = has text is in
    rows-more rem a b (fields_of x) default_config st.StartRecord (strip_bom text) ys read plain.config at reached
    (s.0 plain.ready).0

-- the only errors are those that stop a reader
explained : {R : Type 0} (rem : R → Option (List ℕ)) (a b : Reader R) (k : ErrorKind) → a.flexible ≡ true
    → ExplainsRead rem a b false k → stops_reader k ≡ true
explained rem a b (kind.Io e) flexible why = refl
explained rem a b kind.OutOfMemory flexible why = refl
explained rem a b (kind.UnequalLengths pos expected len) flexible why = let no = why.0 in cc
explained rem a b (kind.Utf8 pos err) flexible why = let no = why.0 in cc
explained rem a b (kind.Serialize text) flexible why = absurd why
explained rem a b (kind.Deserialize pos err) flexible why = absurd why

pub only_stops : {R : Type 0} (rem : R → Option (List ℕ)) (a b : Reader R) (n left : ℕ) (e : Error) → IsPlain a n
    → Steps rem a b left (Some (Err e)) → stops_reader (error_kind e) ≡ true
only_stops rem a b n left e plain s = explained rem a b (error_kind e) plain.flexible (s.0 plain.ready)

-- the records that were read are a beginning of those of the bytes
pub begins : {R : Type 0} (rem : R → Option (List ℕ)) (known : Option (List ℕ)) (read : List Fields) (a : Reader R)
    (P : List Fields → Type 0) → HasRead rem known read a
    → ((rest : List Fields) → P (read ++ rest)) → OfRecords known P
unfolding HasRead
begins rem None read a P has holds = tt
begins rem (Some text) read a P has holds =
    let (ys, at, reached) = has text refl in
    let (rest, is) = read_begins text read a.state ys reached in
    rw is (holds rest)

-- at the end they are all of them
pub ended : {R : Type 0} (rem : R → Option (List ℕ)) (known : Option (List ℕ)) (read : List Fields) (a b : Reader R)
    (n left : ℕ) (P : List Fields → Type 0) → IsPlain a n → Steps rem a b left None
    → HasRead rem known read a → P read → OfRecords known P
unfolding HasRead
ended rem None read a b n left P plain s has holds = tt
ended rem (Some text) read a b n left P plain s has holds =
    let (ys, at, reached) = has text refl in
    let none = rows-end rem a b [] default_config ys plain.config at (s.0 plain.ready) in
    rw (read_all text read a.state ys reached none) holds

-- a reader that was just made has read nothing
pub opened_read : {R : Type 0} (rem : R → Option (List ℕ)) (known : Option (List ℕ)) (a made : Reader R) → a ≡ made
    → made.state ≡ st.StartRecord → source_of rem made ≡ option_map strip_bom known → HasRead rem known [] a
unfolding HasRead Reached
opened_read rem known a made is state source =
    λ text k. (strip_bom text, rw is (source ∙ ap (option_map strip_bom) k), (rw is (sym state), refl))

-- after a header and the records of these rows
pub record IsReading {R : Type 0} (rem : R → Option (List ℕ)) (known : Option (List ℕ)) (inputs : List PlanInput)
    (rows : List Latch) (a : Reader R) (left : ℕ) : Type 0 where
  pub plain : IsPlain a left
  pub header : Fields
  pub names : IsHeader inputs header
  pub has : HasRead rem known (header ∷ map spelled rows) a
  pub rows_are : AreRowsOf inputs rows
