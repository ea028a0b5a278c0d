-- Recorded plants: which records spell which rows.
use Rattle.std.specs.Prelude.{[], ◌++◌, ◌≡◌, ℕ, ◌<◌, ◌≤◌, List, ◌∷◌, length, map, All, true, codes}
use Rattle.std.specs.Char.{to_ascii_lowercase}
use Rattle.std.specs.Fmt.{decimal, signed_decimal}
use Rattle.std.specs.List.Sorted.{IsStrictlyIncreasing}
use Rattle.st_types.specs.declared.limits.TheConstants.{MAX_ROWS, MOMENT_LIMIT}
use Rattle.st_meaning.specs.declared.plan.PlanInput.{PlanInput}
use Rattle.st_types.specs.Values.{Datum}
use Rattle.st_types.specs.Rows.{Latch}
use Rattle.st_meaning.specs.Plans.{holds_each}

-- the fields of a record, each the list of its bytes
abbrev pub Fields : Type 0
Fields = List (List ℕ)

-- a row has a value of its type for each input, and its moment is at most 4,611,686,018,427,387,903
abbrev pub IsRowOf : List PlanInput → Latch → Type 0
IsRowOf inputs row = (holds_each inputs row.image ≡ true) × (row.moment < MOMENT_LIMIT)

-- rows of a plant: their moments rise, and there are at most 10,000
pub record AreRowsOf (inputs : List PlanInput) (rows : List Latch) : Type 0 where
  pub each : All (IsRowOf inputs) rows
  pub rising : IsStrictlyIncreasing (map (λ r. r.moment) rows)
  pub few : length rows ≤ MAX_ROWS

-- the fields that spell values: their numbers in decimal
abbrev pub spelled_values : List Datum → Fields
spelled_values values = map (λ v. signed_decimal v.number) values

-- the record that spells a row: its moment in decimal, and its values in order
abbrev pub spelled : Latch → Fields
spelled row = decimal row.moment ∷ spelled_values row.image

-- the names of the columns: `t`, and those of the inputs in declaration order
abbrev pub columns : List PlanInput → Fields
columns inputs = codes "t" ∷ map (λ i. i.path.name) inputs

-- names without regard to the case of their letters
abbrev pub without_case : Fields → Fields
without_case names = map (map to_ascii_lowercase) names

-- the record names the columns, in any case
abbrev pub IsHeader : List PlanInput → Fields → Type 0
IsHeader inputs fields = without_case fields ≡ without_case (columns inputs)

-- These records are a plant of these rows: a header, and after it a record for each row.
pub record IsPlant (inputs : List PlanInput) (rows : List Latch) (records : List Fields) : Type 0 where
  pub header : Fields
  pub names : IsHeader inputs header
  pub spelling : records ≡ header ∷ map spelled rows
  pub rows_are : AreRowsOf inputs rows

-- the moment is later than that of the last row, if there is one
abbrev pub IsLater : List Latch → ℕ → Type 0
IsLater rows moment = (before : List Latch) (last : Latch) → rows ≡ before ++ last ∷ [] → last.moment < moment

-- there is a last row, and the moment is not later than its own
abbrev pub IsNotLater : List Latch → ℕ → Type 0
IsNotLater rows moment = (before : List Latch) × (last : Latch) × (rows ≡ before ++ last ∷ []) × (moment ≤ last.moment)
