-- Why records aren't a plant.
use Rattle.std.specs.Prelude.{◌≡◌, ◌≢◌, ◌<◌, ◌≤◌, List, [], ◌∷◌, ◌++◌, length, drop, Any, ⊤}
use Rattle.st_types.specs.declared.limits.TheConstants.{MAX_ROWS}
use Rattle.st_meaning.specs.declared.plan.PlanInput.{PlanInput}
use Rattle.st_types.specs.Rows.{Latch}
use Rattle.image.specs.Plants.{Fields, IsRowOf, IsHeader, spelled}

-- the first record isn't a header, or there is no record
abbrev pub HasNoHeader : List PlanInput → List Fields → Type 0
HasNoHeader inputs [] = ⊤
HasNoHeader inputs (first ∷ records) = ¬ (IsHeader inputs first)

-- the record spells no row of the inputs: a field is wrong in form, number or range
abbrev pub IsNoRow : List PlanInput → Fields → Type 0
IsNoRow inputs fields = (row : Latch) → IsRowOf inputs row → fields ≢ spelled row

-- some record after the header spells no row
abbrev pub HasWrongField : List PlanInput → List Fields → Type 0
HasWrongField inputs records = Any (IsNoRow inputs) (drop 1 records)

-- of two rows that follow each other, the second is not later
pub record HasNoRise (inputs : List PlanInput) (records : List Fields) : Type 0 where
  pub before : List Fields
  pub first : Latch
  pub second : Latch
  pub behind : List Fields
  pub place : drop 1 records ≡ before ++ (spelled first ∷ spelled second ∷ behind)
  pub first_is : IsRowOf inputs first
  pub second_is : IsRowOf inputs second
  pub not_later : second.moment ≤ first.moment

-- there are more than 10,000 records after the header
abbrev pub HasTooManyRows : List Fields → Type 0
HasTooManyRows records = MAX_ROWS < length (drop 1 records)
