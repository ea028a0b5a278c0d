-- The meaning of a value of an enumerated type, as a text writes it.
use Rattle.std.specs.Prelude.{ℕ, List, [], ◌∷◌, Option, Some, None}
use Rattle.st_types.specs.declared.literal.EnumeratedValue.{EnumeratedValue}
use Rattle.st_meaning.specs.Scopes.{Name}
use Rattle.st_meaning.specs.Enumerations.{Member, enumerations_of, members_named, member_of_type}
use Rattle.st_meaning.specs.NameTypes.{Declared}
use Rattle.st_rules.specs.declared.reason.Reason.TheVariants.{Undeclared, Ambiguous}
use Rattle.st_rules.specs.declared.rule.Broken.{Broken}
use Rattle.st_rules.specs.Faults.{breaking}

pub data Reading : Type 0 where
  value : Member → Reading
  -- no enumerated type has the name
  unknown : Reading
  -- several have it
  ambiguous : Reading

abbrev pub reading_among : List Member → Reading
reading_among [] = unknown
reading_among (m ∷ []) = value m
reading_among (m ∷ n ∷ rest) = ambiguous

abbrev pub reading_of : Option Member → Reading
reading_of (Some m) = value m
reading_of None = unknown

-- a name alone
abbrev pub reading_of_name : Declared → Name → Reading
reading_of_name text x = reading_among (members_named (enumerations_of text.types) x)

-- a name alone, or one with its type
abbrev pub reading_written : Declared → EnumeratedValue → Reading
reading_written text v = elim v.type_name [
  | Some t ↦ reading_of (member_of_type text.types t v.name)
  | None ↦ reading_of_name text v.name
]

abbrev pub wrong_reading : ℕ → Reading → List Broken
wrong_reading at (value m) = []
wrong_reading at unknown = breaking Undeclared (at ∷ [])
wrong_reading at ambiguous = breaking Ambiguous (at ∷ [])
