-- The values and the marks that words and notes encode.
use Rattle.std.specs.Prelude.{◌≡◌, ◌%◌, ℕ, ℤ, List, [], ◌∷◌, nat_eq, nat_le, Some, slice_get}
use Rattle.st_types.specs.declared.kind.Kind.{Kind}
use Rattle.st_types.specs.Values.{Datum, IsHeld}
use Rattle.st_types.specs.Words.{datum_at}
use Rattle.machine_code.specs.declared.mark.Mark.{Mark}
use Rattle.quick_code.specs.Words.{word_at}

-- the values of slots of these types that have these words
abbrev pub values_of : List Kind → List ℤ → List Datum
values_of [] ws = []
values_of (k ∷ ks) [] = []
values_of (k ∷ ks) (w ∷ ws) = datum_at k w ∷ values_of ks ws

-- The word of each slot is one that its type holds.
pub record AreHeld (kinds : List Kind) (ws : List ℤ) : Type 0 where
  pub each : (k : ℕ) (t : Kind) → slice_get kinds k ≡ Some t → IsHeld (datum_at t (word_at ws k))

-- odd if a word was looked up before it was assigned, and 2 or more if it was assigned
abbrev pub mark_of : ℕ → Mark
mark_of n = record { is_read = nat_eq (n % 2) 1; is_assigned = nat_le 2 n }
