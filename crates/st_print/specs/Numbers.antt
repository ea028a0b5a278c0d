-- The spelling of a number in a field.
use Rattle.std.specs.Prelude.{Option, Some, None, ◌≡◌, ℕ, ◌^◌, ◌<◌, List, [], ◌∷◌, length, ℤ, Bool, true, false, ◌==◌}
use Rattle.std.specs.Prelude.{◌&&◌, ◌||◌, nat_le}
use Rattle.std.specs.Prelude.{unsigned_abs}
use Rattle.std.specs.Fmt.{signed_decimal}
use Rattle.st_types.specs.declared.kind.Kind.{Kind}
use Rattle.st_types.specs.Kinds.{same_kind}
use Rattle.st_types.specs.Values.{Datum, IsHeld}

-- 64 bits hold the number without its sign
abbrev pub IsShort : ℤ → Type 0
IsShort z = unsigned_abs z < 2 ^ 64

-- a first digit that is not 0, or a 0 alone
abbrev pub may_begin : List ℕ → Bool
may_begin [] = false
may_begin (b ∷ bytes) = (nat_le 49 b && nat_le b 57) || ((b == 48) && (length bytes == 0))

-- the field is the decimal spelling of a value of the type; FALSE is 0, and TRUE is 1
abbrev pub SpellsValue : Kind → List ℕ → Datum → Type 0
SpellsValue kind field value = (same_kind kind value.kind ≡ true) × IsHeld value × (field ≡ signed_decimal value.number)

-- the same for a field that a record may lack
abbrev pub SpellsValueAt : Kind → Option (List ℕ) → Datum → Type 0
SpellsValueAt kind None value = ⊥
SpellsValueAt kind (Some field) value = SpellsValue kind field value
