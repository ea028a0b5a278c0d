-- Values: a type, and a whole number without bound.
use Rattle.std.specs.Prelude.{◌≡◌, ℤ, pos, Bool, true, ◌&&◌, if◌then◌else◌, Result, Ok, Err}
use Rattle.std.specs.Ordering.{int_eq}
use Rattle.st_types.specs.declared.kind.Kind.{Kind}
use Rattle.st_types.specs.declared.kind.Kind.TheVariants.{Bool as Boolean}
use Rattle.st_types.specs.declared.fault.Fault.{Fault}
use Rattle.st_types.specs.declared.fault.Fault.TheVariants.{Range}
use Rattle.st_types.specs.Kinds.{holds, same_kind}

-- a value: FALSE is 0, and TRUE is 1
pub record Datum : Type 0 where
  pub kind : Kind
  pub number : ℤ

-- a value that its type holds
abbrev pub IsHeld : Datum → Type 0
IsHeld d = holds d.kind d.number ≡ true

abbrev pub same_datum : Datum → Datum → Bool
same_datum a b = same_kind a.kind b.kind && int_eq a.number b.number

-- the value of the type with this number, or a fault if the type doesn't hold it
abbrev pub in_range : Kind → ℤ → Result Datum Fault
in_range k z = if holds k z then Ok (record { kind = k; number = z }) else Err Range

abbrev pub bool_datum : Bool → Datum
bool_datum b = record { kind = Boolean; number = if b then pos 1 else pos 0 }

-- a BOOL that is TRUE
abbrev pub is_true : Datum → Bool
is_true d = same_datum d (bool_datum true)
