-- Values one step on, by their words.
use Rattle.std.proofs.Common.{◌≡◌, ap, sym, ◌∙◌, Bool, true, false, if◌then◌else◌, Some, None, Result, Ok, Err}
use Rattle.std.specs.Prelude.{ℤ, pos, ◌+ℤ◌, ◌^◌}
use Rattle.std.proofs.Math.IntN.{+ℤ_idr}
use Rattle.st_types.specs.declared.fault.Fault.{Fault}
use Rattle.st_types.specs.declared.fault.Fault.TheVariants.{Range}
use Rattle.st_types.specs.declared.kind.Kind.{Kind}
use Rattle.st_types.specs.Kinds.{holds}
use Rattle.st_types.specs.Values.{Datum, in_range}
use Rattle.st_types.specs.Words.{datum_at, is_wide, number_at}
use Rattle.st_meaning.specs.Loops.{unless_fault}

-- the words of a type that is not wide are its numbers
pub word_is : (k : Kind) (w : ℤ) → is_wide k ≡ false → number_at k w ≡ w
word_is k w h = ap (λ (t : Bool). w +ℤ (if t then pos (2 ^ 63) else pos 0)) h ∙ +ℤ_idr w

pub number_is : (v : Datum) (w : ℤ) → is_wide v.kind ≡ false → datum_at v.kind w ≡ v → v.number ≡ w
number_is v w h e = sym (ap (λ (d : Datum). d.number) e) ∙ word_is v.kind w h

abbrev by : Bool → Kind → ℤ → Result Datum Fault
by t k z = if t then Ok (record { kind = k; number = z }) else Err Range

pub within : (k : Kind) (z : ℤ) → holds k z ≡ true → unless_fault (in_range k z) ≡ Some (record { kind = k; number = z })
within k z h = ap (λ t. unless_fault (by t k z)) h

pub past : (k : Kind) (z : ℤ) → holds k z ≡ false → unless_fault (in_range k z) ≡ None
past k z h = ap (λ t. unless_fault (by t k z)) h
