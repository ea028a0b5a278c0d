-- Runs that take ticks: from the ticks that are left, a result with those left after it, or a fault.
use Rattle.std.specs.Prelude.{ℕ, zero, suc, Result, Ok, Err}
use Rattle.st_types.specs.declared.fault.Fault.{Fault}
use Rattle.st_types.specs.declared.fault.Fault.TheVariants.{Budget}
use Rattle.st_meaning.specs.Failures.{Failure, StuckFaults, fault_for}

abbrev pub Run : Type 0 → Type 0
Run A = ℕ → Result (A × ℕ) Fault

-- one after another
abbrev pub follow : {A B : Type 0} → Result (A × ℕ) Fault → (A → Run B) → Result (B × ℕ) Fault
follow (Ok r) f = f r.0 r.1
follow (Err e) f = Err e

infixl 10 ◌>>=◌
abbrev pub ◌>>=◌ : {A B : Type 0} → Run A → (A → Run B) → Run B
◌>>=◌ m f = λ b. follow (m b) f

infixl 10 ◌>>◌
abbrev pub ◌>>◌ : {A B : Type 0} → Run A → Run B → Run B
◌>>◌ m n = λ b. follow (m b) (λ _. n)

abbrev pub give : {A : Type 0} → A → Run A
give a = λ b. Ok (a, b)

abbrev pub fault : {A : Type 0} → Fault → Run A
fault e = λ b. Err e

-- the value of a part that takes no ticks
abbrev pub take : {A : Type 0} → Result A Fault → Run A
take (Ok a) = give a
take (Err e) = fault e

-- the same for a part that may fail in a way that no well-typed text meets
abbrev pub attempt : {A : Type 0} → StuckFaults → Result A Failure → Run A
attempt stuck_faults (Ok a) = give a
attempt stuck_faults (Err e) = fault (fault_for stuck_faults e)

-- one part after another, if neither takes ticks
abbrev pub proceed : {A B : Type 0} → Result A Failure → (A → Result B Failure) → Result B Failure
proceed (Ok a) f = f a
proceed (Err e) f = Err e

-- one tick of the budget
abbrev pub tick : Run (Unit {0})
tick zero = Err Budget
tick (suc b) = Ok (tt, b)
