-- Runs that end alike, put together.
use Rattle.std.proofs.Common.{◌≡◌, refl, subst, ℕ, List, [], ◌∷◌, ◌++◌}
use Rattle.std.proofs.Common.{Result, Ok, Err}
use Rattle.st_types.specs.declared.fault.Fault.{Fault}
use Rattle.st_meaning.specs.Failures.{Failure, fails, valueless, ill_typed, StuckFaults, failing}
use Rattle.st_meaning.specs.Ticks.{Run, follow, attempt}
use Rattle.st_link.specs.Soundness.{EndsAlikeIn}

-- one part after another
pub alike_then : {A B : Type 0} (P : A → Type 0) (Q : B → Type 0) (x y : Result (A × ℕ) Fault) (f g : A → Run B)
    → EndsAlikeIn P x y → ((a : A) (b : ℕ) → P a → EndsAlikeIn Q (f a b) (g a b)) → EndsAlikeIn Q (follow x f) (follow y g)
alike_then P Q (Ok r) (Ok q) f g h k = subst (λ z. EndsAlikeIn Q (f r.0 r.1) (g z.0 z.1)) h.0 (k r.0 r.1 h.1)
alike_then P Q (Err e) (Err e') f g h k = h
alike_then P Q (Ok r) (Err e) f g h k = absurd h
alike_then P Q (Err e) (Ok q) f g h k = absurd h

-- the same with another property
pub alike_as : {A : Type 0} (P Q : A → Type 0) (x y : Result (A × ℕ) Fault) → ((a : A) → P a → Q a) → EndsAlikeIn P x y
    → EndsAlikeIn Q x y
alike_as P Q (Ok r) (Ok q) f h = (h.0, f r.0 h.1)
alike_as P Q (Err e) (Err e') f h = h
alike_as P Q (Ok r) (Err e) f h = absurd h
alike_as P Q (Err e) (Ok q) f h = absurd h

-- A success has a value with the property, and a failure is a fault of the run.
abbrev pub Succeeds : {A : Type 0} → (A → Type 0) → Result A Failure → Type 0
Succeeds P (Ok a) = P a
Succeeds P (Err (fails f)) = Unit {0}
Succeeds P (Err valueless) = ⊥
Succeeds P (Err ill_typed) = ⊥

pub attempted : {A : Type 0} (P : A → Type 0) (i j : StuckFaults) (r : Result A Failure) (b : ℕ) → Succeeds P r
    → EndsAlikeIn P (attempt i r b) (attempt j r b)
attempted P i j (Ok a) b h = (refl, h)
attempted P i j (Err (fails f)) b h = refl
attempted P i j (Err valueless) b h = absurd h
attempted P i j (Err ill_typed) b h = absurd h

pub succeeds_as : {A : Type 0} (P Q : A → Type 0) (r : Result A Failure) → Succeeds P r
    → ((a : A) → r ≡ Ok a → Q a) → Succeeds Q r
succeeds_as P Q (Ok a) h f = f a refl
succeeds_as P Q (Err (fails e)) h f = tt
succeeds_as P Q (Err valueless) h f = absurd h
succeeds_as P Q (Err ill_typed) h f = absurd h

pub succeeds_then : {A : Type 0} (P Q : A → Type 0) (r : Result A Failure) → ((a : A) → P a → Q a) → Succeeds P r
    → Succeeds Q r
succeeds_then P Q (Ok a) f h = f a h
succeeds_then P Q (Err (fails e)) f h = tt
succeeds_then P Q (Err valueless) f h = absurd h
succeeds_then P Q (Err ill_typed) f h = absurd h

-- a result of the run alone
abbrev pub Gives : {A : Type 0} → (A → Type 0) → Result A Fault → Type 0
Gives P (Ok a) = P a
Gives P (Err f) = Unit {0}

pub failed : {A : Type 0} (P : A → Type 0) (r : Result A Fault) → Gives P r → Succeeds P (failing r)
failed P (Ok a) h = h
failed P (Err f) h = tt
