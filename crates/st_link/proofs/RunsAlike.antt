-- Runs that end alike with any number of ticks.
use Rattle.std.proofs.Common.{refl, ℕ, zero, suc, Result, Ok, Err}
use Rattle.st_types.specs.declared.fault.Fault.{Fault}
use Rattle.st_meaning.specs.Failures.{Failure, fails, valueless, ill_typed, StuckFaults}
use Rattle.st_meaning.specs.Ticks.{Run, follow, ◌>>=◌, ◌>>◌, give, fault, attempt, proceed, tick}
use Rattle.st_link.specs.Soundness.{EndsAlikeIn}
use Rattle.st_link.proofs.Alikes.{alike_then, alike_as, Succeeds, attempted}

pub record RunsAlike {A : Type 0} (P : A → Type 0) (m n : Run A) : Type 0 where
  pub ends : (b : ℕ) → EndsAlikeIn P (m b) (n b)

pub both_then : {A B : Type 0} {P : A → Type 0} {Q : B → Type 0} {m n : Run A} {f g : A → Run B} → RunsAlike P m n
    → ((a : A) → P a → RunsAlike Q (f a) (g a)) → RunsAlike Q (m >>= f) (n >>= g)
both_then {P = P} {Q = Q} {m = m} {n = n} {f = f} {g = g} h k =
    record { ends = λ b. alike_then P Q (m b) (n b) f g (h.ends b) (λ a c p. (k a p).ends c) }

pub both_as : {A : Type 0} {P Q : A → Type 0} {m n : Run A} → ((a : A) → P a → Q a) → RunsAlike P m n
    → RunsAlike Q m n
both_as {P = P} {Q = Q} {m = m} {n = n} f h = record { ends = λ b. alike_as P Q (m b) (n b) f (h.ends b) }

pub both_give : {A : Type 0} (P : A → Type 0) (a : A) → P a → RunsAlike P (give a) (give a)
both_give P a h = record { ends = λ b. (refl, h) }

pub both_fault : {A : Type 0} (P : A → Type 0) (e : Fault) → RunsAlike P (fault e) (fault e)
both_fault P e = record { ends = λ b. refl }

pub both_attempt : {A : Type 0} (P : A → Type 0) (i j : StuckFaults) (r : Result A Failure) → Succeeds P r
    → RunsAlike P (attempt i r) (attempt j r)
both_attempt P i j r h = record { ends = λ b. attempted P i j r b h }

alike_behind_tick : {A : Type 0} (P : A → Type 0) (m n : Run A) → RunsAlike P m n → (b : ℕ)
    → EndsAlikeIn P (follow (tick b) (λ _. m)) (follow (tick b) (λ _. n))
alike_behind_tick P m n h zero = refl
alike_behind_tick P m n h (suc b) = h.ends b

pub both_tick : {A : Type 0} {P : A → Type 0} {m n : Run A} → RunsAlike P m n → RunsAlike P (tick >> m) (tick >> n)
both_tick {P = P} {m = m} {n = n} h = record { ends = alike_behind_tick P m n h }

-- one part after another, if neither takes ticks
pub proceeds : {A B : Type 0} (P : A → Type 0) (Q : B → Type 0) (r : Result A Failure) (f : A → Result B Failure)
    → Succeeds P r → ((a : A) → P a → Succeeds Q (f a)) → Succeeds Q (proceed r f)
proceeds P Q (Ok a) f h k = k a h
proceeds P Q (Err (fails e)) f h k = tt
proceeds P Q (Err valueless) f h k = absurd h
proceeds P Q (Err ill_typed) f h k = absurd h
