-- When two runs end alike: with the same fault, or with the same number of ticks left and related results.
use Rattle.std.specs.Prelude.{◌≡◌, ℕ, Result, Ok, Err}
use Rattle.st_types.specs.declared.fault.Fault.{Fault}
use Rattle.st_meaning.specs.Ticks.{Run}
use Rattle.st_meaning.specs.Loops.{EndOf, goes_on, exits, returns}

abbrev pub EndEqually : {A B : Type 0} → (A → B → Type 0) → Result (A × ℕ) Fault → Result (B × ℕ) Fault → Type 0
EndEqually R (Ok r) (Ok t) = R r.0 t.0 × (r.1 ≡ t.1)
EndEqually R (Err e) (Err f) = e ≡ f
EndEqually R (Ok r) (Err f) = ⊥
EndEqually R (Err e) (Ok t) = ⊥

-- with any budget
pub record RunEqually (A B : Type 0) (R : A → B → Type 0) (m : Run A) (n : Run B) : Type 0 where
  pub alike : (b : ℕ) → EndEqually R (m b) (n b)

-- statements that end in the same way, with related states
abbrev pub EndsEqually : {S T : Type 0} → (S → T → Type 0) → EndOf S → EndOf T → Type 0
EndsEqually R (goes_on s) (goes_on t) = R s t
EndsEqually R (exits s) (exits t) = R s t
EndsEqually R (returns s) (returns t) = R s t
EndsEqually R _ _ = ⊥
