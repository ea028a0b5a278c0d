-- The stages that an observer of a life sees.
use Rattle.std.specs.Prelude.{◌≡◌, List, [], ◌∷◌}

-- something as it is, and after each entry by which it grows
abbrev pub stages : {S E : Type 0} → (S → E → S) → S → List E → List S
stages grows life [] = life ∷ []
stages grows life (entry ∷ log) = life ∷ stages grows (grows life entry) log

-- a watcher who sees so has seen these, one after another
abbrev pub HasSeen : {W S : Type 0} → (W → S → W → Type 0) → W → List S → W → Type 0
HasSeen sees old [] new = new ≡ old
HasSeen {W} sees old (life ∷ lives) new = (between : W) × sees old life between × HasSeen sees between lives new
