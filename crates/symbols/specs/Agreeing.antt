-- The entry of a table for a name, and that of a definition.
use Rattle.std.specs.Prelude.{Option, Some, None}

-- both have something, and it fits, or neither has
abbrev pub Agree : {T U : Type 0} → (T → U → Type 0) → Option T → Option U → Type 0
Agree fits None None = Unit {0}
Agree fits (Some t) (Some u) = fits t u
Agree fits None (Some u) = ⊥
Agree fits (Some t) None = ⊥
