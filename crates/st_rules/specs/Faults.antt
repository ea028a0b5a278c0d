-- Broken rules with their places, as lists whose order doesn't matter.
use Rattle.std.specs.Prelude.{◌≡◌, ℕ, List, [], ◌∷◌, map, Bool, if◌then◌else◌, Option, Some, None}
use Rattle.std.specs.List.{Contains}
use Rattle.st_rules.specs.declared.reason.Reason.{Reason}
use Rattle.st_rules.specs.declared.rule.Broken.{Broken}

-- a rule that is broken at a place for this reason
abbrev pub breaks : Reason → ℕ → Broken
breaks reason place = record { reason = reason; place = place }

-- a rule that is broken at these places
abbrev pub breaking : Reason → List ℕ → List Broken
breaking reason places = map (breaks reason) places

-- the place, if a condition doesn't hold there
abbrev pub unless : Bool → ℕ → List ℕ
unless right place = if right then [] else place ∷ []

-- the place, if something holds that must not
abbrev pub in_case : Bool → ℕ → List ℕ
in_case wrong place = if wrong then place ∷ [] else []

-- the result of a search: one of the faults, or none
abbrev pub Finds : List Broken → Option Broken → Type 0
Finds faults (Some b) = Contains faults b
Finds faults None = faults ≡ []
