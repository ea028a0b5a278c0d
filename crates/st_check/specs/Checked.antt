-- Texts that break no rule, as they are handed on: resolved.
use Rattle.std.specs.Prelude.{◌≡◌}
use Rattle.st_types.specs.Sources.{Source}
use Rattle.st_meaning.specs.ResolvedUnits.{resolved_source}
use Rattle.st_rules.specs.Rules.{IsWellTyped}

-- the tree is the resolved one of a text that breaks no rule
pub record IsCheckedFrom (parsed tree : Source) : Type 0 where
  pub well_typed : IsWellTyped parsed
  pub resolved : tree ≡ resolved_source parsed

-- there is such a text
abbrev pub IsChecked : Source → Type 0
IsChecked tree = ∥ ((parsed : Source) × IsCheckedFrom parsed tree) ∥₁
