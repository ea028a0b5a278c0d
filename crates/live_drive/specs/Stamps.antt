-- Moments from the clock.
use Rattle.std.specs.Prelude.{◌≡◌, ◌<◌, ◌+◌, ℕ, Option, Some, None}
use Rattle.st_types.specs.declared.limits.TheConstants.{MOMENT_LIMIT}
use Rattle.live_rows.specs.declared.timed_line.Moments.{Moments}
use Rattle.live_rows.specs.declared.timed_line.Moments.TheVariants.{Own, Clock}

-- a moment later than the last one, which is below the limit of moments; it is below the limit too, if one is left
abbrev pub IsAfter : Option ℕ → ℕ → Type 0
IsAfter None moment = moment < MOMENT_LIMIT
IsAfter (Some last) moment = (last < MOMENT_LIMIT → last < moment) × (last + 1 < MOMENT_LIMIT → moment < MOMENT_LIMIT)

-- a moment that the clock gives for a row after this last moment: none if rows have their own, otherwise a later one
abbrev pub IsStamp : Moments → Option ℕ → Option ℕ → Type 0
IsStamp Own last stamp = stamp ≡ None
IsStamp Clock last None = ⊥
IsStamp Clock last (Some moment) = IsAfter last moment
