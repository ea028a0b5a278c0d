-- Where a number lies on a scale.
use Rattle.std.specs.Prelude.{ℕ, ℤ, min, ◌-ℤ◌, unsigned_abs}
use Rattle.std.specs.Int.{int_max}
use Rattle.plots.specs.declared.scale.Scale.{Scale}
use Rattle.plots.specs.Shares.{share}

-- how far a number is above the least of a scale; 0 if it is below, and the whole span if it is further above
abbrev pub part_of : Scale → ℤ → ℕ
part_of scale number = min (unsigned_abs (int_max number scale.least -ℤ scale.least)) scale.span

-- its place on a line of that length
abbrev pub place_on : Scale → ℤ → ℕ → ℕ
place_on scale number length = share (part_of scale number) scale.span length
