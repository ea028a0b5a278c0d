-- How executions end.
use Rattle.std.specs.Prelude.{Bool, true, false, Option, Some, None}
use Rattle.st_meaning.specs.declared.outcome.Outcome.{Outcome}
use Rattle.st_meaning.specs.declared.outcome.Outcome.TheVariants.{Done, Faulted}

-- with a fault; an entry that is no execution has no end
abbrev pub is_faulted : Option Outcome → Bool
is_faulted None = false
is_faulted (Some Done) = false
is_faulted (Some (Faulted fault)) = true
