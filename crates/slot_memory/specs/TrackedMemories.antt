-- Reading the memory of a run, and writing to it.
use Rattle.std.specs.Prelude.{Option, Some, None}
use Rattle.st_types.specs.Values.{Datum}
use Rattle.machine_code.specs.Tracking.{Tracked}

-- the value that a look-up found, with the memory after it
abbrev pub found_in : Option Datum → Tracked → Option (Datum × Tracked)
found_in (Some v) m = Some (v, m)
found_in None m = None

-- the memory after a write, if there was one
abbrev pub put_in : Option (Unit {0}) → Tracked → Option Tracked
put_in (Some u) m = Some m
put_in None m = None
