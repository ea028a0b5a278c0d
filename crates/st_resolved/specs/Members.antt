-- Values of enumerated types, and the names that stand for them.
use Rattle.std.specs.Prelude.{Option, Some, None}
use Rattle.st_meaning.specs.Enumerations.{Member}
use Rattle.st_rules.specs.Readings.{Reading, value, unknown, ambiguous}

-- the value for which a name stands; none if it stands for several
abbrev pub member_of_reading : Reading → Option Member
member_of_reading (value m) = Some m
member_of_reading unknown = None
member_of_reading ambiguous = None
