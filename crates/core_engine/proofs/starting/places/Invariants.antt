use Rattle.std.proofs.Common.{◌≡◌, length}
use Rattle.core_values.specs.Held.{IsWide}
use Rattle.core_engine.proofs.starting.places.Given as goal

abbrev pub invariant-loop : goal.invariant-loop
invariant-loop l = (length l.places.items ≡ l.counter) × IsWide (length l.image) l.places.items
