-- The steps of a core: those of its engine, over the log that it keeps.
pub use Rattle.core_engine.specs.Steps.{State, store_in, past_in, grown, comes_later, Latches, slots_for, code_at}
pub use Rattle.core_engine.specs.Steps.{IsSnapshotOf, IsSnapshotIn, none_waits, Takes, IsOwnOf, IsOwn, reads_are_current}
pub use Rattle.core_engine.specs.Steps.{waits_in, Admits, Judges, Commits, first_image, last_image, inputs_now, rests_in}
pub use Rattle.core_engine.specs.Steps.{IsWaiting, CommitsWaiting, CommitsHere}
