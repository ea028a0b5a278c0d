-- Snapshots for runs of quick code.
pub use Rattle.core_engine.specs.Quick.{IsBestIn, IsQuickSnapshotIn, IsQuickSnapshotOf, HasQuickCode, IsTakenIn}
pub use Rattle.core_engine.specs.Quick.{TakesQuick, IsOwnCode}
