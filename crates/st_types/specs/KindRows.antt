-- The line of the table that the code gives.
use Rattle.std.specs.Prelude.{◌≡◌}
use Rattle.st_types.specs.declared.kind.Kind.{Kind}
use Rattle.st_types.specs.declared.kind.KindRow.{KindRow}
use Rattle.st_types.specs.Kinds.{row_of}

pub record IsTableRowOf (k : Kind) (row : KindRow) : Type 0 where
  pub keyword : row.keyword.now ≡ (row_of k).keyword
  pub sort : row.sort ≡ (row_of k).sort
  pub bits : row.bits ≡ (row_of k).bits
