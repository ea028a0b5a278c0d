-- Room for every record.
use Rattle.std.specs.Prelude.{◌≤◌}
use Rattle.std.specs.Vec.{vec_capacity}
use Rattle.std.specs.Global.{Vec}
use Rattle.retain_records.specs.declared.sizes.TheConstants.{MAX_LAYOUT_BYTES, MAX_LINES}

-- room for the longest layout text, and for as many values as it may have lines
pub record HasRoom {X Y : Type 0} (layout : Vec X) (values : Vec Y) : Type 0 where
  pub text : MAX_LAYOUT_BYTES ≤ vec_capacity layout
  pub lines : MAX_LINES ≤ vec_capacity values
