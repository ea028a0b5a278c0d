use Rattle.std.proofs.Common.{refl}
use Rattle.std.specs.Fmt.{digits}
use Rattle.live_rows.proofs.laws.a_line_spells_a_row.Goals as goal

pub returns-clause-row : goal.returns-clause-row
unfolding digits
returns-clause-row c = refl
