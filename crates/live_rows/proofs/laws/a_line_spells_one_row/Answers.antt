use Rattle.live_rows.proofs.RowLaws.{one_row}
use Rattle.live_rows.proofs.laws.a_line_spells_one_row.Goals as goal

pub returns : goal.returns
returns c = one_row
