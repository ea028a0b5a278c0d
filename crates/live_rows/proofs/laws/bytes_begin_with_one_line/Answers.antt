use Rattle.live_rows.proofs.LineLaws.{some_line, one_line}
use Rattle.live_rows.proofs.laws.bytes_begin_with_one_line.Goals as goal

pub returns-clause-some : goal.returns-clause-some
returns-clause-some c = some_line

pub returns-clause-one : goal.returns-clause-one
returns-clause-one c = one_line
