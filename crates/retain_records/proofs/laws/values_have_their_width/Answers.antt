use Rattle.retain_records.specs.LineLaws.{value_length}
use Rattle.retain_records.proofs.laws.values_have_their_width.Goals as goal

pub returns : goal.returns
returns c = value_length
