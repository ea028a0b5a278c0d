use Rattle.std.proofs.Common.{◌∙◌}
use Rattle.retain_records.proofs.IndexLemmas.{placed}
use Rattle.retain_records.proofs.line_index.place_of.Goals as goal

pub returns-clause-place : goal.returns-clause-place
returns-clause-place c = c.get_index_of.ensures.index ∙ placed c.args.written.now c.args.lines.now.keys
