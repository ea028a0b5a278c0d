use Rattle.std.proofs.Common.{◌∙◌, ap, find, option_map}
use Rattle.source_run.specs.ListedCodes.{code_bytes, is_code}
use Rattle.source_run.proofs.FindingLemmas.{code_behind, find_code}
use Rattle.source_run.proofs.finding.explanation.Goals as goal

pub returns : goal.returns
returns c =
    code_behind _ ∙ ap (option_map code_bytes) c.find_in.ensures ∙ find_code c.args.code.now c.entries_like.result.now
    ∙ ap (find (is_code c.args.code.now)) c.entries_like.ensures
