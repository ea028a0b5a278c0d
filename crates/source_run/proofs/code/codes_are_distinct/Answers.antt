use Rattle.source_run.proofs.CodeLemmas.{told_apart}
use Rattle.source_run.proofs.code.codes_are_distinct.Goals as goal

pub returns : goal.returns
returns c = told_apart
