use Rattle.st_parse.proofs.PrefixSources.{found_source, only_ok, error_told, error_only}
use Rattle.st_parse.proofs.parsing.parse.Goals as goal

pub returns-in-Ok-clause-found : goal.returns-in-Ok-clause-found
returns-in-Ok-clause-found c = found_source _ _ _ c.in-Ok.ensures

pub returns-in-Ok-clause-only : goal.returns-in-Ok-clause-only
returns-in-Ok-clause-only c = λ source i low. only_ok _ _ _ source c.in-Ok.ensures i low

pub returns-in-Err-clause-only : goal.returns-in-Err-clause-only
returns-in-Err-clause-only c = λ source i low. rw c.parse_error.ensures (error_only _ _ source c.in-Err.ensures i low)

pub returns-in-Err-clause-refused : goal.returns-in-Err-clause-refused
returns-in-Err-clause-refused c = rw c.parse_error.ensures (error_told _ _ c.in-Err.ensures)
