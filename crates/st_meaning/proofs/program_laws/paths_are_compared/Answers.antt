use Rattle.st_types.specs.Comparisons.{same_path_is, same_path_itself}
use Rattle.st_meaning.proofs.program_laws.paths_are_compared.Goals as goal

pub returns-clause-only : goal.returns-clause-only
returns-clause-only c = same_path_is

pub returns-clause-itself : goal.returns-clause-itself
returns-clause-itself c = same_path_itself
