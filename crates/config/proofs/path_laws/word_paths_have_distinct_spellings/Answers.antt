use Rattle.config.proofs.OnePath.{one_path}
use Rattle.config.proofs.path_laws.word_paths_have_distinct_spellings.Goals as goal

pub returns : goal.returns
returns c = one_path
