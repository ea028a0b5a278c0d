use Rattle.st_meaning.proofs.AskedLemmas.{known_seen, without_value_shape, without_value_other, without_value_gone}
use Rattle.st_meaning.proofs.program_laws.missing_values.Goals as goal

pub returns-clause-none : goal.returns-clause-none
returns-clause-none c = known_seen

pub returns-clause-shape : goal.returns-clause-shape
returns-clause-shape c = without_value_shape

pub returns-clause-gone : goal.returns-clause-gone
returns-clause-gone c = without_value_gone

pub returns-clause-others : goal.returns-clause-others
returns-clause-others c = without_value_other
