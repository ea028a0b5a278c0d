use Rattle.layout.proofs.ResolvedLemmas.{slots_taken}
use Rattle.layout.proofs.definition_laws.slots_depend_on_no_literal.Goals as goal

pub returns : goal.returns
returns c = slots_taken
