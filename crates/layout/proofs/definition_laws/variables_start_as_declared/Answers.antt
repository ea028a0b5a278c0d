use Rattle.std.proofs.Common.{ap, ◌∙◌}
use Rattle.layout.specs.TextLayouts.{further}
use Rattle.layout.specs.VariableSlots.{path_to}
use Rattle.layout.proofs.StoreLemmas.{written_value, unwritten_value}
use Rattle.layout.proofs.ValueLemmas.{retained_among, value_told, retention_told}
use Rattle.layout.proofs.definition_laws.variables_start_as_declared.Goals as goal

pub returns-clause-written : goal.returns-clause-written
returns-clause-written c = written_value

pub returns-clause-unwritten : goal.returns-clause-unwritten
returns-clause-unwritten c = unwritten_value

pub returns-clause-value : goal.returns-clause-value
returns-clause-value c = λ text vs once o x k v h i xs p g. value_told text o x xs vs once (k, v) h i p g

pub returns-clause-retention : goal.returns-clause-retention
returns-clause-retention c = λ text vs once o x k v h i xs p g plan e.
    ap (λ ws. retained_among ws (further (path_to o x) xs)) e ∙ retention_told text o x xs vs once (k, v) h i p g
