use Rattle.layout.proofs.LeafLemmas.{length_leaves, at_shape, of_shape, begin_shape}
use Rattle.layout.proofs.definition_laws.leaves_of_shapes.Goals as goal

pub returns-clause-count : goal.returns-clause-count
returns-clause-count c = length_leaves

pub returns-clause-there : goal.returns-clause-there
returns-clause-there c = at_shape

pub returns-clause-nowhere_else : goal.returns-clause-nowhere_else
returns-clause-nowhere_else c = of_shape

pub returns-clause-beginnings : goal.returns-clause-beginnings
returns-clause-beginnings c = begin_shape
