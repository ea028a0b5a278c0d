use Rattle.slot_trees.proofs.FunctionLayouts.{fresh_layout}
use Rattle.slot_trees.proofs.laws.functions_lie_as_declared.Goals as goal

pub returns : goal.returns
returns c = fresh_layout
