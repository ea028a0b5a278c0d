use Rattle.std.proofs.Common.{map}
use Rattle.std.specs.Vec.{vec_items}
use Rattle.trace.proofs.KeepLemmas.{IsReadTo}
use Rattle.trace.proofs.keeping.kept_values.Given as goal

abbrev pub invariant-loop-variable : goal.invariant-loop-variable
invariant-loop-variable l = IsReadTo (map vec_items l.types) l.variables l.variable-index l.fn.text l.rest l.values.items
