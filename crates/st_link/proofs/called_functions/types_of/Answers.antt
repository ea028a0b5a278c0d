use Rattle.symbols.specs.Found.{found}
use Rattle.st_link.proofs.TypeLemmas.{types_more}
use Rattle.st_link.proofs.called_functions.types_of.Goals as goal

pub loop-variable-preserved : goal.loop-variable-preserved
loop-variable-preserved c x =
    types_more c.args.variables.now c.loop-variable.variable-index c.variable-item.result x
    (found c.loop-variable.types x) (found c.add.new.self x) c.loop-variable-test.true c.variable-item.is
    (c.loop-variable.invariant x) (c.in_ok-add.ensures.added x)
