use Rattle.symbols.specs.Found.{found}
use Rattle.st_link.proofs.NumberLemmas.{numbers_more}
use Rattle.st_link.proofs.numbers.numbered.Goals as goal

pub loop-number-preserved : goal.loop-number-preserved
loop-number-preserved c x =
    numbers_more c.args.names.now c.loop-number.number c.index-names-number.result x
    (found c.loop-number.numbers x) (found c.add.new.self x) c.loop-number-test.true c.index-names-number.is
    (c.loop-number.invariant x) (c.in_ok-add.ensures.added x)
