use Rattle.std.proofs.Common.{rules, refl}
use Rattle.symbols.specs.Found.{found}
use Rattle.symbols.specs.Texts.{type_found}
use Rattle.symbols.proofs.TextLemmas.{type_added}
use Rattle.symbols.proofs.texts.add_types.Goals as goal

pub loop-declaration-preserved : goal.loop-declaration-preserved
loop-declaration-preserved c q =
    type_added c.args.declared.now c.loop-declaration.declaration-index c.declaration-item.result q
    (found c.loop-declaration.types q) (found c.add.new.self q) _ (type_found c.args.types.now q)
    (search rules) c.declaration-item.is (c.loop-declaration.invariant q) (c.in_ok-add.ensures.added q) refl
