use Rattle.std.proofs.Common.{map, take}
use Rattle.st_meaning.specs.NameTypes.{Declared}
use Rattle.layout.specs.Compositions.{ServesTypes}
use Rattle.st_link.specs.Reaching.{Adds, worklist_view}
use Rattle.st_link.proofs.called_functions.Reached.add_named.Given as goal

abbrev pub invariant-loop-name : goal.invariant-loop-name
invariant-loop-name l = (text : Declared) → ServesTypes l.types text
    → Adds text (map (λ x. x.now) (take l.name-index l.names)) (worklist_view l.initial.self) (worklist_view l.self)
