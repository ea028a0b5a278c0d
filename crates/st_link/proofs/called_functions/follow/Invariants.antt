use Rattle.std.proofs.Common.{◌≡◌, ◌-◌, List, map, length}
use Rattle.st_types.specs.UnitViews.{unit_view}
use Rattle.st_meaning.specs.NameTypes.{Declared}
use Rattle.st_meaning.specs.Scopes.{Name}
use Rattle.layout.specs.Compositions.{ServesTypes}
use Rattle.st_link.specs.Reaching.{Follows, worklist_view}
use Rattle.st_link.proofs.called_functions.follow.Given as goal

abbrev pub invariant-loop : goal.invariant-loop
invariant-loop l = (text : Declared) (programs : List Name) → ServesTypes l.types text
    → map (λ u. unit_view u.now) l.units ≡ text.units
    → Follows text programs (length l.units) (worklist_view l.initial.reached)
    → Follows text programs (length l.units - l.index) (worklist_view l.reached)
