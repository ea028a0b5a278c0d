use Rattle.std.proofs.Common.{List, ℕ, take, map}
use Rattle.st_types.specs.UnitViews.{unit_view}
use Rattle.st_meaning.specs.NameTypes.{Declared, unit_named}
use Rattle.st_meaning.specs.Enumerations.{enumerations_of}
use Rattle.symbols.specs.Found.{found}
use Rattle.symbols.specs.Agreeing.{Agree}
use Rattle.symbols.specs.Enumerated.{HasEnumerations}
use Rattle.symbols.specs.Interfaces.{IsInterface}
use Rattle.symbols.proofs.interfaces.UnitInterfaces.new.Given as goal

abbrev pub invariant-loop-unit : goal.invariant-loop-unit
invariant-loop-unit l = (text : Declared) → HasEnumerations l.enumerated (enumerations_of text.types)
    → (x : List ℕ) → Agree (IsInterface text) (found l.interfaces x)
    (unit_named (map (λ u. unit_view u.now) (take l.unit-index l.units)) x)
