use Rattle.std.proofs.Common.{map, drop}
use Rattle.std.specs.List.{flat_map}
use Rattle.st_types.specs.UnitViews.{unit_view}
use Rattle.st_meaning.specs.NameTypes.{Declared}
use Rattle.st_rules.specs.BodyRules.{wrong_body}
use Rattle.st_rules.specs.Rules.{environment}
use Rattle.st_rules.proofs.CollectLemmas.{Searches}
use Rattle.symbols.specs.Tables.{ServesTables}
use Rattle.st_check.proofs.bodies.wrong_bodies.Given as goal

abbrev pub invariant-loop-unit : goal.invariant-loop-unit
invariant-loop-unit l = (text : Declared) → ServesTables l.tables text
    → Searches (flat_map (λ u. wrong_body (environment text u)) (map (λ u. unit_view u.now) l.units))
    (flat_map (λ u. wrong_body (environment text u)) (map (λ u. unit_view u.now) (drop l.unit-index l.units)))
    l.initial.broken l.broken
