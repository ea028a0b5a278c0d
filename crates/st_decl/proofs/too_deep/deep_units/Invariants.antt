use Rattle.std.proofs.Common.{map, drop}
use Rattle.std.specs.List.{flat_map}
use Rattle.st_types.specs.UnitViews.{unit_view}
use Rattle.st_meaning.specs.NameTypes.{Declared}
use Rattle.st_rules.specs.Faults.{breaking, in_case}
use Rattle.st_rules.specs.Containment.{is_wrong_unit, reason_of_depth}
use Rattle.st_rules.proofs.CollectLemmas.{Searches}
use Rattle.symbols.specs.Found.{found}
use Rattle.st_decl.specs.Numbered.{AreJudged}
use Rattle.st_decl.proofs.too_deep.deep_units.Given as goal

abbrev pub invariant-loop-unit : goal.invariant-loop-unit
invariant-loop-unit l = (text : Declared) → AreJudged text (found l.numbers) l.marks
    → Searches
    (flat_map (λ u. breaking (reason_of_depth text u.name.name)
    (in_case (is_wrong_unit text u.sort u.name.name) u.name.place)) (map (λ u. unit_view u.now) l.units))
    (flat_map (λ u. breaking (reason_of_depth text u.name.name)
    (in_case (is_wrong_unit text u.sort u.name.name) u.name.place))
    (map (λ u. unit_view u.now) (drop l.unit-index l.units))) l.initial.broken l.broken
