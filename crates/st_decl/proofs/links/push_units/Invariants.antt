use Rattle.std.proofs.Common.{◌≡◌, ◌++◌, map, drop}
use Rattle.st_types.specs.UnitViews.{unit_view}
use Rattle.st_meaning.specs.NameTypes.{Declared}
use Rattle.st_rules.specs.Containment.{parts_of_unit}
use Rattle.symbols.specs.Found.{found}
use Rattle.symbols.specs.Texts.{ServesText}
use Rattle.st_decl.specs.Parts.{link_of}
use Rattle.st_decl.proofs.links.push_units.Given as goal

abbrev pub invariant-loop-unit : goal.invariant-loop-unit
invariant-loop-unit l = (text : Declared) → ServesText l.names text → map (λ n. n.items) l.nodes.items
    ++ map (map (link_of (found l.numbers)))
    (map (parts_of_unit text) (map (λ u. unit_view u.now) (drop l.unit-index l.units)))
    ≡ map (λ n. n.items) l.initial.nodes.items
    ++ map (map (link_of (found l.numbers))) (map (parts_of_unit text) (map (λ u. unit_view u.now) l.units))
