use Rattle.std.proofs.Common.{◌≡◌, List, ℕ, take}
use Rattle.std.specs.Prelude.{map}
use Rattle.st_types.specs.SourceViews.{element_view}
use Rattle.st_meaning.specs.NameTypes.{types_in, units_in, type_named, unit_named}
use Rattle.symbols.specs.Texts.{type_found, unit_found}
use Rattle.symbols.proofs.texts.TextNames.new.Given as goal

abbrev pub invariant-loop-element : goal.invariant-loop-element
invariant-loop-element l =
    ((q : List ℕ) → type_found l.types q
    ≡ type_named (types_in (map element_view (take l.element-index l.source.elements.items))) q)
    × ((q : List ℕ) → unit_found l.units q
    ≡ unit_named (units_in (map element_view (take l.element-index l.source.elements.items))) q)
