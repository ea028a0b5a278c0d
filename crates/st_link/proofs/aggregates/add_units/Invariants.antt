use Rattle.std.proofs.Common.{◌≡◌, List, ℕ, None, map, drop}
use Rattle.st_types.specs.UnitViews.{unit_view}
use Rattle.st_meaning.specs.NameTypes.{Declared, unit_named}
use Rattle.symbols.specs.Found.{found}
use Rattle.layout.specs.Sizes.{ServesSizes}
use Rattle.st_link.specs.Shapes.{KnowsAggregates}
use Rattle.st_link.proofs.aggregates.add_units.Given as goal

abbrev pub invariant-loop-unit : goal.invariant-loop-unit
invariant-loop-unit l = record {
  serves : (text : Declared) → ServesSizes l.fn.sizes text → ServesSizes l.sizes text;
  known : (text : Declared) → ServesSizes l.fn.sizes text → KnowsAggregates text l.fn.wholes
      → KnowsAggregates text l.wholes;
  kept : (x : List ℕ) → found l.wholes x ≡ None → (found l.fn.wholes x ≡ None)
      × (unit_named (map (λ t. unit_view t.now) (drop l.unit-index l.units)) x ≡ None
      → unit_named (map (λ t. unit_view t.now) l.units) x ≡ None);
}
