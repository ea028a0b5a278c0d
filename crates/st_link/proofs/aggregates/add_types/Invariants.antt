use Rattle.std.proofs.Common.{◌≡◌, List, ℕ, None, map, drop}
use Rattle.st_types.specs.DeclarationViews.{type_declaration_view}
use Rattle.st_meaning.specs.NameTypes.{Declared, type_named}
use Rattle.symbols.specs.Found.{found}
use Rattle.layout.specs.Sizes.{ServesSizes}
use Rattle.st_link.specs.Shapes.{KnowsAggregates}
use Rattle.st_link.proofs.aggregates.add_types.Given as goal

abbrev pub invariant-loop-declaration : goal.invariant-loop-declaration
invariant-loop-declaration l = record {
  serves : (text : Declared) → ServesSizes l.fn.sizes text → ServesSizes l.sizes text;
  known : (text : Declared) → ServesSizes l.fn.sizes text → KnowsAggregates text l.fn.wholes
      → KnowsAggregates text l.wholes;
  kept : (x : List ℕ) → found l.wholes x ≡ None → (found l.fn.wholes x ≡ None)
      × (type_named (map (λ t. type_declaration_view t.now) (drop l.declaration-index l.types)) x ≡ None
      → type_named (map (λ t. type_declaration_view t.now) l.types) x ≡ None);
}
