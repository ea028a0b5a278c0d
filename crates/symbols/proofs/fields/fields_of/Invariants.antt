use Rattle.std.proofs.Common.{◌≡◌, List, ℕ, take, map}
use Rattle.st_types.specs.DeclarationViews.{field_view}
use Rattle.st_meaning.specs.NameTypes.{field_type}
use Rattle.symbols.specs.Fields.{type_in}
use Rattle.symbols.proofs.fields.fields_of.Given as goal

abbrev pub invariant-loop-field : goal.invariant-loop-field
invariant-loop-field l =
    (q : List ℕ) → type_in l.index q ≡ field_type (map field_view (take l.field-index l.fields)) q
