use Rattle.std.proofs.Common.{◌≡◌, List, ℕ, take, map}
use Rattle.std.specs.Prelude.{is_some, option_and_then}
use Rattle.st_types.specs.DeclarationViews.{type_declaration_view}
use Rattle.st_meaning.specs.NameTypes.{type_named}
use Rattle.st_meaning.specs.ResolvedUnits.{field_in}
use Rattle.symbols.specs.Found.{found}
use Rattle.symbols.specs.Fields.{type_in}
use Rattle.symbols.proofs.fields.FieldNames.new.Given as goal

abbrev pub invariant-loop-declaration : goal.invariant-loop-declaration
invariant-loop-declaration l =
    ((x : List ℕ) → is_some (found l.structures x)
    ≡ is_some (type_named (map (λ t. type_declaration_view t.now) (take l.declaration-index l.types)) x))
    × ((x q : List ℕ) → option_and_then (λ fields. type_in fields q) (found l.structures x)
    ≡ field_in (type_named (map (λ t. type_declaration_view t.now) (take l.declaration-index l.types)) x) q)
