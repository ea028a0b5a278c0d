use Rattle.std.proofs.Common.{◌≡◌, ◌++◌, map, drop}
use Rattle.std.specs.List.{flat_map}
use Rattle.st_meaning.specs.NameTypes.{Declared}
use Rattle.st_rules.specs.InitialRules.{starts_of_declaring}
use Rattle.symbols.specs.Texts.{ServesText}
use Rattle.symbols.specs.Fields.{ServesFields}
use Rattle.st_decl.specs.DeclaringViews.{declaring_view}
use Rattle.st_decl.specs.StartViews.{start_view}
use Rattle.st_decl.proofs.starts.starts_of.Given as goal

abbrev pub invariant-loop-declaring : goal.invariant-loop-declaring
invariant-loop-declaring l = (text : Declared) → ServesText l.names text → ServesFields l.fields text
    → map start_view l.starts.items
    ++ flat_map (starts_of_declaring text) (map declaring_view (drop l.declaring-index l.declarings))
    ≡ flat_map (starts_of_declaring text) (map declaring_view l.declarings)
