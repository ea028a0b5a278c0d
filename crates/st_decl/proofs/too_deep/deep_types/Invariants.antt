use Rattle.std.proofs.Common.{map, drop}
use Rattle.std.specs.List.{flat_map}
use Rattle.st_types.specs.DeclarationViews.{type_declaration_view}
use Rattle.st_meaning.specs.NameTypes.{Declared}
use Rattle.st_rules.specs.Faults.{breaking, in_case}
use Rattle.st_rules.specs.Containment.{named, is_too_deep, reason_of_depth}
use Rattle.st_rules.proofs.CollectLemmas.{Searches}
use Rattle.symbols.specs.Found.{found}
use Rattle.st_decl.specs.Numbered.{AreJudged}
use Rattle.st_decl.proofs.too_deep.deep_types.Given as goal

abbrev pub invariant-loop-declaration : goal.invariant-loop-declaration
invariant-loop-declaration l = (text : Declared) → AreJudged text (found l.numbers) l.marks
    → Searches
    (flat_map (λ t. breaking (reason_of_depth text t.name.name)
    (in_case (is_too_deep text (named t.name.name)) t.name.place)) (map (λ t. type_declaration_view t.now) l.types))
    (flat_map (λ t. breaking (reason_of_depth text t.name.name)
    (in_case (is_too_deep text (named t.name.name)) t.name.place))
    (map (λ t. type_declaration_view t.now) (drop l.declaration-index l.types))) l.initial.broken l.broken
