use Rattle.std.proofs.Common.{◌≡◌, ◌++◌, map, drop}
use Rattle.st_meaning.specs.NameTypes.{Declared}
use Rattle.st_rules.specs.LabelRules.{spans_of}
use Rattle.symbols.specs.Tables.{ServesTables}
use Rattle.st_typing.specs.Spans.{span_view}
use Rattle.st_typing.proofs.labels.spans_of.Given as goal

abbrev pub invariant-loop-label : goal.invariant-loop-label
invariant-loop-label l = (text : Declared) → ServesTables l.tables text
    → map span_view l.spans.items ++ spans_of text l.selector (map (λ x. x.now) (drop l.label-index l.labels))
    ≡ spans_of text l.selector (map (λ x. x.now) l.labels)
