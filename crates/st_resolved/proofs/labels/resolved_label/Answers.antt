use Rattle.std.proofs.Common.{◌≡◌, sym, ap, ◌∙◌}
use Rattle.std.proofs.lemmas.Result.{IfOk-weaker}
use Rattle.st_meaning.specs.NameTypes.{Declared}
use Rattle.st_meaning.specs.ResolvedUnits.{resolved_label}
use Rattle.symbols.specs.Tables.{ServesTables}
use Rattle.st_resolved.proofs.labels.resolved_label.Goals as goal

pub returns-in-Enumerated : goal.returns-in-Enumerated
returns-in-Enumerated c =
    IfOk-weaker c.named_label.result _ (λ l. (text : Declared) → ServesTables c.args.tables.now text
    → l ≡ resolved_label text c.args.kind c.args.label.now)
    (λ l told text serves. told text serves c.args.kind
    ∙ sym (ap (resolved_label text c.args.kind) c.in-Enumerated.is)) c.named_label.ensures
