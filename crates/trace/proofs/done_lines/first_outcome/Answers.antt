use Rattle.std.proofs.Common.{sym, Some}
use Rattle.st_meaning.specs.declared.outcome.Outcome.{Outcome}
use Rattle.trace.specs.Texts.{outcome_text}
use Rattle.trace.proofs.HeadLemmas.{plain_outcome}
use Rattle.trace.proofs.ReadLemmas.{begins_field}
use Rattle.trace.proofs.done_lines.first_outcome.Goals as goal

pub returns : goal.returns
returns c = begins_field (λ (o : Outcome). Unit {0}) (λ o. outcome_text (Some o)) 10 c.args.text.now
    c.in_ok-field.field.now c.in_ok-field.rest.now (Some c.in_ok-outcome.outcome) (λ o may. plain_outcome o)
    (sym c.in_ok-field.ensures) c.in_ok-outcome.ensures
