use Rattle.std.proofs.Common.{sym, ◌++◌, ◌∷◌, [], Some, None}
use Rattle.std.specs.Prelude.{codes}
use Rattle.trace.specs.Texts.{moment_text}
use Rattle.trace.proofs.HeadLemmas.{plain_moment}
use Rattle.trace.proofs.ReadLemmas.{begins_behind, begins_field, begins_no_field}
use Rattle.trace.proofs.head.moment.Goals as goal
use Rattle.retain_records.specs.RecordLaws.{IsMoment}

pub returns-in_err-field : goal.returns-in_err-field
returns-in_err-field c =
    rw c.from_residual-in_err-field.ensures (begins_behind IsMoment (λ m. moment_text m ++ 10 ∷ []) c.args.text.now
    c.in_ok-words.words.now (codes "moment ") None c.in_ok-words.ensures
    (begins_no_field IsMoment moment_text 10 c.in_ok-words.words.now plain_moment (sym c.in_err-field.ensures)))

pub returns-in_err-moment : goal.returns-in_err-moment
returns-in_err-moment c =
    rw c.from_residual-in_err-moment.ensures (begins_behind IsMoment (λ m. moment_text m ++ 10 ∷ []) c.args.text.now
    c.in_ok-words.words.now (codes "moment ") None c.in_ok-words.ensures
    (begins_field IsMoment moment_text 10 c.in_ok-words.words.now c.in_ok-field.field.now c.in_ok-field.rest.now None
    plain_moment (sym c.in_ok-field.ensures) c.in_err-moment.ensures))

pub returns : goal.returns
returns c =
    begins_behind IsMoment (λ m. moment_text m ++ 10 ∷ []) c.args.text.now c.in_ok-words.words.now (codes "moment ")
    (Some (c.in_ok-moment.moment, c.in_ok-field.rest.now)) c.in_ok-words.ensures
    (begins_field IsMoment moment_text 10 c.in_ok-words.words.now c.in_ok-field.field.now c.in_ok-field.rest.now
    (Some c.in_ok-moment.moment) plain_moment (sym c.in_ok-field.ensures) c.in_ok-moment.ensures)
