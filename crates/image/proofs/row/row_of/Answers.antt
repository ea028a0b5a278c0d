use Rattle.std.proofs.Common.{◌∙◌, ap}
use Rattle.csv.specs.Records.{fields_of, field_at}
use Rattle.image.proofs.FieldLemmas.{first_and_rest, field_at-first}
use Rattle.image.proofs.row.row_of.Goals as goal

pub returns-in_default-clause-none : goal.returns-in_default-clause-none
returns-in_default-clause-none c =
    λ same row fits e. c.in_default.ensures.none row.moment fits.1 (ap (λ fs. field_at fs 0) e ∙ field_at-first _ _)

pub returns-clause-spelled : goal.returns-clause-spelled
returns-clause-spelled c = rw c.new.ensures
    (first_and_rest (fields_of c.args.record.now) _ _ c.in-Some.ensures.spelled c.in_ok-image.ensures.spelled)
