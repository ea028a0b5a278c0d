use Rattle.std.proofs.Common.{◌≡◌, ◌∷◌, ◌∙◌, sym, ap, rules}
use Rattle.std.specs.Prelude.{IsErrOf}
use Rattle.std.specs.Fmt.{decimal}
use Rattle.image.specs.declared.plant_error.PlantError.TheVariants.{Field}
use Rattle.image.specs.Plants.{spelled_values}
use Rattle.live_rows.specs.RowLines.{without_cr, joined, fields_after, fields_in, row_line}
use Rattle.live_rows.proofs.RowLineLemmas.{joined-fields, fields_of_row}
use Rattle.live_rows.proofs.row_reader.RowReader.row.Goals as goal

pub returns-clause-spelled : goal.returns-clause-spelled
returns-clause-spelled c =
    let line = without_cr c.args.line.now in
    let first = c.in-Some.ensures.spelled in
    let others = c.in_ok-image.ensures.spelled in
    let fields : fields_in line ≡ decimal c.in-Some.moment ∷ spelled_values c.in_ok-image.image.items = cc in
    sym (joined-fields line) ∙ ap joined fields ∙ ap row_line (sym c.new.ensures)

pub returns-in_default-clause-none : goal.returns-in_default-clause-none
returns-in_default-clause-none c = λ err row fits same.
    let fields = ap fields_in same ∙ fields_of_row row in
    let first : c.first_and_others.result.0.now ≡ decimal row.moment = cc in
    c.in_default.ensures.none row.moment fits.1 first

pub returns-in_err-image-clause-none : goal.returns-in_err-image-clause-none
returns-in_err-image-clause-none c = λ err row fits same.
    let fields = ap fields_in same ∙ fields_of_row row in
    let others : fields_after c.first_and_others.result.1.now ≡ spelled_values row.image = cc in
    let was : IsErrOf c.values_of.result Field = first_of (search rules, cc) in
    c.values_of.ensures.none was row.image fits.0 others
