use Rattle.std.proofs.Common.{◌+◌, ◌∷◌, drop, sym, ap, ◌∙◌}
use Rattle.live_rows.specs.RowLines.{fields_after, fields_in}
use Rattle.live_rows.proofs.RowLineLemmas.{fields_after-drop, field_before, one_field}
use Rattle.live_rows.proofs.fields.first_and_others.Goals as goal

pub returns-in-Some : goal.returns-in-Some
returns-in-Some c =
    let bytes = c.args.bytes.now in
    let end = c.in-Some.end in
    let cut = field_before bytes end c.in-Some.ensures in
    let parts = c.split_at.ensures in
    cut.1 ∙ ap (λ f. f ∷ fields_in (drop (end + 1) bytes)) (sym parts.front)
    ∙ ap (λ fs. c.split_at.result.0.now ∷ fs)
    (sym (fields_after-drop bytes end cut.0) ∙ ap fields_after (sym parts.back))

pub returns-in-None : goal.returns-in-None
returns-in-None c = one_field c.args.bytes.now c.in-None.ensures
