use Rattle.std.proofs.Common.{◌≡◌, take, ap, sym, ◌∙◌}
use Rattle.live_rows.specs.RowLines.{first_field, front_of, fields_in}
use Rattle.live_rows.proofs.RowLineLemmas.{field_before, one_field, first_spelled, first_not_spelled}
use Rattle.live_rows.proofs.row_reader.moment_of.Goals as goal

pub returns-in-Some-clause-spelled : goal.returns-in-Some-clause-spelled
returns-in-Some-clause-spelled c =
    let line = c.without_cr-line in
    let first : first_field c.args.line.now ≡ take c.in-Some.end line.result.now =
    ap (λ l. front_of (fields_in l)) (sym line.ensures) ∙ ap front_of (field_before line.result.now c.in-Some.end c.in-Some.ensures).1 in
    first_spelled c.moment.result _ _ first c.moment.ensures.spelled

pub returns-in-Some-clause-none : goal.returns-in-Some-clause-none
returns-in-Some-clause-none c =
    let line = c.without_cr-line in
    let first : first_field c.args.line.now ≡ take c.in-Some.end line.result.now =
    ap (λ l. front_of (fields_in l)) (sym line.ensures) ∙ ap front_of (field_before line.result.now c.in-Some.end c.in-Some.ensures).1 in
    first_not_spelled c.moment.result _ _ first c.moment.ensures.none

pub returns-in-None-clause-spelled : goal.returns-in-None-clause-spelled
returns-in-None-clause-spelled c =
    let line = c.without_cr-line in
    let first : first_field c.args.line.now ≡ line.result.now =
    ap (λ l. front_of (fields_in l)) (sym line.ensures) ∙ ap front_of (one_field line.result.now c.in-None.ensures) in
    first_spelled c.moment-in-None.result _ _ first c.moment-in-None.ensures.spelled

pub returns-in-None-clause-none : goal.returns-in-None-clause-none
returns-in-None-clause-none c =
    let line = c.without_cr-line in
    let first : first_field c.args.line.now ≡ line.result.now =
    ap (λ l. front_of (fields_in l)) (sym line.ensures) ∙ ap front_of (one_field line.result.now c.in-None.ensures) in
    first_not_spelled c.moment-in-None.result _ _ first c.moment-in-None.ensures.none
