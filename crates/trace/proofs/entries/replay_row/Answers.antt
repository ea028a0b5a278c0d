use Rattle.std.proofs.Common.{◌≡◌, ◌∙◌, ap, sym, arith, Some, ◌∷◌, length, slice_get, length-append}
use Rattle.std.proofs.lemmas.Option.{slice_get-get_or, some_pair_parts}
use Rattle.st_types.specs.Rows.{Latch}
use Rattle.serial_core.specs.Steps.{past_in}
use Rattle.trace.proofs.ReadLemmas.{none_some}
use Rattle.trace.proofs.FirstLemmas.{first_row, latch_refused, row_grows, same_row}
use Rattle.trace.proofs.entries.replay_row.Goals as goal

pub returns-in-None-clause-refused : goal.returns-in-None-clause-refused
returns-in-None-clause-refused c = λ other more left.
    let f = first_row c.args.core.now c.args.rows.now c.args.text.now more left in
    none_some (f.row.moment, f.rest) (c.in-None.ensures.1 f.row.moment f.rest (omega (arith, f.early)) f.told)

pub returns-then-moment-ge-MOMENT_LIMIT-clause-refused : goal.returns-then-moment-ge-MOMENT_LIMIT-clause-refused
returns-then-moment-ge-MOMENT_LIMIT-clause-refused c = λ other more left.
    let f = first_row c.args.core.now c.args.rows.now c.args.text.now more left in
    let one = some_pair_parts c.in-Some.told.0 f.row.moment c.in-Some.told.1.now f.rest
    (c.in-Some.ensures.1 f.row.moment f.rest (omega (arith, f.early)) f.told) in
    absurd (omega (arith, one.0, f.early, c.if-moment-ge-MOMENT_LIMIT.true))

pub returns-in-None-get-clause-refused : goal.returns-in-None-get-clause-refused
returns-in-None-get-clause-refused c = λ other more left.
    let f = first_row c.args.core.now c.args.rows.now c.args.text.now more left in
    let past = c.in-None-get.ensures.lookup.3 in
    absurd (omega (
      arith,
      past,
      ap length f.rows_are,
      length-append (past_in c.args.core.now).rows (f.row ∷ f.behind),
      c.rows.ensures,
    ))

pub returns-then-moment-clause-refused : goal.returns-then-moment-clause-refused
returns-then-moment-clause-refused c = λ other more left.
    let f = first_row c.args.core.now c.args.rows.now c.args.text.now more left in
    let one = some_pair_parts c.in-Some.told.0 f.row.moment c.in-Some.told.1.now f.rest
    (c.in-Some.ensures.1 f.row.moment f.rest (omega (arith, f.early)) f.told) in
    let there = c.in-Some-get.ensures.lookup.3 in
    let row = same_row c.args.core.now c.args.rows.now c.args.text.now c.rows.result c.in-Some-get.row.now f
    c.rows.ensures there.0 (there.1 c.in-Some-get.row.now) in
    c.if-moment.true (c.moment.ensures ∙ ap (λ (r : Latch). r.moment) row ∙ sym one.0)

pub returns-in-Ok-latch-clause-grows : goal.returns-in-Ok-latch-clause-grows
returns-in-Ok-latch-clause-grows c =
    let (left, rows_are) = c.requires.rows in
    let h = c.in-Ok-latch.ensures in
    let there = c.in-Some-get.ensures.lookup.3 in
    let at : slice_get c.args.rows.now (length (past_in c.args.core.now).rows) ≡ Some c.in-Ok.row =
    ap (slice_get c.args.rows.now) (sym c.rows.ensures)
    ∙ slice_get-get_or c.args.rows.now c.rows.result c.in-Some-get.row.now there.0
    ∙ ap Some (sym (there.1 c.in-Some-get.row.now) ∙ sym c.in-Ok.ensures) in
    row_grows c.args.core.now c.latch.new.self c.args.rows.now left c.args.text.now c.in-Some.told.1.now c.in-Ok.row
    c.in-Some.told.0 rows_are at h.1 h.2
    (ap (λ (r : Latch). r.moment) c.in-Ok.ensures ∙ sym c.moment.ensures ∙ c.if-moment.false) c.in-Some.ensures.0.1 h.4

pub returns-in-Err : goal.returns-in-Err
returns-in-Err c = record {
  grows = tt;
  refused = λ other more left.
      let f = first_row c.args.core.now c.args.rows.now c.args.text.now more left in
      let there = c.in-Some-get.ensures.lookup.3 in
      latch_refused c.args.core.now c.latch.new.self c.args.rows.now c.args.text.now c.in-Ok.row c.in-Err.field-0
      c.requires.room c.in-Err.ensures f
      (c.in-Ok.ensures ∙ same_row c.args.core.now c.args.rows.now c.args.text.now c.rows.result c.in-Some-get.row.now f
      c.rows.ensures there.0 (there.1 c.in-Some-get.row.now));
}
