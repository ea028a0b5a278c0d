use Rattle.std.proofs.Common.{rules, ◌≡◌, ◌∙◌, ◌∷◌, Bool, ap, arith, length, map, vec_items, vec_capacity, Option, Some, None}
use Rattle.std.specs.Prelude.{List, ℕ}
use Rattle.st_types.specs.Values.{Datum}
use Rattle.retain_records.specs.ContentLines.{lines_in}
use Rattle.retain_records.specs.Lines.{line_at}
use Rattle.retain_records.specs.Marked.{restored_rest, with_number_at}
use Rattle.retain_records.proofs.MarkedLemmas.{turn_given, turn_past, turn_end, turn_done, given_long}
use Rattle.retain_records.proofs.matching.take_lines.Goals as goal
use Rattle.retain_records.proofs.matching.take_lines.Goals.{in-Some-place_of, in_default-place_of}

pub returns-in_default-line_at-clause-items : goal.returns-in_default-line_at-clause-items
returns-in_default-line_at-clause-items c =
    let l = c.loop-first in
    let none : ◌≡◌ {A = Option (List ℕ × List ℕ)} None (line_at l.text.now) = search rules in
    turn_end (map vec_items c.args.lines.now.keys) l.marks.items l.values.items l.text.now l.told.now none
    ∙ l.invariant.0

pub loop-first-preserved : goal.loop-first-preserved
loop-first-preserved c =
    let l = c.loop-first in
    let lines = map vec_items c.args.lines.now.keys in
    let d = c.in-Some.first.now in
    let ds = c.in-Some.others.now in
    let line = c.in-Some-line_at.line.written.now in
    let behind = c.in-Some-line_at.line.behind.now in
    let at : Some (line, behind) ≡ line_at l.text.now = search rules in
    let all : d ∷ ds ≡ l.told.now = search rules in
    let whole = ap (λ (ts : List Datum). restored_rest lines l.marks.items (lines_in l.text.now ts) l.values.items) all
    ∙ l.invariant.0 in
    elim c.match-place_of.branch [
      | in-Some-place_of w ↦
          let place = w.in-Some-place_of.place in
          let values = ap (λ v. v.items) w.values-is ∙ w.give.ensures.values in
          let marks = ap (λ v. v.items) w.marks-is ∙ w.give.ensures.marks in (
            ap (λ (vs : List Datum). restored_rest lines c.match-place_of.marks.items (lines_in behind ds) vs) values
                ∙ ap (λ (ms : List Bool). restored_rest lines ms (lines_in behind ds)
                (with_number_at place d.number l.values.items l.marks.items).values) marks
                ∙ turn_given lines l.marks.items l.values.items l.text.now line behind d ds place at
                w.in-Some-place_of.ensures.place c.requires.different
                ∙ whole,
            ap length marks ∙ given_long place d.number l.values.items l.marks.items ∙ l.invariant.1,
            omega (arith, ap vec_capacity w.values-is, w.give.ensures.capacity, l.invariant.2),
          )
      | in_default-place_of w ↦
          let values = ap (λ v. v.items) w.values-is in
          let marks = ap (λ v. v.items) w.marks-is in (
            ap (λ (vs : List Datum). restored_rest lines c.match-place_of.marks.items (lines_in behind ds) vs) values
                ∙ ap (λ (ms : List Bool). restored_rest lines ms (lines_in behind ds) l.values.items) marks
                ∙ turn_past lines l.marks.items l.values.items l.text.now line behind d ds at
                w.in_default-place_of.ensures.place
                ∙ whole,
            ap length marks ∙ l.invariant.1,
            omega (arith, ap vec_capacity w.values-is, l.invariant.2),
          )
    ]

pub returns-clause-items : goal.returns-clause-items
returns-clause-items c =
    let l = c.loop-first in
    let none : length l.told.now ≡ 0 = search rules in
    turn_done (map vec_items c.args.lines.now.keys) l.marks.items l.values.items l.text.now l.told.now none
    ∙ l.invariant.0
