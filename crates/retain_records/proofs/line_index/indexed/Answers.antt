use Rattle.std.proofs.Common.{rules, ◌≡◌, ◌∙◌, ◌++◌, ap, sym, map, vec_items, append-nil, Option, Some, None}
use Rattle.std.specs.Prelude.{List, ℕ}
use Rattle.retain_records.specs.Lines.{line_at, lines_of}
use Rattle.retain_records.proofs.LineLemmas.{first_of, first_shorter, no_first, lines_stop}
use Rattle.retain_records.proofs.IndexLemmas.{put_behind}
use Rattle.retain_records.proofs.line_index.indexed.Goals as goal

pub loop-line-smaller : goal.loop-line-smaller
loop-line-smaller c =
    let at : Some (c.in-Some.line.written.now, c.in-Some.line.behind.now) ≡ line_at c.loop-line.rest.now = search rules in
    first_shorter c.loop-line.rest.now c.in-Some.line.written.now c.in-Some.line.behind.now at

pub loop-line-preserved : goal.loop-line-preserved
loop-line-preserved c =
    let l = c.loop-line in
    let line = c.in-Some.line.written.now in
    let behind = c.in-Some.line.behind.now in
    let at : Some (line, behind) ≡ line_at l.rest.now = search rules in
    ap (λ keys. map vec_items keys ++ lines_of behind) c.in_ok-insert.ensures.keys
    ∙ put_behind l.lines.keys c.in_ok-from_slice.field-0 line (lines_of behind) (lines_of c.args.layout.now)
    c.in_ok-from_slice.ensures.items
    (ap (λ (ls : List (List ℕ)). map vec_items l.lines.keys ++ ls) (sym (first_of l.rest.now line behind at))
    ∙ l.invariant) c.requires.different

pub returns : goal.returns
returns c =
    let l = c.loop-line in
    let none : ◌≡◌ {A = Option (List ℕ × List ℕ)} None (line_at l.rest.now) = search rules in
    sym (append-nil (map vec_items l.lines.keys))
    ∙ ap (λ (ls : List (List ℕ)). map vec_items l.lines.keys ++ ls) (sym (lines_stop l.rest.now (no_first l.rest.now none)))
    ∙ l.invariant
