use Rattle.std.proofs.Common.{rules, ◌≡◌, Some}
use Rattle.retain_records.specs.ContentLines.{Words, words_at}
use Rattle.retain_records.proofs.LineLemmas.{line_is, line_fits, words_cut}
use Rattle.retain_records.proofs.written_lines.line_at.Goals as goal

pub slice_bounds-result-end : goal.slice_bounds-result-end
slice_bounds-result-end c =
    let words : Words = record {
      path = c.in_ok-words.words.path.now;
      spelling = c.in_ok-words.words.spelling.now;
      behind = c.in_ok-words.words.behind.now;
    } in
    let found : Some words ≡ words_at c.args.text.now = search rules in
    line_fits c.args.text.now words (words_cut c.args.text.now words found)

pub returns : goal.returns
returns c =
    let words : Words = record {
      path = c.in_ok-words.words.path.now;
      spelling = c.in_ok-words.words.spelling.now;
      behind = c.in_ok-words.words.behind.now;
    } in
    let found : Some words ≡ words_at c.args.text.now = search rules in
    line_is c.args.text.now words (words_cut c.args.text.now words found)
