use Rattle.std.proofs.Common.{◌≡◌, Some, false, rules, subst, sym}
use Rattle.image.specs.Plants.{IsHeader}
use Rattle.live_rows.specs.Lines.{ReadsLine}
use Rattle.live_rows.specs.RowLines.{headed, line_fields}
use Rattle.live_rows.specs.declared.line_reader.LineEnd.TheVariants.{Whole}
use Rattle.source_run.proofs.LiveLemmas.{no_header}
use Rattle.source_run.proofs.living.lines_after_header.Goals as goal

pub returns-then-not-branch-clause-none : goal.returns-then-not-branch-clause-none
returns-then-not-branch-clause-none g c = λ is.
    let reads : ReadsLine (g.I.Read.remaining c.args.input) c.line.result.now c.next.new.self.left c.in-Ok-next.end = search rules in
    let no : c.in_ok-is_header.field-0 ≡ false = search rules in
    no_header c.args.plan.now c.args.job.now (g.I.Read.remaining c.args.input) c.next.new.self.left c.line.result.now
    c.in-Ok-next.end c.bytes_begin_with_one_line.ensures.one reads
    (λ it. let yes = c.in_ok-is_header.ensures.1 (subst (λ m. (c.in-Ok-next.end ≡ Some Whole)
    × IsHeader c.args.plan.now.inputs.items (line_fields (headed m c.line.result.now))) (sym c.moments.ensures) it) in cc)
