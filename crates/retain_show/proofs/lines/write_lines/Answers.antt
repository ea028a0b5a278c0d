use Rattle.std.proofs.Common.{◌++◌, rules, sym, subst, arith, OnOk}
use Rattle.std.specs.Io.KnownBytes.{Appends}
use Rattle.retain_records.specs.Splits.{parted}
use Rattle.retain_records.proofs.CutLemmas.{parted_at, parted_at_none}
use Rattle.st_print.proofs.AppendLemmas.{appends_both}
use Rattle.retain_show.specs.Shown.{line_shown}
use Rattle.retain_show.proofs.TextLemmas.{all_lines, after_part, line_last, line_more}
use Rattle.retain_show.proofs.lines.write_lines.Goals as goal

pub loop-value-preserved : goal.loop-value-preserved
loop-value-preserved g c =
    let l = c.loop-value in
    let (text, wrote, so_far) = l.invariant in (
      text ++ line_shown c.in-Some.line.now c.value-item.result,
      appends_both _ _ _ _ _ wrote (search rules),
      line_more (parted 10 l.rest.now) _ c.in-Some.line.now text _ c.args.values.now l.value-index c.value-item.result
          (parted_at 10 l.rest.now c.in-Some.line.now c.in-Some.behind.now (sym c.in-Some.ensures)) (search rules) (search rules) so_far,
    )

pub returns-in_default : goal.returns-in_default
returns-in_default g c =
    let l = c.loop-value in
    let (text, wrote, so_far) = l.invariant in
    let all = line_last (parted 10 l.rest.now) l.rest.now text _ c.args.values.now l.value-index c.value-item.result
    (parted_at_none 10 l.rest.now (sym c.in_default.ensures)) (search rules) (search rules) so_far in
    subst (λ t. OnOk c.write_line.result
    (Appends (g.W.Write.contents c.args.out.now) (g.W.Write.contents c.write_line.new.out) t)) all
    (after_part c.write_line.result (g.W.Write.contents c.args.out.now) (g.W.Write.contents l.out)
    (g.W.Write.contents c.write_line.new.out) text (line_shown l.rest.now c.value-item.result) wrote (search rules))

pub returns : goal.returns
returns g c =
    let l = c.loop-value in
    let (text, wrote, so_far) = l.invariant in
    let all = all_lines (parted 10 l.rest.now) text _ c.args.values.now l.value-index
    (omega (arith, c.loop-value-test.false)) so_far in
    subst (λ t. Appends (g.W.Write.contents c.args.out.now) (g.W.Write.contents l.out) t) all wrote
