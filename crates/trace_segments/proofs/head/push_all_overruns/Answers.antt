use Rattle.std.proofs.Common.{◌≡◌, ◌∙◌, ◌<◌, ◌+◌, ◌++◌, ap, length, arith, refl, sym, drop, get_or}
use Rattle.std.proofs.lemmas.List.{get_or_default}
use Rattle.trace.proofs.PutLemmas.{both_more}
use Rattle.trace_segments.specs.Heads.{overruns_lines}
use Rattle.trace_segments.specs.Segments.{overruns_line}
use Rattle.trace_segments.proofs.head.push_all_overruns.Goals as goal

pub loop-i-preserved : goal.loop-i-preserved
loop-i-preserved c =
    let i = c.loop-i.i in
    let small : i < length c.args.programs.now = omega (arith, c.loop-i-test.true) in
    let few : i < length c.args.overruns.now = omega (arith, c.loop-i-test.true, c.requires.sized) in
    let n = get_or c.args.overruns.now i 0 in
    ap (λ t. t ++ overruns_lines (drop (i + 1) c.args.programs.now) (drop (i + 1) c.args.overruns.now)) c.in_ok-push_overruns.ensures
    ∙ both_more overruns_lines overruns_line (λ x y xs ys. refl) c.args.programs.now c.args.overruns.now i
    c.index-programs-i.result n c.loop-i.text.items
    (c.args.text.now.items ++ overruns_lines c.args.programs.now c.args.overruns.now) small few
    (sym c.index-programs-i.is) (get_or_default c.args.overruns.now i n 0 few) c.loop-i.invariant
