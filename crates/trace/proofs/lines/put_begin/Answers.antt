use Rattle.std.proofs.Common.{◌++◌, true}
use Rattle.std.specs.Prelude.{codes}
use Rattle.std.specs.Fmt.{decimal}
use Rattle.trace.specs.Texts.{line, mode_text, moment_text}
use Rattle.trace.proofs.PutLemmas.{puts_both}
use Rattle.trace.proofs.lines.put_begin.Goals as goal

pub returns : goal.returns
returns g c =
    let budget = line (codes "budget " ++ decimal c.args.budget) in
    let mode = line (codes "start " ++ mode_text c.args.mode) in
    let moment = line (codes "moment " ++ moment_text c.args.moment) in
    puts_both (g.W.Write.contents c.args.out.now) (g.W.Write.contents c.put-works.new.out)
    (g.W.Write.contents c.put_moment.new.out) true c.put-works.result c.put_moment.result (line (codes "trace 1"))
    (budget ++ (mode ++ moment)) c.put-works.ensures
    (puts_both (g.W.Write.contents c.put-works.new.out) (g.W.Write.contents c.put_count-works.new.out)
    (g.W.Write.contents c.put_moment.new.out) c.put-works.result c.put_count-works.result c.put_moment.result budget
    (mode ++ moment) c.put_count-works.ensures
    (puts_both (g.W.Write.contents c.put_count-works.new.out) (g.W.Write.contents c.put_mode-works.new.out)
    (g.W.Write.contents c.put_moment.new.out) c.put_count-works.result c.put_mode-works.result c.put_moment.result mode
    moment c.put_mode-works.ensures c.put_moment.ensures))
