use Rattle.std.proofs.Common.{rules, ◌++◌}
use Rattle.retain_show.proofs.TextLemmas.{after_part}
use Rattle.retain_show.specs.Shown.{generation_shown, moment_shown}
use Rattle.st_print.proofs.AppendLemmas.{appends_both}
use Rattle.retain_show.proofs.record.write_record.Goals as goal

pub returns : goal.returns
returns g c =
    after_part c.write_lines.result _ _ _ (generation_shown c.args.generation ++ moment_shown c.args.last.now.moment) _
    (appends_both (g.W.Write.contents c.args.out.now) (g.W.Write.contents c.write_generation.new.out)
    (g.W.Write.contents c.write_moment.new.out) (generation_shown c.args.generation)
    (moment_shown c.args.last.now.moment) (search rules) (search rules)) (search rules)
