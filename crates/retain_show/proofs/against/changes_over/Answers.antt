use Rattle.std.proofs.Common.{rules, map}
use Rattle.std.specs.Vec.{vec_items}
use Rattle.retain_show.specs.InitialLines.{record_lines, text_lines}
use Rattle.retain_show.proofs.StartLemmas.{changes_found}
use Rattle.retain_show.proofs.against.changes_over.Goals as goal

pub returns : goal.returns
returns c = λ generation.
    changes_found (map vec_items c.args.text.now.types.now) c.args.text.now.variables.now generation c.args.last.now
    (text_lines c.in_ok-sides.sides) (record_lines c.in_ok-sides.sides) c.args.text.now.layout.now
    c.in_ok-changes.changes (search rules) (search rules) (search rules) c.requires.layout (search rules)
