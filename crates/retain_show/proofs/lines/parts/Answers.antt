use Rattle.std.proofs.Common.{sym, rules}
use Rattle.retain_records.proofs.CutLemmas.{parted_at, parted_at_none, shorter_behind}
use Rattle.retain_show.proofs.TextLemmas.{one_more, last_one}
use Rattle.retain_show.proofs.lines.parts.Goals as goal

pub loop-name-smaller : goal.loop-name-smaller
loop-name-smaller c =
    shorter_behind c.loop-name.rest.now c.in-Some.name.now c.in-Some.behind.now (sym c.in-Some.ensures)

pub loop-name-preserved : goal.loop-name-preserved
loop-name-preserved c =
    let l = c.loop-name in
    one_more l.names.items c.push.new.self.items _ _ _ c.in-Some.name.now (search rules)
    (parted_at 44 l.rest.now c.in-Some.name.now c.in-Some.behind.now (sym c.in-Some.ensures)) l.invariant

pub returns : goal.returns
returns c =
    let l = c.loop-name in
    last_one l.names.items c.push-2.new.self.items _ _ l.rest.now (search rules)
    (parted_at_none 44 l.rest.now (sym c.in_default.ensures)) l.invariant
