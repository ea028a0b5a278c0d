use Rattle.std.proofs.Common.{◌∙◌, sym}
use Rattle.retain_records.proofs.NameLemmas.{no_name_here, no_room_here}
use Rattle.retain_records.proofs.CutLemmas.{shorter_behind}
use Rattle.retain_records.proofs.names.names_counted.Goals as goal

pub returns-then-count : goal.returns-then-count
returns-then-count c =
    let l = c.loop-name in
    sym (l.invariant ∙ no_room_here l.count l.rest.now c.in-Some.name.now c.in-Some.behind.now (sym c.in-Some.ensures)
    c.if-count.true)

pub returns-then-not-is_upper_name : goal.returns-then-not-is_upper_name
returns-then-not-is_upper_name c =
    let l = c.loop-name in
    sym (l.invariant ∙ no_name_here l.count l.rest.now c.in-Some.name.now c.in-Some.behind.now (sym c.in-Some.ensures)
    (sym c.is_upper_name.ensures ∙ c.if-not-is_upper_name.true))

pub loop-name-smaller : goal.loop-name-smaller
loop-name-smaller c =
    shorter_behind c.loop-name.rest.now c.in-Some.name.now c.in-Some.behind.now (sym c.in-Some.ensures)
