use Rattle.ready_list.proofs.list.ReadyList.waits_on.Goals as goal

pub returns-in-Some : goal.returns-in-Some
returns-in-Some c = λ h of none. let best = c.in-Some.ensures h of in none _ best.waits best.here
