use Rattle.std.proofs.Common.{◌∙◌, ap, Some}
use Rattle.std_blocks.proofs.MemberLemmas.{six}
use Rattle.std_blocks.proofs.members.six_members.Goals as goal

pub returns-clause-there : goal.returns-clause-there
returns-clause-there c =
    c.in_ok-m.ensures.there ∙ ap Some (six c.in_ok-m.m.now c.index-m-0.result c.index-m-1.result c.index-m-2.result
    c.index-m-3.result c.index-m-4.result c.index-m-5.result c.in_ok-m.ensures.count c.index-m-0.is c.index-m-1.is
    c.index-m-2.is c.index-m-3.is c.index-m-4.is c.index-m-5.is)
