use Rattle.std.proofs.Common.{[], ◌∷◌, subst, sym}
use Rattle.std_blocks.specs.Members.{Leaves}
use Rattle.std_blocks.proofs.MemberLemmas.{stored_on}
use Rattle.std_blocks.proofs.members.put_three.Goals as goal

pub returns : goal.returns
returns c =
    subst (λ r. Leaves c.put_two.result r c.put_two.new.slots)
    (sym (stored_on c.args.slots.now c.put.new.slots c.args.at c.args.a (c.args.b ∷ c.args.c ∷ []) c.in_ok-put.ensures))
    c.put_two.ensures
