use Rattle.std.proofs.Common.{[], ◌∷◌, subst, sym}
use Rattle.std_blocks.specs.Members.{Leaves}
use Rattle.std_blocks.proofs.MemberLemmas.{stored_on}
use Rattle.std_blocks.proofs.members.put_five.Goals as goal

pub returns : goal.returns
returns c =
    subst (λ r. Leaves c.put_four.result r c.put_four.new.slots)
    (sym (stored_on c.args.slots.now c.put.new.slots c.args.at c.args.a (c.args.b ∷ c.args.c ∷ c.args.d ∷ c.args.e ∷ []) c.in_ok-put.ensures))
    c.put_four.ensures
