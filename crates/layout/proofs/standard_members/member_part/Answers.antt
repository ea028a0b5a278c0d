use Rattle.std.proofs.Common.{refl}
use Rattle.layout.specs.Types.{site_of_member}
use Rattle.layout.specs.StandardMembers.{standard_member_view}
use Rattle.layout.proofs.standard_members.member_part.Goals as goal

pub returns : goal.returns
returns c s is =
    c.member_of.ensures s (site_of_member (standard_member_view c.args.member)) is refl refl refl (λ so. refl)
