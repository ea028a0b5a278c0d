use Rattle.std.proofs.Common.{refl}
use Rattle.layout.specs.NamedSites.{named_site_view}
use Rattle.layout.proofs.block_members.variable_part.Goals as goal

pub returns : goal.returns
returns c s is = c.member_of.ensures s (named_site_view c.args.variable) is refl refl refl (λ so. refl)
