use Rattle.st_rules.specs.declared.limits.TheConstants.{MAX_TYPE_DEPTH}
use Rattle.st_link.proofs.ChainLemmas.{without_chain}
use Rattle.st_link.proofs.homes.types_without_long_chains_are_within_depth.Goals as goal

pub returns : goal.returns
returns c = λ text standard t h. without_chain text standard MAX_TYPE_DEPTH t h
