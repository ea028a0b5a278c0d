use Rattle.st_rules.specs.declared.limits.TheConstants.{MAX_TYPE_DEPTH}
use Rattle.layout.proofs.SiteLemmas.{part_declared}
use Rattle.layout.proofs.definition_laws.parts_are_declared.Goals as goal

pub returns : goal.returns
returns c = λ text s xs o h. part_declared text MAX_TYPE_DEPTH s xs o h
