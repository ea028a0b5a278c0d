use Rattle.st_rules.specs.declared.limits.TheConstants.{MAX_TYPE_DEPTH}
use Rattle.layout.proofs.DepthLemmas.{expanded_whole}
use Rattle.layout.proofs.definition_laws.types_are_fully_expanded.Goals as goal

pub returns : goal.returns
returns c = λ text t n h le. expanded_whole text MAX_TYPE_DEPTH n t h le
