use Rattle.st_rules.specs.Demands.{expected_of}
use Rattle.st_link.proofs.ValueLaw.{inside}
use Rattle.st_link.proofs.ExpressionLinks.{expr_linked}
use Rattle.st_link.proofs.links.expressions_without_faults_are_linked.Goals as goal

pub returns : goal.returns
returns c = λ env t d e k orderly serves h is.
    expr_linked env t orderly serves (expected_of d) e (inside env d e h) k is
