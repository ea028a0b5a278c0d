use Rattle.st_compile.specs.Linked.{CallLinkedWithin}
use Rattle.st_link.proofs.ValueLaw.{inside}
use Rattle.st_rules.specs.Demands.{expected_of}
use Rattle.config.proofs.Expressions.{expr_sound}
use Rattle.config.proofs.fitting_laws.expressions_without_faults_are_sound.Goals as goal

pub returns : goal.returns
returns c = λ library depth site env t d e h of.
    expr_sound (CallLinkedWithin library depth) site env t (expected_of d) e (inside env d e h) of
