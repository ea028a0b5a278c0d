use Rattle.st_compile.specs.Linked.{CallLinkedWithin}
use Rattle.config.proofs.Statements.{stmts_sound}
use Rattle.config.proofs.fitting_laws.statements_without_faults_are_sound.Goals as goal

pub returns : goal.returns
returns c = λ library depth site env t c xs known few instances h of.
    stmts_sound (CallLinkedWithin library depth) site env t known few instances c xs h of
