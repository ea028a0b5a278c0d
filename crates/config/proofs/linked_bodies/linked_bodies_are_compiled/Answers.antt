use Rattle.st_compile.specs.Linked.{CallLinkedWithin}
use Rattle.config.proofs.LinkedStatements.{stmts_linked}
use Rattle.config.proofs.linked_bodies.linked_bodies_are_compiled.Goals as goal

pub returns : goal.returns
returns c = λ library depth site t body x small stands h g.
    stmts_linked (CallLinkedWithin library depth) site t small stands body x h g
