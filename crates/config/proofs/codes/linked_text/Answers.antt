use Rattle.std.proofs.Common.{◌≡◌, sym, ◌∙◌}
use Rattle.st_link.specs.declared.link_error.LinkError.TheVariants.{NotThere, OutOfMemory}
use Rattle.config.proofs.codes.linked_text.Goals as goal

pub returns-in-Err-NotThere-clause-there : goal.returns-in-Err-NotThere-clause-there
returns-in-Err-NotThere-clause-there c = λ text seen accepted room same.
    let memory = c.in-Err-NotThere.ensures.memory text seen accepted room in
    let clash : NotThere ≡ OutOfMemory = sym c.in-Err-NotThere.field-0-is ∙ memory in
    cc
