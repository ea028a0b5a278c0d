use Rattle.config.proofs.Whole.{accepted_compiled}
use Rattle.config.proofs.fitting_laws.accepted_texts_are_compiled.Goals as goal

pub returns : goal.returns
returns c = λ source called kept accepted spelled room linked.
    accepted_compiled source called kept accepted spelled room linked.is
