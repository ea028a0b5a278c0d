use Rattle.std.proofs.Common.{sym}
use Rattle.core_values.proofs.ImageLemmas.{holds_none}
use Rattle.core_values.proofs.rows.is_image.Goals as goal

pub returns-then-inputs-image : goal.returns-then-inputs-image
returns-then-inputs-image c = sym (holds_none c.args.inputs.now c.args.image.now c.if-inputs-image.true)
