use Rattle.std.proofs.Common.{◌∙◌, arith, refl}
use Rattle.disk.proofs.ViewLemmas.{at_rest, same_items_of}
use Rattle.disk.proofs.medium.Medium.sync.Goals as goal

pub returns : goal.returns
returns c = rw (← c.self.view_is) (
    at_rest _ c.self.inside.bytes.items _ c.self.inside.len _ _ _ refl
    (same_items_of c.self.inside.touched.items c.clear.new.touched c.self.inside.touched.len (omega arith) (omega arith)
    ∙ c.clear.ensures)
    (omega arith) (omega arith) (omega arith) refl)
