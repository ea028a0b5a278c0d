use Rattle.std.proofs.Common.{arith, refl}
use Rattle.disk.proofs.ViewLemmas.{written_view, still_sound}
use Rattle.disk.proofs.medium.Medium.write.Goals as goal

pub invariant_of-self : goal.invariant_of-self
invariant_of-self c =
    still_sound _ _ _ _ _ _ c.args.at c.min-start.result _ _ _ c.args.written.now (omega arith) c.self.invariant
    (rw (← c.self.view_is) at c.requires) (omega arith) (omega arith) (omega arith)
    (rw (c.put_bytes.ensures, c.deref_mut.ensures.value) refl)
    (rw (c.mark.ensures, c.deref_mut-2.ensures.value) refl)

pub returns : goal.returns
returns c = rw (← c.self.view_is) (
    written_view c.self.inside.bytes.items c.put_bytes.new.bytes c.self.inside.touched.items c.mark.new.touched
    c.self.inside.len c.self.inside.synced_len c.args.at c.min-start.result c.max-self-inside.result
    c.self.inside.bytes.len c.self.inside.touched.len c.args.written.now (omega arith) c.self.invariant
    (rw (← c.self.view_is) at c.requires) (omega arith) (omega arith) (omega arith)
    (rw (c.put_bytes.ensures, c.deref_mut.ensures.value) refl)
    (rw (c.mark.ensures, c.deref_mut-2.ensures.value) refl))
