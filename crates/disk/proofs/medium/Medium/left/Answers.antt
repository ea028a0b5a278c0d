use Rattle.std.proofs.Common.{◌≡◌, arith, refl, rules, ap, take, drop, ◌++◌, length, List, ℕ}
use Rattle.std.proofs.lemmas.List.{nil_from_length}
use Rattle.disk.proofs.ViewLemmas.{left_of, same_items_of}
use Rattle.disk.proofs.medium.Medium.left.Goals.{then-not-is_empty, else-not-is_empty}
use Rattle.disk.proofs.medium.Medium.left.Goals as goal

pub returns : goal.returns
returns c = rw (← c.self.view_is, c.truncate.ensures.items) (elim c.if-not-is_empty.branch [
  | then-not-is_empty w ↦
      let bytes : List ℕ = c.self.inside.bytes.items in
      let same : take c.self.inside.bytes.len (w.tear.new.bytes ++ drop (length w.tear.new.bytes) bytes)
      ≡ w.tear.new.bytes =
      same_items_of bytes w.tear.new.bytes c.self.inside.bytes.len (omega arith) (omega arith) in
      rw (w.bytes-is, same)
      (left_of bytes w.tear.new.bytes c.args.torn.now c.self.inside.touched.items c.self.inside.len
      c.self.inside.synced_len c.args.len c.max-size.result c.self.invariant (omega arith) (omega arith)
      (λ some. rw (w.deref_mut.ensures.value, w.deref.ensures.value) at w.tear.ensures.torn)
      (λ none i low written. absurd (let short : length c.args.torn.now ≡ 0 = ap length none in search rules))
      (rw (w.deref_mut.ensures.value, w.deref.ensures.value) at w.tear.ensures.kept))
  | else-not-is_empty w ↦
      rw w.bytes-is
      (left_of c.self.inside.bytes.items c.self.inside.bytes.items c.args.torn.now c.self.inside.touched.items
      c.self.inside.len c.self.inside.synced_len c.args.len c.max-size.result c.self.invariant refl (omega arith)
      (λ some i low written. absurd (some (nil_from_length c.args.torn.now (search rules))))
      (λ none i low written. refl) (λ i clean. refl))
])
