use Rattle.std.proofs.Common.{rules, ◌≡◌, ◌∙◌, ap, drop, subst, sym, Bor}
use Rattle.std.proofs.lemmas.List.{take_rest}
use Rattle.std.specs.Prelude.{List, ℕ}
use Rattle.trace.proofs.PutLemmas.{put_idle, put_until, put_more, put_kept, IsFar, far_more, far_same}
use Rattle.trace.proofs.putting.put.Goals as goal
use Rattle.trace.proofs.putting.put.Goals.{in-Ok, in-Err+else-ne}

pub returns-then-not-works : goal.returns-then-not-works
returns-then-not-works g c = put_idle (g.W.Write.contents c.args.out.now) c.args.works c.args.bytes.now c.if-not-works.true

pub returns-in-Ok-eq0 : goal.returns-in-Ok-eq0
returns-in-Ok-eq0 g c =
    let (front, parts, wrote) = c.tries.invariant in
    put_more (g.W.Write.contents c.args.out.now) (g.W.Write.contents c.tries.out)
    (g.W.Write.contents c.write.new.self) c.args.works c.args.bytes.now front c.tries.rest.now c.in-Ok-eq0.field-0
    c.if-not-works.false parts wrote c.in-Ok-eq0.ensures.bytes

pub returns-then-ne : goal.returns-then-ne
returns-then-ne g c =
    let (front, parts, wrote) = c.tries.invariant in
    put_kept (g.W.Write.contents c.args.out.now) (g.W.Write.contents c.tries.out)
    (g.W.Write.contents c.write.new.self) c.args.works c.args.bytes.now front c.tries.rest.now
    c.if-not-works.false parts wrote c.in-Err.ensures.bytes

pub returns : goal.returns
returns g c =
    let (front, parts, wrote) = c.tries.invariant in
    put_until (g.W.Write.contents c.args.out.now) (g.W.Write.contents c.tries.out) c.args.works c.args.bytes.now front
    c.tries.rest.now c.if-not-works.false parts wrote

pub tries-preserved : goal.tries-preserved
tries-preserved g c = elim c.match-write.branch [
  | in-Ok w ↦
      let more = far_more (g.W.Write.contents c.args.out.now) (g.W.Write.contents c.tries.out)
      (g.W.Write.contents c.write.new.self) c.args.bytes.now c.tries.rest.now w.in-Ok.n c.tries.invariant
      w.in-Ok.ensures.bytes in
      let e : c.match-write.rest.now ≡ drop w.in-Ok.n c.tries.rest.now = ap (λ (r : Bor (List ℕ)). r.now) w.rest-is ∙ take_rest c.tries.rest.now w.in-Ok.n in
      subst (IsFar (g.W.Write.contents c.args.out.now) (g.W.Write.contents c.write.new.self) c.args.bytes.now) (sym e)
      more
  | in-Err+else-ne w ↦
      let more = far_same (g.W.Write.contents c.args.out.now) (g.W.Write.contents c.tries.out)
      (g.W.Write.contents c.write.new.self) c.args.bytes.now c.tries.rest.now c.tries.invariant
      w.in-Err.ensures.bytes in
      let e : c.match-write.rest.now ≡ c.tries.rest.now = search rules in
      subst (IsFar (g.W.Write.contents c.args.out.now) (g.W.Write.contents c.write.new.self) c.args.bytes.now) (sym e)
      more
]
