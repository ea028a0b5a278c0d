use Rattle.std.proofs.Common.{ap, map, refl, subst}
use Rattle.std.specs.Vec.{vec_items}
use Rattle.trace.specs.Puts.{IsPut}
use Rattle.trace.specs.Texts.{trace_of}
use Rattle.trace.proofs.PutLemmas.{put_all_of}
use Rattle.trace.proofs.TraceLemmas.{trace_puts}
use Rattle.trace.proofs.writing.write_trace.Goals as goal

pub returns-then-works-clause-whole : goal.returns-then-works-clause-whole
returns-then-works-clause-whole g c =
    let puts = trace_puts c.args.core.now (g.W.Write.contents c.args.out.now)
    (g.W.Write.contents c.put_begin-works.new.out) (g.W.Write.contents c.put_kept-works.new.out)
    (g.W.Write.contents c.put_log-works.new.out) (g.W.Write.contents c.put_end-works.new.out)
    c.put_begin-works.result c.put_kept-works.result c.put_log-works.result c.put_end-works.result
    c.plan-plan.result.now c.mode.result c.start_moment.result (map vec_items c.deref.result.now) c.deref-2.result.now
    c.start_values.result.now c.len.result c.plan-plan.ensures c.mode.ensures c.start_moment.ensures
    (ap (map vec_items) c.deref.ensures.value) c.deref-2.ensures.value c.start_values.ensures.store
    c.start_values.ensures.len c.len.ensures.len c.put_begin-works.ensures c.put_kept-works.ensures
    c.put_log-works.ensures c.put_end-works.ensures in
    subst (λ b. IsPut (g.W.Write.contents c.args.out.now) (g.W.Write.contents c.put_end-works.new.out) b
    (trace_of c.args.core.now)) c.if-works.true
    (put_all_of (g.W.Write.contents c.args.out.now) (g.W.Write.contents c.put_end-works.new.out) c.put_end-works.result
    (trace_of c.args.core.now) puts)

pub returns-else-works-clause-part : goal.returns-else-works-clause-part
returns-else-works-clause-part g c =
    let puts = trace_puts c.args.core.now (g.W.Write.contents c.args.out.now)
    (g.W.Write.contents c.put_begin-works.new.out) (g.W.Write.contents c.put_kept-works.new.out)
    (g.W.Write.contents c.put_log-works.new.out) (g.W.Write.contents c.put_end-works.new.out)
    c.put_begin-works.result c.put_kept-works.result c.put_log-works.result c.put_end-works.result
    c.plan-plan.result.now c.mode.result c.start_moment.result (map vec_items c.deref.result.now) c.deref-2.result.now
    c.start_values.result.now c.len.result c.plan-plan.ensures c.mode.ensures c.start_moment.ensures
    (ap (map vec_items) c.deref.ensures.value) c.deref-2.ensures.value c.start_values.ensures.store
    c.start_values.ensures.len c.len.ensures.len c.put_begin-works.ensures c.put_kept-works.ensures
    c.put_log-works.ensures c.put_end-works.ensures in
    let part = subst (λ b. IsPut (g.W.Write.contents c.args.out.now) (g.W.Write.contents c.put_end-works.new.out) b
    (trace_of c.args.core.now)) c.if-works.false
    (put_all_of (g.W.Write.contents c.args.out.now) (g.W.Write.contents c.put_end-works.new.out) c.put_end-works.result
    (trace_of c.args.core.now) puts) in
    (refl, part.0, part.1, part.2, part.3)
