use Rattle.std.proofs.Common.{rules, arith, ◌≡◌, refl, ap, subst, ◌∙◌, suc, ◌+◌, ◌-◌, ◌∷◌, [], ◌++◌, length, map}
use Rattle.std.proofs.Common.{drop, Err}
use Rattle.std.proofs.Math.ListN.{drop_of_length-le}
use Rattle.std.specs.Vec.{vec_len}
use Rattle.layout.specs.Shapes.{is_sound, size, instance_count}
use Rattle.layout.specs.Types.{composition_of, shape_within}
use Rattle.layout.specs.Compositions.{composition_view}
use Rattle.layout.specs.Growth.{Exceeds, Grows}
use Rattle.layout.specs.KeptSites.{part_view, site_view}
use Rattle.layout.specs.declared.growing.Growing.{Growing}
use Rattle.layout.proofs.GrowthLemmas.{Remains, grows_nothing, begun, next, turned, ended, no_room, no_room_itself}
use Rattle.layout.proofs.GrowthLemmas.{taken_back}
use Rattle.layout.proofs.growing.+push_site.Goals as goal
use Rattle.st_types.proofs.ListLemmas.{drop_next}

pub returns-then-depth-eq0-clause-ok : goal.returns-then-depth-eq0-clause-ok
returns-then-depth-eq0-clause-ok d c text s serves is sound =
    grows_nothing c.args.depth text s c.args.root c.args.grown.now (search rules)

pub returns-in_err-push_own-clause-err : goal.returns-in_err-push_own-clause-err
returns-in_err-push_own-clause-err d c =
    let fault : c.from_residual.result ≡ Err c.in_err-push_own.field-0.0 = search rules in
    let deep : suc (c.args.depth - 1) ≡ c.args.depth = omega (arith, c.if-depth-eq0.false) in
    rw fault (λ text s serves is sound.
    subst (λ n. Exceeds (length c.args.grown.now.slots.items + size (shape_within n text s.declared))
    (c.args.grown.now.instances + instance_count (shape_within n text s.declared)) c.in_err-push_own.field-0.0) deep
    (no_room_itself (c.args.depth - 1) text s (length c.args.grown.now.slots.items) c.args.grown.now.instances
    (composition_view c.composition_of-composed.result) c.in_err-push_own.field-0.0
    (c.composition_of-composed.ensures text serves ∙ ap (λ k. composition_of text k.declared) is)
    c.in_err-push_own.ensures.err))

pub loop-part-init : goal.loop-part-init
loop-part-init d c = record {
  trail = search rules;
  room = search rules;
  few = search rules;
  grown = λ text s serves is sound.
      let deep : suc (c.args.depth - 1) ≡ c.args.depth = omega (arith, c.if-depth-eq0.false) in
      begun (c.args.depth - 1) text s c.args.root c.args.grown.now c.push_own.new.grown
      (composition_view c.composition_of-composed.result) (site_view c.args.site) c.deref-part-items.result.now
      (c.composition_of-composed.ensures text serves ∙ ap (λ k. composition_of text k.declared) is) is
      (ap (λ n. is_sound (shape_within n text s.declared)) deep ∙ sound)
      c.in_ok-push_own.ensures.slots c.in_ok-push_own.ensures.instances
      (ap (map part_view) c.deref-part-items.ensures.value ∙ c.in_ok-parts.ensures s is);
}

pub returns-in_err-push_site-clause-err : goal.returns-in_err-push_site-clause-err
returns-in_err-push_site-clause-err d c =
    let fault : c.from_residual-in_err-push_site.result ≡ Err c.in_err-push_site.field-0.0 = search rules in
    let deep : suc (c.args.depth - 1) ≡ c.args.depth = omega (arith, c.if-depth-eq0.false) in
    let left = drop (c.loop-part.part-index + 1) c.deref-part-items.result.now in
    rw fault (λ text s serves is sound.
    let m = subst (Remains (c.args.depth - 1) text s c.args.root c.args.grown.now c.loop-part.grown)
    (drop_next c.deref-part-items.result.now c.loop-part.part-index c.part-item.result (omega arith) c.part-item.is)
    (c.loop-part.invariant.grown text s serves is sound) in
    let x = next (c.args.depth - 1) text s c.args.root c.args.grown.now c.loop-part.grown c.part-item.result left m in
    subst (λ n. Exceeds (length c.args.grown.now.slots.items + size (shape_within n text s.declared))
    (c.args.grown.now.instances + instance_count (shape_within n text s.declared)) c.in_err-push_site.field-0.0) deep
    (no_room c.leaves_of_shapes.ensures.count (c.args.depth - 1) text s c.args.root c.args.grown.now c.loop-part.grown
    c.part-item.result left m c.in_err-push_site.field-0.0
    (c.in_err-push_site.ensures.err text x.site serves x.is x.sound)))

pub loop-part-preserved : goal.loop-part-preserved
loop-part-preserved d c = record {
  trail = taken_back c.args.grown.now.trail.items c.push_site.new.grown.trail.items c.pop.new.self.items
      c.part-item.result.step (vec_len c.push_site.new.grown.trail)
      (c.in_ok-push_site.ensures.trail ∙ c.in_ok-push.ensures.items
      ∙ ap (λ xs. xs ++ c.part-item.result.step ∷ []) c.loop-part.invariant.trail)
      (search rules) c.pop.ensures.rest;
  room = search rules;
  few = search rules;
  grown = λ text s serves is sound.
      let left = drop (c.loop-part.part-index + 1) c.deref-part-items.result.now in
      let tried : Growing = record {
        slots = c.loop-part.grown.slots;
        instances = c.loop-part.grown.instances;
        trail = c.push.new.self;
      } in
      let after : Growing = record {
        slots = c.push_site.new.grown.slots;
        instances = c.push_site.new.grown.instances;
        trail = c.pop.new.self;
      } in
      let m = subst (Remains (c.args.depth - 1) text s c.args.root c.args.grown.now c.loop-part.grown)
      (drop_next c.deref-part-items.result.now c.loop-part.part-index c.part-item.result (omega arith)
      c.part-item.is)
      (c.loop-part.invariant.grown text s serves is sound) in
      let x = next (c.args.depth - 1) text s c.args.root c.args.grown.now c.loop-part.grown c.part-item.result left m in
      turned (c.args.depth - 1) text s c.args.root c.args.grown.now c.loop-part.grown tried c.push_site.new.grown after
      c.part-item.result left m c.loop-part.invariant.trail refl refl c.in_ok-push.ensures.items
      (c.in_ok-push_site.ensures.ok text x.site serves x.is x.sound) refl refl;
}

pub returns-clause-ok : goal.returns-clause-ok
returns-clause-ok d c text s serves is sound =
    let deep : suc (c.args.depth - 1) ≡ c.args.depth = omega (arith, c.if-depth-eq0.false) in
    subst (λ n. Grows n text s c.args.root c.args.grown.now c.loop-part.grown) deep
    (ended (c.args.depth - 1) text s c.args.root c.args.grown.now c.loop-part.grown
    (drop c.loop-part.part-index c.deref-part-items.result.now)
    (drop_of_length-le c.deref-part-items.result.now (omega arith))
    (c.loop-part.invariant.grown text s serves is sound))
