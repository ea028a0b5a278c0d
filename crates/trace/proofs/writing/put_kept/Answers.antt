use Rattle.std.proofs.Common.{◌<◌, ◌++◌, length, map, arith, refl, sym}
use Rattle.std.specs.Vec.{vec_items}
use Rattle.trace.specs.Texts.{kept_line, kept_text}
use Rattle.trace.proofs.PutLemmas.{puts_both, both_more}
use Rattle.trace.proofs.writing.put_kept.Goals as goal

pub loop-i-preserved : goal.loop-i-preserved
loop-i-preserved g c =
    let (text, wrote, so_far) = c.loop-i.invariant in
    let v = c.index-variables-i.result in
    let d = c.index-values-i.result in
    let types = map vec_items c.args.types.now in
    let small : c.loop-i.i < length c.args.variables.now = omega arith in
    let few : c.loop-i.i < length c.args.values.now = omega arith in (
      text ++ kept_line types v d,
      puts_both (g.W.Write.contents c.args.out.now) (g.W.Write.contents c.loop-i.out)
          (g.W.Write.contents c.put_kept_line-works.new.out) c.args.works c.loop-i.works
          c.put_kept_line-works.result text (kept_line types v d) wrote c.put_kept_line-works.ensures,
      both_more (kept_text types) (kept_line types) (λ x y xs ys. refl) c.args.variables.now c.args.values.now c.loop-i.i v d text
          (kept_text types c.args.variables.now c.args.values.now) small few (sym c.index-variables-i.is)
          (sym c.index-values-i.is) so_far,
    )
