use Rattle.std.proofs.Common.{◌≡◌, length, slice_get, Some, sym, ap, subst, rules}
use Rattle.core_engine.specs.Steps.{past_in, first_image, last_image}
use Rattle.core_engine.specs.Lived.{EngineView, InEachLife}
use Rattle.core_engine.proofs.ReadingLemmas.{input_held}
use Rattle.core_engine.proofs.engine.Engine.input.Goals as goal

pub returns : goal.returns
returns c =
    let there = ap (λ (e : EngineView). length e.plan.inputs.items) (sym c.self.view_is) in
    subst (λ (e : EngineView). InEachLife e (λ life. Some c.index-image-number.result
    ≡ slice_get (last_image (first_image life.plan.inputs.items) (past_in life).rows) c.args.number)) c.self.view_is
    (λ start log is. input_held _ start log is c.image.result.now c.args.number c.index-image-number.result
    c.image.ensures c.self.invariant.newest_wide (search rules) (search rules))
