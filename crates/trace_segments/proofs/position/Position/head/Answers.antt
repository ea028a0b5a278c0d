use Rattle.std.proofs.Common.{◌≡◌, ◌∙◌, sym, subst, map, None}
use Rattle.std.specs.List.{AllByRecursion}
use Rattle.trace_segments.specs.Positions.{PositionView}
use Rattle.trace_segments.proofs.HeadLemmas.{rested}
use Rattle.trace_segments.proofs.position.Position.head.Goals as goal

pub returns-in-Ok-clause-resting : goal.returns-in-Ok-clause-resting
returns-in-Ok-clause-resting c =
    let same = rw c.in-Ok-Some.field-0-is at c.in-Ok-Some.ensures in
    subst (λ (v : PositionView). AllByRecursion (λ p. p.waiting ≡ None) v.programs) c.self.view_is
    (subst (AllByRecursion (λ p. p.waiting ≡ None)) (sym (sym c.deref.ensures.value ∙ same))
    (rested c.in-Ok-Some.overruns.items))
