-- Segments that are run again in a row.
use Rattle.std.proofs.Common.{◌≡◌, ◌∙◌, ◌+◌, arith, ℕ, List, [], ◌∷◌, ◌++◌, refl, ap, sym, inl, inr, true, Result, Ok, Err, IfOk}
use Rattle.std.proofs.Common.{append_assoc}
use Rattle.plan.specs.declared.plan.Plan.{Plan}
use Rattle.trace_segments.specs.Runs.{IsRunAfter, IsRunAlone}
use Rattle.trace_segments.specs.declared.replaying.Ended.{Ended}
use Rattle.plant_main.specs.declared.segments.Totals.{Totals}
use Rattle.plant_main.specs.SegmentRows.{IsRowTo, IsRunNext, added, first_totals}

-- the first segment
pub row_begun : (plan : Plan) (text : List ℕ) (totals : Totals) (ended : Ended) → IsRunAlone plan text ended
    → totals ≡ first_totals ended → IsRowTo plan text 0 totals ended
row_begun plan text totals ended alone counted =
    record { text = text; earlier = []; long = refl; in_row = (refl, alone); counted = counted }

-- one segment more
pub row_more : (plan : Plan) (first text : List ℕ) (others : ℕ) (old new : Totals) (before ended : Ended)
    → IsRowTo plan first others old before → IsRunNext plan before text ended → new ≡ added old ended
    → IsRowTo plan first (others + 1) new ended
row_more plan first text others old new before ended row next counted = record {
  text = text;
  earlier = (row.text, before) ∷ row.earlier;
  long = omega (arith, row.long);
  in_row = (next, row.in_row);
  counted = counted ∙ ap (λ (t : Totals). added t ended) row.counted;
}

-- a segment that was run again as the next one
pub next_of : (plan : Plan) (before : Ended) (text : List ℕ) {E : Type 0} (r : Result Ended E)
    → IfOk r (λ _. before.is_whole ≡ true) → IfOk r (λ ended. IsRunAfter before text ended)
    → IfOk r (λ ended. IsRunNext plan before text ended)
next_of plan before text (Ok ended) whole after = inr (whole, after)
next_of plan before text (Err e) whole after = tt
